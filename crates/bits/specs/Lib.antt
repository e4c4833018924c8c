-- The contracts cite what becomes of a set of numbers as the bits of a word.
pub mod Sets
