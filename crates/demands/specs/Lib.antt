-- What each entry point may answer and leave, by its promise; the description that words write; runs of closings; the three demands, sentence by
-- sentence; and so what is asked of reading and writing a typed sheet, of kind codes, of places, and of opening.
pub mod Entries
pub mod Published
pub mod Runs
pub mod Sentences
pub mod Texts
pub mod Arities
pub mod Places
pub mod Openings
