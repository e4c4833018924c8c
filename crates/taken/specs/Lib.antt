-- What taking the words of a typed line answers and leaves.
pub mod Lines
