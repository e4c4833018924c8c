-- Why the writer's parentheses are just those that are needed.
pub mod Typing
pub mod Needed
pub mod Another
