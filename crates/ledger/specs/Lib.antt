pub mod Plain
pub mod Strict
pub mod Strictness
pub mod Answers
pub mod steps
pub mod Opened
pub mod Examples
