pub mod Edits
pub mod Afresh
pub mod Examples
pub mod steps
