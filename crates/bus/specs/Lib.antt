pub mod Orders
pub mod Refusals
pub mod Fields
pub mod Writing
pub mod Reading
pub mod Back
pub mod Examples
pub mod steps
