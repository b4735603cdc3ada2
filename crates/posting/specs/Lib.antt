pub mod Metadata
pub mod Costs
pub mod Postings
pub mod Opened
pub mod steps
