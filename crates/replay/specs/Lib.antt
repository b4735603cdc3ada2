pub mod Cases
pub mod Replies
pub mod Verdicts
pub mod Counts
