pub mod Transaction
pub mod Opened
pub mod steps
