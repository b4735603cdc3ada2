pub mod Sums
pub mod Records
pub mod Order
pub mod Sorted
pub mod Groups
pub mod Claims
pub mod steps
pub mod Examples
