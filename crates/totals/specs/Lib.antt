pub mod Totals
pub mod Claims
pub mod steps
pub mod Examples
