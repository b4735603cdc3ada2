pub mod Recovering
pub mod Demand3
pub mod NoneLost
pub mod Examples
pub mod steps
