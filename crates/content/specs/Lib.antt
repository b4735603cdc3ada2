pub mod Contents
pub mod Opened
pub mod steps
