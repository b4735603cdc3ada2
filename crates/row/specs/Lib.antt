pub mod Field
pub mod Row
pub mod Work
pub mod Details
pub mod Opened
pub mod steps
