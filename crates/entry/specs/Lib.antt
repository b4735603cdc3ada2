pub mod Directive
pub mod Forms
pub mod Entry
pub mod Strings
pub mod Opened
pub mod steps
