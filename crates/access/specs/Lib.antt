pub mod Spans
pub mod Contents
pub mod Single
pub mod Tables
pub mod steps
pub mod Examples
