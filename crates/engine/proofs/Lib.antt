pub mod Invariant
pub mod Meanings
pub mod Measure
pub mod Keeping
pub mod Answering
