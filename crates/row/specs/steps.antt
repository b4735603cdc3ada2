-- What the code works out on the way. No definition that a reader must trust stands here.
pub mod Pouring
pub mod Writing
pub mod Sweep
pub mod Holding
