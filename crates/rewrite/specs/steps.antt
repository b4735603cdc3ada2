-- What the code works out on the way. No definition that a reader must trust stands here.
pub mod Putting
pub mod Pieces
pub mod Pouring
