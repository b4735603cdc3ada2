-- What the code works out on the way. No definition that a reader must trust stands here.
pub mod Stretch
pub mod Classes
pub mod Accounts
pub mod Windows
pub mod Told
