pub mod Commands
pub mod Unrefused
