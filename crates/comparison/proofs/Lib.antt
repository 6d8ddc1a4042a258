pub mod Compared
pub mod Unrefused
