pub mod Digits
pub mod Draws
