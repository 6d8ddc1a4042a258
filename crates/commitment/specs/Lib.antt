pub mod Slots
pub mod Behind
