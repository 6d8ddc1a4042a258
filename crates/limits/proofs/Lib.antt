pub mod Limits
pub mod Lengths
pub mod Every
