pub mod Arguments
pub mod Lengths
