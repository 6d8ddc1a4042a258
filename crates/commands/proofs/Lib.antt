pub mod Operands
pub mod Openings
