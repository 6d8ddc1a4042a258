pub mod Faults
pub mod Known
