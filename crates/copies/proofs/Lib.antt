pub mod Faults
pub mod Keys
pub mod Places
pub mod Values
