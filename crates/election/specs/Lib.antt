pub mod Holding
pub mod Ready
