pub mod Refusing
pub mod Writing
pub mod Ending
pub mod Numbered
