pub mod Ready
pub mod Tallies
pub mod Pages
