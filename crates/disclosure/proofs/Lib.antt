pub mod Openings
pub mod FullOpenings
pub mod LinkedHalves
pub mod Whole
pub mod Unrefused
