pub mod Dates
pub mod Working
pub mod Windows
pub mod Told
pub mod Page
