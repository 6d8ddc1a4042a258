pub mod Stages
pub mod Known
pub mod Ending
pub mod Verdicts
pub mod Ballots
