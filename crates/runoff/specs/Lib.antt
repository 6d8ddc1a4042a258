pub mod Ranking
pub mod Rounds
pub mod Page
pub mod Told
