pub mod Ballot
pub mod Unrefused
