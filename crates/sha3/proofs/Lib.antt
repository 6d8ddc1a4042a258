pub mod Laws
pub mod Taking
pub mod Squeeze
pub mod Agree
pub mod Digest
pub mod Keyed
pub mod Lanes
