pub mod Digests
pub mod Hashed
