pub mod Sha3
pub mod Word
pub mod Fips
