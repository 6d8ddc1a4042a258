pub mod Numbers
pub mod Permuted
pub mod Posted
pub mod Places
