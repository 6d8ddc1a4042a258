pub mod Xor
pub mod Complement
pub mod Numbers
