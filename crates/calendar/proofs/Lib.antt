-- What the proofs of several functions use; then what the definitions mean.
mod Formed
pub mod Reading
