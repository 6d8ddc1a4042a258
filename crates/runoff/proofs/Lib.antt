-- What the proofs of several functions use; then what the definitions mean.
mod Outcomes
mod Rankings
mod Filled
mod Table
mod Tallying
pub mod Deciding
mod Onward
pub mod Running
mod Lines
mod RoundLines
pub mod Reading
pub mod Leaving
pub mod Ending
pub mod Adding
pub mod Multiset
pub mod Samples
pub mod SamplePages
