-- What the proofs of several functions use; then what the definitions mean.
mod Ranges
mod Prefixes
mod Lengths
mod Least
pub mod Dating
pub mod Counting
pub mod Planning
mod Passing
pub mod Answering
mod Located
pub mod Corresponding
pub mod Ordered
pub mod Crowded
pub mod Samples
pub mod SamplePages
mod Bounded
mod Paging
mod Paged
