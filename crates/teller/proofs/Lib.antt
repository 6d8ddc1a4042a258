-- What the proofs of several functions use.
mod Paged
mod Reading
