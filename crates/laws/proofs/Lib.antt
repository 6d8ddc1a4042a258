pub mod Binomials
pub mod Distances
pub mod Permutations
