pub mod Buckets
pub mod Contents
pub mod Posted
