pub mod Reaching
pub mod Receipting
pub mod Announcing
pub mod Distinct
pub mod Tallied
pub mod Lines
pub mod Paging
mod Looking
