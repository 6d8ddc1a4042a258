pub mod Following
pub mod Agreement
