pub mod Joined
pub mod Behind
