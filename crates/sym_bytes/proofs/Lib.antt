pub mod Lists
pub mod Ints
