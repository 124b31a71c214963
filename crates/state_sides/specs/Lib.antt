pub mod Paths
pub mod Views
pub mod Offers
