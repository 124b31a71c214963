pub mod Steps
pub mod Leads
