pub mod Changes
pub mod Calls
pub mod Sites
pub mod Callers
pub mod CallerLaws
pub mod Mods
