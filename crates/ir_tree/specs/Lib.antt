pub mod Texts
pub mod Layout
pub mod Extents
pub mod Spelling
pub mod Printing
pub mod Pages
pub mod Places
