pub mod Classes
pub mod Laws
pub mod More
pub mod Repeats
pub mod Wholes
pub mod Loops
pub mod Combinators
pub mod Once
