pub mod Cnf
pub mod Literals
pub mod UnitRule
pub mod Forced
pub mod Rounds
pub mod Models
pub mod Rup
pub mod Passes
