pub mod Met
pub mod Walks
pub mod Tells
pub mod WalkLaws
pub mod Sums
pub mod SumLaws
