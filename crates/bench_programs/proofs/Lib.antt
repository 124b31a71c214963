pub mod Whole
pub mod ChoosingWhole
pub mod SteppingWhole
