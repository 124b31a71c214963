pub mod Rooms
pub mod Alike
pub mod Asked
pub mod Met
