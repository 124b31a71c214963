pub mod Widths
pub mod Seen
pub mod Edges
pub mod Rooms
