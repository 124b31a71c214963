mod Turning
mod Stepping
mod Walked
mod Placed
