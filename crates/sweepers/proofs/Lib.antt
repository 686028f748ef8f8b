pub mod Sweepers
pub mod Turns
