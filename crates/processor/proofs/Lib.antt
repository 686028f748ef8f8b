pub mod Copies
pub mod Fetching
pub mod Stamping
