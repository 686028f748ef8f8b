pub mod Search
pub mod Sums
