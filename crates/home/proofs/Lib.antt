pub mod Above
pub mod Back
pub mod Holders
pub mod Keeps
