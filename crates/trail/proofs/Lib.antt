pub mod Covering
pub mod Sources
