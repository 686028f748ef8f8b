pub mod Addresses
pub mod Faults
pub mod Sources
