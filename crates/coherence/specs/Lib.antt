pub mod Faults
pub mod Histories
pub mod Makings
pub mod Promise
pub mod Steps
pub mod Worlds
