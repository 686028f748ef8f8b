pub mod Faults
pub mod Forms
pub mod Lines
pub mod Outcomes
pub mod Plays
pub mod Scripts
pub mod Written
