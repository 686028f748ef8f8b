pub mod Clocks
pub mod Operations
pub mod Orders
pub mod Stamps
pub mod Words
