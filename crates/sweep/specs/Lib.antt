pub mod Acts
pub mod Copiers
pub mod Orders
