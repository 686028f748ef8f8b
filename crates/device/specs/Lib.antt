pub mod Events
pub mod Meaning
pub mod Registers
pub mod Showing
pub mod Windows
pub mod Wishes
