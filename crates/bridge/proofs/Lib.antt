pub mod Asking
pub mod Clocks
pub mod Outs
pub mod Writing
