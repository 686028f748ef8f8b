pub mod Working
pub mod Writing
