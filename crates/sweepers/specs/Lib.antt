pub mod Cases
pub mod Courses
pub mod Plates
pub mod Scanners
pub mod Sweepers
pub mod Sweeps
pub mod Tasks
