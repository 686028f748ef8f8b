pub mod Counts
pub mod Numbering
pub mod Oldest
pub mod Soundness
pub mod Tables
