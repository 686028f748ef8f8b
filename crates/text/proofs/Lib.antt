pub mod Marks
pub mod Spelling
pub mod Splitting
