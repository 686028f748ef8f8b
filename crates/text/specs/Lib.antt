pub mod Numbers
pub mod Parts
pub mod Reading
