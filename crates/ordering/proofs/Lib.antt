pub mod Cells
pub mod Rule
pub mod Total
