pub mod Banks
pub mod Shifts
