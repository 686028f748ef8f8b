pub mod Findings
pub mod Recorded
