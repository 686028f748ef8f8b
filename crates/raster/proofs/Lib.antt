pub mod Going
pub mod Lifting
pub mod Planning
pub mod Posting
pub mod Turns
