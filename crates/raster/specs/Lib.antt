pub mod Answers
pub mod Boards
pub mod Calls
pub mod Commits
pub mod Lists
pub mod Picking
pub mod Runs
