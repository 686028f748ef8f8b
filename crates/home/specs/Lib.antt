pub mod Cases
pub mod Directories
pub mod Homes
pub mod Laws
pub mod Plans
pub mod Reactions
pub mod Requests
pub mod Sets
