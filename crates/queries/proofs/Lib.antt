pub mod Adding
pub mod Choice
pub mod Latest
