pub mod Questions
pub mod Kept
