pub mod Opens
pub mod Stored
pub mod Asked
