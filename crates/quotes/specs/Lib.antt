pub mod Uses
pub mod Requoted
pub mod Ranges
