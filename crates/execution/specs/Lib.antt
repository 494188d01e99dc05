pub mod Walk
pub mod Turned
pub mod Plays
pub mod Slots
pub mod Kept
pub mod Reach
