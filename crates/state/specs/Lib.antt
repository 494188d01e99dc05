pub mod Layout
pub mod View
pub mod Stores
pub mod Lent
