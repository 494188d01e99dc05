pub mod Sums
pub mod Tables
pub mod Ranges
pub mod Found
pub mod Quoted
pub mod Books
pub mod Going
