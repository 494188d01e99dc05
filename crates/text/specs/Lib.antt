pub mod Ascii
pub mod Text
pub mod Buffer
pub mod OwnCase
pub mod Averages
pub mod Prices
pub mod Answers
pub mod Outputs
