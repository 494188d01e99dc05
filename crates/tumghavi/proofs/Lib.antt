pub mod OutputLaws
pub mod ToldLaws
