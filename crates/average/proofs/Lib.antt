pub mod SumLaws
pub mod PartLaws
pub mod ToldLaws
pub mod FirstLaws
