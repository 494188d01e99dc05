pub mod RowLaws
