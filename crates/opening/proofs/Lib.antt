pub mod LegLaws
pub mod StartLaws
pub mod OpensLaws
pub mod AskLaws
pub mod RowLaws
