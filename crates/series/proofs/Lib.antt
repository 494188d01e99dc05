pub mod PartLaws
pub mod SymbolLaws
