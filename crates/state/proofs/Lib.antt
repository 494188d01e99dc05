pub mod TableLaws
pub mod StoreLaws
pub mod EntryLaws
pub mod StateLaws
