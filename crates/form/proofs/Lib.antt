pub mod WriteLaws
pub mod RecordLaws
pub mod FormLaws
