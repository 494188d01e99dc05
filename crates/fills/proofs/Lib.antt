pub mod StoredLaws
pub mod ListLaws
pub mod AppliedLaws
