pub mod LegLaws
pub mod QuoteLaws
