pub mod KindLaws
pub mod PartLaws
pub mod LegLaws
pub mod StrategyLaws
