pub mod LoopLaws
pub mod LeftoverLaws
