pub mod StageLaws
pub mod StoreLaws
pub mod ScanLaws
pub mod FindLaws
mod PlaceLaws
mod PassLaws
mod BookLaws
mod GapLaws
mod ReduceLaws
mod QueueLaws
mod SettleLaws
mod CloseLaws
