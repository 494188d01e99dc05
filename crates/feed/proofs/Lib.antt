pub mod OpeningLaws
pub mod ReplyLaws
pub mod RunLaws
