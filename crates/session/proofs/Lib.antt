pub mod LineLaws
pub mod RunLaws
pub mod TapeLaws
