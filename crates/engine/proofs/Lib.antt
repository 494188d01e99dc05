pub mod StepLaws
pub mod AnswerLaws
mod RouteLaws
