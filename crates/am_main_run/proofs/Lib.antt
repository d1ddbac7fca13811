pub mod OneAnswer
pub mod RunMeaning
mod SegmentMeaning
mod SegmentsOneAnswer
mod CountAnswers
mod Ascending
mod CountsOneAnswer
