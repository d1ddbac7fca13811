pub mod Answers
pub mod Made
mod OneAnswer
mod CheckAnswers
