pub mod LineLaws
pub mod Sound
pub mod Growth
