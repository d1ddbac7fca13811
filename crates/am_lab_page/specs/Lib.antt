pub mod Json
pub mod Page
