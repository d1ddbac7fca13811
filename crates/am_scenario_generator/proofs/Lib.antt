pub mod Below
pub mod Drawn
pub mod Lawfully
