pub mod Fates
pub mod Credits
