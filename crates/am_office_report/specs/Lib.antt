pub mod Report
pub mod Tables
