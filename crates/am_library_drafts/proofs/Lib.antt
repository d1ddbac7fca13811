pub mod Faulty
pub mod Drafted
pub mod OnNodes
pub mod Welcome
