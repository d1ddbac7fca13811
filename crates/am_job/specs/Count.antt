pub mod Printed
pub mod Left
pub mod Stops
pub mod Counting
