pub mod CallSteps
pub mod Calling
pub mod CallsGrowing
pub mod Counting
pub mod Fewest
pub mod Leaving
pub mod Lowest
