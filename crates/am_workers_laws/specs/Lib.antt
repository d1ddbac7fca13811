pub mod Ended
pub mod Laws
pub mod Phases
pub mod Books
pub mod Invariants
