pub mod Spelling
pub mod Replays
pub mod Derived
pub mod DerivedLaws
pub mod Texts
pub mod Faults
