pub mod Staged
pub mod Stages
pub mod Faults
pub mod Laws
