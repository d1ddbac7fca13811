pub mod Image
pub mod Range
pub mod Valid
pub mod Laws
pub mod Examples
pub mod Reading
