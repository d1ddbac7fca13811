pub mod Escaped
pub mod Trees
pub mod Attributes
pub mod Grammar
pub mod Reading
pub mod Elements
