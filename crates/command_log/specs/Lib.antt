pub mod Form
pub mod Answers
pub mod Reading
pub mod Depth
pub mod Laws
