pub mod File
pub mod PlanText
pub mod Planning
pub mod Shown
pub mod Told
pub mod Tree
pub mod View
