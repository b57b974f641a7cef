pub mod TupleLines
pub mod PlanLines
pub mod Run
pub mod Racing
pub mod Status
