pub mod GapCounts
pub mod Advances
pub mod Parts
pub mod StepCalls
