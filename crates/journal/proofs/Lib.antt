mod Headers
mod Firsts
mod Bounds
mod Counting
mod Heads
mod Unpacking
mod Readings
mod ReadingExamples
mod Splits
mod Mixtures
mod Changes
pub mod Moments
mod Contents
pub mod Parts
mod Settled
mod Growing
mod Adding
mod Appends
mod Clearing
mod Repairs
mod Replays
mod Recoveries
