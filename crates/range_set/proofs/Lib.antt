mod Examples
pub mod Gaps
pub mod PlacePairs
pub mod RangeRows
pub mod LastRange
pub mod Inserts
pub mod Walks
pub mod Neighbours
pub mod WholeRead
pub mod OneSet
pub mod RangesTold
pub mod Joined
pub mod Decided
pub mod KeyBounds
pub mod Pairs
pub mod Answered
pub mod Telling
