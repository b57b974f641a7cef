pub mod CellItems
pub mod StoredCells
pub mod Unpacks
pub mod StoredOnce
pub mod StoredApart
pub mod ToldForm
pub mod PackOrder
pub mod PackRanges
pub mod PackBegins
mod AllRead
mod CellKinds
mod CellSteps
mod Examples
mod Lists
mod Strips
mod MadeSchemas
mod KnownPlaces
mod Alike
mod FieldAsked
mod Appending
pub mod Grown
pub mod WrittenBack
pub mod FieldAdded
pub mod OneSchema
mod ReadBack
mod WrittenDepth
mod WrittenItems
pub mod IndexItems
pub mod Dropping
pub mod StayLawful
pub mod IndexAdded
pub mod IndexExamples
pub mod TestedIndexes
pub mod AskedKinds
pub mod SameTypes
pub mod StillLawful
mod Nulls
