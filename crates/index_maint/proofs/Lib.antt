pub mod Examples
mod BuiltExamples
mod TotalExamples
pub mod RecordLists
pub mod Replaced
pub mod EntryKeys
pub mod KeyBounds
pub mod Places
pub mod Lookups
pub mod ValueLaw
pub mod OnlyChanges
pub mod TotalParts
pub mod TotalLaw
pub mod TotalChanges
pub mod Several
pub mod RecordIndexes
pub mod WriteOnly
pub mod SomeEntries
pub mod BuildLaw
pub mod WholeLaw
pub mod FirstParts
pub mod KeptLaw
mod SomeChanges
pub mod AlikeRecords
