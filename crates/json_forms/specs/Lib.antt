pub mod Json
pub mod CellJson
pub mod TupleJson
pub mod Config
pub mod SchemaJson
pub mod QueryJson
pub mod RowText
pub mod InTurn
