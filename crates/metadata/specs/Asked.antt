-- A schema as it is asked for, and what is made of it.
use Rattle.std.specs.Prelude.{List, [], ◌∷◌, Result, Ok, Err}
use Rattle.metadata.specs.declared.definition.TypeRequest.{TypeRequest}
use Rattle.metadata.specs.declared.index.IndexRequest.{IndexRequest}
use Rattle.metadata.specs.declared.refusal.Refusal.{Refusal}
use Rattle.metadata.specs.Schema.{Schema}
use Rattle.metadata.specs.Change.{schema_of}
use Rattle.metadata.specs.IndexChange.{add_index}

-- types, and indexes over them
pub record SchemaRequest : Type 0 where
  pub types : List TypeRequest
  pub indexes : List IndexRequest

-- the schema with indexes asked for, each in turn, or the first refusal
abbrev pub add_indexes : Schema → List IndexRequest → Result Schema Refusal
add_indexes schema [] = Ok schema
add_indexes schema (request ∷ requests) =
    elim (add_index schema request) [ Err refusal ↦ Err refusal | Ok next ↦ add_indexes next requests ]

-- the schema that is asked for: its types are added to nothing, then its indexes, or the first refusal
abbrev pub schema_asked : SchemaRequest → Result Schema Refusal
schema_asked request =
    elim (schema_of request.types) [ Err refusal ↦ Err refusal | Ok schema ↦ add_indexes schema request.indexes ]
