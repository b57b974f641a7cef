-- The written form of pairs, and the first pair of those read that isn't of it.
use Rattle.std.specs.Prelude.{◌≡◌, ◌⊎◌, ℕ, List, [], ◌∷◌, ◌++◌, Some, length}
use Rattle.std.specs.List.{AllByRecursion, Contains}
use Rattle.std.specs.FinMap.{get}
use Rattle.kv_core.specs.Map.{Map, pairs_in}
use Rattle.kv_core.specs.Range.{KeyRange}
use Rattle.metadata.specs.declared.cells.Cell.{Cell}
use Rattle.metadata.specs.declared.index.IndexDefinition.{IndexDefinition}
use Rattle.metadata.specs.declared.index.State.{State}
use Rattle.metadata.specs.Lawful.{IsLawfulSchema}
use Rattle.metadata.specs.Record.{Record, primary_key}
use Rattle.metadata.specs.Records.{IsStorable}
use Rattle.metadata.specs.Schema.{Schema}
use Rattle.metadata.specs.Stored.{filled}
use Rattle.metadata.specs.Written.{schema_bytes}
use Rattle.index_maint.specs.Totals.{IsGroup, group_key}
use Rattle.range_set.specs.Stored.{IsStoredRange, range_pair}
use Rattle.record_store.specs.Layout.{built_place, record_key, record_value, schema_key, schema_pair, state_pair}
use Rattle.record_store.specs.Holds.{IsListed, IsOfSchema}

-- a pair stands for a record of the schema: it has the record's key, and the pack of its first cells, all of those that
-- its type was added with; the others are null
pub record IsRecordPair (prefix : List ℕ) (schema : Schema) (pair : List ℕ × List ℕ) : Type 0 where
  pub stored : Record
  pub typed : IsOfSchema schema stored
  pub storable : IsStorable stored
  pub key : pair.0 ≡ record_key prefix (primary_key stored)
  pub first : List Cell
  pub fills : filled stored.definition first ≡ Some stored.cells
  pub value : pair.1 ≡ record_value first

-- a pair stands for the total of a group of one of these indexes: it has 8 bytes
pub record IsTotalPair (prefix : List ℕ) (indexes : List IndexDefinition) (pair : List ℕ × List ℕ) : Type 0 where
  pub index : IndexDefinition
  pub there : Contains indexes index
  pub group : List Cell
  pub fits : IsGroup index group
  pub key : pair.0 ≡ group_key prefix index.number group
  pub bytes : length pair.1 ≡ 8

-- a pair stands for a built range of one of these indexes
pub record IsRangePair (prefix : List ℕ) (indexes : List IndexDefinition) (pair : List ℕ × List ℕ) : Type 0 where
  pub index : IndexDefinition
  pub there : Contains indexes index
  pub range : KeyRange
  pub stored : IsStoredRange range
  pub is : pair ≡ range_pair (built_place prefix index.number) range

-- a pair that a call reads is of the written form of its place: it stands for a record, a total or a built range
abbrev pub IsWritten : List ℕ → Schema → List ℕ × List ℕ → Type 0
IsWritten prefix schema pair =
    IsRecordPair prefix schema pair ⊎ (IsTotalPair prefix schema.indexes pair ⊎ IsRangePair prefix schema.indexes pair)

-- a pair stands for a schema
pub record IsSchemaPair (prefix : List ℕ) (pair : List ℕ × List ℕ) : Type 0 where
  pub schema : Schema
  pub made : IsLawfulSchema schema
  pub is : pair ≡ schema_pair prefix schema

-- a pair stands for the state of one of these indexes, which isn't readable
pub record IsStatePair (prefix : List ℕ) (indexes : List IndexDefinition) (pair : List ℕ × List ℕ) : Type 0 where
  pub listed : ℕ × State
  pub is_listed : IsListed indexes listed
  pub is : pair ≡ state_pair prefix listed

-- a pair stands for the state of an index of the schema that the map has
pub record IsStatePairIn (prefix : List ℕ) (m : Map) (pair : List ℕ × List ℕ) : Type 0 where
  pub schema : Schema
  pub made : IsLawfulSchema schema
  pub written : get m (schema_key prefix) ≡ Some (schema_bytes schema)
  pub is : IsStatePair prefix schema.indexes pair

-- a pair is one that an opening reads of a store: its schema's, or that of a state
abbrev pub IsOpeningPair : List ℕ → Map → List ℕ × List ℕ → Type 0
IsOpeningPair prefix m pair = IsSchemaPair prefix pair ⊎ IsStatePairIn prefix m pair

-- the pairs of a map in some ranges, in reading order
abbrev pub read_in : Map → List KeyRange → List (List ℕ × List ℕ)
read_in m [] = []
read_in m (range ∷ ranges) = pairs_in m range ++ read_in m ranges

-- all pairs are of a form but one, which is the first such, and has this key
pub record IsFirstBad (Form : List ℕ × List ℕ → Type 0) (pairs : List (List ℕ × List ℕ)) (key : List ℕ) : Type 0 where
  pub before : List (List ℕ × List ℕ)
  pub bad : List ℕ × List ℕ
  pub behind : List (List ℕ × List ℕ)
  pub split : pairs ≡ before ++ bad ∷ behind
  pub good : AllByRecursion Form before
  pub malformed : Form bad → ⊥
  pub at : key ≡ bad.0
