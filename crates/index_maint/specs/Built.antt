-- The positions of records among those of their type, the records at built ones, and what a map has of a write-only
-- VALUE index.
use Rattle.std.specs.Prelude.{◌≡◌, ℕ, List, [], ◌∷◌, ◌++◌, Some, filter}
use Rattle.std.specs.FinMap.{get}
use Rattle.tuple_codec.specs.Item.{Item}
use Rattle.tuple_codec.specs.Spelling.{spelling}
use Rattle.kv_core.specs.Map.{Map}
use Rattle.kv_core.specs.Range.{KeyRange}
use Rattle.range_set.specs.Gaps.{has_position}
use Rattle.metadata.specs.declared.index.IndexDefinition.{IndexDefinition}
use Rattle.metadata.specs.Record.{Record, primary_key}
use Rattle.index_maint.specs.Changes.{entries_map}
use Rattle.index_maint.specs.Layout.{entries_prefix}

-- the position of a primary key: the pack of what follows the type's number
abbrev pub position_of : List Item → List ℕ
position_of [] = []
position_of (number ∷ cells) = spelling cells

-- the position of a record
abbrev pub position : Record → List ℕ
position r = position_of (primary_key r)

-- the records at built positions
abbrev pub built_records : List KeyRange → List Record → List Record
built_records built records = filter (λ r. has_position built (position r)) records

-- under the index's prefix a map has only entries of the records, and all those of the records at built positions
pub record HasSomeEntries (prefix : List ℕ) (index : IndexDefinition) (built : List KeyRange) (records : List Record)
    (m : Map) : Type 0 where
  pub only :
      (rest value : List ℕ) → get m (entries_prefix prefix index.number ++ rest) ≡ Some value →
      get (entries_map prefix index records) (entries_prefix prefix index.number ++ rest) ≡ Some value
  pub at_built :
      (rest value : List ℕ) →
      get (entries_map prefix index (built_records built records)) (entries_prefix prefix index.number ++ rest)
      ≡ Some value →
      get m (entries_prefix prefix index.number ++ rest) ≡ Some value
