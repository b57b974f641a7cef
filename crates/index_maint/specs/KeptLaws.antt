-- What is asked of an index in each state: that it follows its records, and that it can be built.
use Rattle.std.specs.Prelude.{◌≡◌, ℕ, Bool, true, IsTrue, List, [], ◌∷◌, ◌++◌, Option, None}
use Rattle.std.specs.FinMap.{get}
use Rattle.std.specs.List.{AllByRecursion}
use Rattle.tuple_codec.specs.Item.{Item}
use Rattle.tuple_codec.specs.Subspace.{BeginsWith}
use Rattle.kv_core.specs.Change.{write_ranges}
use Rattle.kv_core.specs.Map.{Map, after_all}
use Rattle.kv_core.specs.Range.{KeyRange, covers}
use Rattle.range_set.specs.Gaps.{SamePositions, has_position, is_whole}
use Rattle.range_set.specs.Stored.{IsInGap}
use Rattle.metadata.specs.declared.index.IndexDefinition.{IndexDefinition}
use Rattle.metadata.specs.declared.index.State.{State}
use Rattle.metadata.specs.declared.index.State.TheVariants.{Readable, WriteOnly}
use Rattle.metadata.specs.Cell.{cell_at}
use Rattle.metadata.specs.Record.{Record, primary_key}
use Rattle.metadata.specs.Records.{IsStorable}
use Rattle.index_maint.specs.Built.{position_of}
use Rattle.index_maint.specs.Kept.{HasKept, build_writes, kept_writes, records_within}
use Rattle.index_maint.specs.Laws.{IsIndexed, IsOther, IsReplacement, replaced}
use Rattle.index_maint.specs.Layout.{entries_prefix}

-- what was had of the records is had, after the writes, of the records with the new one
abbrev pub KeptFollows : Type 0
KeptFollows =
    (state : State) (prefix : List ℕ) (index : IndexDefinition) (built : List KeyRange) (key : List Item)
    (old new : Option Record) (records : List Record) (m : Map) →
    IsReplacement key old new records → IsIndexed index old → IsIndexed index new →
    HasKept state prefix index built records m →
    HasKept state prefix index built (replaced key new records)
    (after_all (kept_writes state prefix index (has_position built (position_of key)) old new) m)

-- only what changes is written: a key that the writes cover has another value after them, or none before and after
abbrev pub KeptOnlyChanges : Type 0
KeptOnlyChanges =
    (state : State) (prefix : List ℕ) (index : IndexDefinition) (built : List KeyRange) (key : List Item)
    (old new : Option Record) (records : List Record) (m : Map) (at : List ℕ) →
    IsReplacement key old new records → IsIndexed index old → IsIndexed index new →
    HasKept state prefix index built records m →
    let writes = kept_writes state prefix index (has_position built (position_of key)) old new in
    IsTrue (covers (write_ranges writes) at) → get (after_all writes m) at ≡ get m at → get m at ≡ None

-- a record of another type changes nothing of what is to be had
abbrev pub KeptIgnoresOthers : Type 0
KeptIgnoresOthers =
    (state : State) (prefix : List ℕ) (index : IndexDefinition) (built : List KeyRange) (key : List Item)
    (old new : Option Record) (records : List Record) (m : Map) →
    IsReplacement key old new records → IsOther index old → IsOther index new →
    HasKept state prefix index built records m → HasKept state prefix index built (replaced key new records) m

-- each key that doesn't begin with the index's prefix keeps what it had
abbrev pub KeptWritesWithin : Type 0
KeptWritesWithin =
    (state : State) (prefix : List ℕ) (index : IndexDefinition) (at_built : Bool) (old new : Option Record) (m : Map)
    (key : List ℕ) →
    (BeginsWith (entries_prefix prefix index.number) key → ⊥) →
    get (after_all (kept_writes state prefix index at_built old new) m) key ≡ get m key

-- nothing but the keys that begin with the index's prefix matters
abbrev pub KeptWithin : Type 0
KeptWithin =
    (state : State) (prefix : List ℕ) (index : IndexDefinition) (built : List KeyRange) (records : List Record)
    (m n : Map) →
    ((bytes : List ℕ) → get m (entries_prefix prefix index.number ++ bytes)
    ≡ get n (entries_prefix prefix index.number ++ bytes)) →
    HasKept state prefix index built records m → HasKept state prefix index built records n

-- of the built ranges their positions alone matter
abbrev pub KeptOfPositions : Type 0
KeptOfPositions =
    (state : State) (prefix : List ℕ) (index : IndexDefinition) (built other : List KeyRange) (records : List Record)
    (m : Map) →
    SamePositions built other → HasKept state prefix index built records m → HasKept state prefix index other records m

-- two records that no index tells apart, as a record and the same one with nulls in fields that were appended: of types
-- with one number, with the same cell at each place, null past the end, and with the same primary key
pub record AreAlike (r s : Record) : Type 0 where
  pub number : r.definition.number ≡ s.definition.number
  pub cells : (place : ℕ) → cell_at r.cells place ≡ cell_at s.cells place
  pub key : primary_key r ≡ primary_key s

-- the records of two lists are so, one by one
abbrev pub AreAllAlike : List Record → List Record → Type 0
AreAllAlike [] [] = Unit {0}
AreAllAlike (r ∷ records) (s ∷ others) = AreAlike r s × AreAllAlike records others
AreAllAlike records others = ⊥

-- what is had of records is had of others that no index tells apart from them
abbrev pub KeptOfAlike : Type 0
KeptOfAlike =
    (state : State) (prefix : List ℕ) (index : IndexDefinition) (built : List KeyRange) (records others : List Record)
    (m : Map) →
    AreAllAlike records others → HasKept state prefix index built records m → HasKept state prefix index built others m

-- where nothing stands under its prefix, an index is there as a write-only one of which nothing is built
abbrev pub BuildStarts : Type 0
BuildStarts =
    (prefix : List ℕ) (index : IndexDefinition) (records : List Record) (m : Map) →
    ((bytes : List ℕ) → get m (entries_prefix prefix index.number ++ bytes) ≡ None) →
    HasKept WriteOnly prefix index [] records m

-- once what the records of a range in a gap define is written, that range is built too
abbrev pub BuildSteps : Type 0
BuildSteps =
    (prefix : List ℕ) (index : IndexDefinition) (range : KeyRange) (built : List KeyRange) (records : List Record)
    (m : Map) →
    IsInGap range built → AllByRecursion IsStorable records → HasKept WriteOnly prefix index built records m →
    HasKept WriteOnly prefix index (range ∷ built) records
    (after_all (build_writes prefix index (records_within range index records)) m)

-- each key that doesn't begin with the index's prefix keeps what it had then too
abbrev pub BuildWithin : Type 0
BuildWithin =
    (prefix : List ℕ) (index : IndexDefinition) (records : List Record) (m : Map) (key : List ℕ) →
    (BeginsWith (entries_prefix prefix index.number) key → ⊥) →
    get (after_all (build_writes prefix index records) m) key ≡ get m key

-- where every position is built, a write-only index has what a readable one has
abbrev pub BuildEnds : Type 0
BuildEnds =
    (prefix : List ℕ) (index : IndexDefinition) (built : List KeyRange) (records : List Record) (m : Map) →
    is_whole built ≡ true → AllByRecursion IsStorable records →
    HasKept WriteOnly prefix index built records m → HasKept Readable prefix index built records m
