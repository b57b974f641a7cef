-- What is asked of what a maintainer keeps and writes.
use Rattle.std.specs.Prelude.{◌≡◌, ℕ, true, false, IsTrue, List, ◌++◌, Option, Some, None}
use Rattle.std.specs.List.{AllByRecursion}
use Rattle.std.specs.FinMap.{get}
use Rattle.tuple_codec.specs.Item.{Item, IsTuple}
use Rattle.tuple_codec.specs.Subspace.{BeginsWith}
use Rattle.kv_core.specs.Change.{write_ranges}
use Rattle.kv_core.specs.Map.{Map, after_all}
use Rattle.kv_core.specs.Range.{covers}
use Rattle.kv_core.specs.declared.change.Mutation.{Mutation}
use Rattle.metadata.specs.declared.index.IndexDefinition.{IndexDefinition}
use Rattle.metadata.specs.Record.{Record, primary_key}
use Rattle.metadata.specs.Records.{IsStorable, AreOrdered, record_at, with_record, without_record}
use Rattle.index_maint.specs.Entries.{is_indexed}
use Rattle.index_maint.specs.Layout.{entries_prefix}

-- the records after the one with this primary key gives way to a new one with it, or to none
abbrev pub replaced : List Item → Option Record → List Record → List Record
replaced key None records = without_record key records
replaced key (Some new) records = with_record new records

-- the new record, if there is one, can be stored and has this primary key
abbrev pub IsNewAt : List Item → Option Record → Type 0
IsNewAt key None = Unit {0}
IsNewAt key (Some new) = IsStorable new × (primary_key new ≡ key)

-- among records in order, the one with this primary key, or none, gives way to a new one with it, or to none
pub record IsReplacement (key : List Item) (old new : Option Record) (records : List Record) : Type 0 where
  pub ordered : AreOrdered records
  pub storable : AllByRecursion IsStorable records
  pub tuple : IsTuple key
  pub found : old ≡ record_at key records
  pub newer : IsNewAt key new

-- the record, if there is one, is of the index's type, or of another
abbrev pub IsIndexed : IndexDefinition → Option Record → Type 0
IsIndexed index None = Unit {0}
IsIndexed index (Some one) = is_indexed index one ≡ true

abbrev pub IsOther : IndexDefinition → Option Record → Type 0
IsOther index None = Unit {0}
IsOther index (Some one) = is_indexed index one ≡ false

-- what a map has of an index over these records, under a store's prefix
abbrev pub Keeping : Type 1
Keeping = List ℕ → IndexDefinition → List Record → Map → Type 0

-- what is written for an index where one record of its type gives way to another, under a store's prefix
abbrev pub Writing : Type 0
Writing = List ℕ → IndexDefinition → Option Record → Option Record → List Mutation

-- what was had of the records is had, after the writes, of the records with the new one
abbrev pub Follows : Keeping → Writing → Type 0
Follows Has writes =
    (prefix : List ℕ) (index : IndexDefinition) (key : List Item) (old new : Option Record) (records : List Record)
    (m : Map) →
    IsReplacement key old new records → IsIndexed index old → IsIndexed index new →
    Has prefix index records m → Has prefix index (replaced key new records) (after_all (writes prefix index old new) m)

-- only what changes is written: a key that the writes cover has another value after them, or none before and after
abbrev pub OnlyChanges : Keeping → Writing → Type 0
OnlyChanges Has writes =
    (prefix : List ℕ) (index : IndexDefinition) (key : List Item) (old new : Option Record) (records : List Record)
    (m : Map) (at : List ℕ) →
    IsReplacement key old new records → IsIndexed index old → IsIndexed index new → Has prefix index records m →
    IsTrue (covers (write_ranges (writes prefix index old new)) at) →
    get (after_all (writes prefix index old new) m) at ≡ get m at → get m at ≡ None

-- a record of another type changes nothing of what is to be had
abbrev pub IgnoresOthers : Keeping → Type 0
IgnoresOthers Has =
    (prefix : List ℕ) (index : IndexDefinition) (key : List Item) (old new : Option Record) (records : List Record)
    (m : Map) →
    IsReplacement key old new records → IsOther index old → IsOther index new →
    Has prefix index records m → Has prefix index (replaced key new records) m

-- each key that doesn't begin with the index's prefix keeps what it had
abbrev pub WritesWithin : Writing → Type 0
WritesWithin writes =
    (prefix : List ℕ) (index : IndexDefinition) (old new : Option Record) (m : Map) (key : List ℕ) →
    (BeginsWith (entries_prefix prefix index.number) key → ⊥) →
    get (after_all (writes prefix index old new) m) key ≡ get m key

-- nothing but the keys that begin with the index's prefix matters
abbrev pub HasWithin : Keeping → Type 0
HasWithin Has =
    (prefix : List ℕ) (index : IndexDefinition) (records : List Record) (m n : Map) →
    ((bytes : List ℕ) → get m (entries_prefix prefix index.number ++ bytes)
    ≡ get n (entries_prefix prefix index.number ++ bytes)) →
    Has prefix index records m → Has prefix index records n
