-- The records of a store, by primary key: each key once, in the order of keys.
use Rattle.std.specs.Prelude.{ℕ, Bool, not, List, [], ◌∷◌, Option, IsTrue, All, ◌==◌, find, filter}
use Rattle.std.specs.List.{AllByRecursion}
use Rattle.std.specs.Ordering.{is_eq, is_lt}
use Rattle.std.specs.declared.cmp.Ordering.{Ordering}
use Rattle.std.specs.declared.cmp.Ordering.TheVariants.{Less, Equal, Greater}
use Rattle.tuple_codec.specs.Item.{Item, IsTuple}
use Rattle.tuple_codec.specs.Order.{tuple_cmp}
use Rattle.metadata.specs.Cell.{IsCell}
use Rattle.metadata.specs.Record.{Record, primary_key}

-- the record has this primary key
abbrev pub has_primary_key : List Item → Record → Bool
has_primary_key key «record» = is_eq (tuple_cmp (primary_key «record») key)

-- the record with this primary key
abbrev pub record_at : List Item → List Record → Option Record
record_at key records = find (has_primary_key key) records

-- one of three lists, by an order
abbrev pub placed : Ordering → List Record → List Record → List Record → List Record
placed Less before same after = before
placed Equal before same after = same
placed Greater before same after = after

-- the records with this one: in the place of that with its primary key, or where the order wants it
abbrev pub with_record : Record → List Record → List Record
with_record new [] = new ∷ []
with_record new (old ∷ records) =
    placed (tuple_cmp (primary_key new) (primary_key old)) (new ∷ old ∷ records) (new ∷ records)
    (old ∷ with_record new records)

-- the records without that of this primary key
abbrev pub without_record : List Item → List Record → List Record
without_record key records = filter (λ «record». not (has_primary_key key «record»)) records

-- the records of the type with this number
abbrev pub of_type : ℕ → List Record → List Record
of_type number records = filter (λ «record». «record».definition.number == number) records

-- a record that can be stored: its primary key and its cells are values of their types
pub record IsStorable (r : Record) : Type 0 where
  pub key : IsTuple (primary_key r)
  pub cells : All IsCell r.cells

-- each record stands before each later one, by primary key
abbrev pub AreOrdered : List Record → Type 0
AreOrdered [] = Unit {0}
AreOrdered (r ∷ records) =
    AllByRecursion (λ later. IsTrue (is_lt (tuple_cmp (primary_key r) (primary_key later)))) records
    × AreOrdered records
