-- When the pairs of a map are exactly those of a type's records and of their entries.
use Rattle.std.specs.Prelude.{◌≡◌, Ok, Some, ◌↔◌, ℕ, List, [], All, Contains, Any, IsTrue, nat_eq, unwrap_or}
use Rattle.std.specs.List.{starts_with}
use Rattle.std.specs.FinMap.Entries.{find, is_sorted}
use Rattle.metadata.specs.declared.index.IndexDefinition.{IndexDefinition}
use Rattle.metadata.specs.declared.definition.TypeDefinition.{TypeDefinition}
use Rattle.metadata.specs.Record.{Record, primary_key, record_in}
use Rattle.tuple_codec.specs.Order.{bytes_cmp}
use Rattle.metadata.specs.Cell.{IsCell}
use Rattle.metadata.specs.Entries.{entry_of}
use Rattle.metadata.specs.Layout.{Pair, entries_prefix, entry_pair, record_key, records_prefix}
use Rattle.planner.specs.Layout.{stored_record}

-- a record of a type, of cells that the codec packs
pub record IsOf (t : TypeDefinition) (r : Record) : Type 0 where
  pub made : record_in t r.cells ≡ Ok r
  pub are_stored : All IsCell r.cells

-- the pairs whose keys begin with a key are those of these records, by this form of a pair
abbrev pub AreThose : List ℕ → (Record → Pair) → List Record → List Pair → Type 0
AreThose key form records pairs =
    (p : Pair) → (Contains pairs p × IsTrue (starts_with nat_eq p.0 key)) ↔ Any (λ r. p ≡ form r) records

-- the pair at a record's key
abbrev pub own_pair : List ℕ → List Pair → Record → Pair
own_pair prefix pairs r =
    let key = record_key prefix (primary_key r) in (key, unwrap_or (find bytes_cmp key pairs) [])

-- the map's pairs, in key order, have exactly these records of the type, and exactly their entries in each of these
-- indexes
pub record IsExact (prefix : List ℕ) (pairs : List Pair) (t : TypeDefinition) (indexes : List IndexDefinition)
    (records : List Record) : Type 0 where
  pub in_order : IsTrue (is_sorted bytes_cmp pairs)
  pub of_type : (r : Record) → Contains records r → IsOf t r
  pub records_are : AreThose (records_prefix prefix t.number) (own_pair prefix pairs) records pairs
  pub stored : (r : Record) → Contains records r → stored_record prefix t (own_pair prefix pairs r) ≡ Some r
  pub entries_are : (i : IndexDefinition) → Contains indexes i →
      AreThose (entries_prefix prefix i.number) (λ r. entry_pair prefix i.number (entry_of i r)) records pairs
