-- What pairs are read as: the planner's words and those of the record codec say the same.
use Rattle.std.specs.Prelude.{◌≡◌, ℕ, List, ◌++◌, Option, Some, None, IfSome, IfNone, refl}
use Rattle.std.proofs.Common.{ap, sym, ◌∙◌}
use Rattle.std.proofs.lemmas.List.{append_cancel_left}
use Rattle.tuple_codec.specs.Spelling.{spelling}
use Rattle.tuple_codec.specs.Subspace.{BeginsWith}
use Rattle.metadata.specs.declared.definition.TypeDefinition.{TypeDefinition}
use Rattle.metadata.specs.Record.{Record, primary_key}
use Rattle.metadata.specs.Stored.{IsOfNoRecord, IsStoredAs}
use Rattle.record_store.specs.Layout.{place}
use Rattle.record_store.proofs.Keys.{record_key_is}
use Rattle.metadata.specs.Layout.{Pair, record_key}
use Rattle.planner.specs.Layout.{stored_record}
use Rattle.planner.proofs.ReadBack.{records_back}

-- ---- pairs as records

-- READ AS: a key and a value that are stored as a record are read as it
pub read_as : (prefix : List ℕ) (t : TypeDefinition) (pair : Pair) (rest : List ℕ) (r : Record) → pair.0 ≡ place prefix 1 ++ rest → IsStoredAs t rest pair.1 r → stored_record prefix t pair ≡ Some r
read_as prefix t pair rest r begins is =
    let key : pair.0 ≡ record_key prefix (primary_key r) = begins ∙ ap (λ k. place prefix 1 ++ k) is.has_key ∙ record_key_is prefix (primary_key r) in
    (records_back prefix t pair r).1 (record { key = key; stored = record { made = is.made; cells = is.cells; has_key = refl; stored = is.stored; fills = is.fills; has_value = is.has_value } })

-- what is read as a record has its key
its_key : (prefix : List ℕ) (t : TypeDefinition) (pair : Pair) (r : Record) → stored_record prefix t pair ≡ Some r → pair.0 ≡ place prefix 1 ++ spelling (primary_key r)
its_key prefix t pair r is = ((records_back prefix t pair r).0 is).key ∙ sym (record_key_is prefix (primary_key r))

-- what is read as a record is stored as it
stored_so : (prefix : List ℕ) (t : TypeDefinition) (pair : Pair) (rest : List ℕ) (r : Record) → pair.0 ≡ place prefix 1 ++ rest → stored_record prefix t pair ≡ Some r → IsStoredAs t rest pair.1 r
stored_so prefix t pair rest r begins is =
    let back = (records_back prefix t pair r).0 is in
    let put = back.stored in
    record {
      made = put.made;
      cells = put.cells;
      has_key = append_cancel_left (place prefix 1) rest (spelling (primary_key r)) (sym begins ∙ its_key prefix t pair r is);
      stored = put.stored;
      fills = put.fills;
      has_value = put.has_value;
    }

-- NONE: a key and a value that are those of no record are read as none
pub read_as_none : (prefix : List ℕ) (t : TypeDefinition) (pair : Pair) (rest : List ℕ) → pair.0 ≡ place prefix 1 ++ rest → IsOfNoRecord t rest pair.1 → None ≡ stored_record prefix t pair
read_as_none prefix t pair rest begins none = by (stored_record prefix t pair) refl
  where
    by : (o : Option Record) → stored_record prefix t pair ≡ o → None ≡ o
    by None is = refl
    by (Some r) is = absurd (none r (stored_so prefix t pair rest r begins is))

-- NONE: so are those whose key stands elsewhere
pub read_elsewhere : (prefix : List ℕ) (t : TypeDefinition) (pair : Pair) → (BeginsWith (place prefix 1) pair.0 → ⊥) → None ≡ stored_record prefix t pair
read_elsewhere prefix t pair never = by (stored_record prefix t pair) refl
  where
    by : (o : Option Record) → stored_record prefix t pair ≡ o → None ≡ o
    by None is = refl
    by (Some r) is = absurd (never (spelling (primary_key r), its_key prefix t pair r is))

-- what the record codec says of a pair, as the planner's word
pub decoded : (prefix : List ℕ) (t : TypeDefinition) (pair : Pair) (rest : List ℕ) (found : Option Record) → pair.0 ≡ place prefix 1 ++ rest →
    IfSome found (IsStoredAs t rest pair.1) → IfNone found (IsOfNoRecord t rest pair.1) → found ≡ stored_record prefix t pair
decoded prefix t pair rest None begins some none = read_as_none prefix t pair rest begins none
decoded prefix t pair rest (Some r) begins some none = sym (read_as prefix t pair rest r begins some)
