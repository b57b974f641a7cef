-- Records of a schema's types with one key are of one type and have one primary key.
use Rattle.std.proofs.Common.{◌≡◌, ◌<◌, ◌^◌, ℕ, List, Some, sym, ap, subst, ◌∙◌, arith}
use Rattle.std.specs.Str.{bytes_eq}
use Rattle.tuple_codec.specs.Spelling.{Spells}
use Rattle.tuple_codec.proofs.Spellings.{one_tuple, spelling_spells}
use Rattle.metadata.specs.declared.definition.TypeDefinition.{TypeDefinition}
use Rattle.metadata.specs.Cell.{cells_at}
use Rattle.metadata.specs.Record.{Record, primary_key}
use Rattle.metadata.specs.Records.{IsStorable}
use Rattle.metadata.specs.Lawful.{IsLawfulSchema}
use Rattle.metadata.specs.Schema.{Schema, find_type, type_at}
use Rattle.metadata.specs.Stored.{IsStoredAs, IsTypeOf}
use Rattle.metadata.proofs.CellItems.{all-cells_at, is_tuple-items_of, nesting-items_of}
use Rattle.metadata.proofs.IndexAdded.{found_by_number}
use Rattle.metadata.proofs.IndexItems.{found_small}
use Rattle.metadata.proofs.Grown.{lawful_numbered, lawful_small}
use Rattle.metadata.proofs.StoredOnce.{made_is}

-- the number of a schema's type is small
pub number_small : (schema : Schema) (type : TypeDefinition) → IsLawfulSchema schema → IsTypeOf schema type → type.number < 2 ^ 64
number_small schema type lawful typed = (found_small schema.types type.number type (lawful_small schema lawful) typed).0.number

-- a stored record is of its type
type_is : (type : TypeDefinition) (key value : List ℕ) (r : Record) → IsStoredAs type key value r → type ≡ r.definition
type_is type key value r is = ap (λ (one : Record). one.definition) (made_is type r.cells r is.made)

-- its primary key and its cells are values of their types
pub storable : (schema : Schema) (type : TypeDefinition) (key value : List ℕ) (r : Record) → IsLawfulSchema schema → IsTypeOf schema type → IsStoredAs type key value r → IsStorable r
storable schema type key value r lawful typed is =
    let low = number_small schema type lawful typed in
    let same = ap (λ (t : TypeDefinition). t.number) (type_is type key value r is) in
    let cells = is_tuple-items_of (cells_at r.cells r.definition.key) (all-cells_at r.cells r.definition.key is.cells) in
    record {
      key = record { items = (omega (arith, low, same), cells.items); depth = omega (arith, nesting-items_of (cells_at r.cells r.definition.key)) };
      cells = is.cells;
    }

-- its key spells its primary key
key_spells : (key : List ℕ) (type : TypeDefinition) (value : List ℕ) (r : Record) → IsStorable r → IsStoredAs type key value r → Spells (primary_key r) key
key_spells key type value r s is = subst (Spells (primary_key r)) (sym is.has_key) (spelling_spells (primary_key r) s.key.items s.key.depth)

pub apart : (schema : Schema) (type other : TypeDefinition) (key value another : List ℕ) (a b : Record) → IsLawfulSchema schema → IsTypeOf schema type → IsTypeOf schema other →
    IsStoredAs type key value a → IsStoredAs other key another b → (type ≡ other) × (primary_key a ≡ primary_key b)
apart schema type other key value another a b lawful typed others first second =
    let a_storable = storable schema type key value a lawful typed first in
    let b_storable = storable schema other key another b lawful others second in
    let same = one_tuple (primary_key a) (primary_key b) key (key_spells key type value a a_storable first) (key_spells key other another b b_storable second) in
    let a_type = type_is type key value a first in
    let b_type = type_is other key another b second in
    let numbers : a.definition.number ≡ b.definition.number = cc in
    let type_numbers = ap (λ (t : TypeDefinition). t.number) a_type ∙ numbers ∙ ap (λ (t : TypeDefinition). t.number) (sym b_type) in
    let found = ap (type_at schema.types) type_numbers in
    (cc, same)

-- a type that is found by its name is one of the schema's
pub named_typed : (schema : Schema) (name : List ℕ) (type : TypeDefinition) → IsLawfulSchema schema → find_type schema name ≡ Some type → IsTypeOf schema type
named_typed schema name type lawful found = found_by_number 0 (λ (one : TypeDefinition). bytes_eq one.name name) schema.types type (lawful_numbered schema lawful) found
