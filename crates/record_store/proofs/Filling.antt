-- The cells of a record of a schema fill it: none is left out.
use Rattle.std.proofs.Common.{◌≡◌, ◌-◌, Bool, true, false, cond, ◌==◌, List, [], ◌∷◌, ◌++◌, append-nil, Some, None, Ok, length, refl, sym, ap, ◌∙◌, arith}
use Rattle.std.specs.Prelude.{nat_le, nat_lt, replicate}
use Rattle.std.specs.List.{find, list_all}
use Rattle.std.proofs.lemmas.Bool.{and_parts, le-leb, leb-true, true≢false}
use Rattle.std.proofs.lemmas.List.{length-map}
use Rattle.metadata.specs.declared.cells.Cell.{Cell}
use Rattle.metadata.specs.declared.cells.Cell.TheVariants.{Null}
use Rattle.metadata.specs.declared.cells.Kind.{Kind}
use Rattle.metadata.specs.declared.definition.Field.{Field}
use Rattle.metadata.specs.declared.definition.TypeDefinition.{TypeDefinition}
use Rattle.metadata.specs.Cell.{all_fit, fits}
use Rattle.metadata.specs.Lawful.{IsLawfulSchema, is_grown}
use Rattle.metadata.specs.Record.{Record, record_in}
use Rattle.metadata.specs.Schema.{Schema, field_kinds}
use Rattle.metadata.specs.Stored.{IsTypeOf, filled}
use Rattle.record_store.specs.Holds.{IsOfSchema}
use Rattle.record_store.proofs.RecordPairs.{own_type}

fit_length : (kinds : List Kind) (cells : List Cell) → all_fit kinds cells ≡ true → length cells ≡ length kinds
fit_length [] [] fit = refl
fit_length [] (cell ∷ cells) fit = absurd (true≢false (sym fit))
fit_length (kind ∷ kinds) [] fit = absurd (true≢false (sym fit))
fit_length (kind ∷ kinds) (cell ∷ cells) fit =
    let rest = fit_length kinds cells (and_parts (fits kind cell) (all_fit kinds cells) fit).1 in omega (arith, rest)

-- a record that is made has a cell for each field
pub made_length : (type : TypeDefinition) (r : Record) → record_in type r.cells ≡ Ok r → length r.cells ≡ length type.fields
made_length type r made = by_fit (all_fit (field_kinds type) r.cells) refl made
  where
    by_fit : (b : Bool) → all_fit (field_kinds type) r.cells ≡ b → record_in type r.cells ≡ Ok r → length r.cells ≡ length type.fields
    by_fit true fit is = fit_length (field_kinds type) r.cells fit ∙ length-map type.fields (λ (f : Field). f.kind)
    by_fit false fit is = absurd (cc)

-- what holds of each of a list holds of one that is found
found_grown : (test : TypeDefinition → Bool) (types : List TypeDefinition) (type : TypeDefinition) → list_all is_grown types ≡ true → find test types ≡ Some type → is_grown type ≡ true
found_grown test [] type all found = absurd (cc)
found_grown test (t ∷ types) type all found =
    let parts = and_parts (is_grown t) (list_all is_grown types) all in
    by_test (test t) found parts.0 (found_grown test types type parts.1)
  where
    by_test : (b : Bool) → cond b (Some t) (find test types) ≡ Some type → is_grown t ≡ true → (find test types ≡ Some type → is_grown type ≡ true) → is_grown type ≡ true
    by_test true some one go = let same : t ≡ type = cc in ap is_grown (sym same) ∙ one
    by_test false some one go = go some

pub typed_grown : (schema : Schema) (type : TypeDefinition) → IsLawfulSchema schema → IsTypeOf schema type → is_grown type ≡ true
typed_grown schema type lawful typed = found_grown (λ (t : TypeDefinition). t.number == type.number) schema.types type lawful.grown typed

-- FILLED: all of the cells of a record of the schema are those that fill it
pub all_filled : (schema : Schema) (r : Record) → IsLawfulSchema schema → IsOfSchema schema r → filled r.definition r.cells ≡ Some r.cells
all_filled schema r lawful typed =
    let own = own_type schema r lawful typed in
    let grown = typed_grown schema r.definition lawful own.0 in
    let low = leb-true r.definition.first_fields (length r.definition.fields) (and_parts (nat_le r.definition.first_fields (length r.definition.fields)) (list_all (λ place. nat_lt place r.definition.first_fields) r.definition.key) grown).0 in
    let count = made_length r.definition r own.1 in
    let none : length r.definition.fields - length r.cells ≡ 0 = omega (arith, count) in
    ap (λ b. cond b (Some (r.cells ++ replicate (length r.definition.fields - length r.cells) Null)) None) (le-leb r.definition.first_fields (length r.cells) (omega (arith, low, count)))
    ∙ ap (λ n. Some (r.cells ++ replicate n Null)) none ∙ ap Some (append-nil r.cells)
