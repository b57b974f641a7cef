-- The places of fields whose names are known.
use Rattle.std.proofs.Common.{◌≡◌, ℕ, true, false, ◌&&◌, List, [], ◌∷◌, Option, Some, None, length, refl, ap}
use Rattle.std.specs.Prelude.{is_none, nat_lt}
use Rattle.std.specs.List.{cons_option, list_all}
use Rattle.std.specs.Str.{bytes_eq}
use Rattle.std.proofs.lemmas.Bool.{lt-ltb, true≢false}
use Rattle.std.proofs.lemmas.List.Quantifiers.{position-Some}
use Rattle.metadata.specs.declared.cells.Kind.TheVariants as kind
use Rattle.metadata.specs.declared.definition.Field.{Field}
use Rattle.metadata.specs.Change.{has_unknown, places_of}
use Rattle.metadata.specs.Schema.{place_of}
use Rattle.metadata.proofs.ReadBack.{neither}

-- the places of known names: as many as names, each of a field
pub columns_known : (fields : List Field) (names : List (List ℕ)) → has_unknown fields names ≡ false →
    (length (places_of fields names) ≡ length names) × (list_all (λ place. nat_lt place (length fields)) (places_of fields names) ≡ true)
columns_known fields [] known = (refl, refl)
columns_known fields (name ∷ names) known = by_place (place_of fields name) refl (neither (is_none (place_of fields name)) (has_unknown fields names) known).0 (columns_known fields names (neither (is_none (place_of fields name)) (has_unknown fields names) known).1)
  where
    by_place : (place : Option ℕ) → place_of fields name ≡ place → is_none place ≡ false → (length (places_of fields names) ≡ length names) × (list_all (λ at. nat_lt at (length fields)) (places_of fields names) ≡ true) →
        (length (cons_option place (places_of fields names)) ≡ length (name ∷ names)) × (list_all (λ at. nat_lt at (length fields)) (cons_option place (places_of fields names)) ≡ true)
    by_place None is none rest = absurd (true≢false none)
    by_place (Some at) is none rest =
        let found = position-Some (λ (field : Field). bytes_eq field.name name) fields at (record { name = []; kind = kind.Int }) is in
        (ap (λ n. Prim.Native.Nat.suc n) rest.0, (λ i. lt-ltb at (length fields) found.0 i && rest.1 i))
