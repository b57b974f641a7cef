-- What a record that is made of cells has: its type, cells that fit the fields, and a key without null.
use Rattle.std.specs.Prelude.{◌≡◌, refl, ℕ, zero, suc, ◌<◌, Bool, true, false, List, [], ◌∷◌, length, map, Some, None, Ok, Option}
use Rattle.std.specs.List.{filter_map, list_any}
use Rattle.std.proofs.Common.{ap, sym, ◌∙◌, arith}
use Rattle.std.specs.Cmp.{first_so, second_so}
use Rattle.metadata.specs.declared.cells.Cell.{Cell}
use Rattle.metadata.specs.declared.cells.Kind.{Kind}
use Rattle.metadata.specs.declared.definition.Field.{Field}
use Rattle.metadata.specs.declared.definition.TypeDefinition.{TypeDefinition}
use Rattle.metadata.specs.Cell.{all_fit, cell_at, cells_at, fits, is_null}
use Rattle.metadata.specs.Record.{Record, record_in}
use Rattle.metadata.specs.Schema.{field_kinds, kind_at}
use Rattle.metadata.proofs.StoredOnce.{made_is}
use Rattle.planner.proofs.Ranges.{Each}

-- the record is of the type
pub made_type : (t : TypeDefinition) (r : Record) → record_in t r.cells ≡ Ok r → r.definition ≡ t
made_type t r made = ap (λ x. x.definition) (sym (made_is t r.cells r made))

-- its cells fit the fields, and none of its key is null
pub made_fits : (t : TypeDefinition) (cells : List Cell) (r : Record) → record_in t cells ≡ Ok r → (all_fit (field_kinds t) cells ≡ true) × (list_any is_null (cells_at cells t.key) ≡ false)
made_fits t cells r = by_kinds (all_fit (field_kinds t) cells) refl
  where
    by_null : (b : Bool) → all_fit (field_kinds t) cells ≡ true → list_any is_null (cells_at cells t.key) ≡ b → record_in t cells ≡ Ok r → (all_fit (field_kinds t) cells ≡ true) × (list_any is_null (cells_at cells t.key) ≡ false)
    by_null true fit null made = absurd (cc)
    by_null false fit null made = (fit, null)

    by_kinds : (b : Bool) → all_fit (field_kinds t) cells ≡ b → record_in t cells ≡ Ok r → (all_fit (field_kinds t) cells ≡ true) × (list_any is_null (cells_at cells t.key) ≡ false)
    by_kinds false fit made = absurd (cc)
    by_kinds true fit made = by_null (list_any is_null (cells_at cells t.key)) fit refl made

-- a place within the fields has a kind, which the cell there fits
abbrev pub FitsAt : List Field → List Cell → ℕ → Type 0
FitsAt fields cells p = (k : Kind) × (kind_at fields p ≡ Some k) × (fits k (cell_at cells p) ≡ true)

pub fits_at : (fields : List Field) (cells : List Cell) → all_fit (map (λ f. f.kind) fields) cells ≡ true → (p : ℕ) → p < length fields → FitsAt fields cells p
fits_at [] cells fit p l = absurd (omega (arith, l))
fits_at (f ∷ fields) [] fit p l = cc
fits_at (f ∷ fields) (c ∷ cells) fit zero l = (f.kind, refl, first_so _ _ fit)
fits_at (f ∷ fields) (c ∷ cells) fit (suc p) l = fits_at fields cells (second_so (fits f.kind c) _ fit) p (omega (arith, l))

-- cells at places fit the kinds there
pub fit_at : (fields : List Field) (cells : List Cell) → all_fit (map (λ f. f.kind) fields) cells ≡ true → (places : List ℕ) → Each (λ p. p < length fields) places → all_fit (filter_map (kind_at fields) places) (cells_at cells places) ≡ true
fit_at fields cells fit [] e = refl
fit_at fields cells fit (p ∷ places) e = step (kind_at fields p) (fits_at fields cells fit p e.0) (fit_at fields cells fit places e.1) refl
  where
    step : (o : Option Kind) → FitsAt fields cells p → all_fit (filter_map (kind_at fields) places) (cells_at cells places) ≡ true → kind_at fields p ≡ o → all_fit (filter_map (kind_at fields) (p ∷ places)) (cell_at cells p ∷ cells_at cells places) ≡ true
    step None h more is = let bad : Some h.0 ≡ None = sym h.1 ∙ is in cc
    step (Some k) h more is = let same : Some k ≡ Some h.0 = sym is ∙ h.1 in let one = h.2 in cc
