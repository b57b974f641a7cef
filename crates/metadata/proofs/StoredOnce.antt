-- Bytes are those of one record of a type at most.
use Rattle.std.proofs.Common.{◌≡◌, ℕ, ◌-◌, Bool, true, false, cond, List, [], ◌∷◌, ◌++◌, Option, Some, None, Ok, Err, All, length, take, refl, sym, ap, subst, ◌∙◌}
use Rattle.std.specs.Prelude.{is_some, nat_le, replicate, unwrap_or}
use Rattle.std.specs.List.{list_any}
use Rattle.std.proofs.lemmas.Bool.{true≢false}
use Rattle.std.proofs.lemmas.List.Elements.{All-append, All-replicate, All-take}
use Rattle.tuple_codec.specs.Spelling.{spelling}
use Rattle.metadata.specs.declared.cells.Cell.{Cell}
use Rattle.metadata.specs.declared.cells.Cell.TheVariants.{Null}
use Rattle.metadata.specs.declared.definition.TypeDefinition.{TypeDefinition}
use Rattle.metadata.specs.declared.refusal.Refusal.{Refusal}
use Rattle.metadata.specs.Cell.{IsCell, all_fit, cells_at, is_null}
use Rattle.metadata.specs.Record.{Record, key_items, primary_key, record_in}
use Rattle.metadata.specs.Schema.{field_kinds}
use Rattle.metadata.specs.Stored.{AreStoredAs, IsOfNoCells, IsOfNoRecord, IsStoredAs, filled}
use Rattle.metadata.proofs.StoredCells.{one_value}

-- the record of a type and cells
abbrev pub of_cells : TypeDefinition → List Cell → Record
of_cells type cells = record { definition = type; cells = cells }

-- a record of a type with cells has this type and these cells
pub made_is : (type : TypeDefinition) (cells : List Cell) (r : Record) → record_in type cells ≡ Ok r → of_cells type cells ≡ r
made_is type cells r made = by_kinds (all_fit (field_kinds type) cells) refl made
  where
    by_null : (b : Bool) → all_fit (field_kinds type) cells ≡ true → list_any is_null (cells_at cells type.key) ≡ b → record_in type cells ≡ Ok r → of_cells type cells ≡ r
    by_null true fit null is = cc
    by_null false fit null is = cc

    by_kinds : (b : Bool) → all_fit (field_kinds type) cells ≡ b → record_in type cells ≡ Ok r → of_cells type cells ≡ r
    by_kinds false fit is = cc
    by_kinds true fit is = by_null (list_any is_null (cells_at cells type.key)) fit refl is

-- the first of a list's elements are such as all of them
all_first : {X : Type 0} (P : X → Type 0) (xs ys : List X) → All P (xs ++ ys) → All P xs
all_first P xs ys all = subst (All P) (take-front xs ys) (All-take P (length xs) (xs ++ ys) all)
  where
    take-front : {X : Type 0} (xs ys : List X) → take (length xs) (xs ++ ys) ≡ xs
    take-front [] ys = refl
    take-front (x ∷ xs) ys = ap (λ rest. x ∷ rest) (take-front xs ys)

-- cells that fill a record are its first ones
fills_first : (type : TypeDefinition) (stored cells : List Cell) → filled type stored ≡ Some cells → stored ++ replicate (length type.fields - length stored) Null ≡ cells
fills_first type stored cells fills = by_test (nat_le type.first_fields (length stored)) refl fills
  where
    by_test : (b : Bool) → nat_le type.first_fields (length stored) ≡ b → ◌≡◌ {A = Option (List Cell)} (cond b (Some (stored ++ replicate (length type.fields - length stored) Null)) None) (Some cells) →
        stored ++ replicate (length type.fields - length stored) Null ≡ cells
    by_test true enough is = cc
    by_test false few is = absurd (cc)

-- the cells of which the value is are values of their types, as those of the record
pub stored_cells : (type : TypeDefinition) (key value : List ℕ) (r : Record) (is : IsStoredAs type key value r) → AreStoredAs value is.stored
stored_cells type key value r is = record {
  cells = all_first IsCell is.stored (replicate (length type.fields - length is.stored) Null) (subst (All IsCell) (sym (fills_first type is.stored r.cells is.fills)) is.cells);
  has_value = is.has_value;
}

-- the stored cells with nulls after them are values of their types
pub filled_cells : (type : TypeDefinition) (stored cells : List Cell) → All IsCell stored → filled type stored ≡ Some cells → All IsCell cells
filled_cells type stored cells are fills =
    subst (All IsCell) (fills_first type stored cells fills)
    (All-append IsCell stored (replicate (length type.fields - length stored) Null) are (All-replicate IsCell (length type.fields - length stored) Null tt))

same_some : (a b : List Cell) → ◌≡◌ {A = Option (List Cell)} (Some a) (Some b) → a ≡ b
same_some a b is = ap (λ found. unwrap_or found a) is

-- a record of a value has the cells that the stored ones fill
one_filled : (type : TypeDefinition) (key value : List ℕ) (stored cells : List Cell) (r : Record) → AreStoredAs value stored → filled type stored ≡ Some cells → IsStoredAs type key value r → cells ≡ r.cells
one_filled type key value stored cells r are fills is =
    same_some cells r.cells (sym fills ∙ ap (filled type) (one_value value stored is.stored are (stored_cells type key value r is)) ∙ is.fills)

-- ONCE: a key and a value are those of one record of a type
pub stored_once : (type : TypeDefinition) (key value : List ℕ) (a b : Record) → IsStoredAs type key value a → IsStoredAs type key value b → a ≡ b
stored_once type key value a b first second =
    sym (made_is type a.cells a first.made)
    ∙ ap (of_cells type) (one_filled type key value first.stored a.cells b (stored_cells type key value a first) first.fills second)
    ∙ made_is type b.cells b second.made

-- no record has a value that is that of no cells
pub none_of_no_cells : (type : TypeDefinition) (key value : List ℕ) → IsOfNoCells value → IsOfNoRecord type key value
none_of_no_cells type key value none r is = none is.stored (stored_cells type key value r is)

-- no record has the value of too few cells
pub none_of_few : (type : TypeDefinition) (key value : List ℕ) (stored : List Cell) → AreStoredAs value stored → filled type stored ≡ None → IsOfNoRecord type key value
none_of_few type key value stored are few r is =
    let same = ap (filled type) (one_value value stored is.stored are (stored_cells type key value r is)) in
    let fills = is.fills in
    absurd (true≢false (ap is_some (sym fills ∙ sym same ∙ few)))

-- no record has the value of cells that are refused
pub none_of_refused : (type : TypeDefinition) (key value : List ℕ) (stored cells : List Cell) (refusal : Refusal) → AreStoredAs value stored → filled type stored ≡ Some cells → record_in type cells ≡ Err refusal →
    IsOfNoRecord type key value
none_of_refused type key value stored cells refusal are fills refused r is =
    let same = one_filled type key value stored cells r are fills is in
    let made = is.made in
    let outcome = ap (record_in type) same in
    cc

-- no record has the value of cells and another key
pub none_of_other_key : (type : TypeDefinition) (key value : List ℕ) (stored cells : List Cell) → AreStoredAs value stored → filled type stored ≡ Some cells →
    (key ≡ spelling (key_items type.number (cells_at cells type.key)) → ⊥) → IsOfNoRecord type key value
none_of_other_key type key value stored cells are fills other r is =
    let same = one_filled type key value stored cells r are fills is in
    other (is.has_key ∙ ap (λ one. spelling (primary_key one)) (sym (ap (of_cells type) same ∙ made_is type r.cells r is.made)))

-- what is read as the cells of a record is a record with this key and value
pub found_stored : (type : TypeDefinition) (key value : List ℕ) (stored cells : List Cell) → AreStoredAs value stored → filled type stored ≡ Some cells → record_in type cells ≡ Ok (of_cells type cells) →
    key ≡ spelling (key_items type.number (cells_at cells type.key)) → IsStoredAs type key value (of_cells type cells)
found_stored type key value stored cells are fills made has = record {
  made = made;
  cells = filled_cells type stored cells are.cells fills;
  has_key = has;
  stored = stored;
  fills = fills;
  has_value = are.has_value;
}
