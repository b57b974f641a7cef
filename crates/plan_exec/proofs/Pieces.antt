-- Where all fields of a record are stored, its value has the pieces of which its key is made.
use Rattle.std.specs.Prelude.{◌≡◌, ℕ, ◌+◌, ◌-◌, ◌<◌, ◌≤◌, Bool, true, false, not, cond, ◌||◌, List, [], ◌∷◌, ◌++◌, length, take, drop, replicate, Option, Some, None, Ok, option_map, refl, pos}
use Rattle.std.specs.List.{list_any}
use Rattle.std.proofs.Common.{ap, sym, ◌∙◌, subst, arith, append-nil, get_or}
use Rattle.std.proofs.Math.Seq.{take-append_seam}
use Rattle.std.proofs.lemmas.Bool.{and_parts, false≢true, le-leb}
use Rattle.std.proofs.lemmas.List.{drop_all, drop_more, length-append, length-map, length-take-le}
use Rattle.std.proofs.lemmas.Option.{none-some, same_Some}
use Rattle.tuple_codec.specs.Spelling.{item_spelling, outer}
use Rattle.metadata.specs.declared.cells.Cell.{Cell}
use Rattle.metadata.specs.declared.cells.Cell.TheVariants.{Null, Int}
use Rattle.metadata.specs.declared.cells.Kind.{Kind}
use Rattle.metadata.specs.declared.definition.TypeDefinition.{TypeDefinition}
use Rattle.metadata.specs.Cell.{all_fit, cell_at, cells_at, fits, is_null, is_value, item_of}
use Rattle.metadata.specs.Layout.{Pair}
use Rattle.metadata.specs.Record.{Record, record_in}
use Rattle.metadata.specs.Schema.{field_kinds}
use Rattle.metadata.specs.Stored.{AreStoredAs, BeginsWithCell, BeginsWithOne, filled}
use Rattle.record_store.specs.Layout.{place}
use Rattle.planner.specs.Pack.{pack, unpack}
use Rattle.planner.proofs.ReadBack.{cells_back}
use Rattle.plan_exec.specs.Decoding.{AreAfter}
use Rattle.plan_exec.specs.Packing.{ArePiecesAt, IsPieceAt, StandsWhole}
use Rattle.plan_exec.proofs.EntryCells.{cell_then, fit_length, no_bytes, one_more}
use Rattle.plan_exec.proofs.ReadAs.{read_as}

-- ---- one piece

there : (xs : List Cell) (x : Cell) (more : List Cell) → cell_at (xs ++ x ∷ more) (length xs) ≡ x
there [] x more = refl
there (y ∷ xs) x more = there xs x more

no_null : (b : Bool) → not b ≡ true → b ≡ false
no_null true is = absurd (false≢true is)
no_null false is = refl

-- PIECE: the cell that stands first after those before a place
pub piece_there : (kinds : List Kind) (at : ℕ) (kind : Kind) (value from after : List ℕ) → at ≤ length kinds →
    AreAfter (take at kinds) from value → BeginsWithOne (is_value kind) after from →
    IsPieceAt value at (take (length from - length after) from)
piece_there kinds at kind value from after within are (cell, so, begins) cells is = by (unpack after) refl
  where
    first : List ℕ
    first = item_spelling outer (item_of cell)

    count : length are.cells ≡ at
    count = fit_length (take at kinds) are.cells are.fit ∙ length-take-le at kinds within

    all : (o : Option (List Cell)) → unpack after ≡ o → option_map (λ more. are.cells ++ more) (option_map (λ more. cell ∷ more) o) ≡ Some cells
    all o left =
        ap (λ o. option_map (λ more. are.cells ++ more) (option_map (λ more. cell ∷ more) o)) (sym left)
        ∙ ap (option_map (λ more. are.cells ++ more)) (sym (one_more from after cell begins)) ∙ sym are.same ∙ is

    spelled : take (length from - length after) from ≡ first
    spelled =
        let whole = cell_then from after cell begins in
        let sizes = ap length whole ∙ length-append first after in
        let size : length from - length after ≡ length first = omega (arith, sizes) in
        ap (λ n. take n from) size ∙ ap (take (length first)) whole ∙ take-append_seam first after

    by : (o : Option (List Cell)) → unpack after ≡ o →
        (is_null (cell_at cells at) ≡ false) × (take (length from - length after) from ≡ pack (cell_at cells at ∷ []))
    by None left = absurd (none-some cells (all None left))
    by (Some more) left =
        let same : are.cells ++ cell ∷ more ≡ cells = same_Some (are.cells ++ cell ∷ more) cells (all (Some more) left) in
        let its : cell ≡ cell_at cells at =
        sym (there are.cells cell more) ∙ ap (cell_at (are.cells ++ cell ∷ more)) count ∙ ap (λ cs. cell_at cs at) same in (
          ap is_null (sym its) ∙ no_null (is_null cell) (and_parts (fits kind cell) (not (is_null cell)) so).1,
          spelled ∙ sym (append-nil first) ∙ ap (λ c. pack (c ∷ [])) its,
        )

-- ---- the pieces of a key

-- the pieces are those at the places, if what is left of them is those at the places that are left
abbrev pub AreLeft : List ℕ → List ℕ → List ℕ → List ℕ → List ℕ → Type 0
AreLeft value places pieces left rest = ArePiecesAt value left rest → ArePiecesAt value places pieces

piece_then : (value piece after rest : List ℕ) (at : ℕ) (left : List ℕ) → IsPieceAt value at piece → rest ≡ piece ++ after →
    ArePiecesAt value left after → ArePiecesAt value (at ∷ left) rest
piece_then value piece after rest at left one whole others cells is =
    let first = one cells is in
    let more = others cells is in
    let its = item_spelling outer (item_of (cell_at cells at)) in (
      (λ i. first.0 i || more.0 i),
      whole ∙ ap (λ p. p ++ after) (first.1 ∙ append-nil its) ∙ ap (λ l. its ++ l) more.1,
    )

module _ (value places pieces : List ℕ) (i at other : ℕ) (within : i < length places) (is : at ≡ get_or places i other) (rest : List ℕ) where
  pub pieces_on : AreLeft value places pieces (drop i places) rest → (piece after : List ℕ) → IsPieceAt value at piece → rest ≡ piece ++ after →
      AreLeft value places pieces (drop (i + 1) places) after
  pieces_on on piece after one whole others =
      let cut : at ∷ drop (i + 1) places ≡ drop i places = sym (drop_more places i other within ∙ ap (λ p. p ∷ drop (i + 1) places) (sym is)) in
      on (subst (λ left. ArePiecesAt value left rest) cut (piece_then value piece after rest at (drop (i + 1) places) one whole others))

-- no pieces of no places
none_left : (value rest : List ℕ) → length rest ≡ 0 → ArePiecesAt value [] rest
none_left value [] empty = λ cells is. (refl, refl)
none_left value (b ∷ rest) empty = absurd (omega (arith, empty))

pub pieces_end : (value places pieces : List ℕ) (i : ℕ) → length places ≤ i → (rest : List ℕ) → AreLeft value places pieces (drop i places) rest →
    length rest ≡ 0 → ArePiecesAt value places pieces
pieces_end value places pieces i all rest on empty =
    on (subst (λ left. ArePiecesAt value left rest) (sym (drop_all i places all)) (none_left value rest empty))

-- ---- whole records

none_more : (n : ℕ) (cells : List Cell) → n ≡ length cells → cells ++ replicate (n - length cells) Null ≡ cells
none_more n cells same =
    let none : n - length cells ≡ 0 = omega (arith, same) in
    ap (λ k. cells ++ replicate k Null) none ∙ append-nil cells

-- WHOLE: such a pair stands for the record of the value's cells
module _ (prefix : List ℕ) (t : TypeDefinition) (pair : Pair) (kinds : List Kind) (value primary key : List ℕ) (same : value ≡ pair.1) (typed : kinds ≡ field_kinds t)
    (first : t.first_fields ≤ length kinds) (all : AreAfter kinds [] value) (begins : pair.0 ≡ place prefix 1 ++ primary)
    (numbered : BeginsWithCell (Int (pos t.number)) key primary) (keyed : ArePiecesAt value t.key key) where
  abbrev cells : List Cell
  cells = all.cells

  unpacked : unpack value ≡ Some cells
  unpacked = all.same ∙ ap (option_map (λ more. cells ++ more)) no_bytes ∙ ap Some (append-nil cells)

  stored : AreStoredAs pair.1 cells
  stored = (cells_back pair.1 cells).0 (ap unpack (sym same) ∙ unpacked)

  count : length t.fields ≡ length cells
  count = sym (length-map t.fields (λ field. field.kind)) ∙ ap length (sym typed) ∙ sym (fit_length kinds cells all.fit)

  abbrev row : Record
  row = record { definition = t; cells = cells }

  made : record_in t cells ≡ Ok row
  made = by (all_fit (field_kinds t) cells) (list_any is_null (cells_at cells t.key)) refl refl
      (ap (λ ks. all_fit ks cells) (sym typed) ∙ all.fit) (keyed cells unpacked).0
    where
      by : (f n : Bool) → all_fit (field_kinds t) cells ≡ f → list_any is_null (cells_at cells t.key) ≡ n → all_fit (field_kinds t) cells ≡ true →
          list_any is_null (cells_at cells t.key) ≡ false → record_in t cells ≡ Ok row
      by f n fit null fits none = cc

  fills : filled t cells ≡ Some cells
  fills =
      let enough : t.first_fields ≤ length cells = omega (arith, first, fit_length kinds cells all.fit) in
      ap (λ b. cond b (Some (cells ++ replicate (length t.fields - length cells) Null)) None) (le-leb t.first_fields (length cells) enough)
      ∙ ap Some (none_more (length t.fields) cells count)

  pub stands_whole : StandsWhole prefix t pair
  stands_whole = record {
    row = row;
    found = read_as prefix t pair primary row begins (record {
      made = made;
      cells = stored.cells;
      has_key = cell_then primary key (Int (pos t.number)) numbered ∙ ap (λ k. item_spelling outer (item_of (Int (pos t.number))) ++ k) (keyed cells unpacked).1;
      stored = cells;
      fills = fills;
      has_value = stored.has_value;
    });
    whole = stored;
  }
