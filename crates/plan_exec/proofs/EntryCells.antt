-- Bytes are told cell by cell, as they are by the cells that they are unpacked as.
use Rattle.std.specs.Prelude.{◌≡◌, ℕ, ℤ, ◌+◌, ◌<◌, ◌≤◌, ◌^◌, Bool, true, false, not, ◌&&◌, ◌||◌, ◌==◌, List, [], ◌∷◌, ◌++◌, length, take, drop, Option, Some, None, option_map, MatchOption, refl, bytes_eq, pos}
use Rattle.std.specs.Borrow.{Bor}
use Rattle.std.specs.List.{list_any}
use Rattle.std.proofs.Common.{ap, sym, ◌∙◌, subst, arith, append_assoc, get_or}
use Rattle.std.proofs.lemmas.Bool.{and_parts, false≢true, lt-ltb, ltb-true, ne_eqb}
use Rattle.std.proofs.lemmas.List.{drop_all, drop_more}
use Rattle.std.proofs.lemmas.List.Elements.{All-cons, All-nil}
use Rattle.std.proofs.lemmas.Option.{none-some, same_Some}
use Rattle.std.proofs.lemmas.Slice.Eq.{bytes_eq-Decides}
use Rattle.tuple_codec.specs.Item.{int}
use Rattle.tuple_codec.specs.Spelling.{item_spelling, outer, spelling}
use Rattle.tuple_codec.specs.Subspace.{BeginsWith}
use Rattle.tuple_codec.proofs.Firsts.{none_first}
use Rattle.tuple_codec.proofs.Spellings.{item_spelled, item_spells}
use Rattle.metadata.specs.declared.cells.Cell.{Cell}
use Rattle.metadata.specs.declared.cells.Cell.TheVariants.{Int}
use Rattle.metadata.specs.declared.cells.Kind.{Kind}
use Rattle.metadata.specs.declared.definition.TypeDefinition.{TypeDefinition}
use Rattle.metadata.specs.Cell.{IsCell, all_fit, fits, is_null, is_value, item_of, items_of}
use Rattle.metadata.specs.Schema.{key_kinds}
use Rattle.metadata.specs.Stored.{BeginsWithCell, BeginsWithOne}
use Rattle.metadata.proofs.CellItems.{is_item-item_of}
use Rattle.metadata.proofs.Unpacks.{GoesOn, goes_on, stands, starts}
use Rattle.planner.specs.Layout.{is_primary_key}
use Rattle.planner.specs.Pack.{pack, unpack}
use Rattle.planner.proofs.ReadBack.{cells_back}
use Rattle.plan_exec.specs.Decoding.{AreAfter, NoneAreAfter, is_pack_of}
use Rattle.plan_exec.proofs.EntryNumbers.{number_pack}

-- ---- what is unpacked

module _ (bytes rest : List ℕ) (cell : Cell) (begins : BeginsWithCell cell rest bytes) where
  -- the cell was read
  read : GoesOn bytes (cell ∷ []) rest
  read = goes_on bytes [] bytes (starts bytes [] refl) (λ e. none_first bytes (item_of cell) rest e begins.1) (cell ∷ []) cell rest begins refl

  pub cell_then : bytes ≡ item_spelling outer (item_of cell) ++ rest
  cell_then = begins.1.whole ∙ ap (λ f. f ++ rest) (item_spelled outer (item_of cell) begins.1.front begins.1.spelled).1

  with_others : (cells : List Cell) → unpack rest ≡ Some cells → unpack bytes ≡ Some (cell ∷ cells)
  with_others cells is =
      let are = (cells_back rest cells).0 is in
      (cells_back bytes (cell ∷ cells)).1 record {
        cells = All-cons IsCell cell cells begins.0 are.cells;
        has_value = cell_then ∙ ap (λ r. item_spelling outer (item_of cell) ++ r) are.has_value;
      }

  -- ONE MORE: behind a cell stands what else is unpacked
  pub one_more : unpack bytes ≡ option_map (λ cells. cell ∷ cells) (unpack rest)
  one_more = by (unpack bytes) (unpack rest) refl refl
    where
      by : (all left : Option (List Cell)) → unpack bytes ≡ all → unpack rest ≡ left → all ≡ option_map (λ cells. cell ∷ cells) left
      by all (Some cells) is others = sym is ∙ with_others cells others
      by None None is others = refl
      by (Some all) None is others =
          let begun = read.only all ((cells_back bytes all).0 is) in
          absurd (none-some begun.others (sym others ∙ (cells_back rest begun.others).1 begun.left))

pub no_bytes : unpack [] ≡ Some []
no_bytes = (cells_back [] []).1 record { cells = All-nil IsCell; has_value = refl }

no_cells : (bytes : List ℕ) → unpack bytes ≡ Some [] → length bytes ≡ 0
no_cells bytes is = ap length ((cells_back bytes []).0 is).has_value

first_stands : (bytes : List ℕ) (cell : Cell) (cells : List Cell) → unpack bytes ≡ Some (cell ∷ cells) → BeginsWithCell cell (spelling (items_of cells)) bytes
first_stands bytes cell cells is = stands cell cells bytes ((cells_back bytes (cell ∷ cells)).0 is)

-- where no cell stands first of which something is so, it isn't so of the first cell that is unpacked
first_not : (so : Cell → Bool) (bytes : List ℕ) → ((rest : List ℕ) → BeginsWithOne so rest bytes → ⊥) → (cell : Cell) (cells : List Cell) → unpack bytes ≡ Some (cell ∷ cells) → so cell ≡ false
first_not so bytes none cell cells is = by (so cell) refl
  where
    by : (b : Bool) → so cell ≡ b → b ≡ false
    by false not_so = refl
    by true is_so = absurd (none (spelling (items_of cells)) (cell, is_so, first_stands bytes cell cells is))

-- ---- a key

abbrev pub holds : (List Cell → Bool) → Option (List Cell) → Bool
holds so o = elim o [ Some cells ↦ so cells | None ↦ false ]

-- cells of these kinds, none of them null
abbrev pub key_test : List Kind → List Cell → Bool
key_test kinds cells = all_fit kinds cells && not (list_any is_null cells)

value_then : (f n a b : Bool) → (f && not n) ≡ true → ((f && a) && not (n || b)) ≡ (a && not b)
value_then true false a b is = refl
value_then true true a b is = absurd (false≢true is)
value_then false n a b is = absurd (false≢true is)

no_value : (f n a b : Bool) → (f && not n) ≡ false → ((f && a) && not (n || b)) ≡ false
no_value true false a b is = absurd (false≢true (sym is))
no_value true true true b is = refl
no_value true true false b is = refl
no_value false n a b is = refl

-- with one more value in front
pub key_more : (kind : Kind) (kinds : List Kind) (bytes rest : List ℕ) → BeginsWithOne (is_value kind) rest bytes → is_pack_of (key_test (kind ∷ kinds)) bytes ≡ is_pack_of (key_test kinds) rest
key_more kind kinds bytes rest (cell, is, begins) = ap (holds (key_test (kind ∷ kinds))) (one_more bytes rest cell begins) ∙ by (unpack rest)
  where
    by : (o : Option (List Cell)) → holds (key_test (kind ∷ kinds)) (option_map (λ cells. cell ∷ cells) o) ≡ holds (key_test kinds) o
    by None = refl
    by (Some cells) = value_then (fits kind cell) (is_null cell) (all_fit kinds cells) (list_any is_null cells) is

-- where no such value stands first
pub key_stops : (kind : Kind) (kinds : List Kind) (bytes : List ℕ) → ((rest : List ℕ) → BeginsWithOne (is_value kind) rest bytes → ⊥) → is_pack_of (key_test (kind ∷ kinds)) bytes ≡ false
key_stops kind kinds bytes none = by (unpack bytes) refl
  where
    by : (o : Option (List Cell)) → unpack bytes ≡ o → holds (key_test (kind ∷ kinds)) o ≡ false
    by None is = refl
    by (Some []) is = refl
    by (Some (cell ∷ cells)) is = no_value (fits kind cell) (is_null cell) (all_fit kinds cells) (list_any is_null cells) (first_not (is_value kind) bytes none cell cells is)

-- at the end
pub key_ends : (bytes : List ℕ) → (length bytes == 0) ≡ is_pack_of (key_test []) bytes
key_ends [] = sym (ap (holds (key_test [])) no_bytes)
key_ends (b ∷ bytes) = ne_eqb (length (b ∷ bytes)) 0 (λ e. omega (arith, e)) ∙ by (unpack (b ∷ bytes)) refl
  where
    by : (o : Option (List Cell)) → unpack (b ∷ bytes) ≡ o → false ≡ holds (key_test []) o
    by None is = refl
    by (Some []) is = absurd (let none = no_cells (b ∷ bytes) is in omega (arith, none))
    by (Some (cell ∷ cells)) is = refl

-- ---- a primary key

module _ (t : TypeDefinition) (bytes : List ℕ) where
  -- with the type's number in front
  pub number_then : (rest : List ℕ) → BeginsWithCell (Int (pos t.number)) rest bytes → is_pack_of (is_primary_key t) bytes ≡ is_pack_of (key_test (key_kinds t)) rest
  number_then rest begins = ap (holds (is_primary_key t)) (one_more bytes rest (Int (pos t.number)) begins) ∙ by (unpack rest)
    where
      own : List ℕ
      own = pack (Int (pos t.number) ∷ [])

      same : bytes_eq own own ≡ true
      same = (bytes_eq-Decides own own).1 refl

      by : (o : Option (List Cell)) → holds (is_primary_key t) (option_map (λ cells. Int (pos t.number) ∷ cells) o) ≡ holds (key_test (key_kinds t)) o
      by None = refl
      by (Some cells) = λ i. same i && key_test (key_kinds t) cells

  -- without it
  pub number_stops : t.number < 2 ^ 64 → ((rest : List ℕ) → BeginsWithCell (Int (pos t.number)) rest bytes → ⊥) → is_pack_of (is_primary_key t) bytes ≡ false
  number_stops few none = by (unpack bytes) refl
    where
      other : (cell : Cell) (cells : List Cell) → BeginsWithCell cell (spelling (items_of cells)) bytes → (b : Bool) → bytes_eq (pack (cell ∷ [])) (pack (Int (pos t.number) ∷ [])) ≡ b →
          (b && key_test (key_kinds t) cells) ≡ false
      other cell cells first false is = refl
      other cell cells first true is =
          absurd (none (spelling (items_of cells)) (subst (λ c. BeginsWithCell c (spelling (items_of cells)) bytes) ((number_pack cell t.number first.0 few).0 is) first))

      by : (o : Option (List Cell)) → unpack bytes ≡ o → holds (is_primary_key t) o ≡ false
      by None is = refl
      by (Some []) is = refl
      by (Some (cell ∷ cells)) is = other cell cells (first_stands bytes cell cells is) (bytes_eq (pack (cell ∷ [])) (pack (Int (pos t.number) ∷ []))) refl

-- ---- columns

pub fit_length : (kinds : List Kind) (cells : List Cell) → all_fit kinds cells ≡ true → length cells ≡ length kinds
fit_length [] [] fit = refl
fit_length [] (cell ∷ cells) fit = absurd (false≢true fit)
fit_length (kind ∷ kinds) [] fit = absurd (false≢true fit)
fit_length (kind ∷ kinds) (cell ∷ cells) fit =
    let rest = fit_length kinds cells (and_parts (fits kind cell) (all_fit kinds cells) fit).1 in omega (arith, rest)

pub none_after : (bytes : List ℕ) → AreAfter [] bytes bytes
none_after bytes = record { cells = []; fit = refl; before = []; whole = refl; same = by (unpack bytes) }
  where
    by : (o : Option (List Cell)) → o ≡ option_map (λ more. [] ++ more) o
    by None = refl
    by (Some cells) = refl

module _ (kind : Kind) (kinds : List Kind) (bytes after : List ℕ) (one : BeginsWithOne (fits kind) after bytes) where
  after_more : (rest : List ℕ) → AreAfter kinds rest after → AreAfter (kind ∷ kinds) rest bytes
  after_more rest more =
      let cell : Cell = one.0 in record {
        cells = cell ∷ more.cells;
        fit = λ i. one.1 i && more.fit i;
        before = item_spelling outer (item_of cell) ++ more.before;
        whole = cell_then bytes after cell one.2 ∙ ap (λ r. item_spelling outer (item_of cell) ++ r) more.whole ∙ sym (append_assoc (item_spelling outer (item_of cell)) more.before rest);
        same = one_more bytes after cell one.2 ∙ ap (option_map (λ cells. cell ∷ cells)) more.same ∙ by cell more.cells (unpack rest);
      }
    where
      by : (cell : Cell) (cells : List Cell) (o : Option (List Cell)) → option_map (λ all. cell ∷ all) (option_map (λ more. cells ++ more) o) ≡ option_map (λ more. (cell ∷ cells) ++ more) o
      by cell cells None = refl
      by cell cells (Some more) = refl

  none_more : NoneAreAfter kinds after → NoneAreAfter (kind ∷ kinds) bytes
  none_more none all is = by (unpack after) refl
    where
      by : (o : Option (List Cell)) → unpack after ≡ o → all_fit (kind ∷ kinds) (take (length (kind ∷ kinds)) all) ≡ false
      by None others = absurd (none-some all (sym (one_more bytes after one.0 one.2 ∙ ap (option_map (λ cells. one.0 ∷ cells)) others) ∙ is))
      by (Some cells) others =
          let same : one.0 ∷ cells ≡ all = same_Some (one.0 ∷ cells) all (sym (one_more bytes after one.0 one.2 ∙ ap (option_map (λ cells. one.0 ∷ cells)) others) ∙ is) in
          subst (λ cs. all_fit (kind ∷ kinds) (take (length (kind ∷ kinds)) cs) ≡ false) same (λ i. one.1 i && none cells others i)

-- where no such cell stands first
none_here : (kind : Kind) (kinds : List Kind) (bytes : List ℕ) → ((rest : List ℕ) → BeginsWithOne (fits kind) rest bytes → ⊥) → NoneAreAfter (kind ∷ kinds) bytes
none_here kind kinds bytes none [] is = refl
none_here kind kinds bytes none (cell ∷ cells) is = λ i. first_not (fits kind) bytes none cell cells is i && all_fit kinds (take (length kinds) cells)

-- what stands behind the packs of cells of the kinds that are left is what stands behind those of all
pub record GoesBehind (kinds : List Kind) (bytes : List ℕ) (left : List Kind) (rest : List ℕ) : Type 0 where
  pub some : (end : List ℕ) → AreAfter left end rest → AreAfter kinds end bytes
  pub none : NoneAreAfter left rest → NoneAreAfter kinds bytes

pub begins_behind : (kinds : List Kind) (bytes : List ℕ) → GoesBehind kinds bytes kinds bytes
begins_behind kinds bytes = record { some = λ end is. is; none = λ is. is }

module _ (kinds : List Kind) (bytes : List ℕ) (kind : Kind) (left : List Kind) (rest : List ℕ) (on : GoesBehind kinds bytes (kind ∷ left) rest) where
  pub goes_behind : (after : List ℕ) → BeginsWithOne (fits kind) after rest → GoesBehind kinds bytes left after
  goes_behind after one = record {
    some = λ end is. on.some end (after_more kind left rest after one end is);
    none = λ is. on.none (none_more kind left rest after one is);
  }

  pub stops_behind : ((after : List ℕ) → BeginsWithOne (fits kind) after rest → ⊥) → NoneAreAfter kinds bytes
  stops_behind none = on.none (none_here kind left rest none)

pub ends_behind : (kinds : List Kind) (bytes rest : List ℕ) → GoesBehind kinds bytes [] rest → AreAfter kinds rest bytes
ends_behind kinds bytes rest on = on.some rest (none_after rest)

-- ---- in a turn of a loop over kinds

module _ (kinds : List Kind) (bytes : List ℕ) (i : ℕ) (kind other : Kind) (within : i < length kinds) (is : kind ≡ get_or kinds i other) (rest : List ℕ) where
  cut_here : drop i kinds ≡ kind ∷ drop (i + 1) kinds
  cut_here = drop_more kinds i other within ∙ ap (λ k. k ∷ drop (i + 1) kinds) (sym is)

  pub columns_on : GoesBehind kinds bytes (drop i kinds) rest → (after : List ℕ) → BeginsWithOne (fits kind) after rest → GoesBehind kinds bytes (drop (i + 1) kinds) after
  columns_on on after one = goes_behind kinds bytes kind (drop (i + 1) kinds) rest (subst (λ left. GoesBehind kinds bytes left rest) cut_here on) after one

  pub columns_stop : GoesBehind kinds bytes (drop i kinds) rest → ((after : List ℕ) → BeginsWithOne (fits kind) after rest → ⊥) → NoneAreAfter kinds bytes
  columns_stop on none = stops_behind kinds bytes kind (drop (i + 1) kinds) rest (subst (λ left. GoesBehind kinds bytes left rest) cut_here on) none

  module _ (on : is_pack_of (key_test kinds) bytes ≡ is_pack_of (key_test (drop i kinds)) rest) where
    pub key_on : (after : List ℕ) → BeginsWithOne (is_value kind) after rest → is_pack_of (key_test kinds) bytes ≡ is_pack_of (key_test (drop (i + 1) kinds)) after
    key_on after one = on ∙ ap (λ left. is_pack_of (key_test left) rest) cut_here ∙ key_more kind (drop (i + 1) kinds) rest after one

    pub key_stop : ((after : List ℕ) → BeginsWithOne (is_value kind) after rest → ⊥) → false ≡ is_pack_of (key_test kinds) bytes
    key_stop none = sym (on ∙ ap (λ left. is_pack_of (key_test left) rest) cut_here ∙ key_stops kind (drop (i + 1) kinds) rest none)

module _ (kinds : List Kind) (bytes : List ℕ) (i : ℕ) (all : length kinds ≤ i) (rest : List ℕ) where
  pub columns_end : GoesBehind kinds bytes (drop i kinds) rest → AreAfter kinds rest bytes
  columns_end on = ends_behind kinds bytes rest (subst (λ left. GoesBehind kinds bytes left rest) (drop_all i kinds all) on)

  pub key_end : is_pack_of (key_test kinds) bytes ≡ is_pack_of (key_test (drop i kinds)) rest → (length rest == 0) ≡ is_pack_of (key_test kinds) bytes
  key_end on = key_ends rest ∙ sym (on ∙ ap (λ left. is_pack_of (key_test left) rest) (drop_all i kinds all))

-- ---- the number of a type

-- what is told of the pack of a number, as of that of the cell that it is
pub number_told : (n : ℕ) (value : ℤ) → value ≡ pos n → n < 2 ^ 63 → (bytes : List ℕ) (o : Option (Bor (List ℕ))) →
    MatchOption o (BeginsWith (item_spelling outer (int value)) bytes → ⊥) (λ rest. bytes ≡ item_spelling outer (int value) ++ rest.now) →
    MatchOption o ((rest : List ℕ) → BeginsWithCell (Int (pos n)) rest bytes → ⊥) (λ rest. BeginsWithCell (Int (pos n)) rest.now bytes)
number_told n value same few bytes (Some rest) whole =
    let known : IsCell (Int (pos n)) = lt-ltb n (2 ^ 63) few in (
      known,
      record {
        front = item_spelling outer (int (pos n));
        spelled = item_spells outer (int (pos n)) (is_item-item_of (Int (pos n)) known);
        depth = omega arith;
        whole = whole ∙ ap (λ z. item_spelling outer (int z) ++ rest.now) same;
        follows = tt;
      },
    )
number_told n value same few bytes None none = λ rest begins.
    none (rest, subst (λ z. bytes ≡ item_spelling outer (int z) ++ rest) (sym same) (cell_then bytes rest (Int (pos n)) begins))

-- a greater number stands in no cell
pub number_beyond : (n : ℕ) → 2 ^ 63 ≤ n → (bytes rest : List ℕ) → BeginsWithCell (Int (pos n)) rest bytes → ⊥
number_beyond n many bytes rest begins = let few = ltb-true n (2 ^ 63) begins.0 in omega (arith, few, many)
