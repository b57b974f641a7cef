-- Bytes and pairs are read as what they are written for, and as nothing else.
use Rattle.std.specs.Prelude.{◌≡◌, ℕ, suc, ◌-◌, Bool, true, false, cond, ◌&&◌, ◌==◌, List, [], ◌∷◌, ◌++◌, length, take, drop, Option, Some, None, Result, Ok, Err, refl, bytes_eq, option_and_then, if◌then◌else◌, All}
use Rattle.std.specs.Cmp.{first_so, second_so}
use Rattle.std.specs.Result.{result_ok}
use Rattle.std.proofs.Common.{ap, sym, ◌∙◌, subst, arith}
use Rattle.std.proofs.Math.Seq.{drop-append_seam, take-append_seam}
use Rattle.std.proofs.lemmas.Bool.{eqb-true}
use Rattle.std.proofs.lemmas.List.{length-drop, length-take-le, map-append, take-append-drop}
use Rattle.std.proofs.lemmas.Option.{none-some, same_Some}
use Rattle.std.proofs.lemmas.Slice.Eq.{bytes_eq-Decides}
use Rattle.tuple_codec.specs.Item.{Item}
use Rattle.tuple_codec.specs.Reading.{tuple_at}
use Rattle.tuple_codec.specs.Spelling.{Spells, spelling}
use Rattle.tuple_codec.proofs.Again.{tuple_again}
use Rattle.tuple_codec.proofs.Outcome.{Answers, low_from_bytes, tuple_answers}
use Rattle.metadata.specs.declared.cells.Cell.{Cell}
use Rattle.metadata.specs.declared.definition.TypeDefinition.{TypeDefinition}
use Rattle.metadata.specs.declared.index.IndexDefinition.{IndexDefinition}
use Rattle.metadata.specs.declared.refusal.Refusal.{Refusal}
use Rattle.metadata.specs.Cell.{IsCell, all_fit, item_of, items_of}
use Rattle.metadata.specs.Layout.{Pair, entries_prefix, entry_pair, record_key}
use Rattle.metadata.specs.Record.{Record, primary_key, record_in}
use Rattle.metadata.specs.Stored.{AreStoredAs, filled}
use Rattle.metadata.proofs.CellItems.{cells_of-items_of}
use Rattle.metadata.proofs.StoredCells.{value_spells}
use Rattle.metadata.proofs.StoredOnce.{filled_cells, made_is, stored_cells}
use Rattle.planner.specs.Layout.{column_kinds, entry_primary_key, is_entry, is_primary_key, keyed, stored_record}
use Rattle.planner.specs.Pack.{unpack}
use Rattle.planner.specs.ReadBack.{AreOfEntry, CellsAreReadBack, EntriesAreReadBack, IsStoredPair, RecordsAreReadBack, TuplesAreReadBack}
use Rattle.planner.proofs.CodecLaws.{reads_back}
use Rattle.planner.proofs.Lists.{all_each}
use Rattle.planner.proofs.RisingKeys.{IsEntryWith, entry_key, entry_read}
use Rattle.planner.proofs.Unpacked.{packed_so, unpack_spelled}

-- ---- tuples and cells

pub tuples_back : TuplesAreReadBack
tuples_back bytes tuple are = (
  by (tuple_at bytes) (λ read ok. subst (Answers bytes) ok (tuple_answers bytes (low_from_bytes bytes are))),
  λ spelled. ap (λ r. elim r [ Ok read ↦ Some read.0 | Err fault ↦ None ]) (tuple_again tuple bytes spelled),
)
  where
    by : {E : Type 0} (r : Result (List Item × List ℕ) E) → ((read : List Item × List ℕ) → r ≡ Ok read → Spells read.0 bytes) → elim r [ Ok read ↦ Some read.0 | Err fault ↦ None ] ≡ Some tuple → Spells tuple bytes
    by (Ok read) spells e = subst (λ t. Spells t bytes) (same_Some read.0 tuple e) (spells read refl)
    by (Err fault) spells e = absurd (none-some tuple e)

pub cells_back : CellsAreReadBack
cells_back bytes cells = (packed_so bytes cells, λ stored. unpack_spelled (items_of cells) bytes (value_spells bytes cells stored) ∙ cells_of-items_of cells stored.cells)

-- ---- records

-- the record of cells, where the key is its key
at_key : (prefix : List ℕ) (t : TypeDefinition) (pair : Pair) (r : Record) (stored cells : List Cell) → AreStoredAs pair.1 stored → filled t stored ≡ Some cells →
    option_and_then (keyed prefix pair.0) (result_ok (record_in t cells)) ≡ Some r → IsStoredPair prefix t pair r
at_key prefix t pair r stored cells are fills e = by_made (record_in t cells) refl e
  where
    by_key : (found : Record) (b : Bool) → record_in t cells ≡ Ok found → bytes_eq pair.0 (record_key prefix (primary_key found)) ≡ b → cond b (Some found) None ≡ Some r → IsStoredPair prefix t pair r
    by_key found false made same is = absurd (none-some r is)
    by_key found true made same is =
        let its_cells : cells ≡ found.cells = ap (λ (x : Record). x.cells) (made_is t cells found made) in
        subst (IsStoredPair prefix t pair) (same_Some found r is) (record {
          key = (bytes_eq-Decides pair.0 (record_key prefix (primary_key found))).0 same;
          stored = record {
            made = ap (record_in t) (sym its_cells) ∙ made;
            cells = subst (All IsCell) its_cells (filled_cells t stored cells are.cells fills);
            has_key = refl;
            stored = stored;
            fills = fills ∙ ap Some its_cells;
            has_value = are.has_value;
          };
        })

    by_made : (res : Result Record Refusal) → record_in t cells ≡ res → option_and_then (keyed prefix pair.0) (result_ok res) ≡ Some r → IsStoredPair prefix t pair r
    by_made (Ok found) made is = by_key found (bytes_eq pair.0 (record_key prefix (primary_key found))) made refl is
    by_made (Err refusal) made is = absurd (none-some r is)

read_record : (prefix : List ℕ) (t : TypeDefinition) (pair : Pair) (r : Record) → stored_record prefix t pair ≡ Some r → IsStoredPair prefix t pair r
read_record prefix t pair r e = by_cells (unpack pair.1) refl e
  where
    by_filled : (stored : List Cell) (o : Option (List Cell)) → AreStoredAs pair.1 stored → filled t stored ≡ o → option_and_then (keyed prefix pair.0) (option_and_then (λ cells. result_ok (record_in t cells)) o) ≡ Some r →
        IsStoredPair prefix t pair r
    by_filled stored None are fills is = absurd (none-some r is)
    by_filled stored (Some cells) are fills is = at_key prefix t pair r stored cells are fills is

    by_cells : (o : Option (List Cell)) → unpack pair.1 ≡ o → option_and_then (keyed prefix pair.0) (option_and_then (λ cells. result_ok (record_in t cells)) (option_and_then (filled t) o)) ≡ Some r → IsStoredPair prefix t pair r
    by_cells None un is = absurd (none-some r is)
    by_cells (Some stored) un is = by_filled stored (filled t stored) (packed_so pair.1 stored un) refl is

-- a pair of a record is read as it
pub record_reads : (prefix : List ℕ) (t : TypeDefinition) (pair : Pair) (r : Record) → IsStoredPair prefix t pair r → stored_record prefix t pair ≡ Some r
record_reads prefix t pair r is =
    let s = is.stored in
    ap (λ o. option_and_then back (option_and_then (λ cells. result_ok (record_in t cells)) (option_and_then (filled t) o))) ((cells_back pair.1 s.stored).1 (stored_cells t (spelling (primary_key r)) pair.1 r s))
    ∙ ap (λ o. option_and_then back (option_and_then (λ cells. result_ok (record_in t cells)) o)) s.fills
    ∙ ap (λ o. option_and_then back (result_ok o)) s.made
    ∙ ap (λ b. if b then Some r else None) ((bytes_eq-Decides pair.0 (record_key prefix (primary_key r))).1 is.key)
  where
    back : Record → Option Record
    back = keyed prefix pair.0

pub records_back : RecordsAreReadBack
records_back prefix t pair r = (read_record prefix t pair r, record_reads prefix t pair r)

-- ---- entries

module _ (prefix : List ℕ) (t : TypeDefinition) (i : IndexDefinition) where
  -- what a pair of an entry with this primary key is
  abbrev IsPairWith : Pair → List Cell → Type 0
  IsPairWith pair key = (columns : List Cell) × AreOfEntry t i columns key × (pair ≡ entry_pair prefix i.number (record { columns = columns; key = items_of key }))

  no_value : (pair : Pair) (key : List Cell) → entry_primary_key prefix t i pair ≡ Some key → pair.1 ≡ []
  no_value pair key e = by (length pair.1 == 0) refl e
    where
      empty : (value : List ℕ) → length value ≡ 0 → value ≡ []
      empty [] is = refl
      empty (b ∷ value) is = cc

      by : (b : Bool) → (length pair.1 == 0) ≡ b →
          (if b then option_and_then (λ cells. if is_entry t i cells then Some (drop (length i.columns) cells) else None) (unpack (drop (length (entries_prefix prefix i.number)) pair.0)) else None) ≡ Some key → pair.1 ≡ []
      by true is read = empty pair.1 (eqb-true (length pair.1) 0 is)
      by false is read = absurd (none-some key read)

  read_entry : (pair : Pair) (rest : List ℕ) (key : List Cell) → pair.0 ≡ entries_prefix prefix i.number ++ rest → entry_primary_key prefix t i pair ≡ Some key → IsPairWith pair key
  read_entry pair rest key begins e =
      let n : ℕ = length i.columns in
      let entry : IsEntryWith prefix t i pair key = entry_read prefix t i pair key e in
      let cells : List Cell = entry.cells in
      let behind : drop (length (entries_prefix prefix i.number)) pair.0 ≡ rest = ap (drop (length (entries_prefix prefix i.number))) begins ∙ drop-append_seam (entries_prefix prefix i.number) rest in
      let stored : AreStoredAs rest cells = packed_so rest cells (ap unpack (sym behind) ∙ entry.unpacked) in
      let k = entry_key prefix t i pair key e in
      let some : length cells - n ≡ suc (length k.cells) = sym (length-drop n cells) ∙ ap length (entry.key_is ∙ k.is) in
      let whole : take n cells ++ key ≡ cells = ap (λ w. take n cells ++ w) (sym entry.key_is) ∙ take-append-drop n cells in
      let its_key : pair.0 ≡ entries_prefix prefix i.number ++ spelling (items_of (take n cells) ++ items_of key) =
      begins ∙ ap (λ w. entries_prefix prefix i.number ++ w) (stored.has_value ∙ ap (λ w. spelling (items_of w)) (sym whole) ∙ ap spelling (map-append item_of (take n cells) key)) in
      let its_value : pair.1 ≡ [] = no_value pair key e in (
        take n cells,
        record {
          count = length-take-le n cells (omega (arith, some));
          fit = first_so _ _ entry.fits;
          primary = ap (is_primary_key t) (sym entry.key_is) ∙ second_so (all_fit (column_kinds t i) (take n cells)) _ entry.fits;
          are_stored = subst (All IsCell) (sym whole) stored.cells;
        },
        λ j. (its_key j, its_value j),
      )

  -- the pair of an entry is read as its primary key
  entry_reads : (columns key : List Cell) → AreOfEntry t i columns key → entry_primary_key prefix t i (entry_pair prefix i.number (record { columns = columns; key = items_of key })) ≡ Some key
  entry_reads columns key of =
      ap (λ w. option_and_then cut (unpack w)) (drop-append_seam (entries_prefix prefix i.number) (spelling (items_of columns ++ items_of key)))
      ∙ ap (λ w. option_and_then cut (unpack (spelling w))) (sym (map-append item_of columns key))
      ∙ ap (option_and_then cut) (reads_back (columns ++ key) (all_each IsCell (columns ++ key) of.are_stored))
      ∙ ap (λ b. if b then Some (drop (length i.columns) (columns ++ key)) else None) its_entry
      ∙ ap Some behind
    where
      cut : List Cell → Option (List Cell)
      cut cells = if is_entry t i cells then Some (drop (length i.columns) cells) else None

      behind : drop (length i.columns) (columns ++ key) ≡ key
      behind = ap (λ k. drop k (columns ++ key)) (sym of.count) ∙ drop-append_seam columns key

      front : take (length i.columns) (columns ++ key) ≡ columns
      front = ap (λ k. take k (columns ++ key)) (sym of.count) ∙ take-append_seam columns key

      its_entry : is_entry t i (columns ++ key) ≡ true
      its_entry = (λ k. all_fit (column_kinds t i) (front k) && is_primary_key t (behind k)) ∙ (λ k. of.fit k && of.primary k)

pub entries_back : EntriesAreReadBack
entries_back prefix t i pair key begins = (
  read_entry prefix t i pair begins.0 key begins.1,
  λ is. ap (entry_primary_key prefix t i) is.2 ∙ entry_reads prefix t i is.0 key is.1,
)
