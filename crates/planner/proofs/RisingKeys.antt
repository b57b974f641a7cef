-- Where an index scan's range fixes all columns, the primary keys that it finds rise, whatever pairs the map has.
use Rattle.std.specs.Prelude.{◌≡◌, ℕ, zero, suc, Bool, true, false, cond, ◌==◌, List, [], ◌∷◌, ◌++◌, length, take, drop, Option, Some, None, refl, option_and_then, if◌then◌else◌, nat_lt, pos}
use Rattle.std.proofs.Common.{ap, sym, ◌∙◌, subst}
use Rattle.std.proofs.Math.Seq.{drop-append_seam}
use Rattle.std.proofs.lemmas.Option.{none-some, same_Some}
use Rattle.std.proofs.lemmas.Slice.Eq.{bytes_eq-Decides}
use Rattle.std.specs.Cmp.{first_so, second_so}
use Rattle.std.specs.Cmp.Lexicographic.{nat_list_cmp_total}
use Rattle.std.specs.FinMap.{nat_cmp-IsAntisymmetric, slice_cmp-IsAntisymmetric}
use Rattle.std.specs.Ordering.{is_le, is_lt, ordering_then}
use Rattle.std.specs.declared.cmp.Ordering.{Ordering}
use Rattle.std.specs.declared.cmp.Ordering.TheVariants.{Less, Equal, Greater}
use Rattle.tuple_codec.specs.Order.{bytes_cmp}
use Rattle.metadata.specs.declared.cells.Cell.{Cell}
use Rattle.metadata.specs.declared.cells.Cell.TheVariants.{Int}
use Rattle.metadata.specs.declared.definition.TypeDefinition.{TypeDefinition}
use Rattle.metadata.specs.declared.index.IndexDefinition.{IndexDefinition}
use Rattle.metadata.specs.Cell.{IsCell, all_fit}
use Rattle.metadata.specs.Layout.{Pair, entries_prefix}
use Rattle.metadata.specs.Order.{cells_cmp, is_tail}
use Rattle.std.specs.List.{AllByRecursion}
use Rattle.planner.specs.Layout.{column_kinds, entry_primary_key, is_entry, is_primary_key}
use Rattle.planner.specs.Meaning.{of_each, pairs_scanned, scanned_keys}
use Rattle.planner.specs.Pack.{pack, unpack}
use Rattle.planner.specs.Plan.{IndexScan}
use Rattle.planner.specs.Range.{PlanRange, behind, range_has}
use Rattle.planner.specs.Rising.{EntriesRise}
use Rattle.planner.proofs.Lists.{Gave, Pairwise, all_each, each_gave, gave, pairwise_gave, pairwise_where}
use Rattle.planner.proofs.Ranges.{Each}
use Rattle.planner.proofs.Residual.{Member}
use Rattle.planner.proofs.Rows.{member_of_where}
use Rattle.planner.proofs.Scans.{begins_behind, bytes_behind, within_behind}
use Rattle.planner.proofs.Sorted.{Rise}
use Rattle.planner.proofs.Sorts.{behind_fixed, pack_order}
use Rattle.planner.proofs.Unpacked.{begins_as, packed_so}
use Rattle.planner.proofs.CodecLaws.{codec_laws}

-- ---- scans forward

-- the keys of the pairs that a scan forward reads rise, and are in its range
pub pairs_rise : (range : PlanRange) (reversed : Bool) (pairs : List Pair) → reversed ≡ false → Rise pairs → Rise (pairs_scanned range reversed pairs)
pairs_rise range true pairs e rise = absurd (cc)
pairs_rise range false pairs e rise = pairwise_where (λ p q. bytes_cmp p.0 q.0 ≡ Less) (λ p. range_has range p.0) pairs rise

pub in_range : (range : PlanRange) (reversed : Bool) (pairs : List Pair) → reversed ≡ false → (p : Pair) → Member p (pairs_scanned range reversed pairs) → range_has range p.0 ≡ true
in_range range true pairs e p m = absurd (cc)
in_range range false pairs e p m = (member_of_where (λ q. range_has range q.0) p pairs m).1

-- ---- what begins below FF

is_less : (o : Ordering) → is_lt o ≡ true → o ≡ Less
is_less Less e = refl
is_less Equal e = absurd (cc)
is_less Greater e = absurd (cc)

-- what comes before an end that isn't behind FF comes before FF, and begins below it
before_end : (y e : List ℕ) → is_lt (bytes_cmp y e) ≡ true → is_le (bytes_cmp e (0xff ∷ [])) ≡ true → bytes_cmp y (0xff ∷ []) ≡ Less
before_end y e lt le = by (bytes_cmp e (0xff ∷ [])) refl le
  where
    less : bytes_cmp y e ≡ Less
    less = is_less (bytes_cmp y e) lt

    by : (o : Ordering) → bytes_cmp e (0xff ∷ []) ≡ o → is_le o ≡ true → bytes_cmp y (0xff ∷ []) ≡ Less
    by Less is h = nat_list_cmp_total.trans y e (0xff ∷ []) less is
    by Equal is h = ap (bytes_cmp y) (sym (slice_cmp-IsAntisymmetric nat_cmp-IsAntisymmetric e (0xff ∷ []) is)) ∙ less
    by Greater is h = absurd (cc)

tail_before : (y : List ℕ) → bytes_cmp y (0xff ∷ []) ≡ Less → is_tail y ≡ true
tail_before [] e = refl
tail_before (b ∷ bs) e = by (nat_lt b 0xff) (b == 0xff) e
  where
    not_before_nil : (s : List ℕ) → bytes_cmp s [] ≡ Less → ⊥
    not_before_nil [] h = cc
    not_before_nil (x ∷ s) h = cc

    by : (t u : Bool) → ordering_then (cond t Less (cond u Equal Greater)) (bytes_cmp bs []) ≡ Less → t ≡ true
    by true u h = refl
    by false true h = absurd (not_before_nil bs h)
    by false false h = absurd (cc)

-- ---- a range behind a prefix and a pack

each_drop : {A : Type 0} (P : A → Type 0) (n : ℕ) (xs : List A) → Each P xs → Each P (drop n xs)
each_drop P zero xs e = e
each_drop P (suc n) [] e = tt
each_drop P (suc n) (x ∷ xs) e = each_drop P n xs e.1

dropped : (key bytes whole : List ℕ) → whole ≡ key ++ bytes → drop (length key) whole ≡ bytes
dropped key bytes whole e = ap (drop (length key)) e ∙ drop-append_seam key bytes

-- what a key in the range begins with, and what stands behind it
record IsInRange (key front : List ℕ) (range : PlanRange) (whole : List ℕ) : Type 0 where
  pub bytes : List ℕ
  pub rest : List ℕ
  pub key_is : whole ≡ key ++ bytes
  pub bytes_are : bytes ≡ front ++ rest
  pub within : range_has range rest ≡ true

-- a key in a range behind a prefix and a front begins with both
range_split : (key front : List ℕ) (range : PlanRange) (whole : List ℕ) → range_has (behind key (behind front range)) whole ≡ true → IsInRange key front range whole
range_split key front range whole h =
    let a : (bytes : List ℕ) × (whole ≡ key ++ bytes) = begins_behind key (behind front range) whole h in
    let inner : range_has (behind front range) a.0 ≡ true = sym (within_behind key (behind front range) a.0) ∙ ap (range_has (behind key (behind front range))) (sym a.1) ∙ h in
    let b : (rest : List ℕ) × (a.0 ≡ front ++ rest) = begins_behind front range a.0 inner in
    record {
      bytes = a.0;
      rest = b.0;
      key_is = a.1;
      bytes_are = b.1;
      within = sym (within_behind front range b.0) ∙ ap (range_has (behind front range)) (sym b.1) ∙ inner;
    }

tail_within : (range : PlanRange) (rest : List ℕ) → is_le (bytes_cmp range.end (0xff ∷ [])) ≡ true → range_has range rest ≡ true → is_tail rest ≡ true
tail_within range rest below h = tail_before rest (before_end rest range.end (second_so (is_le (bytes_cmp range.begin rest)) _ h) below)

-- the bytes are the pack of these cells
record IsPackOf (bytes : List ℕ) (cells : List Cell) : Type 0 where
  pub is : bytes ≡ pack cells
  pub stored : Each IsCell cells

-- what is unpacked is such as the codec packs
unpacked_stored : (bytes : List ℕ) (cells : List Cell) → unpack bytes ≡ Some cells → Each IsCell cells
unpacked_stored bytes cells un = all_each IsCell cells (packed_so bytes cells un).cells

-- bytes that begin with the pack of fixed cells are the pack of these and of what stands behind as many cells
pack_behind : (fixed cells key : List Cell) (bytes rest : List ℕ) → Each IsCell fixed → is_tail rest ≡ true → unpack bytes ≡ Some cells → bytes ≡ pack fixed ++ rest → drop (length fixed) cells ≡ key → IsPackOf bytes (fixed ++ key)
pack_behind fixed cells key bytes rest f low un begins key_is =
    let packed : bytes ≡ pack cells = (packed_so bytes cells un).has_value in
    let stored : Each IsCell cells = unpacked_stored bytes cells un in
    let begun : (more : List Cell) × (cells ≡ fixed ++ more) = begins_as fixed cells rest f stored low (sym packed ∙ begins) in
    let more_is : begun.0 ≡ key = sym (drop-append_seam fixed begun.0) ∙ ap (drop (length fixed)) (sym begun.1) ∙ key_is in
    let same : cells ≡ fixed ++ key = begun.1 ∙ ap (λ w. fixed ++ w) more_is in
    record { is = packed ∙ ap pack same; stored = subst (Each IsCell) same stored }

-- ---- entries

-- a primary key as an entry has it: the number's pack is that of the type's, and the codec packs its cells
pub record IsKeyOf (t : TypeDefinition) (key : List Cell) : Type 0 where
  pub number : Cell
  pub cells : List Cell
  pub is : key ≡ number ∷ cells
  pub numbered : pack (number ∷ []) ≡ pack (Int (pos t.number) ∷ [])
  pub stored : Each IsCell (number ∷ cells)

-- cells that the test takes for a primary key are one
key_of : (t : TypeDefinition) (key : List Cell) → is_primary_key t key ≡ true → Each IsCell key → IsKeyOf t key
key_of t [] e w = absurd (cc)
key_of t (number ∷ cells) e w = record {
  number = number;
  cells = cells;
  is = refl;
  numbered = (bytes_eq-Decides (pack (number ∷ [])) (pack (Int (pos t.number) ∷ []))).0 (first_so _ _ e);
  stored = w;
}

-- what a pair is read as that stands for an entry with this primary key
pub record IsEntryWith (prefix : List ℕ) (t : TypeDefinition) (i : IndexDefinition) (pair : Pair) (key : List Cell) : Type 0 where
  pub cells : List Cell
  pub unpacked : unpack (drop (length (entries_prefix prefix i.number)) pair.0) ≡ Some cells
  pub fits : is_entry t i cells ≡ true
  pub key_is : drop (length i.columns) cells ≡ key

-- a pair that gives a primary key is read so
pub entry_read : (prefix : List ℕ) (t : TypeDefinition) (i : IndexDefinition) (pair : Pair) (key : List Cell) → entry_primary_key prefix t i pair ≡ Some key → IsEntryWith prefix t i pair key
entry_read prefix t i pair key e = by_value (length pair.1 == 0) e
  where
    by_form : (cells : List Cell) (b : Bool) → unpack (drop (length (entries_prefix prefix i.number)) pair.0) ≡ Some cells → is_entry t i cells ≡ b → cond b (Some (drop (length i.columns) cells)) None ≡ Some key → IsEntryWith prefix t i pair key
    by_form cells true un fits is = record { cells = cells; unpacked = un; fits = fits; key_is = same_Some (drop (length i.columns) cells) key is }
    by_form cells false un fits is = absurd (none-some key is)

    by_cells : (o : Option (List Cell)) → unpack (drop (length (entries_prefix prefix i.number)) pair.0) ≡ o → option_and_then (λ cells. if is_entry t i cells then Some (drop (length i.columns) cells) else None) o ≡ Some key → IsEntryWith prefix t i pair key
    by_cells None un is = absurd (none-some key is)
    by_cells (Some cells) un is = by_form cells (is_entry t i cells) un refl is

    by_value : (b : Bool) → (if b then option_and_then (λ cells. if is_entry t i cells then Some (drop (length i.columns) cells) else None) (unpack (drop (length (entries_prefix prefix i.number)) pair.0)) else None) ≡ Some key → IsEntryWith prefix t i pair key
    by_value true is = by_cells (unpack (drop (length (entries_prefix prefix i.number)) pair.0)) refl is
    by_value false is = absurd (none-some key is)

-- the primary key of an entry
pub entry_key : (prefix : List ℕ) (t : TypeDefinition) (i : IndexDefinition) (pair : Pair) (key : List Cell) → entry_primary_key prefix t i pair ≡ Some key → IsKeyOf t key
entry_key prefix t i pair key e =
    let entry = entry_read prefix t i pair key e in
    key_of t key
    (ap (is_primary_key t) (sym entry.key_is) ∙ second_so (all_fit (column_kinds t i) (take (length i.columns) entry.cells)) _ entry.fits)
    (subst (Each IsCell) entry.key_is (each_drop IsCell (length i.columns) entry.cells (unpacked_stored (drop (length (entries_prefix prefix i.number)) pair.0) entry.cells entry.unpacked)))

-- ---- scans of an index

module _ (prefix : List ℕ) (pairs : List Pair) (t : TypeDefinition) where
  -- the primary keys that a scan finds
  pub keys_are : (s : IndexScan) (keys : List (List Cell)) → scanned_keys prefix pairs t s ≡ Some keys → Each (IsKeyOf t) keys
  keys_are s keys means =
      let found = pairs_scanned (behind (entries_prefix prefix s.index.number) s.range) s.reverse pairs in
      each_gave (entry_primary_key prefix t s.index) (IsKeyOf t) found keys (λ p key m e. entry_key prefix t s.index p key e) (gave (entry_primary_key prefix t s.index) found keys means)

  module _ (s : IndexScan) (rises : EntriesRise s) where
    -- a pair in the scan's range, by its primary key: the columns' cells are those of the range
    record IsBehind (pair : Pair) (key : List Cell) : Type 0 where
      pub is : pair.0 ≡ entries_prefix prefix s.index.number ++ pack (rises.cells ++ key)
      pub stored : Each IsCell (rises.cells ++ key)

    -- each pair of the scan stands so
    stands_behind : (pair : Pair) (key : List Cell) → range_has (behind (entries_prefix prefix s.index.number) s.range) pair.0 ≡ true → entry_primary_key prefix t s.index pair ≡ Some key → IsBehind pair key
    stands_behind pair key within e =
        let K : List ℕ = entries_prefix prefix s.index.number in
        let split : IsInRange K (pack rises.cells) rises.rest pair.0 = range_split K (pack rises.cells) rises.rest pair.0 (ap (λ r. range_has (behind K r) pair.0) (sym rises.in_range) ∙ within) in
        let low : is_tail split.rest ≡ true = tail_within rises.rest split.rest rises.below_ff split.within in
        let entry : IsEntryWith prefix t s.index pair key = entry_read prefix t s.index pair key e in
        let un : unpack split.bytes ≡ Some entry.cells = ap unpack (sym (dropped K split.bytes pair.0 split.key_is)) ∙ entry.unpacked in
        let fixed : Each IsCell rises.cells = all_each IsCell rises.cells rises.are_stored in
        let begun : IsPackOf split.bytes (rises.cells ++ key) =
        pack_behind rises.cells entry.cells key split.bytes split.rest fixed low un split.bytes_are
        (ap (λ n. drop n entry.cells) rises.each_column ∙ entry.key_is) in
        record { is = split.key_is ∙ ap (λ w. K ++ w) begun.is; stored = begun.stored }

    -- KEYS: the primary keys that the scan finds rise
    pub keys_rise : Rise pairs → (keys : List (List Cell)) → scanned_keys prefix pairs t s ≡ Some keys → Pairwise (λ x y. cells_cmp x y ≡ Less) keys
    keys_rise rise keys means =
        let K = entries_prefix prefix s.index.number in
        let range = behind K s.range in
        let found = pairs_scanned range s.reverse pairs in
        let read = entry_primary_key prefix t s.index in
        pairwise_gave read (λ p q. bytes_cmp p.0 q.0 ≡ Less) (λ x y. cells_cmp x y ≡ Less) found keys
        (λ p q x y m n e f less.
        let at_p = stands_behind p x (in_range range s.reverse pairs rises.forward p m) e in
        let at_q = stands_behind q y (in_range range s.reverse pairs rises.forward q n) f in
        sym (behind_fixed rises.cells x y) ∙ sym (pack_order IsCell codec_laws (rises.cells ++ x) (rises.cells ++ y) at_p.stored at_q.stored)
        ∙ sym (bytes_behind K (pack (rises.cells ++ x)) (pack (rises.cells ++ y))) ∙ (λ i. bytes_cmp (sym at_p.is i) (sym at_q.is i)) ∙ less)
        (gave read found keys means) (pairs_rise range s.reverse pairs rises.forward rise)

  -- so do those that each scan of an intersection finds
  pub scans_rise : Rise pairs → (ss : List IndexScan) → AllByRecursion EntriesRise ss → (kss : List (List (List Cell))) → of_each (scanned_keys prefix pairs t) ss ≡ Some kss → Each (Pairwise (λ x y. cells_cmp x y ≡ Less)) kss
  scans_rise rise ss rises kss means = by ss kss rises (gave (scanned_keys prefix pairs t) ss kss means)
    where
      by : (zs : List IndexScan) (kss : List (List (List Cell))) → AllByRecursion EntriesRise zs → Gave (scanned_keys prefix pairs t) zs kss → Each (Pairwise (λ x y. cells_cmp x y ≡ Less)) kss
      by [] [] r g = tt
      by [] (ks ∷ kss) r g = absurd g
      by (z ∷ zs) [] r g = absurd g
      by (z ∷ zs) (ks ∷ kss) r g = (keys_rise z r.0 rise ks g.0, by zs kss r.1 g.1)
