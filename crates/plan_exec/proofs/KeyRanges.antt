-- The keys of records and entries lie below the end of the keys, and the ranges of scans are ranges of keys.
use Rattle.std.specs.Prelude.{◌≡◌, ℕ, ℤ, Bool, true, false, not, ◌&&◌, cond, List, [], ◌∷◌, ◌++◌, filter, reverse, refl, IsTrue, pos}
use Rattle.std.specs.FinMap.{entries, get, get-entries}
use Rattle.std.specs.FinMap.Entries.{find}
use Rattle.std.specs.Ordering.{is_le, is_lt, ordering_reverse}
use Rattle.std.specs.declared.cmp.Ordering.{Ordering}
use Rattle.std.specs.declared.cmp.Ordering.TheVariants.{Less, Equal, Greater}
use Rattle.std.specs.Cmp.Lexicographic.{nat_list_cmp_total}
use Rattle.std.proofs.Common.{ap, sym, ◌∙◌, append_assoc, append-nil}
use Rattle.tuple_codec.specs.Item.{int}
use Rattle.tuple_codec.specs.Order.{bytes_cmp}
use Rattle.tuple_codec.specs.Spelling.{int_spelling, item_spelling, outer, spelling}
use Rattle.tuple_codec.specs.Spelling as written
use Rattle.kv_core.specs.Bytes.{end_of_keys, key_le, key_lt}
use Rattle.kv_core.specs.Map.{Map}
use Rattle.kv_core.specs.Range.{contains, is_key_range}
use Rattle.kv_core.proofs.Order.{le_from, le_from_lt, le_gives, le_refl, le_trans}
use Rattle.metadata.specs.declared.cells.Cell.{Cell}
use Rattle.metadata.specs.declared.definition.TypeDefinition.{TypeDefinition}
use Rattle.metadata.specs.declared.index.IndexDefinition.{IndexDefinition}
use Rattle.metadata.specs.Cell.{items_of}
use Rattle.record_store.proofs.Keys.{below_with, record_below}
use Rattle.metadata.specs.Layout.{Pair, entries_prefix, record_key, records_prefix}
use Rattle.planner.specs.Meaning.{pairs_scanned}
use Rattle.planner.specs.Range as planned
use Rattle.plan_exec.specs.Reads.{pairs_within, scan_range}

-- a number is packed behind a key
pub number_behind : (key front new : List ℕ) (n : ℕ) (number : ℤ) → front ≡ key → new ≡ front ++ item_spelling outer (int number) → number ≡ pos n → new ≡ key ++ spelling (int (pos n) ∷ [])
number_behind key front new n number same pushed is =
    pushed ∙ (λ i. same i ++ item_spelling outer (int (is i))) ∙ ap (λ s. key ++ s) (sym (append-nil (item_spelling outer (int (pos n)))))

module _ (prefix : List ℕ) (below : key_lt prefix end_of_keys ≡ true) where
  -- what begins with the key of the records of a type, or of the entries of an index, is below the end of the keys
  pub records_below : (t : TypeDefinition) (key rest : List ℕ) → key ≡ records_prefix prefix t.number → IsTrue (key_lt (key ++ rest) end_of_keys)
  unfolding int_spelling written.byte_count
  records_below t key rest is =
      ap (λ k. key_lt (k ++ rest) end_of_keys) is
      ∙ ap (λ k. key_lt k end_of_keys) (append_assoc prefix (spelling (int (pos 1) ∷ int (pos t.number) ∷ [])) rest)
      ∙ below_with prefix (0x15 ∷ 0x01 ∷ (spelling (int (pos t.number) ∷ []) ++ rest)) below refl

  pub entries_below : (i : IndexDefinition) (key rest : List ℕ) → key ≡ entries_prefix prefix i.number → IsTrue (key_lt (key ++ rest) end_of_keys)
  unfolding int_spelling written.byte_count
  entries_below i key rest is =
      ap (λ k. key_lt (k ++ rest) end_of_keys) is
      ∙ ap (λ k. key_lt k end_of_keys) (append_assoc prefix (spelling (int (pos 2) ∷ int (pos i.number) ∷ [])) rest)
      ∙ below_with prefix (0x15 ∷ 0x02 ∷ (spelling (int (pos i.number) ∷ []) ++ rest)) below refl

  pub key_below : (cells : List Cell) (key : List ℕ) → key ≡ record_key prefix (items_of cells) → IsTrue (key_lt key end_of_keys)
  key_below cells key is = ap (λ k. key_lt k end_of_keys) is ∙ record_below prefix (items_of cells) below

-- the range that is read for a scan is a range of keys
pub is_range : (key : List ℕ) (range : planned.PlanRange) → ((rest : List ℕ) → IsTrue (key_lt (key ++ rest) end_of_keys)) → is_key_range (scan_range key range) ≡ true
is_range key range below = by (key_lt (key ++ range.begin) (key ++ range.end)) refl
  where
    by : (b : Bool) → key_lt (key ++ range.begin) (key ++ range.end) ≡ b →
        (key_le (key ++ range.begin) (cond b (key ++ range.end) (key ++ range.begin)) && key_le (cond b (key ++ range.end) (key ++ range.begin)) end_of_keys) ≡ true
    by true is = λ i. le_from_lt (key ++ range.begin) (key ++ range.end) is i && le_from_lt (key ++ range.end) end_of_keys (below range.end) i
    by false is = λ i. le_refl (key ++ range.begin) i && le_from_lt (key ++ range.begin) end_of_keys (below range.begin) i

-- ---- what is in a range

le_is : (a b : List ℕ) → key_le a b ≡ is_le (bytes_cmp a b)
le_is a b = ap (λ o. not (is_lt o)) (nat_list_cmp_total.antisymm b a) ∙ by (bytes_cmp a b)
  where
    by : (o : Ordering) → not (is_lt (ordering_reverse o)) ≡ is_le o
    by Less = refl
    by Equal = refl
    by Greater = refl

-- the keys of the range that is read are those of the planner's range behind the key
pub same_within : (key : List ℕ) (range : planned.PlanRange) (k : List ℕ) → contains (scan_range key range) k ≡ planned.range_has (planned.behind key range) k
same_within key range k = by (key_lt (key ++ range.begin) (key ++ range.end)) refl ∙ ap (λ b. b && key_lt k (key ++ range.end)) (le_is (key ++ range.begin) k)
  where
    none : (b : Bool) → key_le (key ++ range.begin) k ≡ b → key_lt (key ++ range.begin) (key ++ range.end) ≡ false →
        (b && key_lt k (key ++ range.begin)) ≡ (b && key_lt k (key ++ range.end))
    none true le ge =
        le_gives (key ++ range.begin) k le
        ∙ sym (le_gives (key ++ range.end) k (le_trans (key ++ range.end) (key ++ range.begin) k (le_from (key ++ range.end) (key ++ range.begin) ge) le))
    none false le ge = refl

    by : (b : Bool) → key_lt (key ++ range.begin) (key ++ range.end) ≡ b →
        (key_le (key ++ range.begin) k && key_lt k (cond b (key ++ range.end) (key ++ range.begin))) ≡ (key_le (key ++ range.begin) k && key_lt k (key ++ range.end))
    by true is = refl
    by false is = none (key_le (key ++ range.begin) k) refl is

-- PAIRS: those in the range that is read are those that the planner speaks of
pub scanned_within : (key : List ℕ) (range : planned.PlanRange) (reversed : Bool) (pairs : List Pair) → pairs_within (scan_range key range) reversed pairs ≡ pairs_scanned (planned.behind key range) reversed pairs
scanned_within key range reversed pairs = λ i. cond reversed (reverse (filter (λ (p : Pair). same_within key range p.0 i) pairs)) (filter (λ (p : Pair). same_within key range p.0 i) pairs)

-- VALUE: what a map has at a key is what is found among its pairs
pub value_is : (m : Map) (key : List ℕ) → get m key ≡ find bytes_cmp key (entries m)
value_is m key = get-entries m key
