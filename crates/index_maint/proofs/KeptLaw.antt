-- An index follows its records, of whatever kind it is and in whatever state.
use Rattle.std.proofs.Common.{◌≡◌, ℕ, ◌%◌, ◌^◌, Bool, true, false, cond, ◌==◌, map, List, [], ◌∷◌, ◌++◌, Option, Some, None, inl, inr, refl, sym, ap, subst, ◌∙◌}
use Rattle.std.specs.FinMap.{get}
use Rattle.std.specs.BTreeMap.{is_at}
use Rattle.std.specs.List.{AllByRecursion, filter, flat_map, sum_by}
use Rattle.std.specs.Map.{lookup}
use Rattle.std.proofs.lemmas.Bool.{cases_Bool, eqb-true, eqb-false}
use Rattle.tuple_codec.specs.Item.{Item}
use Rattle.tuple_codec.specs.Spelling.{spelling}
use Rattle.tuple_codec.specs.Subspace.{BeginsWith}
use Rattle.kv_core.specs.Bytes.{key_cmp}
use Rattle.kv_core.specs.Map.{Map, after_all}
use Rattle.kv_core.specs.Range.{KeyRange}
use Rattle.kv_core.specs.declared.change.Mutation.{Mutation}
use Rattle.kv_core.proofs.Changes.{after_all-append}
use Rattle.kv_core.proofs.Stored.{get-stored, stored}
use Rattle.range_set.specs.Gaps.{SamePositions, has_position}
use Rattle.metadata.specs.declared.index.IndexDefinition.{IndexDefinition}
use Rattle.metadata.specs.declared.index.IndexKind.{IndexKind}
use Rattle.metadata.specs.declared.index.IndexKind.TheVariants.{Value, Count, Sum}
use Rattle.metadata.specs.declared.index.State.{State}
use Rattle.metadata.specs.declared.index.State.TheVariants.{Readable, WriteOnly, Disabled}
use Rattle.metadata.specs.Cell.{items_of}
use Rattle.metadata.specs.Record.{Record}
use Rattle.metadata.specs.Records.{of_type}
use Rattle.index_maint.specs.Entries.{entry_of}
use Rattle.index_maint.specs.Built.{built_records, position, position_of}
use Rattle.index_maint.specs.Changes.{entries_map}
use Rattle.index_maint.specs.Kept.{HasDefined, HasKept, HasPart, build_writes, changes_by, kept_writes, part_changes_by}
use Rattle.index_maint.specs.KeptLaws.{KeptFollows, KeptIgnoresOthers, KeptOfPositions, KeptWithin, KeptWritesWithin}
use Rattle.index_maint.specs.KeptLaws.{BuildEnds, BuildStarts, BuildSteps, BuildWithin}
use Rattle.index_maint.specs.Layout.{entries_prefix, entry_pair, entry_pairs}
use Rattle.index_maint.specs.Laws.{IsIndexed, IsOther, IsReplacement, replaced}
use Rattle.index_maint.specs.Totals.{Clearing, HasTotals, IsTotal, Share, count_clears, count_share, group_of, same_group, sum_clears, sum_share, total, total_changes}
use Rattle.index_maint.proofs.BuildLaw.{part_built, part_starts}
use Rattle.index_maint.proofs.RecordIndexes.{IsTyped, flat_map-filter, indexed_by, other_by}
use Rattle.index_maint.proofs.Several.{AreApart, SameUnder, all_leave, each_follows}
use Rattle.index_maint.proofs.SomeEntries.{some_follow}
use Rattle.index_maint.proofs.TotalLaw.{count_ones, sum_ones, totals_follow, totals_has_within, totals_ignore_others, totals_within}
use Rattle.index_maint.proofs.ValueLaw.{other_type, value_follows, value_has_within, value_ignores_others, value_within}
use Rattle.index_maint.proofs.WholeLaw.{part_whole}
use Rattle.index_maint.proofs.WriteOnly.{built_follows, built_ignores_others, built_replaced, built_replacement, out_replaced}

-- ---- by kind

defined_follows : (kind : IndexKind) (prefix : List ℕ) (index : IndexDefinition) (key : List Item) (old new : Option Record) (records : List Record) (m : Map) →
    IsReplacement key old new records → IsIndexed index old → IsIndexed index new →
    HasDefined kind prefix index records m → HasDefined kind prefix index (replaced key new records) (after_all (changes_by kind prefix index old new) m)
defined_follows Value prefix index key old new records m given a b has = value_follows prefix index key old new records m given a b has
defined_follows Count prefix index key old new records m given a b has = totals_follow count_share count_clears count_ones prefix index key old new records m given a b has
defined_follows Sum prefix index key old new records m given a b has = totals_follow sum_share sum_clears sum_ones prefix index key old new records m given a b has

defined_ignores : (kind : IndexKind) (prefix : List ℕ) (index : IndexDefinition) (key : List Item) (old new : Option Record) (records : List Record) (m : Map) →
    IsReplacement key old new records → IsOther index old → IsOther index new → HasDefined kind prefix index records m → HasDefined kind prefix index (replaced key new records) m
defined_ignores Value prefix index key old new records m given a b has = value_ignores_others prefix index key old new records m given a b has
defined_ignores Count prefix index key old new records m given a b has = totals_ignore_others count_share count_clears prefix index key old new records m given a b has
defined_ignores Sum prefix index key old new records m given a b has = totals_ignore_others sum_share sum_clears prefix index key old new records m given a b has

changes_within : (kind : IndexKind) (prefix : List ℕ) (index : IndexDefinition) (old new : Option Record) (m : Map) (key : List ℕ) → (BeginsWith (entries_prefix prefix index.number) key → ⊥) →
    get (after_all (changes_by kind prefix index old new) m) key ≡ get m key
changes_within Value prefix index old new m key apart = value_within prefix index old new m key apart
changes_within Count prefix index old new m key apart = totals_within count_share count_clears prefix index old new m key apart
changes_within Sum prefix index old new m key apart = totals_within sum_share sum_clears prefix index old new m key apart

defined_within : (kind : IndexKind) (prefix : List ℕ) (index : IndexDefinition) (records : List Record) (m n : Map) → SameUnder prefix index m n →
    HasDefined kind prefix index records m → HasDefined kind prefix index records n
defined_within Value prefix index records m n same has = value_has_within prefix index records m n same has
defined_within Count prefix index records m n same has = totals_has_within count_share count_clears prefix index records m n same has
defined_within Sum prefix index records m n same has = totals_has_within sum_share sum_clears prefix index records m n same has

-- where no record is of the type and nothing stands there, a map has the index
totals_none : (share : Share) (clears : Clearing) (prefix : List ℕ) (index : IndexDefinition) (records : List Record) (m : Map) → of_type index.type_number records ≡ [] →
    ((bytes : List ℕ) → get m (entries_prefix prefix index.number ++ bytes) ≡ None) → HasTotals share clears prefix index records m
totals_none share clears prefix index records m empty none = record {
  totals = λ group cells.
      subst (λ v. IsTotal v (total share index group records)) (sym (none (spelling (items_of group))))
      (ap (λ rs. sum_by (share index) (filter (λ r. same_group group (group_of index r)) rs) % 2 ^ 64) empty);
  groups = λ bytes apart. none bytes;
  cleared = λ clear group cells empty_is. none (spelling (items_of group));
}

pub defined_none : (kind : IndexKind) (prefix : List ℕ) (index : IndexDefinition) (records : List Record) (m : Map) → of_type index.type_number records ≡ [] →
    ((bytes : List ℕ) → get m (entries_prefix prefix index.number ++ bytes) ≡ None) → HasDefined kind prefix index records m
defined_none Value prefix index records m empty none = λ bytes.
    none bytes
    ∙ sym (get-stored (entry_pairs prefix index records) (entries_prefix prefix index.number ++ bytes)
    ∙ ap (λ rs. lookup (is_at (key_cmp (entries_prefix prefix index.number ++ bytes))) (map (entry_pair prefix index.number) (map (entry_of index) rs))) empty)
defined_none Count prefix index records m empty none = totals_none count_share count_clears prefix index records m empty none
defined_none Sum prefix index records m empty none = totals_none sum_share sum_clears prefix index records m empty none

-- ---- write-only

part_follows : (kind : IndexKind) (prefix : List ℕ) (index : IndexDefinition) (ranges : List KeyRange) (key : List Item) (old new : Option Record) (records : List Record) (m : Map) →
    IsReplacement key old new records → IsIndexed index old → IsIndexed index new →
    HasPart kind prefix index ranges records m → HasPart kind prefix index ranges (replaced key new records) (after_all (part_changes_by kind prefix index (has_position ranges (position_of key)) old new) m)
part_follows Value prefix index ranges key old new records m given a b has = some_follow prefix index ranges key old new records m given a b has
part_follows Count prefix index ranges key old new records m given a b has =
    built_follows ranges (λ p i rs n. HasTotals count_share count_clears p i rs n) (λ p i o n. total_changes count_share count_clears p i o n) (totals_follow count_share count_clears count_ones) prefix index key old new records m given a b has
part_follows Sum prefix index ranges key old new records m given a b has =
    built_follows ranges (λ p i rs n. HasTotals sum_share sum_clears p i rs n) (λ p i o n. total_changes sum_share sum_clears p i o n) (totals_follow sum_share sum_clears sum_ones) prefix index key old new records m given a b has

-- entries of the records at built positions stay where a record of another type gives way to one
built_pairs : (prefix : List ℕ) (index : IndexDefinition) (ranges : List KeyRange) (key : List Item) (old new : Option Record) (records : List Record) → IsReplacement key old new records →
    IsOther index old → IsOther index new → entry_pairs prefix index (built_records ranges (replaced key new records)) ≡ entry_pairs prefix index (built_records ranges records)
built_pairs prefix index ranges key old new records given a b = elim (cases_Bool (has_position ranges (position_of key))) [
  | inl covered ↦
      ap (entry_pairs prefix index) (built_replaced ranges key old new records given covered)
      ∙ other_type prefix index key old new (built_records ranges records) (built_replacement ranges key old new records given covered) a b
  | inr bare ↦ ap (entry_pairs prefix index) (out_replaced ranges key old new records given bare)
]

part_ignores : (kind : IndexKind) (prefix : List ℕ) (index : IndexDefinition) (ranges : List KeyRange) (key : List Item) (old new : Option Record) (records : List Record) (m : Map) →
    IsReplacement key old new records → IsOther index old → IsOther index new → HasPart kind prefix index ranges records m → HasPart kind prefix index ranges (replaced key new records) m
part_ignores Value prefix index ranges key old new records m given a b has = record {
  only = λ rest value is. ap (λ ps. get (stored ps) (entries_prefix prefix index.number ++ rest)) (other_type prefix index key old new records given a b) ∙ has.only rest value is;
  at_built = λ rest value is. has.at_built rest value (ap (λ ps. get (stored ps) (entries_prefix prefix index.number ++ rest)) (sym (built_pairs prefix index ranges key old new records given a b)) ∙ is);
}
part_ignores Count prefix index ranges key old new records m given a b has =
    built_ignores_others ranges (λ p i rs n. HasTotals count_share count_clears p i rs n) (totals_ignore_others count_share count_clears) prefix index key old new records m given a b has
part_ignores Sum prefix index ranges key old new records m given a b has =
    built_ignores_others ranges (λ p i rs n. HasTotals sum_share sum_clears p i rs n) (totals_ignore_others sum_share sum_clears) prefix index key old new records m given a b has

part_within : (kind : IndexKind) (prefix : List ℕ) (index : IndexDefinition) (ranges : List KeyRange) (records : List Record) (m n : Map) → SameUnder prefix index m n →
    HasPart kind prefix index ranges records m → HasPart kind prefix index ranges records n
part_within Value prefix index ranges records m n same has = record {
  only = λ rest value is. has.only rest value (same rest ∙ is);
  at_built = λ rest value is. sym (same rest) ∙ has.at_built rest value is;
}
part_within Count prefix index ranges records m n same has = totals_has_within count_share count_clears prefix index (built_records ranges records) m n same has
part_within Sum prefix index ranges records m n same has = totals_has_within sum_share sum_clears prefix index (built_records ranges records) m n same has

part_changes_within : (kind : IndexKind) (prefix : List ℕ) (index : IndexDefinition) (at_built : Bool) (old new : Option Record) (m : Map) (key : List ℕ) → (BeginsWith (entries_prefix prefix index.number) key → ⊥) →
    get (after_all (part_changes_by kind prefix index at_built old new) m) key ≡ get m key
part_changes_within Value prefix index at_built old new m key apart = value_within prefix index old new m key apart
part_changes_within Count prefix index true old new m key apart = totals_within count_share count_clears prefix index old new m key apart
part_changes_within Count prefix index false old new m key apart = refl
part_changes_within Sum prefix index true old new m key apart = totals_within sum_share sum_clears prefix index old new m key apart
part_changes_within Sum prefix index false old new m key apart = refl

-- ---- by state

pub kept_follows : KeptFollows
kept_follows Readable prefix index ranges key old new records m given a b has = defined_follows index.kind prefix index key old new records m given a b has
kept_follows WriteOnly prefix index ranges key old new records m given a b has = part_follows index.kind prefix index ranges key old new records m given a b has
kept_follows Disabled prefix index ranges key old new records m given a b has = has

pub kept_ignores : KeptIgnoresOthers
kept_ignores Readable prefix index ranges key old new records m given a b has = defined_ignores index.kind prefix index key old new records m given a b has
kept_ignores WriteOnly prefix index ranges key old new records m given a b has = part_ignores index.kind prefix index ranges key old new records m given a b has
kept_ignores Disabled prefix index ranges key old new records m given a b has = has

pub kept_within : KeptWithin
kept_within Readable prefix index ranges records m n same has = defined_within index.kind prefix index records m n same has
kept_within WriteOnly prefix index ranges records m n same has = part_within index.kind prefix index ranges records m n same has
kept_within Disabled prefix index ranges records m n same has = λ bytes. sym (same bytes) ∙ has bytes

pub kept_writes_within : KeptWritesWithin
kept_writes_within Readable prefix index at_built old new m key apart = changes_within index.kind prefix index old new m key apart
kept_writes_within WriteOnly prefix index at_built old new m key apart = part_changes_within index.kind prefix index at_built old new m key apart
kept_writes_within Disabled prefix index at_built old new m key apart = refl

-- the records at built positions are told by the positions
same_built : (ranges others : List KeyRange) → SamePositions ranges others → (records : List Record) → built_records ranges records ≡ built_records others records
same_built ranges others same [] = refl
same_built ranges others same (r ∷ records) =
    (λ i. cond (same (position r) i) (r ∷ same_built ranges others same records i) (same_built ranges others same records i))

pub kept_of_positions : KeptOfPositions
kept_of_positions Readable prefix index ranges others records m same has = has
kept_of_positions WriteOnly prefix index ranges others records m same has = by_kind index.kind has
  where
    alike : built_records ranges records ≡ built_records others records
    alike = same_built ranges others same records

    by_kind : (kind : IndexKind) → HasPart kind prefix index ranges records m → HasPart kind prefix index others records m
    by_kind Value h = record {
      only = h.only;
      at_built = λ rest value is. h.at_built rest value (ap (λ rs. get (entries_map prefix index rs) (entries_prefix prefix index.number ++ rest)) alike ∙ is);
    }
    by_kind Count h = subst (λ rs. HasTotals count_share count_clears prefix index rs m) alike h
    by_kind Sum h = subst (λ rs. HasTotals sum_share sum_clears prefix index rs m) alike h
kept_of_positions Disabled prefix index ranges others records m same has = has

-- ---- building

pub kept_starts : BuildStarts
kept_starts prefix index records m bare = part_starts index.kind prefix index records m bare

pub kept_built : BuildSteps
kept_built prefix index range ranges records m gap storable has = part_built index.kind prefix index range ranges records m gap storable has

pub kept_whole : BuildEnds
kept_whole prefix index ranges records m whole storable has = part_whole index.kind prefix index ranges records m whole storable has

pub build_within : BuildWithin
build_within prefix index [] m key apart = refl
build_within prefix index (r ∷ records) m key apart =
    ap (λ n. get n key) (after_all-append (changes_by index.kind prefix index None (Some r)) (build_writes prefix index records) m)
    ∙ build_within prefix index records (after_all (changes_by index.kind prefix index None (Some r)) m) key apart
    ∙ changes_within index.kind prefix index None (Some r) m key apart

-- ---- all indexes

module _ (prefix : List ℕ) (states : ℕ → State) (built : ℕ → List KeyRange) (number : ℕ) (key : List Item) (old new : Option Record) where
  -- what is written for one index: where it is of the type, by its state
  abbrev pub writes_of : IndexDefinition → List Mutation
  writes_of index = kept_writes (states index.number) prefix index (has_position (built index.number) (position_of key)) old new

  abbrev writes_if : IndexDefinition → List Mutation
  writes_if index = cond (index.type_number == number) (writes_of index) []

  within_if : (index : IndexDefinition) (m : Map) (at : List ℕ) → (BeginsWith (entries_prefix prefix index.number) at → ⊥) → get (after_all (writes_if index) m) at ≡ get m at
  within_if index m at apart = by_test (index.type_number == number)
    where
      by_test : (b : Bool) → get (after_all (cond b (writes_of index) []) m) at ≡ get m at
      by_test true = kept_writes_within (states index.number) prefix index (has_position (built index.number) (position_of key)) old new m at apart
      by_test false = refl

  one_kept : (records : List Record) → IsReplacement key old new records → IsTyped number old → IsTyped number new → (index : IndexDefinition) (m : Map) →
      HasKept (states index.number) prefix index (built index.number) records m → HasKept (states index.number) prefix index (built index.number) (replaced key new records) (after_all (writes_if index) m)
  one_kept records given before after index m has = elim (cases_Bool (index.type_number == number)) [
    | inl same ↦
        let is = eqb-true index.type_number number same in
        subst (λ b. HasKept (states index.number) prefix index (built index.number) (replaced key new records) (after_all (cond b (writes_of index) []) m)) (sym same)
        (kept_follows (states index.number) prefix index (built index.number) key old new records m given (indexed_by number index old before is) (indexed_by number index new after is) has)
    | inr other ↦
        let differ = eqb-false index.type_number number other in
        subst (λ b. HasKept (states index.number) prefix index (built index.number) (replaced key new records) (after_all (cond b (writes_of index) []) m)) (sym other)
        (kept_ignores (states index.number) prefix index (built index.number) key old new records m given (other_by number index old before differ) (other_by number index new after differ) has)
  ]

  -- ALL KEPT: each index of a store, of whatever kind and in whatever state, follows where a record gives way to another
  pub all_kept : (indexes : List IndexDefinition) (records : List Record) (m : Map) → AreApart indexes → IsReplacement key old new records → IsTyped number old → IsTyped number new →
      AllByRecursion (λ index. HasKept (states index.number) prefix index (built index.number) records m) indexes →
      AllByRecursion (λ index. HasKept (states index.number) prefix index (built index.number) (replaced key new records) (after_all (flat_map writes_of (filter (λ i. i.type_number == number) indexes)) m)) indexes
  all_kept indexes records m apart given before after all =
      subst (λ written. AllByRecursion (λ index. HasKept (states index.number) prefix index (built index.number) (replaced key new records) (after_all written m)) indexes)
      (sym (flat_map-filter writes_of (λ i. i.type_number == number) indexes))
      (each_follows prefix writes_if within_if
      (λ index n. HasKept (states index.number) prefix index (built index.number) records n) (λ index n. HasKept (states index.number) prefix index (built index.number) (replaced key new records) n)
      (λ index n o. kept_within (states index.number) prefix index (built index.number) records n o) (λ index n o. kept_within (states index.number) prefix index (built index.number) (replaced key new records) n o)
      indexes m apart (steps indexes) all)
    where
      steps : (left : List IndexDefinition) →
          AllByRecursion (λ i. (n : Map) → HasKept (states i.number) prefix i (built i.number) records n → HasKept (states i.number) prefix i (built i.number) (replaced key new records) (after_all (writes_if i) n)) left
      steps [] = tt
      steps (i ∷ left) = (λ n has. one_kept records given before after i n has, steps left)

  -- ELSEWHERE: a key that is under no index's prefix stays
  pub all_kept_leave : (indexes : List IndexDefinition) (m : Map) (at : List ℕ) → AllByRecursion (λ i. BeginsWith (entries_prefix prefix i.number) at → ⊥) indexes →
      get (after_all (flat_map writes_of (filter (λ i. i.type_number == number) indexes)) m) at ≡ get m at
  all_kept_leave indexes m at apart =
      ap (λ written. get (after_all written m) at) (flat_map-filter writes_of (λ i. i.type_number == number) indexes) ∙ all_leave prefix writes_if within_if indexes m at apart
