-- A COUNT or SUM index follows its records, and what is cleared at zero is.
use Rattle.std.proofs.Common.{◌≡◌, arith, ℕ, suc, ◌+◌, ◌%◌, ◌^◌, ◌==◌, Bool, true, false, cond, ◌&&◌, List, [], ◌∷◌, ◌++◌, length, unwrap_or, Option, Some, None, refl, sym, ap, subst, ◌∙◌, zero-add}
use Rattle.std.specs.Prelude.{All}
use Rattle.std.proofs.lemmas.Bool.{eqb-true, false_from_ne_true, true≢false}
use Rattle.std.proofs.lemmas.Cmp.{tied_itself, nat_list_cmp_total}
use Rattle.std.proofs.lemmas.List.Sorted.{sum_by-IsPermutation}
use Rattle.std.proofs.lemmas.List.Sums.{sum_by-cons}
use Rattle.std.specs.FinMap.{get}
use Rattle.std.specs.List.{filter, sum_by}
use Rattle.std.specs.Option.{option_map}
use Rattle.std.specs.Ordering.{is_eq}
use Rattle.tuple_codec.specs.Item.{Item}
use Rattle.tuple_codec.specs.Spelling.{spelling}
use Rattle.tuple_codec.specs.Subspace.{BeginsWith}
use Rattle.tuple_codec.proofs.Prefixes.{cancel, cmp_behind}
use Rattle.tuple_codec.proofs.TupleOrder.{tuple_order}
use Rattle.kv_core.specs.Addition.{added, bytes_of, number_of}
use Rattle.kv_core.specs.Bytes.{key_cmp}
use Rattle.kv_core.specs.Map.{Map, after_all, is_just, value_after, value_after_all}
use Rattle.kv_core.specs.declared.change.Mutation.{Mutation}
use Rattle.kv_core.specs.declared.change.Mutation.TheVariants.{Add}
use Rattle.kv_core.proofs.Changes.{get-after_all-value}
use Rattle.kv_core.proofs.Order.{tied_keys}
use Rattle.kv_core.proofs.Sums.{bytes_of-cut, length-bytes_of, number-bytes_of}
use Rattle.metadata.specs.declared.cells.Cell.{Cell}
use Rattle.metadata.specs.declared.index.IndexDefinition.{IndexDefinition}
use Rattle.metadata.specs.Cell.{IsCell, cells_at, items_of}
use Rattle.metadata.specs.Record.{Record, primary_key}
use Rattle.metadata.specs.Records.{IsStorable, with_record, without_record}
use Rattle.metadata.proofs.CellItems.{all-cells_at, are_items-items_of, items_of-injective}
use Rattle.index_maint.specs.Entries.{is_indexed}
use Rattle.index_maint.specs.Layout.{entries_prefix}
use Rattle.index_maint.specs.Totals.{Clearing, HasTotals, IsGroup, IsTotal, Part, Share, add_amount, clear_zero, count_clears, count_share, difference, group_key, group_of, in_group, part_changes, part_of, same_group, sum_clears, sum_share, take_amount, total, total_changes}
use Rattle.index_maint.specs.Laws.{IsIndexed, IsOther, IsReplacement, replaced}
use Rattle.index_maint.proofs.Replaced.{found_first, found_none, found_storable, put_first, skips, tied_tuples}
use Rattle.index_maint.proofs.TotalParts.{AreCells, IsNotOf, added-total, are_cells, new_storable, no_part, nothing, old_storable, one_left, part_weight, part_weight-is, parts_changed, parts_left, rest_of, same_group-equal, same_group_key, sum_where, take_left, total_after, total_before, total_is, value_after_all-append, weight}

-- ---- what is cleared

-- where totals are cleared each record counts 1
abbrev pub CountsOnes : Share → Clearing → Type 0
CountsOnes share clears = (index : IndexDefinition) → clears index ≡ true → (r : Record) → share index r ≡ 1

-- a COUNT's do, a SUM's aren't cleared
pub count_ones : CountsOnes count_share count_clears
count_ones index clear r = refl

pub sum_ones : CountsOnes sum_share sum_clears
sum_ones index clear r = absurd (true≢false (sym clear))

abbrev IsOne : Option Part → Type 0
IsOne None = Unit {0}
IsOne (Some part) = part.amount ≡ 1

are_ones : (share : Share) (index : IndexDefinition) → ((r : Record) → share index r ≡ 1) → (one : Option Record) → IsOne (option_map (part_of share index) one)
are_ones share index ones None = tt
are_ones share index ones (Some r) = ones r

-- what counts nothing together are no records, where each counts 1
none_counted : (f : Record → ℕ) → ((r : Record) → f r ≡ 1) → (rs : List Record) → sum_by f rs ≡ 0 → rs ≡ []
none_counted f one [] none = refl
none_counted f one (r ∷ rs) none = let is = one r in let sum = sum_by-cons f r rs in absurd (omega (arith, none, is, sum))

-- a group without records weighs nothing, and one that weighs nothing has none
pub none_weighs : (share : Share) (index : IndexDefinition) (group : List Cell) (records : List Record) → in_group index group records ≡ [] → sum_by (weight share index group) records ≡ 0
none_weighs share index group records empty = sym (sum_where (share index) (λ r. same_group group (group_of index r)) (λ r. is_indexed index r) records) ∙ ap (sum_by (share index)) empty

pub weighs_none : (share : Share) (index : IndexDefinition) (group : List Cell) (records : List Record) → ((r : Record) → share index r ≡ 1) → sum_by (weight share index group) records ≡ 0 → in_group index group records ≡ []
weighs_none share index group records ones none =
    none_counted (share index) ones (in_group index group records) (sum_where (share index) (λ r. same_group group (group_of index r)) (λ r. is_indexed index r) records ∙ none)

-- a part of a total that is nothing isn't of its group
not_in : (b : Bool) (amount rest : ℕ) → amount ≡ 1 → cond b amount 0 + rest ≡ 0 → b ≡ false
not_in true amount rest one none = absurd (omega (arith, one, none))
not_in false amount rest one none = refl

-- a total of 1 is cleared where 1 is taken from it
one_gone : (prefix : List ℕ) (number : ℕ) (to group : List Cell) (value : Option (List ℕ)) → All IsCell to → All IsCell group → same_group group to ≡ true → IsTotal value (1 % 2 ^ 64) →
    value_after_all (take_amount true prefix number to 1) (group_key prefix number group) value ≡ None
one_gone prefix number to group value h k same is =
    ap (λ e. cond (e && is_just zeros (cond e (Some sum) value)) None (cond e (Some sum) value)) (same_group_key prefix number to group h k ∙ same)
    ∙ ap (λ b. cond b None (Some sum)) (ap (λ s. is_eq (key_cmp s zeros)) none ∙ ap is_eq (tied_itself nat_list_cmp_total zeros))
  where
    zeros : List ℕ
    zeros = bytes_of 8 0

    sum : List ℕ
    sum = added value (bytes_of 8 (difference 1 0))

    none : sum ≡ zeros
    none = added-total value 1 (difference 1 0) is

-- where a group weighs nothing any more its total is cleared
part_cleared : (prefix : List ℕ) (number : ℕ) (old : Part) (group : List Cell) (rest : ℕ) (value : Option (List ℕ)) → All IsCell old.group → All IsCell group → old.amount ≡ 1 → rest ≡ 0 →
    (part_weight group (Some old) + rest ≡ 0 → value ≡ None) → IsTotal value ((part_weight group (Some old) + rest) % 2 ^ 64) →
    value_after_all (take_amount true prefix number old.group old.amount) (group_key prefix number group) value ≡ None
part_cleared prefix number old group rest value o k one none before is = by_group (same_group group old.group) refl
  where
    by_group : (b : Bool) → same_group group old.group ≡ b → value_after_all (take_amount true prefix number old.group old.amount) (group_key prefix number group) value ≡ None
    by_group true here =
        let weight_is : part_weight group (Some old) + rest ≡ 1 = λ i. cond (here i) (one i) 0 + none i in
        subst (λ amount. value_after_all (take_amount true prefix number old.group amount) (group_key prefix number group) value ≡ None) (sym one)
        (one_gone prefix number old.group group value o k here (subst (λ x. IsTotal value (x % 2 ^ 64)) weight_is is))
    by_group false other =
        take_left true prefix number old.group old.amount (group_key prefix number group) value (same_group_key prefix number old.group group o k ∙ other)
        ∙ before (λ i. cond (other i) old.amount 0 + none i)

parts_cleared : (prefix : List ℕ) (number : ℕ) (old new : Option Part) (group : List Cell) (rest : ℕ) (value : Option (List ℕ)) → AreCells old → AreCells new → All IsCell group → IsOne old → IsOne new →
    part_weight group new + rest ≡ 0 → (part_weight group old + rest ≡ 0 → value ≡ None) → IsTotal value ((part_weight group old + rest) % 2 ^ 64) →
    value_after_all (part_changes true prefix number old new) (group_key prefix number group) value ≡ None
parts_cleared prefix number None None group rest value o n k one_old one_new none before is = before none
parts_cleared prefix number None (Some new) group rest value o n k one_old one_new none before is =
    let other = same_group_key prefix number new.group group n k ∙ not_in (same_group group new.group) new.amount rest one_new none in
    one_left prefix number new.group (difference 0 new.amount) (group_key prefix number group) value other ∙ before (omega (arith, none))
parts_cleared prefix number (Some old) None group rest value o n k one_old one_new none before is = part_cleared prefix number old group rest value o k one_old (omega (arith, none)) before is
parts_cleared prefix number (Some old) (Some new) group rest value o n k one_old one_new none before is = by_same (same_group old.group new.group) refl
  where
    key : List ℕ
    key = group_key prefix number group

    not_new : same_group group new.group ≡ false
    not_new = not_in (same_group group new.group) new.amount rest one_new none

    none_left : rest ≡ 0
    none_left = omega (arith, none)

    other : is_eq (key_cmp key (group_key prefix number new.group)) ≡ false
    other = same_group_key prefix number new.group group n k ∙ not_new

    by_same : (t : Bool) → same_group old.group new.group ≡ t →
        value_after_all (cond t (add_amount prefix number new.group (difference old.amount new.amount))
        (take_amount true prefix number old.group old.amount ++ add_amount prefix number new.group (difference 0 new.amount))) key value ≡ None
    by_same true same =
        let not_old : same_group group old.group ≡ false = ap (same_group group) (same_group-equal old.group new.group same) ∙ not_new in
        one_left prefix number new.group (difference old.amount new.amount) key value other ∙ before (λ i. cond (not_old i) old.amount 0 + none_left i)
    by_same false differ =
        let first = take_amount true prefix number old.group old.amount in
        value_after_all-append first (add_amount prefix number new.group (difference 0 new.amount)) key value
        ∙ one_left prefix number new.group (difference 0 new.amount) key (value_after_all first key value) other
        ∙ part_cleared prefix number old group rest value o k one_old none_left before is

-- LAW: the totals of records are those of the records after one gave way to another, once the changes are written
pub totals_follow : (share : Share) (clears : Clearing) → CountsOnes share clears → (prefix : List ℕ) (index : IndexDefinition) (key : List Item) (old new : Option Record) (records : List Record) (m : Map) →
    IsReplacement key old new records → IsIndexed index old → IsIndexed index new →
    HasTotals share clears prefix index records m → HasTotals share clears prefix index (replaced key new records) (after_all (total_changes share clears prefix index old new) m)
totals_follow share clears ones prefix index key old new records m given before after has =
    let changes = total_changes share clears prefix index old new in
    let o = old_storable key old new records given in
    let n = new_storable key old new records given in
    let own = option_map (part_of share index) old in
    let newer = option_map (part_of share index) new in
    let before_is : (group : List Cell) → All IsCell group → IsTotal (get m (group_key prefix index.number group)) ((part_weight group own + rest_of share index group key records) % 2 ^ 64) =
    λ group cells.
    subst (IsTotal (get m (group_key prefix index.number group)))
    (total_is share index group records
    ∙ ap (λ x. x % 2 ^ 64) (total_before share index group key old new records given ∙ ap (λ w. w + rest_of share index group key records) (part_weight-is share index group old before)))
    (has.totals group cells) in
    record {
      totals = λ group cells.
          let at = group_key prefix index.number group in
          let rest = rest_of share index group key records in
          subst (λ v. IsTotal v (total share index group (replaced key new records))) (sym (get-after_all-value changes m at))
          (subst (IsTotal (value_after_all changes at (get m at)))
          (sym (total_is share index group (replaced key new records) ∙ ap (λ x. x % 2 ^ 64) (total_after share index group key old new records given ∙ ap (λ w. w + rest) (part_weight-is share index group new after))))
          (parts_changed (clears index) prefix index.number own newer group rest (get m at) (are_cells share index old o) (are_cells share index new n) cells (before_is group cells)));
      groups = λ bytes none.
          get-after_all-value changes m (entries_prefix prefix index.number ++ bytes)
          ∙ parts_left (clears index) prefix index.number own newer (entries_prefix prefix index.number ++ bytes)
          (get m (entries_prefix prefix index.number ++ bytes)) (no_part share prefix index bytes old o none) (no_part share prefix index bytes new n none)
          ∙ has.groups bytes none;
      cleared = λ clear group cells empty.
          let at = group_key prefix index.number group in
          let rest = rest_of share index group key records in
          let one = ones index clear in
          let none_after : part_weight group newer + rest ≡ 0 =
          ap (λ w. w + rest) (sym (part_weight-is share index group new after)) ∙ sym (total_after share index group key old new records given) ∙ none_weighs share index group (replaced key new records) empty in
          get-after_all-value changes m at
          ∙ subst (λ c. value_after_all (part_changes c prefix index.number own newer) at (get m at) ≡ None) (sym clear)
          (parts_cleared prefix index.number own newer group rest (get m at) (are_cells share index old o) (are_cells share index new n) cells (are_ones share index one old) (are_ones share index one new) none_after
          (λ none. has.cleared clear group cells
          (weighs_none share index group records one (total_before share index group key old new records given ∙ ap (λ w. w + rest) (part_weight-is share index group old before) ∙ none)))
          (before_is group cells));
    }

-- OTHER TYPE: the totals stay where a record of another type gives way to one
pub totals_ignore_others : (share : Share) (clears : Clearing) (prefix : List ℕ) (index : IndexDefinition) (key : List Item) (old new : Option Record) (records : List Record) (m : Map) →
    IsReplacement key old new records → IsOther index old → IsOther index new →
    HasTotals share clears prefix index records m → HasTotals share clears prefix index (replaced key new records) m
totals_ignore_others share clears prefix index key old new records m given before after has = record {
  totals = λ group cells.
      subst (IsTotal (get m (group_key prefix index.number group)))
      (ap (λ rs. sum_by (share index) (filter (λ r. same_group group (group_of index r)) rs) % 2 ^ 64) (sym (skips index key old new records given before after)))
      (has.totals group cells);
  groups = has.groups;
  cleared = λ clear group cells empty.
      has.cleared clear group cells (ap (λ rs. filter (λ r. same_group group (group_of index r)) rs) (sym (skips index key old new records given before after)) ∙ empty);
}

-- WITHIN: keys that don't begin with the index's prefix stay
elsewhere : (share : Share) (prefix : List ℕ) (index : IndexDefinition) (key : List ℕ) (one : Option Record) → (BeginsWith (entries_prefix prefix index.number) key → ⊥) →
    IsNotOf prefix index.number key (option_map (part_of share index) one)
elsewhere share prefix index key None apart = tt
elsewhere share prefix index key (Some r) apart =
    false_from_ne_true (is_eq (key_cmp key (group_key prefix index.number (group_of index r))))
    (λ same. apart (spelling (items_of (group_of index r)), tied_keys key (group_key prefix index.number (group_of index r)) same))

pub totals_within : (share : Share) (clears : Clearing) (prefix : List ℕ) (index : IndexDefinition) (old new : Option Record) (m : Map) (key : List ℕ) → (BeginsWith (entries_prefix prefix index.number) key → ⊥) →
    get (after_all (total_changes share clears prefix index old new) m) key ≡ get m key
totals_within share clears prefix index old new m key apart =
    get-after_all-value (total_changes share clears prefix index old new) m key
    ∙ parts_left (clears index) prefix index.number (option_map (part_of share index) old) (option_map (part_of share index) new) key (get m key)
    (elsewhere share prefix index key old apart) (elsewhere share prefix index key new apart)

-- and what a map has there doesn't matter
pub totals_has_within : (share : Share) (clears : Clearing) (prefix : List ℕ) (index : IndexDefinition) (records : List Record) (m n : Map) →
    ((bytes : List ℕ) → get m (entries_prefix prefix index.number ++ bytes) ≡ get n (entries_prefix prefix index.number ++ bytes)) →
    HasTotals share clears prefix index records m → HasTotals share clears prefix index records n
totals_has_within share clears prefix index records m n same has = record {
  totals = λ group cells. subst (λ v. IsTotal v (total share index group records)) (same (spelling (items_of group))) (has.totals group cells);
  groups = λ bytes none. sym (same bytes) ∙ has.groups bytes none;
  cleared = λ clear group cells empty. sym (same (spelling (items_of group))) ∙ has.cleared clear group cells empty;
}
