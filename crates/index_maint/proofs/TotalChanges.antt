-- A COUNT or SUM index is written only where it changes.
use Rattle.std.proofs.Common.{◌≡◌, arith, ℕ, ◌+◌, ◌%◌, ◌^◌, ◌<◌, ◌==◌, Bool, true, false, cond, ◌&&◌, ◌||◌, List, [], ◌∷◌, ◌++◌, Option, Some, None, inl, inr, refl, sym, ap, subst, ◌∙◌}
use Rattle.std.specs.Prelude.{All}
use Rattle.std.proofs.lemmas.Bool.{eqb-true, eqb-false, or_cases, true≢false, false_from_ne_true}
use Rattle.std.proofs.lemmas.List.{append-nil}
use Rattle.std.specs.FinMap.{get}
use Rattle.std.specs.List.{filter, sum_by}
use Rattle.std.specs.Option.{option_map}
use Rattle.std.specs.Ordering.{is_eq}
use Rattle.kv_core.specs.Addition.{added, bytes_of}
use Rattle.kv_core.specs.Bytes.{key_cmp}
use Rattle.kv_core.specs.Change.{write_range, write_ranges}
use Rattle.kv_core.specs.Map.{is_just, value_after_all}
use Rattle.kv_core.specs.Range.{contains, covers, point}
use Rattle.kv_core.specs.declared.change.Mutation.{Mutation}
use Rattle.kv_core.specs.declared.change.Mutation.TheVariants.{Add}
use Rattle.kv_core.proofs.Changes.{get-after_all-value}
use Rattle.kv_core.proofs.Order.{tied_keys, tied_swap}
use Rattle.kv_core.proofs.Pairs.{contains-point-is}
use Rattle.metadata.specs.declared.cells.Cell.{Cell}
use Rattle.metadata.specs.declared.index.IndexDefinition.{IndexDefinition}
use Rattle.metadata.specs.Cell.{IsCell}
use Rattle.metadata.specs.Record.{Record}
use Rattle.metadata.specs.Records.{of_type}
use Rattle.index_maint.specs.Laws.{OnlyChanges}
use Rattle.index_maint.specs.Totals.{Clearing, HasTotals, IsTotal, Part, Share, add_amount, clear_zero, difference, group_key, group_of, part_changes, part_of, same_group, take_amount, total, total_changes}
use Rattle.index_maint.proofs.TotalLaw.{CountsOnes}
use Rattle.index_maint.proofs.TotalParts.{AreCells, added-total, are_cells, new_storable, number_of-total, old_storable, one_left, same_group-equal, same_group-itself, same_group_key, take_left, value_after_all-append}

-- ---- one amount

-- an amount that isn't 0 changes a total
total_differs : (value : Option (List ℕ)) (n amount : ℕ) → (amount ≡ 0 → ⊥) → amount < 2 ^ 64 → IsTotal value (n % 2 ^ 64) → Some (added value (bytes_of 8 amount)) ≡ value → ⊥
total_differs value n amount some small is same =
    let sum = added-total value n amount is in
    let again : IsTotal value ((n + amount) % 2 ^ 64) = subst (λ v. IsTotal v ((n + amount) % 2 ^ 64)) same sum in
    let numbers : n % 2 ^ 64 ≡ (n + amount) % 2 ^ 64 = sym (number_of-total value n is) ∙ number_of-total value (n + amount) again in
    apart n amount some small numbers
  where
    apart : (n amount : ℕ) → (amount ≡ 0 → ⊥) → amount < 2 ^ 64 → n % 2 ^ 64 ≡ (n + amount) % 2 ^ 64 → ⊥
    apart n amount some small same = omega arith

-- what is written of an amount covers the key of its group alone, and nothing where it is 0
covers_group : (prefix : List ℕ) (number : ℕ) (to : List Cell) (amount : ℕ) (at : List ℕ) → covers (write_ranges (add_amount prefix number to amount)) at ≡ true →
    (is_eq (key_cmp at (group_key prefix number to)) ≡ true) × (amount ≡ 0 → ⊥)
covers_group prefix number to amount at h = by_zero (amount == 0) refl h
  where
    here : (b : Bool) → (b || false) ≡ true → b ≡ true
    here true h = refl
    here false h = h

    by_zero : (z : Bool) → (amount == 0) ≡ z → covers (write_ranges (cond z [] (Add (group_key prefix number to) (bytes_of 8 amount) ∷ []))) at ≡ true →
        (is_eq (key_cmp at (group_key prefix number to)) ≡ true) × (amount ≡ 0 → ⊥)
    by_zero true zero_is h = absurd (true≢false (sym h))
    by_zero false some h =
        let key = group_key prefix number to in
        (tied_swap at key ∙ sym (contains-point-is key at) ∙ here (contains (point key) at) h, eqb-false amount 0 some)

-- where a key that it covers has a total, it has another value then
one_differs : (prefix : List ℕ) (number : ℕ) (to : List Cell) (amount n : ℕ) (at : List ℕ) (value : Option (List ℕ)) → amount < 2 ^ 64 →
    covers (write_ranges (add_amount prefix number to amount)) at ≡ true → IsTotal value (n % 2 ^ 64) → value_after_all (add_amount prefix number to amount) at value ≡ value → ⊥
one_differs prefix number to amount n at value small h is same =
    let parts = covers_group prefix number to amount at h in
    by_zero (amount == 0) refl parts.0 parts.1 same
  where
    by_zero : (z : Bool) → (amount == 0) ≡ z → is_eq (key_cmp at (group_key prefix number to)) ≡ true → (amount ≡ 0 → ⊥) →
        value_after_all (cond z [] (Add (group_key prefix number to) (bytes_of 8 amount) ∷ [])) at value ≡ value → ⊥
    by_zero true zero_is here some same = some (eqb-true amount 0 zero_is)
    by_zero false other here some same =
        total_differs value n amount some small is (sym (ap (λ b. cond b (Some (added value (bytes_of 8 amount))) value) here) ∙ same)

-- ---- what is written where one part gives way to another

difference_small : (old new : ℕ) → difference old new < 2 ^ 64
difference_small old new = omega arith

covers-append : (cs ds : List Mutation) (at : List ℕ) → covers (write_ranges (cs ++ ds)) at ≡ (covers (write_ranges cs) at || covers (write_ranges ds) at)
covers-append [] ds at = refl
covers-append (c ∷ cs) ds at =
    ap (λ b. contains (write_range c) at || b) (covers-append cs ds at) ∙ grouped (contains (write_range c) at) (covers (write_ranges cs) at) (covers (write_ranges ds) at)
  where
    grouped : (a b c : Bool) → (a || (b || c)) ≡ ((a || b) || c)
    grouped true b c = refl
    grouped false b c = refl

-- whether groups are the same doesn't depend on which comes first
other_way : (a b : List Cell) → All IsCell a → same_group a b ≡ false → same_group b a ≡ false
other_way a b h differ =
    false_from_ne_true (same_group b a)
    (λ same. true≢false (sym (subst (λ c. same_group a c ≡ true) (sym (same_group-equal b a same)) (same_group-itself a h)) ∙ differ))

-- the key of one group isn't that of another
not_its : (prefix : List ℕ) (number : ℕ) (a b : List Cell) (at : List ℕ) → All IsCell a → All IsCell b → is_eq (key_cmp at (group_key prefix number a)) ≡ true → same_group a b ≡ false →
    is_eq (key_cmp at (group_key prefix number b)) ≡ false
not_its prefix number a b at h k here differ =
    ap (λ x. is_eq (key_cmp x (group_key prefix number b))) (tied_keys at (group_key prefix number a) here) ∙ same_group_key prefix number b a k h ∙ differ

-- a total stands at the key of each group
abbrev AtGroups : List ℕ → ℕ → List ℕ → Option (List ℕ) → Type 0
AtGroups prefix number at value = (group : List Cell) → All IsCell group → is_eq (key_cmp at (group_key prefix number group)) ≡ true → (n : ℕ) × IsTotal value (n % 2 ^ 64)

part_differs : (prefix : List ℕ) (number : ℕ) (group : List Cell) (old new : ℕ) (at : List ℕ) (value : Option (List ℕ)) → All IsCell group → AtGroups prefix number at value →
    covers (write_ranges (add_amount prefix number group (difference old new))) at ≡ true → value_after_all (add_amount prefix number group (difference old new)) at value ≡ value → ⊥
part_differs prefix number group old new at value cells totals h same =
    let found = totals group cells (covers_group prefix number group (difference old new) at h).0 in
    one_differs prefix number group (difference old new) found.0 at value (difference_small old new) h found.1 same

-- where 1 is taken from a total that is cleared at 0 and it stays as it was, there was none
one_taken : (prefix : List ℕ) (number : ℕ) (to : List Cell) (n : ℕ) (at : List ℕ) (value : Option (List ℕ)) → is_eq (key_cmp at (group_key prefix number to)) ≡ true → IsTotal value (n % 2 ^ 64) →
    value_after_all (take_amount true prefix number to 1) at value ≡ value → value ≡ None
one_taken prefix number to n at value here is same = by_zero (is_just zeros (Some sum)) refl
  where
    zeros : List ℕ
    zeros = bytes_of 8 0

    sum : List ℕ
    sum = added value (bytes_of 8 (difference 1 0))

    then : value_after_all (take_amount true prefix number to 1) at value ≡ cond (is_just zeros (Some sum)) None (Some sum)
    then = ap (λ e. cond (e && is_just zeros (cond e (Some sum) value)) None (cond e (Some sum) value)) here

    some : difference 1 0 ≡ 0 → ⊥
    some none = absurd (omega (arith, none))

    by_zero : (z : Bool) → is_just zeros (Some sum) ≡ z → value ≡ None
    by_zero true zero_is = sym same ∙ then ∙ ap (λ b. cond b None (Some sum)) zero_is
    by_zero false other = absurd (total_differs value n (difference 1 0) some (difference_small 1 0) is (sym (then ∙ ap (λ b. cond b None (Some sum)) other) ∙ same))

-- what takes an amount covers the key of its group alone
covers_taken : (clears : Bool) (prefix : List ℕ) (number : ℕ) (to : List Cell) (amount : ℕ) (at : List ℕ) → covers (write_ranges (take_amount clears prefix number to amount)) at ≡ true →
    is_eq (key_cmp at (group_key prefix number to)) ≡ true
covers_taken clears prefix number to amount at h =
    elim (or_cases (covers (write_ranges adds) at) (covers (write_ranges (cond clears (clear_zero prefix number to) [])) at) (sym (covers-append adds (cond clears (clear_zero prefix number to) []) at) ∙ h)) [
      | inl first ↦ (covers_group prefix number to (difference amount 0) at first).0
      | inr second ↦ by_clears clears second
    ]
  where
    adds : List Mutation
    adds = add_amount prefix number to (difference amount 0)

    here : (b : Bool) → (b || false) ≡ true → b ≡ true
    here true h = refl
    here false h = h

    by_clears : (c : Bool) → covers (write_ranges (cond c (clear_zero prefix number to) [])) at ≡ true → is_eq (key_cmp at (group_key prefix number to)) ≡ true
    by_clears true h = let key = group_key prefix number to in tied_swap at key ∙ sym (contains-point-is key at) ∙ here (contains (point key) at) h
    by_clears false h = absurd (true≢false (sym h))

-- a part that goes: its total has another value then, or none before and after
part_taken : (clears : Bool) (prefix : List ℕ) (number : ℕ) (old : Part) (at : List ℕ) (value : Option (List ℕ)) → All IsCell old.group → (clears ≡ true → old.amount ≡ 1) → AtGroups prefix number at value →
    covers (write_ranges (take_amount clears prefix number old.group old.amount)) at ≡ true → value_after_all (take_amount clears prefix number old.group old.amount) at value ≡ value → value ≡ None
part_taken true prefix number old at value cells one totals h same =
    let here = covers_taken true prefix number old.group old.amount at h in
    let found = totals old.group cells here in
    one_taken prefix number old.group found.0 at value here found.1 (subst (λ amount. value_after_all (take_amount true prefix number old.group amount) at value ≡ value) (one refl) same)
part_taken false prefix number old at value cells one totals h same =
    let all = append-nil (add_amount prefix number old.group (difference old.amount 0)) in
    absurd (part_differs prefix number old.group old.amount 0 at value cells totals (subst (λ ms. covers (write_ranges ms) at ≡ true) all h) (subst (λ ms. value_after_all ms at value ≡ value) all same))

-- where totals are cleared the part is 1
abbrev IsOneIf : Bool → Option Part → Type 0
IsOneIf clears None = Unit {0}
IsOneIf clears (Some part) = clears ≡ true → part.amount ≡ 1

parts_differ : (clears : Bool) (prefix : List ℕ) (number : ℕ) (old new : Option Part) (at : List ℕ) (value : Option (List ℕ)) → AreCells old → AreCells new → IsOneIf clears old → AtGroups prefix number at value →
    covers (write_ranges (part_changes clears prefix number old new)) at ≡ true → value_after_all (part_changes clears prefix number old new) at value ≡ value → value ≡ None
parts_differ clears prefix number None None at value o n one totals h same = absurd (true≢false (sym h))
parts_differ clears prefix number None (Some new) at value o n one totals h same = absurd (part_differs prefix number new.group 0 new.amount at value n totals h same)
parts_differ clears prefix number (Some old) None at value o n one totals h same = part_taken clears prefix number old at value o one totals h same
parts_differ clears prefix number (Some old) (Some new) at value o n one totals h same = by_same (same_group old.group new.group) refl h same
  where
    by_same : (t : Bool) → same_group old.group new.group ≡ t →
        covers (write_ranges (cond t (add_amount prefix number new.group (difference old.amount new.amount))
        (take_amount clears prefix number old.group old.amount ++ add_amount prefix number new.group (difference 0 new.amount)))) at ≡ true →
        value_after_all (cond t (add_amount prefix number new.group (difference old.amount new.amount))
        (take_amount clears prefix number old.group old.amount ++ add_amount prefix number new.group (difference 0 new.amount))) at value ≡ value → value ≡ None
    by_same true is h same = absurd (part_differs prefix number new.group old.amount new.amount at value n totals h same)
    by_same false differ h same =
        let first = take_amount clears prefix number old.group old.amount in
        let second = add_amount prefix number new.group (difference 0 new.amount) in
        let stays : value_after_all second at (value_after_all first at value) ≡ value = sym (value_after_all-append first second at value) ∙ same in
        elim (or_cases (covers (write_ranges first) at) (covers (write_ranges second) at) (sym (covers-append first second at) ∙ h)) [
          | inl in_first ↦
              let here = covers_taken clears prefix number old.group old.amount at in_first in
              let left = one_left prefix number new.group (difference 0 new.amount) at (value_after_all first at value) (not_its prefix number old.group new.group at o n here differ) in
              part_taken clears prefix number old at value o one totals in_first (sym left ∙ stays)
          | inr in_second ↦
              let here = (covers_group prefix number new.group (difference 0 new.amount) at in_second).0 in
              let left = take_left clears prefix number old.group old.amount at value (not_its prefix number new.group old.group at n o here (other_way old.group new.group o differ)) in
              absurd (part_differs prefix number new.group 0 new.amount at value n totals in_second (sym (ap (value_after_all second at) left) ∙ stays))
        ]

one_if : (share : Share) (clears : Clearing) → CountsOnes share clears → (index : IndexDefinition) (one : Option Record) → IsOneIf (clears index) (option_map (part_of share index) one)
one_if share clears ones index None = tt
one_if share clears ones index (Some r) = λ clear. ones index clear r

-- LAW: only what changes is written
pub totals_only_change : (share : Share) (clears : Clearing) → CountsOnes share clears → OnlyChanges (λ p i rs m. HasTotals share clears p i rs m) (λ p i o n. total_changes share clears p i o n)
totals_only_change share clears ones prefix index key old new records m at given before after has covers_at same =
    parts_differ (clears index) prefix index.number (option_map (part_of share index) old) (option_map (part_of share index) new) at (get m at)
    (are_cells share index old (old_storable key old new records given)) (are_cells share index new (new_storable key old new records given)) (one_if share clears ones index old) totals covers_at
    (sym (get-after_all-value (total_changes share clears prefix index old new) m at) ∙ same)
  where
    totals : AtGroups prefix index.number at (get m at)
    totals group cells here = (
      sum_by (share index) (filter (λ r. same_group group (group_of index r)) (of_type index.type_number records)),
      subst (λ k. IsTotal (get m k) (total share index group records)) (sym (tied_keys at (group_key prefix index.number group) here)) (has.totals group cells),
    )
