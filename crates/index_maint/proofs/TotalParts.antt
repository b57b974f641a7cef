-- What the changes of a COUNT or SUM index make of a total, and of a key that is that of no group.
use Rattle.std.proofs.Common.{◌≡◌, arith, ℕ, suc, ◌+◌, ◌%◌, ◌^◌, ◌==◌, Bool, true, false, cond, ◌&&◌, List, [], ◌∷◌, ◌++◌, length, unwrap_or, Option, Some, None, refl, sym, ap, subst, ◌∙◌, zero-add}
use Rattle.std.specs.Prelude.{All}
use Rattle.std.proofs.lemmas.Bool.{eqb-true, false_from_ne_true, true≢false}
use Rattle.std.proofs.lemmas.Cmp.{tied_itself, nat_list_cmp_total}
use Rattle.std.proofs.lemmas.List.Sorted.{sum_by-IsPermutation}
use Rattle.std.proofs.lemmas.List.Sums.{sum_by-cons}
use Rattle.std.specs.FinMap.{get}
use Rattle.std.specs.List.{filter, sum_by}
use Rattle.std.specs.Option.{option_map}
use Rattle.std.specs.Ordering.{is_eq}
use Rattle.tuple_codec.specs.Item.{Item}
use Rattle.tuple_codec.specs.Spelling.{spelling}
use Rattle.tuple_codec.specs.Subspace.{BeginsWith}
use Rattle.tuple_codec.proofs.Prefixes.{cancel, cmp_behind}
use Rattle.tuple_codec.proofs.TupleOrder.{tuple_order}
use Rattle.kv_core.specs.Addition.{added, bytes_of, number_of}
use Rattle.kv_core.specs.Bytes.{key_cmp}
use Rattle.kv_core.specs.Map.{Map, after_all, is_just, value_after, value_after_all}
use Rattle.kv_core.specs.declared.change.Mutation.{Mutation}
use Rattle.kv_core.specs.declared.change.Mutation.TheVariants.{Add}
use Rattle.kv_core.proofs.Changes.{get-after_all-value}
use Rattle.kv_core.proofs.Order.{tied_keys}
use Rattle.kv_core.proofs.Sums.{bytes_of-cut, length-bytes_of, number-bytes_of}
use Rattle.metadata.specs.declared.cells.Cell.{Cell}
use Rattle.metadata.specs.declared.index.IndexDefinition.{IndexDefinition}
use Rattle.metadata.specs.Cell.{IsCell, cells_at, items_of}
use Rattle.metadata.specs.Record.{Record, primary_key}
use Rattle.metadata.specs.Records.{IsStorable, with_record, without_record}
use Rattle.metadata.proofs.CellItems.{all-cells_at, are_items-items_of, items_of-injective}
use Rattle.index_maint.specs.Entries.{is_indexed}
use Rattle.index_maint.specs.Layout.{entries_prefix}
use Rattle.index_maint.specs.Totals.{Clearing, HasTotals, IsGroup, IsTotal, Part, Share, add_amount, clear_zero, count_clears, count_share, difference, group_key, group_of, in_group, part_changes, part_of, same_group, sum_clears, sum_share, take_amount, total, total_changes}
use Rattle.index_maint.specs.Laws.{IsIndexed, IsOther, IsReplacement, replaced}
use Rattle.index_maint.proofs.Replaced.{found_first, found_none, found_storable, put_first, skips, tied_tuples}

-- ---- stored totals

-- the bytes of a total are those of any number that is the same modulo 2 ^ 64
bytes_of-total : (n : ℕ) → bytes_of 8 (n % 2 ^ 64) ≡ bytes_of 8 n
bytes_of-total n =
    let none : n % 2 ^ 64 ≡ n % 256 ^ (8 + 0) + 0 = omega arith in
    let same : n + 0 ≡ n = omega arith in
    ap (bytes_of 8) none ∙ bytes_of-cut 8 0 n 0 ∙ ap (bytes_of 8) same

-- the number of a stored total
pub number_of-total : (value : Option (List ℕ)) (n : ℕ) → IsTotal value (n % 2 ^ 64) → number_of (unwrap_or value []) ≡ n % 2 ^ 64
number_of-total None n is = sym is
number_of-total (Some value) n is = ap number_of (is ∙ bytes_of-total n) ∙ number-bytes_of 8 n

-- ADD: an amount added to a stored total makes it the sum
pub added-total : (value : Option (List ℕ)) (n amount : ℕ) → IsTotal value (n % 2 ^ 64) → IsTotal (Some (added value (bytes_of 8 amount))) ((n + amount) % 2 ^ 64)
added-total value n amount is =
    ap (λ count. bytes_of count (number_of (unwrap_or value []) + number_of (bytes_of 8 amount))) (length-bytes_of 8 amount)
    ∙ ap (λ x. bytes_of 8 (x + number_of (bytes_of 8 amount))) (number_of-total value n is)
    ∙ ap (λ x. bytes_of 8 (n % 2 ^ 64 + x)) (number-bytes_of 8 amount)
    ∙ sym (bytes_of-total (n % 2 ^ 64 + amount % 2 ^ 64)) ∙ ap (bytes_of 8) (sums n amount)
  where
    sums : (a b : ℕ) → (a % 2 ^ 64 + b % 2 ^ 64) % 2 ^ 64 ≡ (a + b) % 2 ^ 64
    sums a b = omega arith

-- ---- the keys of groups

-- keys of groups are those of one group exactly where the test says so
pub same_group_key : (prefix : List ℕ) (number : ℕ) (a b : List Cell) → All IsCell a → All IsCell b → is_eq (key_cmp (group_key prefix number b) (group_key prefix number a)) ≡ same_group b a
same_group_key prefix number a b h k =
    ap is_eq (cmp_behind (entries_prefix prefix number) (spelling (items_of b)) (spelling (items_of a)) ∙ tuple_order (items_of b) (items_of a) (are_items-items_of b k) (are_items-items_of a h))

-- groups that are the same by the test are equal
pub same_group-equal : (a b : List Cell) → same_group a b ≡ true → a ≡ b
same_group-equal a b same = items_of-injective a b (tied_tuples (items_of a) (items_of b) same)

-- a group is the same as itself
pub same_group-itself : (a : List Cell) → All IsCell a → same_group a a ≡ true
same_group-itself a h =
    ap is_eq (sym (tuple_order (items_of a) (items_of a) (are_items-items_of a h) (are_items-items_of a h))) ∙ ap is_eq (tied_itself nat_list_cmp_total (spelling (items_of a)))

-- ---- what records count in a group

-- what a record counts in the total of a group
abbrev pub weight : Share → IndexDefinition → List Cell → Record → ℕ
weight share index group r = cond (is_indexed index r) (cond (same_group group (group_of index r)) (share index r) 0) 0

abbrev pub weight_of : Share → IndexDefinition → List Cell → Option Record → ℕ
weight_of share index group None = 0
weight_of share index group (Some r) = weight share index group r

pub sum_where : {X : Type 0} (f : X → ℕ) (p q : X → Bool) (xs : List X) → sum_by f (filter p (filter q xs)) ≡ sum_by (λ x. cond (q x) (cond (p x) (f x) 0) 0) xs
sum_where f p q [] = refl
sum_where f p q (x ∷ xs) = by_tests (q x) (p x) refl (sum_where f p q xs) ∙ sym (sum_by-cons (λ x. cond (q x) (cond (p x) (f x) 0) 0) x xs)
  where
    by_tests : (b c : Bool) → p x ≡ c → sum_by f (filter p (filter q xs)) ≡ sum_by (λ x. cond (q x) (cond (p x) (f x) 0) 0) xs →
        sum_by f (filter p (cond b (x ∷ filter q xs) (filter q xs))) ≡ cond b (cond c (f x) 0) 0 + sum_by (λ x. cond (q x) (cond (p x) (f x) 0) 0) xs
    by_tests true true is rest = ap (λ b. sum_by f (cond b (x ∷ filter p (filter q xs)) (filter p (filter q xs)))) is ∙ sum_by-cons f x (filter p (filter q xs)) ∙ ap (λ n. f x + n) rest
    by_tests true false is rest = ap (λ b. sum_by f (cond b (x ∷ filter p (filter q xs)) (filter p (filter q xs)))) is ∙ rest ∙ sym (zero-add (sum_by (λ x. cond (q x) (cond (p x) (f x) 0) 0) xs))
    by_tests false c is rest = rest ∙ sym (zero-add (sum_by (λ x. cond (q x) (cond (p x) (f x) 0) 0) xs))

-- a total is the sum of what each record counts
pub total_is : (share : Share) (index : IndexDefinition) (group : List Cell) (records : List Record) → total share index group records ≡ sum_by (weight share index group) records % 2 ^ 64
total_is share index group records = ap (λ n. n % 2 ^ 64) (sum_where (share index) (λ r. same_group group (group_of index r)) (λ r. is_indexed index r) records)

-- what the records without one key count
abbrev pub rest_of : Share → IndexDefinition → List Cell → List Item → List Record → ℕ
rest_of share index group key records = sum_by (weight share index group) (without_record key records)

pub total_before : (share : Share) (index : IndexDefinition) (group : List Cell) (key : List Item) (old new : Option Record) (records : List Record) → IsReplacement key old new records →
    sum_by (weight share index group) records ≡ weight_of share index group old + rest_of share index group key records
total_before share index group key None new records given = ap (sum_by (weight share index group)) (sym (found_none key records (sym given.found))) ∙ sym (zero-add (rest_of share index group key records))
total_before share index group key (Some old) new records given =
    sum_by-IsPermutation (weight share index group) (old ∷ without_record key records) records (found_first key old records given.ordered given.storable (sym given.found))
    ∙ sum_by-cons (weight share index group) old (without_record key records)

pub total_after : (share : Share) (index : IndexDefinition) (group : List Cell) (key : List Item) (old new : Option Record) (records : List Record) → IsReplacement key old new records →
    sum_by (weight share index group) (replaced key new records) ≡ weight_of share index group new + rest_of share index group key records
total_after share index group key old None records given = sym (zero-add (rest_of share index group key records))
total_after share index group key old (Some new) records given =
    sum_by-IsPermutation (weight share index group) (new ∷ without_record (primary_key new) records) (with_record new records) (put_first new records given.newer.0 given.ordered given.storable)
    ∙ sum_by-cons (weight share index group) new (without_record (primary_key new) records)
    ∙ ap (λ k. weight share index group new + rest_of share index group k records) given.newer.1

-- ---- what the writes make of a total

-- what an amount added to one group adds to another
abbrev pub adds : List Cell → List Cell → ℕ → ℕ
adds to group amount = cond (same_group group to) amount 0

one_added : (prefix : List ℕ) (number : ℕ) (to group : List Cell) (amount n : ℕ) (value : Option (List ℕ)) → All IsCell to → All IsCell group → IsTotal value (n % 2 ^ 64) →
    IsTotal (value_after_all (add_amount prefix number to amount) (group_key prefix number group) value) ((n + adds to group amount) % 2 ^ 64)
one_added prefix number to group amount n value h k is = by_zero (amount == 0) refl
  where
    by_zero : (z : Bool) → (amount == 0) ≡ z →
        IsTotal (value_after_all (cond z [] (Add (group_key prefix number to) (bytes_of 8 amount) ∷ [])) (group_key prefix number group) value) ((n + adds to group amount) % 2 ^ 64)
    by_zero true zero_is =
        let none = eqb-true amount 0 zero_is in
        subst (λ x. IsTotal value (x % 2 ^ 64)) (sym (ap (λ a. n + cond (same_group group to) a 0) none ∙ nothing (same_group group to))) is
      where
        nothing : (b : Bool) → n + cond b 0 0 ≡ n
        nothing true = omega arith
        nothing false = omega arith
    by_zero false some =
        subst (λ b. IsTotal (cond b (Some (added value (bytes_of 8 amount))) value) ((n + adds to group amount) % 2 ^ 64)) (sym (same_group_key prefix number to group h k))
        (by_group (same_group group to))
      where
        by_group : (b : Bool) → IsTotal (cond b (Some (added value (bytes_of 8 amount))) value) ((n + cond b amount 0) % 2 ^ 64)
        by_group true = added-total value n amount is
        by_group false = subst (λ x. IsTotal value (x % 2 ^ 64)) same is
          where
            same : n ≡ n + 0
            same = omega arith

-- ---- what the changes make of it

-- what a part counts in the total of a group
abbrev pub part_weight : List Cell → Option Part → ℕ
part_weight group None = 0
part_weight group (Some part) = adds part.group group part.amount

abbrev pub AreCells : Option Part → Type 0
AreCells None = Unit {0}
AreCells (Some part) = All IsCell part.group

pub value_after_all-append : (cs ds : List Mutation) (key : List ℕ) (value : Option (List ℕ)) → value_after_all (cs ++ ds) key value ≡ value_after_all ds key (value_after_all cs key value)
value_after_all-append [] ds key value = refl
value_after_all-append (c ∷ cs) ds key value = value_after_all-append cs ds key (value_after c key value)

-- one amount gives way to another, modulo 2 ^ 64
gives_way : (b : Bool) (old new rest : ℕ) → ((cond b old 0 + rest) + cond b (difference old new) 0) % 2 ^ 64 ≡ (cond b new 0 + rest) % 2 ^ 64
gives_way true old new rest = omega arith
gives_way false old new rest = omega arith

pub nothing : (b : Bool) (rest : ℕ) → cond b 0 0 + rest ≡ 0 + rest
nothing true rest = refl
nothing false rest = refl

pub part_comes : (prefix : List ℕ) (number : ℕ) (new : Part) (group : List Cell) (rest : ℕ) (value : Option (List ℕ)) → All IsCell new.group → All IsCell group →
    IsTotal value ((0 + rest) % 2 ^ 64) →
    IsTotal (value_after_all (add_amount prefix number new.group (difference 0 new.amount)) (group_key prefix number group) value) ((part_weight group (Some new) + rest) % 2 ^ 64)
part_comes prefix number new group rest value n k is =
    let b = same_group group new.group in
    subst (IsTotal (value_after_all (add_amount prefix number new.group (difference 0 new.amount)) (group_key prefix number group) value))
    (ap (λ x. (x + cond b (difference 0 new.amount) 0) % 2 ^ 64) (sym (nothing b rest)) ∙ gives_way b 0 new.amount rest)
    (one_added prefix number new.group group (difference 0 new.amount) (0 + rest) value n k is)

amount_goes : (prefix : List ℕ) (number : ℕ) (old : Part) (group : List Cell) (rest : ℕ) (value : Option (List ℕ)) → All IsCell old.group → All IsCell group →
    IsTotal value ((part_weight group (Some old) + rest) % 2 ^ 64) →
    IsTotal (value_after_all (add_amount prefix number old.group (difference old.amount 0)) (group_key prefix number group) value) ((0 + rest) % 2 ^ 64)
amount_goes prefix number old group rest value o k is =
    let b = same_group group old.group in
    subst (IsTotal (value_after_all (add_amount prefix number old.group (difference old.amount 0)) (group_key prefix number group) value))
    (gives_way b old.amount 0 rest ∙ ap (λ x. x % 2 ^ 64) (nothing b rest))
    (one_added prefix number old.group group (difference old.amount 0) (part_weight group (Some old) + rest) value o k is)

-- a total that is cleared where it is 0 stays a total
zero_cleared : (value : Option (List ℕ)) (n : ℕ) → IsTotal value (n % 2 ^ 64) → IsTotal (cond (is_just (bytes_of 8 0) value) None value) (n % 2 ^ 64)
zero_cleared None n is = is
zero_cleared (Some value) n is = by_zero (is_eq (key_cmp value (bytes_of 8 0))) refl
  where
    by_zero : (z : Bool) → is_eq (key_cmp value (bytes_of 8 0)) ≡ z → IsTotal (cond z None (Some value)) (n % 2 ^ 64)
    by_zero true same = sym (number_of-total (Some value) n is) ∙ ap number_of (tied_keys value (bytes_of 8 0) same) ∙ number-bytes_of 8 0
    by_zero false other = is

one_cleared : (prefix : List ℕ) (number : ℕ) (to group : List Cell) (n : ℕ) (value : Option (List ℕ)) → IsTotal value (n % 2 ^ 64) →
    IsTotal (value_after_all (clear_zero prefix number to) (group_key prefix number group) value) (n % 2 ^ 64)
one_cleared prefix number to group n value is = by_key (is_eq (key_cmp (group_key prefix number group) (group_key prefix number to)))
  where
    by_key : (b : Bool) → IsTotal (cond (b && is_just (bytes_of 8 0) value) None value) (n % 2 ^ 64)
    by_key true = zero_cleared value n is
    by_key false = is

part_goes : (clears : Bool) (prefix : List ℕ) (number : ℕ) (old : Part) (group : List Cell) (rest : ℕ) (value : Option (List ℕ)) → All IsCell old.group → All IsCell group →
    IsTotal value ((part_weight group (Some old) + rest) % 2 ^ 64) →
    IsTotal (value_after_all (take_amount clears prefix number old.group old.amount) (group_key prefix number group) value) ((0 + rest) % 2 ^ 64)
part_goes clears prefix number old group rest value o k is =
    subst (λ v. IsTotal v ((0 + rest) % 2 ^ 64)) (sym (value_after_all-append added_to (cond clears (clear_zero prefix number old.group) []) key value)) (by_clears clears)
  where
    key : List ℕ
    key = group_key prefix number group

    added_to : List Mutation
    added_to = add_amount prefix number old.group (difference old.amount 0)

    gone : IsTotal (value_after_all added_to key value) ((0 + rest) % 2 ^ 64)
    gone = amount_goes prefix number old group rest value o k is

    by_clears : (c : Bool) → IsTotal (value_after_all (cond c (clear_zero prefix number old.group) []) key (value_after_all added_to key value)) ((0 + rest) % 2 ^ 64)
    by_clears true = one_cleared prefix number old.group group (0 + rest) (value_after_all added_to key value) gone
    by_clears false = gone

pub parts_changed : (clears : Bool) (prefix : List ℕ) (number : ℕ) (old new : Option Part) (group : List Cell) (rest : ℕ) (value : Option (List ℕ)) → AreCells old → AreCells new → All IsCell group →
    IsTotal value ((part_weight group old + rest) % 2 ^ 64) →
    IsTotal (value_after_all (part_changes clears prefix number old new) (group_key prefix number group) value) ((part_weight group new + rest) % 2 ^ 64)
parts_changed clears prefix number None None group rest value o n k is = is
parts_changed clears prefix number None (Some new) group rest value o n k is = part_comes prefix number new group rest value n k is
parts_changed clears prefix number (Some old) None group rest value o n k is = part_goes clears prefix number old group rest value o k is
parts_changed clears prefix number (Some old) (Some new) group rest value o n k is = by_same (same_group old.group new.group) refl
  where
    by_same : (t : Bool) → same_group old.group new.group ≡ t →
        IsTotal (value_after_all (cond t (add_amount prefix number new.group (difference old.amount new.amount))
        (take_amount clears prefix number old.group old.amount ++ add_amount prefix number new.group (difference 0 new.amount))) (group_key prefix number group) value)
        ((part_weight group (Some new) + rest) % 2 ^ 64)
    by_same true same =
        let b = same_group group new.group in
        let one = same_group-equal old.group new.group same in
        subst (IsTotal (value_after_all (add_amount prefix number new.group (difference old.amount new.amount)) (group_key prefix number group) value))
        (ap (λ g. ((cond (same_group group g) old.amount 0 + rest) + cond b (difference old.amount new.amount) 0) % 2 ^ 64) one ∙ gives_way b old.amount new.amount rest)
        (one_added prefix number new.group group (difference old.amount new.amount) (part_weight group (Some old) + rest) value n k is)
    by_same false other =
        let first = take_amount clears prefix number old.group old.amount in
        let second = add_amount prefix number new.group (difference 0 new.amount) in
        let key = group_key prefix number group in
        subst (λ v. IsTotal v ((part_weight group (Some new) + rest) % 2 ^ 64)) (sym (value_after_all-append first second key value))
        (part_comes prefix number new group rest (value_after_all first key value) n k (part_goes clears prefix number old group rest value o k is))

-- the parts of records
pub part_weight-is : (share : Share) (index : IndexDefinition) (group : List Cell) (one : Option Record) → IsIndexed index one →
    weight_of share index group one ≡ part_weight group (option_map (part_of share index) one)
part_weight-is share index group None is = refl
part_weight-is share index group (Some r) is = ap (λ b. cond b (cond (same_group group (group_of index r)) (share index r) 0) 0) is

-- a record that is replaced and a new one can be stored
abbrev pub StorableIf : Option Record → Type 0
StorableIf None = Unit {0}
StorableIf (Some r) = IsStorable r

pub old_storable : (key : List Item) (old new : Option Record) (records : List Record) → IsReplacement key old new records → StorableIf old
old_storable key None new records given = tt
old_storable key (Some old) new records given = (found_storable key old records given.storable (sym given.found)).0

pub new_storable : (key : List Item) (old new : Option Record) (records : List Record) → IsReplacement key old new records → StorableIf new
new_storable key old None records given = tt
new_storable key old (Some new) records given = given.newer.0

pub are_cells : (share : Share) (index : IndexDefinition) (one : Option Record) → StorableIf one → AreCells (option_map (part_of share index) one)
are_cells share index None h = tt
are_cells share index (Some r) h = all-cells_at r.cells index.columns h.cells

-- ---- keys of no part

abbrev pub IsNotOf : List ℕ → ℕ → List ℕ → Option Part → Type 0
IsNotOf prefix number key None = Unit {0}
IsNotOf prefix number key (Some part) = is_eq (key_cmp key (group_key prefix number part.group)) ≡ false

pub one_left : (prefix : List ℕ) (number : ℕ) (to : List Cell) (amount : ℕ) (key : List ℕ) (value : Option (List ℕ)) → is_eq (key_cmp key (group_key prefix number to)) ≡ false →
    value_after_all (add_amount prefix number to amount) key value ≡ value
one_left prefix number to amount key value other = by_zero (amount == 0)
  where
    by_zero : (z : Bool) → value_after_all (cond z [] (Add (group_key prefix number to) (bytes_of 8 amount) ∷ [])) key value ≡ value
    by_zero true = refl
    by_zero false = ap (λ b. cond b (Some (added value (bytes_of 8 amount))) value) other

pub take_left : (clears : Bool) (prefix : List ℕ) (number : ℕ) (to : List Cell) (amount : ℕ) (key : List ℕ) (value : Option (List ℕ)) → is_eq (key_cmp key (group_key prefix number to)) ≡ false →
    value_after_all (take_amount clears prefix number to amount) key value ≡ value
take_left clears prefix number to amount key value other =
    value_after_all-append (add_amount prefix number to (difference amount 0)) (cond clears (clear_zero prefix number to) []) key value
    ∙ by_clears clears (value_after_all (add_amount prefix number to (difference amount 0)) key value)
    ∙ one_left prefix number to (difference amount 0) key value other
  where
    by_clears : (c : Bool) (mid : Option (List ℕ)) → value_after_all (cond c (clear_zero prefix number to) []) key mid ≡ mid
    by_clears true mid = ap (λ b. cond (b && is_just (bytes_of 8 0) mid) None mid) other
    by_clears false mid = refl

pub parts_left : (clears : Bool) (prefix : List ℕ) (number : ℕ) (old new : Option Part) (key : List ℕ) (value : Option (List ℕ)) → IsNotOf prefix number key old → IsNotOf prefix number key new →
    value_after_all (part_changes clears prefix number old new) key value ≡ value
parts_left clears prefix number None None key value o n = refl
parts_left clears prefix number None (Some new) key value o n = one_left prefix number new.group (difference 0 new.amount) key value n
parts_left clears prefix number (Some old) None key value o n = take_left clears prefix number old.group old.amount key value o
parts_left clears prefix number (Some old) (Some new) key value o n = by_same (same_group old.group new.group)
  where
    by_same : (t : Bool) →
        value_after_all (cond t (add_amount prefix number new.group (difference old.amount new.amount))
        (take_amount clears prefix number old.group old.amount ++ add_amount prefix number new.group (difference 0 new.amount))) key value ≡ value
    by_same true = one_left prefix number new.group (difference old.amount new.amount) key value n
    by_same false =
        value_after_all-append (take_amount clears prefix number old.group old.amount) (add_amount prefix number new.group (difference 0 new.amount)) key value
        ∙ one_left prefix number new.group (difference 0 new.amount) key (value_after_all (take_amount clears prefix number old.group old.amount) key value) n
        ∙ take_left clears prefix number old.group old.amount key value o

columns_count : (cells : List Cell) (places : List ℕ) → length (cells_at cells places) ≡ length places
columns_count cells [] = refl
columns_count cells (place ∷ places) = ap suc (columns_count cells places)

-- bytes that are no group's are those of no record's group
pub no_part : (share : Share) (prefix : List ℕ) (index : IndexDefinition) (bytes : List ℕ) (one : Option Record) → StorableIf one →
    ((group : List Cell) → IsGroup index group → bytes ≡ spelling (items_of group) → ⊥) → IsNotOf prefix index.number (entries_prefix prefix index.number ++ bytes) (option_map (part_of share index) one)
no_part share prefix index bytes None h none = tt
no_part share prefix index bytes (Some r) h none =
    false_from_ne_true (is_eq (key_cmp (entries_prefix prefix index.number ++ bytes) (group_key prefix index.number (group_of index r))))
    (λ same. none (group_of index r) (record { cells = all-cells_at r.cells index.columns h.cells; columns = columns_count r.cells index.columns })
    (cancel (entries_prefix prefix index.number) bytes (spelling (items_of (group_of index r))) (tied_keys (entries_prefix prefix index.number ++ bytes) (group_key prefix index.number (group_of index r)) same)))
