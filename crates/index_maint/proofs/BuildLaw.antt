-- What a builder writes for the records of a range makes that range built.
use Rattle.std.proofs.Common.{◌≡◌, ℕ, ◌+◌, ◌%◌, ◌^◌, arith, Bool, true, false, cond, ◌==◌, ◌&&◌, ◌||◌, List, [], ◌∷◌, ◌++◌, Option, Some, None, refl, sym, ap, subst, ◌∙◌, zero-add}
use Rattle.std.specs.Prelude.{All}
use Rattle.std.specs.FinMap.{get}
use Rattle.std.specs.List.{AllByRecursion, filter, flat_map, list_any, sum_by}
use Rattle.std.proofs.lemmas.Bool.{and_parts, true≢false}
use Rattle.std.proofs.lemmas.List.Sums.{sum_by-cons}
use Rattle.tuple_codec.specs.Spelling.{spelling}
use Rattle.kv_core.specs.Map.{Map, after_all, value_after_all}
use Rattle.kv_core.specs.Range.{KeyRange, contains}
use Rattle.kv_core.specs.declared.change.Mutation.{Mutation}
use Rattle.kv_core.proofs.Changes.{get-after_all-value}
use Rattle.metadata.specs.declared.cells.Cell.{Cell}
use Rattle.metadata.specs.declared.index.IndexDefinition.{IndexDefinition}
use Rattle.metadata.specs.declared.index.IndexKind.{IndexKind}
use Rattle.metadata.specs.declared.index.IndexKind.TheVariants.{Value, Count, Sum}
use Rattle.metadata.specs.Cell.{IsCell, items_of}
use Rattle.metadata.specs.Record.{Record}
use Rattle.metadata.specs.Records.{IsStorable, of_type}
use Rattle.metadata.proofs.CellItems.{all-cells_at}
use Rattle.range_set.specs.Gaps.{has_position}
use Rattle.range_set.specs.Stored.{IsInGap}
use Rattle.index_maint.specs.Built.{HasSomeEntries, built_records, position}
use Rattle.index_maint.specs.Changes.{entries_map, value_changes}
use Rattle.index_maint.specs.Entries.{entry_of, is_indexed}
use Rattle.index_maint.specs.Kept.{HasPart, changes_by, records_within}
use Rattle.index_maint.specs.Layout.{entries_prefix}
use Rattle.index_maint.specs.Totals.{Clearing, HasTotals, IsGroup, IsTotal, Share, count_clears, count_share, difference, group_key, group_of, part_of, same_group, sum_clears, sum_share, total, total_changes}
use Rattle.index_maint.proofs.RecordLists.{all_filter}
use Rattle.index_maint.proofs.SomeEntries.{IsBetween, entries_at, nothing_stands, tells_only, tells_those, told}
use Rattle.index_maint.proofs.TotalLaw.{CountsOnes, count_ones, none_weighs, sum_ones, weighs_none}
use Rattle.index_maint.proofs.TotalParts.{no_part, one_left, part_comes, parts_left, same_group_key, total_is, value_after_all-append, weight}
use Rattle.index_maint.proofs.ValueLaw.{has_entry, is_entry_key, there}

-- ---- totals: what each record of the range counts is added

-- the records at positions of a range or built before are those built before and those of the range
parts_sum : (f : Record → ℕ) (range : KeyRange) (ranges : List KeyRange) (records : List Record) → IsInGap range ranges →
    sum_by f (built_records (range ∷ ranges) records) ≡ sum_by f (built_records ranges records) + sum_by f (filter (λ r. contains range (position r)) records)
parts_sum f range ranges [] gap = refl
parts_sum f range ranges (r ∷ records) gap = by_tests (contains range (position r)) (has_position ranges (position r)) refl refl (parts_sum f range ranges records gap)
  where
    before : List Record
    before = built_records ranges records

    inside : List Record
    inside = filter (λ s. contains range (position s)) records

    by_tests : (c b : Bool) → contains range (position r) ≡ c → has_position ranges (position r) ≡ b →
        sum_by f (built_records (range ∷ ranges) records) ≡ sum_by f (built_records ranges records) + sum_by f (filter (λ s. contains range (position s)) records) →
        sum_by f (cond (c || b) (r ∷ built_records (range ∷ ranges) records) (built_records (range ∷ ranges) records))
        ≡ sum_by f (cond b (r ∷ built_records ranges records) (built_records ranges records)) + sum_by f (cond c (r ∷ filter (λ s. contains range (position s)) records) (filter (λ s. contains range (position s)) records))
    by_tests true true c b rest = absurd (true≢false (sym b ∙ gap (position r) c))
    by_tests true false c b rest =
        sum_by-cons f r (built_records (range ∷ ranges) records) ∙ ap (λ n. f r + n) rest
        ∙ turned (f r) (sum_by f (built_records ranges records)) (sum_by f (filter (λ s. contains range (position s)) records))
        ∙ ap (λ n. sum_by f (built_records ranges records) + n) (sym (sum_by-cons f r (filter (λ s. contains range (position s)) records)))
      where
        turned : (a x y : ℕ) → a + (x + y) ≡ x + (a + y)
        turned a x y = omega arith
    by_tests false true c b rest =
        sum_by-cons f r (built_records (range ∷ ranges) records) ∙ ap (λ n. f r + n) rest
        ∙ turned (f r) (sum_by f (built_records ranges records)) (sum_by f (filter (λ s. contains range (position s)) records))
        ∙ ap (λ n. n + sum_by f (filter (λ s. contains range (position s)) records)) (sym (sum_by-cons f r (built_records ranges records)))
      where
        turned : (a x y : ℕ) → a + (x + y) ≡ (a + x) + y
        turned a x y = omega arith
    by_tests false false c b rest = rest

-- of the range only the records of the type count
only_type : (share : Share) (index : IndexDefinition) (group : List Cell) (p : Record → Bool) (records : List Record) →
    sum_by (weight share index group) (filter p records) ≡ sum_by (weight share index group) (filter p (of_type index.type_number records))
only_type share index group p [] = refl
only_type share index group p (r ∷ records) = by_tests (p r) (is_indexed index r) refl refl (only_type share index group p records)
  where
    by_tests : (b i : Bool) → p r ≡ b → is_indexed index r ≡ i →
        sum_by (weight share index group) (filter p records) ≡ sum_by (weight share index group) (filter p (of_type index.type_number records)) →
        sum_by (weight share index group) (cond b (r ∷ filter p records) (filter p records))
        ≡ sum_by (weight share index group) (filter p (cond i (r ∷ of_type index.type_number records) (of_type index.type_number records)))
    by_tests true true b i rest =
        sum_by-cons (weight share index group) r (filter p records) ∙ ap (λ n. weight share index group r + n) rest
        ∙ sym (ap (λ t. sum_by (weight share index group) (cond t (r ∷ filter p (of_type index.type_number records)) (filter p (of_type index.type_number records)))) b
        ∙ sum_by-cons (weight share index group) r (filter p (of_type index.type_number records)))
    by_tests true false b i rest =
        sum_by-cons (weight share index group) r (filter p records)
        ∙ ap (λ t. cond t (cond (same_group group (group_of index r)) (share index r) 0) 0 + sum_by (weight share index group) (filter p records)) i
        ∙ zero-add (sum_by (weight share index group) (filter p records)) ∙ rest
    by_tests false true b i rest = rest ∙ sym (ap (λ t. sum_by (weight share index group) (cond t (r ∷ filter p (of_type index.type_number records)) (filter p (of_type index.type_number records)))) b)
    by_tests false false b i rest = rest

-- each record of the type is added in turn
abbrev all_come : Share → Clearing → List ℕ → IndexDefinition → List Record → List Mutation
all_come share clears prefix index records = flat_map (λ r. total_changes share clears prefix index None (Some r)) records

sums_come : (share : Share) (clears : Clearing) (prefix : List ℕ) (index : IndexDefinition) (group : List Cell) (records : List Record) (n : ℕ) (value : Option (List ℕ)) → All IsCell group →
    AllByRecursion IsStorable records → AllByRecursion (λ r. is_indexed index r ≡ true) records → IsTotal value (n % 2 ^ 64) →
    IsTotal (value_after_all (all_come share clears prefix index records) (group_key prefix index.number group) value) ((n + sum_by (weight share index group) records) % 2 ^ 64)
sums_come share clears prefix index group [] n value k storable of is = subst (λ x. IsTotal value (x % 2 ^ 64)) same is
  where
    same : n ≡ n + 0
    same = omega arith
sums_come share clears prefix index group (r ∷ records) n value k storable of is =
    let at = group_key prefix index.number group in
    let first = total_changes share clears prefix index None (Some r) in
    let then = value_after_all first at value in
    subst (λ v. IsTotal v ((n + sum_by (weight share index group) (r ∷ records)) % 2 ^ 64)) (sym (value_after_all-append first (all_come share clears prefix index records) at value))
    (subst (λ x. IsTotal (value_after_all (all_come share clears prefix index records) at then) (x % 2 ^ 64))
    (turned (weight share index group r) n (sum_by (weight share index group) records) ∙ ap (λ x. n + x) (sym (sum_by-cons (weight share index group) r records)))
    (sums_come share clears prefix index group records (weight share index group r + n) then k storable.1 of.1
    (subst (λ w. IsTotal then ((w + n) % 2 ^ 64)) (sym (ap (λ b. cond b (cond (same_group group (group_of index r)) (share index r) 0) 0) of.0))
    (part_comes prefix index.number (part_of share index r) group n value (all-cells_at r.cells index.columns storable.0.cells) k
    (subst (λ x. IsTotal value (x % 2 ^ 64)) (sym (zero-add n)) is)))))
  where
    turned : (a x y : ℕ) → (a + x) + y ≡ x + (a + y)
    turned a x y = omega arith

-- bytes that are no group's stay
none_come : (share : Share) (clears : Clearing) (prefix : List ℕ) (index : IndexDefinition) (bytes : List ℕ) (records : List Record) (value : Option (List ℕ)) → AllByRecursion IsStorable records →
    ((group : List Cell) → IsGroup index group → bytes ≡ spelling (items_of group) → ⊥) →
    value_after_all (all_come share clears prefix index records) (entries_prefix prefix index.number ++ bytes) value ≡ value
none_come share clears prefix index bytes [] value storable none = refl
none_come share clears prefix index bytes (r ∷ records) value storable none =
    let at = entries_prefix prefix index.number ++ bytes in
    value_after_all-append (total_changes share clears prefix index None (Some r)) (all_come share clears prefix index records) at value
    ∙ none_come share clears prefix index bytes records (value_after_all (total_changes share clears prefix index None (Some r)) at value) storable.1 none
    ∙ parts_left (clears index) prefix index.number None (Some (part_of share index r)) at value tt (no_part share prefix index bytes (Some r) storable.0 none)

-- a group of none of the records stays, where each record counts 1
others_come : (share : Share) (clears : Clearing) (prefix : List ℕ) (index : IndexDefinition) (group : List Cell) → ((r : Record) → share index r ≡ 1) → (records : List Record) (value : Option (List ℕ)) → All IsCell group →
    AllByRecursion IsStorable records → AllByRecursion (λ r. is_indexed index r ≡ true) records → sum_by (weight share index group) records ≡ 0 →
    value_after_all (all_come share clears prefix index records) (group_key prefix index.number group) value ≡ value
others_come share clears prefix index group ones [] value k storable of none = refl
others_come share clears prefix index group ones (r ∷ records) value k storable of none =
    let at = group_key prefix index.number group in
    let first = total_changes share clears prefix index None (Some r) in
    let w = weight share index group in
    let sum : w r + sum_by w records ≡ 0 = sym (sum_by-cons w r records) ∙ none in
    let own : w r ≡ 0 = omega (arith, sum) in
    let later : sum_by w records ≡ 0 = omega (arith, sum) in
    let other : same_group group (group_of index r) ≡ false =
    apart (same_group group (group_of index r)) (share index r) (ones r) (ap (λ b. cond b (cond (same_group group (group_of index r)) (share index r) 0) 0) (sym of.0) ∙ own) in
    value_after_all-append first (all_come share clears prefix index records) at value
    ∙ others_come share clears prefix index group ones records (value_after_all first at value) k storable.1 of.1 later
    ∙ one_left prefix index.number (group_of index r) (difference 0 (share index r)) at value
    (same_group_key prefix index.number (group_of index r) group (all-cells_at r.cells index.columns storable.0.cells) k ∙ other)
  where
    apart : (b : Bool) (amount : ℕ) → amount ≡ 1 → cond b amount 0 ≡ 0 → b ≡ false
    apart true amount one nothing = absurd (omega (arith, one, nothing))
    apart false amount one nothing = refl

indexed_all : (index : IndexDefinition) (p : Record → Bool) (records : List Record) → AllByRecursion (λ r. is_indexed index r ≡ true) (filter p (of_type index.type_number records))
indexed_all index p records = all_filter (λ r. is_indexed index r ≡ true) p (of_type index.type_number records) (each records)
  where
    each : (left : List Record) → AllByRecursion (λ r. is_indexed index r ≡ true) (of_type index.type_number left)
    each [] = tt
    each (r ∷ left) = by_test (is_indexed index r) refl (each left)
      where
        by_test : (b : Bool) → is_indexed index r ≡ b → AllByRecursion (λ s. is_indexed index s ≡ true) (of_type index.type_number left) →
            AllByRecursion (λ s. is_indexed index s ≡ true) (cond b (r ∷ of_type index.type_number left) (of_type index.type_number left))
        by_test true is rest = (is, rest)
        by_test false is rest = rest

-- BUILD: the totals over the records at built positions are those with the range, once what its records count is added
pub totals_built : (share : Share) (clears : Clearing) → CountsOnes share clears → (prefix : List ℕ) (index : IndexDefinition) (range : KeyRange) (ranges : List KeyRange) (records : List Record) (m : Map) →
    IsInGap range ranges → AllByRecursion IsStorable records →
    HasTotals share clears prefix index (built_records ranges records) m →
    HasTotals share clears prefix index (built_records (range ∷ ranges) records) (after_all (all_come share clears prefix index (records_within range index records)) m)
totals_built share clears ones prefix index range ranges records m gap storable has =
    let some = records_within range index records in
    let written = all_come share clears prefix index some in
    let can = all_filter IsStorable (λ r. contains range (position r)) (of_type index.type_number records) (all_filter IsStorable (λ r. r.definition.number == index.type_number) records storable) in
    record {
      totals = λ group cells.
          let at = group_key prefix index.number group in
          let w = weight share index group in
          subst (λ v. IsTotal v (total share index group (built_records (range ∷ ranges) records))) (sym (get-after_all-value written m at))
          (subst (IsTotal (value_after_all written at (get m at)))
          (sym (total_is share index group (built_records (range ∷ ranges) records)
          ∙ ap (λ x. x % 2 ^ 64) (parts_sum w range ranges records gap ∙ ap (λ x. sum_by w (built_records ranges records) + x) (only_type share index group (λ r. contains range (position r)) records))))
          (sums_come share clears prefix index group some (sum_by w (built_records ranges records)) (get m at) cells can (indexed_all index (λ r. contains range (position r)) records)
          (subst (IsTotal (get m at)) (total_is share index group (built_records ranges records)) (has.totals group cells))));
      groups = λ bytes none.
          get-after_all-value written m (entries_prefix prefix index.number ++ bytes)
          ∙ none_come share clears prefix index bytes some (get m (entries_prefix prefix index.number ++ bytes)) can none ∙ has.groups bytes none;
      cleared = λ clear group cells empty.
          let at = group_key prefix index.number group in
          let w = weight share index group in
          let parts : sum_by w (built_records ranges records) + sum_by w some ≡ 0 =
          ap (λ x. sum_by w (built_records ranges records) + x) (sym (only_type share index group (λ r. contains range (position r)) records)) ∙ sym (parts_sum w range ranges records gap)
          ∙ none_weighs share index group (built_records (range ∷ ranges) records) empty in
          let before : sum_by w (built_records ranges records) ≡ 0 = omega (arith, parts) in
          let inside : sum_by w some ≡ 0 = omega (arith, parts) in
          get-after_all-value written m at
          ∙ others_come share clears prefix index group (ones index clear) some (get m at) cells can (indexed_all index (λ r. contains range (position r)) records) inside
          ∙ has.cleared clear group cells (weighs_none share index group (built_records ranges records) (ones index clear) before);
    }

-- ---- entries: that of each record of the range is put

-- a set of entries in turn
all_put : (prefix : List ℕ) (index : IndexDefinition) (records : List Record) (key : List ℕ) (s : Bool) → AllByRecursion (λ r. is_indexed index r ≡ true) records →
    value_after_all (flat_map (λ r. value_changes prefix index None (Some r)) records) key (there s) ≡ there (s || list_any (has_entry prefix index key) records)
all_put prefix index [] key s of = ap there (sym (or_false s))
  where
    or_false : (b : Bool) → (b || false) ≡ b
    or_false true = refl
    or_false false = refl
all_put prefix index (r ∷ records) key s of =
    ap (value_after_all (flat_map (λ t. value_changes prefix index None (Some t)) records) key) (put (is_entry_key prefix index.number key (entry_of index r)) s)
    ∙ all_put prefix index records key (s || is_entry_key prefix index.number key (entry_of index r)) of.1
    ∙ ap there (assoc s (is_entry_key prefix index.number key (entry_of index r)) (list_any (has_entry prefix index key) records))
    ∙ ap (λ b. there (s || ((b && is_entry_key prefix index.number key (entry_of index r)) || list_any (has_entry prefix index key) records))) (sym of.0)
  where
    put : (e b : Bool) → cond e (Some []) (there b) ≡ there (b || e)
    put true true = refl
    put true false = refl
    put false true = refl
    put false false = refl

    assoc : (a b c : Bool) → ((a || b) || c) ≡ (a || (b || c))
    assoc true b c = refl
    assoc false b c = refl

-- records of the range are records
any_within : (p c : Record → Bool) (index : IndexDefinition) (records : List Record) → list_any p (filter c (of_type index.type_number records)) ≡ true → list_any p records ≡ true
any_within p c index [] h = h
any_within p c index (r ∷ records) h = by_tests (is_indexed index r) (c r) (p r) refl refl h (any_within p c index records)
  where
    by_tests : (i d t : Bool) → c r ≡ d → p r ≡ t → list_any p (filter c (cond i (r ∷ of_type index.type_number records) (of_type index.type_number records))) ≡ true →
        (list_any p (filter c (of_type index.type_number records)) ≡ true → list_any p records ≡ true) → (t || list_any p records) ≡ true
    by_tests i d true at is any go = refl
    by_tests true true false at is any go =
        go (sym (ap (λ b. list_any p (cond b (r ∷ filter c (of_type index.type_number records)) (filter c (of_type index.type_number records)))) at
        ∙ ap (λ b. b || list_any p (filter c (of_type index.type_number records))) is) ∙ any)
    by_tests true false false at is any go =
        go (sym (ap (λ b. list_any p (cond b (r ∷ filter c (of_type index.type_number records)) (filter c (of_type index.type_number records)))) at) ∙ any)
    by_tests false d false at is any go = go any

-- what holds of some of a list holds of some of a longer one
or_true : (b : Bool) → (b || true) ≡ true
or_true true = refl
or_true false = refl

more : (p : Record → Bool) (b : Bool) (r : Record) (xs : List Record) → list_any p xs ≡ true → list_any p (cond b (r ∷ xs) xs) ≡ true
more p true r xs h = ap (λ t. p r || t) h ∙ or_true (p r)
more p false r xs h = h

more_within : (p c : Record → Bool) (i : Bool) (r : Record) (xs : List Record) → list_any p (filter c xs) ≡ true → list_any p (filter c (cond i (r ∷ xs) xs)) ≡ true
more_within p c true r xs h = more p (c r) r (filter c xs) h
more_within p c false r xs h = h

either : (a b x y : Bool) → (a ≡ true → x ≡ true) → (b ≡ true → y ≡ true) → (a || b) ≡ true → (x || y) ≡ true
either true b x y f g h = ap (λ t. t || y) (f refl)
either false b x y f g h = ap (λ t. x || t) (g h) ∙ or_true x

-- an entry of a record at a built position is that of one built before, or of one of the range
any_parts : (p : Record → Bool) (index : IndexDefinition) (range : KeyRange) (ranges : List KeyRange) (records : List Record) → ((r : Record) → p r ≡ true → is_indexed index r ≡ true) →
    list_any p (built_records (range ∷ ranges) records) ≡ true → (list_any p (built_records ranges records) || list_any p (records_within range index records)) ≡ true
any_parts p index range ranges [] indexed h = h
any_parts p index range ranges (r ∷ records) indexed h =
    by_tests (contains range (position r)) (has_position ranges (position r)) (p r) refl refl refl h (any_parts p index range ranges records indexed)
  where
    later : (list_any p (built_records ranges records) || list_any p (records_within range index records)) ≡ true →
        (list_any p (built_records ranges (r ∷ records)) || list_any p (records_within range index (r ∷ records))) ≡ true
    later h =
        either (list_any p (built_records ranges records)) (list_any p (records_within range index records)) (list_any p (built_records ranges (r ∷ records))) (list_any p (records_within range index (r ∷ records)))
        (more p (has_position ranges (position r)) r (built_records ranges records)) (more_within p (λ s. contains range (position s)) (is_indexed index r) r (of_type index.type_number records)) h

    by_tests : (c b t : Bool) → contains range (position r) ≡ c → has_position ranges (position r) ≡ b → p r ≡ t →
        list_any p (cond (c || b) (r ∷ built_records (range ∷ ranges) records) (built_records (range ∷ ranges) records)) ≡ true →
        (list_any p (built_records (range ∷ ranges) records) ≡ true → (list_any p (built_records ranges records) || list_any p (records_within range index records)) ≡ true) →
        (list_any p (built_records ranges (r ∷ records)) || list_any p (records_within range index (r ∷ records))) ≡ true
    by_tests true b false cs bs ts any go = later (go (sym (ap (λ t. t || list_any p (built_records (range ∷ ranges) records)) ts) ∙ any))
    by_tests false true false cs bs ts any go = later (go (sym (ap (λ t. t || list_any p (built_records (range ∷ ranges) records)) ts) ∙ any))
    by_tests false false t cs bs ts any go = later (go any)
    by_tests c true true cs bs ts any go =
        ap (λ b. list_any p (cond b (r ∷ built_records ranges records) (built_records ranges records)) || list_any p (records_within range index (r ∷ records))) bs
        ∙ ap (λ t. (t || list_any p (built_records ranges records)) || list_any p (records_within range index (r ∷ records))) ts
    by_tests true false true cs bs ts any go =
        ap (λ i. list_any p (built_records ranges (r ∷ records)) || list_any p (filter (λ s. contains range (position s)) (cond i (r ∷ of_type index.type_number records) (of_type index.type_number records)))) (indexed r ts)
        ∙ ap (λ c. list_any p (built_records ranges (r ∷ records)) || list_any p (cond c (r ∷ records_within range index records) (records_within range index records))) cs
        ∙ ap (λ t. list_any p (built_records ranges (r ∷ records)) || (t || list_any p (records_within range index records))) ts
        ∙ or_true (list_any p (built_records ranges (r ∷ records)))

-- BUILD: a write-only VALUE index has the entries of the range too, once they are put
pub entries_built : (prefix : List ℕ) (index : IndexDefinition) (range : KeyRange) (ranges : List KeyRange) (records : List Record) (m : Map) →
    HasSomeEntries prefix index ranges records m →
    HasSomeEntries prefix index (range ∷ ranges) records (after_all (flat_map (λ r. value_changes prefix index None (Some r)) (records_within range index records)) m)
entries_built prefix index range ranges records m has = record {
  only = λ rest value is.
      let at = entries_prefix prefix index.number ++ rest in
      entries_at prefix index records at
      ∙ tells_only (get (after_all written m) at) (list_any (has_entry prefix index at) records) (list_any (has_entry prefix index at) (built_records (range ∷ ranges) records)) (stands rest) value is;
  at_built = λ rest value is.
      let at = entries_prefix prefix index.number ++ rest in
      tells_those (get (after_all written m) at) (list_any (has_entry prefix index at) records) (list_any (has_entry prefix index at) (built_records (range ∷ ranges) records)) (stands rest) value
      (sym (entries_at prefix index (built_records (range ∷ ranges) records) at) ∙ is);
}
  where
    written : List Mutation
    written = flat_map (λ r. value_changes prefix index None (Some r)) (records_within range index records)

    stands : (rest : List ℕ) →
        IsBetween (get (after_all written m) (entries_prefix prefix index.number ++ rest)) (list_any (has_entry prefix index (entries_prefix prefix index.number ++ rest)) records)
        (list_any (has_entry prefix index (entries_prefix prefix index.number ++ rest)) (built_records (range ∷ ranges) records))
    stands rest =
        let at = entries_prefix prefix index.number ++ rest in
        let p = has_entry prefix index at in
        let some = records_within range index records in
        let b = told (get m at) (list_any p records) (list_any p (built_records ranges records))
        (λ x is. sym (entries_at prefix index records at) ∙ has.only rest x is) (λ x is. has.at_built rest x (entries_at prefix index (built_records ranges records) at ∙ is)) in
        record {
          stands = b.stands || list_any p some;
          is =
              get-after_all-value written m at ∙ ap (value_after_all written at) b.is
              ∙ all_put prefix index some at b.stands (indexed_all index (λ r. contains range (position r)) records);
          only = λ h. one_of b.stands (list_any p some) (list_any p records) b.only (any_within p (λ r. contains range (position r)) index records) h;
          those = λ h.
              either (list_any p (built_records ranges records)) (list_any p some) b.stands (list_any p some) b.those (λ t. t)
              (any_parts p index range ranges records (λ r t. (and_parts (is_indexed index r) (is_entry_key prefix index.number at (entry_of index r)) t).0) h);
        }
      where
        one_of : (a b x : Bool) → (a ≡ true → x ≡ true) → (b ≡ true → x ≡ true) → (a || b) ≡ true → x ≡ true
        one_of true b x f g h = f refl
        one_of false b x f g h = g h

-- BUILD: so it is with a write-only index of whatever kind
pub part_built : (kind : IndexKind) (prefix : List ℕ) (index : IndexDefinition) (range : KeyRange) (ranges : List KeyRange) (records : List Record) (m : Map) → IsInGap range ranges → AllByRecursion IsStorable records →
    HasPart kind prefix index ranges records m →
    HasPart kind prefix index (range ∷ ranges) records (after_all (flat_map (λ r. changes_by kind prefix index None (Some r)) (records_within range index records)) m)
part_built Value prefix index range ranges records m gap storable has = entries_built prefix index range ranges records m has
part_built Count prefix index range ranges records m gap storable has = totals_built count_share count_clears count_ones prefix index range ranges records m gap storable has
part_built Sum prefix index range ranges records m gap storable has = totals_built sum_share sum_clears sum_ones prefix index range ranges records m gap storable has

-- no position: a write-only index starts with none built, where nothing stands
pub part_starts : (kind : IndexKind) (prefix : List ℕ) (index : IndexDefinition) (records : List Record) (m : Map) → ((bytes : List ℕ) → get m (entries_prefix prefix index.number ++ bytes) ≡ None) → HasPart kind prefix index [] records m
part_starts kind prefix index records m bare = by_kind kind (none records)
  where
    none : (left : List Record) → built_records [] left ≡ []
    none [] = refl
    none (r ∷ left) = none left

    nothing : (share : Share) (clears : Clearing) → HasTotals share clears prefix index [] m
    nothing share clears = record {
      totals = λ group cells. subst (λ v. IsTotal v 0) (sym (bare (spelling (items_of group)))) refl;
      groups = λ bytes no. bare bytes;
      cleared = λ clear group cells empty. bare (spelling (items_of group));
    }

    by_kind : (k : IndexKind) → built_records [] records ≡ [] → HasPart k prefix index [] records m
    by_kind Value is = record {
      only = λ rest value stands. absurd (nothing_stands value (sym (bare rest) ∙ stands));
      at_built = λ rest value stands.
          absurd (nothing_stands value (sym (entries_at prefix index [] (entries_prefix prefix index.number ++ rest)) ∙ ap (λ rs. get (entries_map prefix index rs) (entries_prefix prefix index.number ++ rest)) (sym is) ∙ stands));
    }
    by_kind Count is = subst (λ rs. HasTotals count_share count_clears prefix index rs m) (sym is) (nothing count_share count_clears)
    by_kind Sum is = subst (λ rs. HasTotals sum_share sum_clears prefix index rs m) (sym is) (nothing sum_share sum_clears)
