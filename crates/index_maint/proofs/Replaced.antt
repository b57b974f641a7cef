-- Records after one gives way to another: what they are up to their order, and what is left of a type.
use Rattle.std.proofs.Common.{◌≡◌, Bool, true, false, not, cond, List, [], ◌∷◌, Option, Some, None, refl, sym, ap, subst, ◌∙◌, IsTrue}
use Rattle.std.proofs.lemmas.Bool.{true≢false, false_from_ne_true}
use Rattle.std.proofs.lemmas.Cmp.{nat_list_cmp_total, tied_itself}
use Rattle.std.proofs.lemmas.List.Sorted.{IsPermutation-refl, IsPermutation-trans, IsPermutation-cons, IsPermutation-middle}
use Rattle.std.specs.declared.cmp.Ordering.{Ordering}
use Rattle.std.specs.declared.cmp.Ordering.TheVariants.{Less, Equal, Greater}
use Rattle.std.specs.List.{AllByRecursion}
use Rattle.std.specs.List.Sorted.{IsPermutation}
use Rattle.std.specs.Ordering.{is_eq, is_lt}
use Rattle.std.specs.FinMap.{slice_cmp-IsAntisymmetric}
use Rattle.tuple_codec.specs.Item.{Item}
use Rattle.tuple_codec.specs.Order.{tuple_cmp}
use Rattle.tuple_codec.proofs.Spellings.{item_same}
use Rattle.kv_core.proofs.Order.{tied_swap}
use Rattle.metadata.specs.declared.index.IndexDefinition.{IndexDefinition}
use Rattle.metadata.specs.Record.{Record, primary_key}
use Rattle.metadata.specs.Records.{IsStorable, AreOrdered, has_primary_key, of_type, placed, record_at, with_record, without_record}
use Rattle.index_maint.specs.Entries.{is_indexed}
use Rattle.index_maint.specs.Laws.{IsOther, IsReplacement, replaced}
use Rattle.index_maint.proofs.RecordLists.{id, id_order, all_behind}

-- tuples that tie are the same
pub tied_tuples : (t u : List Item) → is_eq (tuple_cmp t u) ≡ true → t ≡ u
tied_tuples t u is = slice_cmp-IsAntisymmetric item_same t u (equal (tuple_cmp t u) is)
  where
    equal : (o : Ordering) → is_eq o ≡ true → o ≡ Equal
    equal Less h = absurd (true≢false (sym h))
    equal Equal h = refl
    equal Greater h = absurd (true≢false (sym h))

-- whether primary keys tie doesn't depend on which comes first
pub tie_swap : (r s : Record) → IsStorable r → IsStorable s → is_eq (tuple_cmp (primary_key r) (primary_key s)) ≡ is_eq (tuple_cmp (primary_key s) (primary_key r))
tie_swap r s h k = ap is_eq (sym (id_order r s h k)) ∙ tied_swap (id r) (id s) ∙ ap is_eq (id_order s r k h)

-- a record ties with itself, and isn't before itself
pub ties : (r : Record) → IsStorable r → is_eq (tuple_cmp (primary_key r) (primary_key r)) ≡ true
ties r h = ap is_eq (sym (id_order r r h h)) ∙ ap is_eq (tied_itself nat_list_cmp_total (id r))

not_before : (r : Record) → IsStorable r → is_lt (tuple_cmp (primary_key r) (primary_key r)) ≡ false
not_before r h = ap is_lt (sym (id_order r r h h)) ∙ ap is_lt (tied_itself nat_list_cmp_total (id r))

-- no record behind one with a primary key has it
abbrev pub HaveNot : List Item → List Record → Type 0
HaveNot key records = AllByRecursion (λ r. has_primary_key key r ≡ false) records

pub none_behind : (low : Record) (records : List Record) → IsStorable low → AllByRecursion IsStorable records →
    AllByRecursion (λ later. IsTrue (is_lt (tuple_cmp (primary_key low) (primary_key later)))) records → HaveNot (primary_key low) records
none_behind low [] l storable all = tt
none_behind low (r ∷ records) l storable all = (
  false_from_ne_true (has_primary_key (primary_key low) r)
      (λ same. true≢false (sym (ap (λ k. is_lt (tuple_cmp (primary_key low) k)) (sym (tied_tuples (primary_key r) (primary_key low) same)) ∙ all.0) ∙ not_before low l)),
  none_behind low records l storable.1 all.1,
)

-- to take out what isn't there changes nothing
pub without_none : (key : List Item) (records : List Record) → HaveNot key records → without_record key records ≡ records
without_none key [] none = refl
without_none key (r ∷ records) none =
    ap (λ b. cond (not b) (r ∷ without_record key records) (without_record key records)) none.0 ∙ ap (λ rs. r ∷ rs) (without_none key records none.1)

-- what is taken out isn't there
pub none_without : (key : List Item) (records : List Record) → HaveNot key (without_record key records)
none_without key [] = tt
none_without key (r ∷ records) = by_test (has_primary_key key r) refl (none_without key records)
  where
    by_test : (b : Bool) → has_primary_key key r ≡ b → HaveNot key (without_record key records) → HaveNot key (cond (not b) (r ∷ without_record key records) (without_record key records))
    by_test true is rest = rest
    by_test false is rest = (is, rest)

-- where a record with the key is the first, there is no other
first_alone : (r : Record) (key : List Item) (records : List Record) → IsStorable r → AllByRecursion IsStorable records → has_primary_key key r ≡ true →
    AllByRecursion (λ later. IsTrue (is_lt (tuple_cmp (primary_key r) (primary_key later)))) records → without_record key records ≡ records
first_alone r key records s storable is behind =
    without_none key records (subst (λ k. HaveNot k records) (tied_tuples (primary_key r) key is) (none_behind r records s storable behind))

swapped : {X : Type 0} (a b : X) (xs : List X) → IsPermutation (a ∷ b ∷ xs) (b ∷ a ∷ xs)
swapped a b xs = IsPermutation-middle (a ∷ []) b xs

-- FOUND: records are the one with a key and those without it
pub found_first : (key : List Item) (old : Record) (records : List Record) → AreOrdered records → AllByRecursion IsStorable records →
    record_at key records ≡ Some old → IsPermutation (old ∷ without_record key records) records
found_first key old [] ordered storable found = cc
found_first key old (r ∷ records) ordered storable found = by_test (has_primary_key key r) refl found (found_first key old records ordered.1 storable.1)
  where
    by_test : (b : Bool) → has_primary_key key r ≡ b → cond b (Some r) (record_at key records) ≡ Some old →
        (record_at key records ≡ Some old → IsPermutation (old ∷ without_record key records) records) →
        IsPermutation (old ∷ cond (not b) (r ∷ without_record key records) (without_record key records)) (r ∷ records)
    by_test true is at rest =
        let same : old ≡ r = cc in
        let alone = first_alone r key records storable.0 storable.1 is ordered.0 in
        subst (λ rs. IsPermutation rs (r ∷ records)) (λ i. sym same i ∷ sym alone i) (IsPermutation-refl (r ∷ records))
    by_test false is at rest =
        IsPermutation-trans (old ∷ r ∷ without_record key records) (r ∷ old ∷ without_record key records) (r ∷ records)
        (swapped old r (without_record key records)) (IsPermutation-cons r (old ∷ without_record key records) records (rest at))

-- ABSENT: where no record has a key, all are those without it
pub found_none : (key : List Item) (records : List Record) → record_at key records ≡ None → without_record key records ≡ records
found_none key [] found = refl
found_none key (r ∷ records) found = by_test (has_primary_key key r) found (found_none key records)
  where
    by_test : (b : Bool) → cond b (Some r) (record_at key records) ≡ None → (record_at key records ≡ None → without_record key records ≡ records) →
        cond (not b) (r ∷ without_record key records) (without_record key records) ≡ r ∷ records
    by_test true at rest = cc
    by_test false at rest = ap (λ rs. r ∷ rs) (rest at)

-- what is found can be stored, and has the key
pub found_storable : (key : List Item) (old : Record) (records : List Record) → AllByRecursion IsStorable records → record_at key records ≡ Some old →
    IsStorable old × (has_primary_key key old ≡ true)
found_storable key old [] storable found = cc
found_storable key old (r ∷ records) storable found = by_test (has_primary_key key r) refl found (found_storable key old records storable.1)
  where
    by_test : (b : Bool) → has_primary_key key r ≡ b → cond b (Some r) (record_at key records) ≡ Some old →
        (record_at key records ≡ Some old → IsStorable old × (has_primary_key key old ≡ true)) → IsStorable old × (has_primary_key key old ≡ true)
    by_test true is at rest = let same : r ≡ old = cc in subst (λ one. IsStorable one × (has_primary_key key one ≡ true)) same (storable.0, is)
    by_test false is at rest = rest at

-- PUT: records with a new one are it and those without its key
pub put_first : (new : Record) (records : List Record) → IsStorable new → AreOrdered records → AllByRecursion IsStorable records →
    IsPermutation (new ∷ without_record (primary_key new) records) (with_record new records)
put_first new [] n ordered storable = IsPermutation-refl (new ∷ [])
put_first new (old ∷ records) n ordered storable = by_order (tuple_cmp (primary_key new) (primary_key old)) refl (put_first new records n ordered.1 storable.1)
  where
    here : (o : Ordering) → tuple_cmp (primary_key new) (primary_key old) ≡ o → has_primary_key (primary_key new) old ≡ is_eq o
    here o is = tie_swap old new storable.0 n ∙ ap is_eq is

    by_order : (o : Ordering) → tuple_cmp (primary_key new) (primary_key old) ≡ o → IsPermutation (new ∷ without_record (primary_key new) records) (with_record new records) →
        IsPermutation (new ∷ without_record (primary_key new) (old ∷ records)) (placed o (new ∷ old ∷ records) (new ∷ records) (old ∷ with_record new records))
    by_order Less is rest =
        subst (λ rs. IsPermutation (new ∷ rs) (new ∷ old ∷ records))
        (sym (without_none (primary_key new) (old ∷ records)
        (none_behind new (old ∷ records) n storable (ap is_lt is, all_behind new old records n storable.0 storable.1 (ap is_lt is) ordered.0))))
        (IsPermutation-refl (new ∷ old ∷ records))
    by_order Equal is rest =
        subst (λ rs. IsPermutation (new ∷ rs) (new ∷ records))
        (sym (ap (λ b. cond (not b) (old ∷ without_record (primary_key new) records) (without_record (primary_key new) records)) (here Equal is)
        ∙ first_alone old (primary_key new) records storable.0 storable.1 (here Equal is) ordered.0))
        (IsPermutation-refl (new ∷ records))
    by_order Greater is rest =
        subst (λ rs. IsPermutation (new ∷ rs) (old ∷ with_record new records))
        (sym (ap (λ b. cond (not b) (old ∷ without_record (primary_key new) records) (without_record (primary_key new) records)) (here Greater is)))
        (IsPermutation-trans (new ∷ old ∷ without_record (primary_key new) records) (old ∷ new ∷ without_record (primary_key new) records) (old ∷ with_record new records)
        (swapped new old (without_record (primary_key new) records)) (IsPermutation-cons old (new ∷ without_record (primary_key new) records) (with_record new records) rest))

-- ---- what is left of a type

-- to take out a record of another type leaves those of the type
skips_old : (index : IndexDefinition) (key : List Item) (records : List Record) → AreOrdered records → AllByRecursion IsStorable records →
    IsOther index (record_at key records) → of_type index.type_number (without_record key records) ≡ of_type index.type_number records
skips_old index key [] ordered storable other = refl
skips_old index key (r ∷ records) ordered storable other = by_test (has_primary_key key r) refl other (skips_old index key records ordered.1 storable.1)
  where
    by_test : (b : Bool) → has_primary_key key r ≡ b → IsOther index (cond b (Some r) (record_at key records)) →
        (IsOther index (record_at key records) → of_type index.type_number (without_record key records) ≡ of_type index.type_number records) →
        of_type index.type_number (cond (not b) (r ∷ without_record key records) (without_record key records)) ≡ of_type index.type_number (r ∷ records)
    by_test true is at rest =
        ap (of_type index.type_number) (first_alone r key records storable.0 storable.1 is ordered.0)
        ∙ sym (ap (λ b. cond b (r ∷ of_type index.type_number records) (of_type index.type_number records)) at)
    by_test false is at rest = ap (λ rs. cond (is_indexed index r) (r ∷ rs) rs) (rest at)

-- so does to put one of another type in its place
skips_new : (index : IndexDefinition) (new : Record) (records : List Record) → IsStorable new → AllByRecursion IsStorable records → is_indexed index new ≡ false →
    IsOther index (record_at (primary_key new) records) → of_type index.type_number (with_record new records) ≡ of_type index.type_number records
skips_new index new [] n storable aside other = ap (λ b. cond b (new ∷ []) []) aside
skips_new index new (old ∷ records) n storable aside other =
    by_order (tuple_cmp (primary_key new) (primary_key old)) (tie_swap old new storable.0 n) other (skips_new index new records n storable.1 aside)
  where
    by_order : (o : Ordering) → has_primary_key (primary_key new) old ≡ is_eq o → IsOther index (record_at (primary_key new) (old ∷ records)) →
        (IsOther index (record_at (primary_key new) records) → of_type index.type_number (with_record new records) ≡ of_type index.type_number records) →
        of_type index.type_number (placed o (new ∷ old ∷ records) (new ∷ records) (old ∷ with_record new records)) ≡ of_type index.type_number (old ∷ records)
    by_order Less is at rest = ap (λ b. cond b (new ∷ of_type index.type_number (old ∷ records)) (of_type index.type_number (old ∷ records))) aside
    by_order Equal is at rest =
        let beside : is_indexed index old ≡ false = subst (λ b. IsOther index (cond b (Some old) (record_at (primary_key new) records))) is at in
        ap (λ b. cond b (new ∷ of_type index.type_number records) (of_type index.type_number records)) aside
        ∙ sym (ap (λ b. cond b (old ∷ of_type index.type_number records) (of_type index.type_number records)) beside)
    by_order Greater is at rest =
        ap (λ rs. cond (is_indexed index old) (old ∷ rs) rs) (rest (subst (λ b. IsOther index (cond b (Some old) (record_at (primary_key new) records))) is at))

-- OTHER TYPE: where a record of another type gives way to one, those of the type are the same
pub skips : (index : IndexDefinition) (key : List Item) (old new : Option Record) (records : List Record) → IsReplacement key old new records → IsOther index old → IsOther index new →
    of_type index.type_number (replaced key new records) ≡ of_type index.type_number records
skips index key old None records given before after = skips_old index key records given.ordered given.storable (subst (IsOther index) given.found before)
skips index key old (Some new) records given before after =
    skips_new index new records given.newer.0 given.storable after
    (subst (λ k. IsOther index (record_at k records)) (sym given.newer.1) (subst (IsOther index) given.found before))
