-- Mutations that write such keys alone: what they touch, and the key that meets a limit.
use Rattle.std.proofs.Common.{◌≡◌, ◌+◌, ◌<◌, ◌≤◌, ◌⊎◌, inl, inr, ℕ, suc, Bool, true, false, not, cond, ◌||◌, List, [], ◌∷◌, ◌++◌, Option, Some, None, refl, ap, subst, ◌∙◌, length, arith, nat_le}
use Rattle.std.specs.Prelude.{IsTrue}
use Rattle.std.specs.List.{AllByRecursion, flat_map}
use Rattle.std.specs.Option.{option_or}
use Rattle.std.proofs.lemmas.Bool.{leb-false}
use Rattle.std.proofs.lemmas.List.{length-append}
use Rattle.kv_core.specs.Bytes.{end_of_keys, key_lt}
use Rattle.kv_core.specs.Change.{write_ranges}
use Rattle.kv_core.specs.Limits.{own_refusal, pair_refusal, size_of, size_of_all, write_all_refusal, write_refusal}
use Rattle.kv_core.specs.Range.{contains, covers, point}
use Rattle.kv_core.specs.declared.change.Mutation.{Mutation}
use Rattle.kv_core.specs.declared.change.Mutation.TheVariants.{Add, ClearRange, CompareAndClear, Set}
use Rattle.kv_core.specs.declared.change.WriteError.{WriteError}
use Rattle.kv_core.specs.declared.change.WriteError.TheVariants as limits
use Rattle.cluster_core.proofs.Ownership.{point_key}
use Rattle.schedule.specs.Right.{MeetsLimit}

-- ---- mutations that write such keys alone

-- a mutation writes such keys; a range that is cleared begins with one, and its end is at most a byte longer
abbrev pub WritesOnly : (List ℕ → Type 0) → Mutation → Type 0
WritesOnly May (Set key value) = May key
WritesOnly May (Add key operand) = May key
WritesOnly May (CompareAndClear key operand) = May key
WritesOnly May (ClearRange range) = May range.begin × (length range.end ≤ suc (length range.begin)) × ((key : List ℕ) → contains range key ≡ true → May key)

abbrev pub WriteOnlySuch : (List ℕ → Type 0) → List Mutation → Type 0
WriteOnlySuch May mutations = AllByRecursion (WritesOnly May) mutations

pub each_append : {X : Type 0} (P : X → Type 0) (xs ys : List X) → AllByRecursion P xs → AllByRecursion P ys → AllByRecursion P (xs ++ ys)
each_append P [] ys all more = more
each_append P (x ∷ xs) ys all more = (all.0, each_append P xs ys all.1 more)

pub each_flat : {X Y : Type 0} (P : Y → Type 0) (Q : X → Type 0) (f : X → List Y) (xs : List X) → ((x : X) → Q x → AllByRecursion P (f x)) → AllByRecursion Q xs → AllByRecursion P (flat_map f xs)
each_flat P Q f [] so all = tt
each_flat P Q f (x ∷ xs) so all = each_append P (f x) (flat_map f xs) (so x all.0) (each_flat P Q f xs so all.1)

pub wider : (May Wide : List ℕ → Type 0) → ((key : List ℕ) → May key → Wide key) → (mutations : List Mutation) → WriteOnlySuch May mutations → WriteOnlySuch Wide mutations
wider May Wide so [] all = tt
wider May Wide so (Set key value ∷ more) all = (so key all.0, wider May Wide so more all.1)
wider May Wide so (Add key operand ∷ more) all = (so key all.0, wider May Wide so more all.1)
wider May Wide so (CompareAndClear key operand ∷ more) all = (so key all.0, wider May Wide so more all.1)
wider May Wide so (ClearRange range ∷ more) (one, all) = ((so range.begin one.0, one.1, λ key inside. so key (one.2 key inside)), wider May Wide so more all)

-- the key itself
pub one_longer : (key : List ℕ) (b : ℕ) → length (key ++ b ∷ []) ≤ suc (length key)
one_longer key b = let n : length (key ++ b ∷ []) ≡ length key + 1 = length-append key (b ∷ []) in omega (arith, n)

pub clears_point : (May : List ℕ → Type 0) (key : List ℕ) → May key → WritesOnly May (ClearRange (point key))
clears_point May key may = (may, one_longer key 0, λ k inside. subst May (point_key key k inside) may)

-- ---- what is touched, and which limit is met

pub or_cases : (a b : Bool) → (a || b) ≡ true → (a ≡ true) ⊎ (b ≡ true)
or_cases true b is = inl refl
or_cases false b is = inr is

written_such : (May : List ℕ → Type 0) (mutations : List Mutation) → WriteOnlySuch May mutations → (key : List ℕ) → covers (write_ranges mutations) key ≡ true → May key
written_such May [] all key is = absurd (cc)
written_such May (Set own value ∷ more) all key is = elim (or_cases (contains (point own) key) (covers (write_ranges more) key) is) [
  | inl here ↦ subst May (point_key own key here) all.0
  | inr later ↦ written_such May more all.1 key later
]
written_such May (Add own operand ∷ more) all key is = elim (or_cases (contains (point own) key) (covers (write_ranges more) key) is) [
  | inl here ↦ subst May (point_key own key here) all.0
  | inr later ↦ written_such May more all.1 key later
]
written_such May (CompareAndClear own operand ∷ more) all key is = elim (or_cases (contains (point own) key) (covers (write_ranges more) key) is) [
  | inl here ↦ subst May (point_key own key here) all.0
  | inr later ↦ written_such May more all.1 key later
]
written_such May (ClearRange range ∷ more) all key is = elim (or_cases (contains range key) (covers (write_ranges more) key) is) [
  | inl here ↦ all.0.2 key here
  | inr later ↦ written_such May more all.1 key later
]

pub writes_such : (May : List ℕ → Type 0) (mutations : List Mutation) → WriteOnlySuch May mutations → (key : List ℕ) → IsTrue (covers (write_ranges mutations) key) → May key
writes_such May mutations all key is = written_such May mutations all key is

-- a key that meets the limit
abbrev pub Meets : (List ℕ → Type 0) → WriteError → Type 0
Meets May error = (key : List ℕ) × May key × MeetsLimit error key

pair_meets : (May : List ℕ → Type 0) (key value : List ℕ) (error : WriteError) → May key → pair_refusal key value ≡ Some error → Meets May error
pair_meets May key value error may is = by_order (key_lt key end_of_keys) refl is
  where
    by_size : (b : Bool) → nat_le (length key) 10_000 ≡ b → cond (not b) (Some limits.KeyTooLarge) (cond (not (nat_le (length value) 100_000)) (Some limits.ValueTooLarge) None) ≡ Some error → Meets May error
    by_size false large same = let told : limits.KeyTooLarge ≡ error = cc in subst (Meets May) told (key, may, leb-false (length key) 10_000 large)
    by_size true fits same = by_value (nat_le (length value) 100_000) same
      where
        by_value : (b : Bool) → cond (not b) (Some limits.ValueTooLarge) None ≡ Some error → Meets May error
        by_value false said = let told : limits.ValueTooLarge ≡ error = cc in subst (Meets May) told (key, may, tt)
        by_value true said = absurd (cc)

    by_order : (b : Bool) → key_lt key end_of_keys ≡ b →
        cond (not b) (Some limits.KeyOutside) (cond (not (nat_le (length key) 10_000)) (Some limits.KeyTooLarge) (cond (not (nat_le (length value) 100_000)) (Some limits.ValueTooLarge) None)) ≡ Some error → Meets May error
    by_order false out same = let told : limits.KeyOutside ≡ error = cc in subst (Meets May) told (key, may, out)
    by_order true inside same = by_size (nat_le (length key) 10_000) refl same

own_meets : (May : List ℕ → Type 0) (mutation : Mutation) (error : WriteError) → WritesOnly May mutation → own_refusal mutation ≡ Some error → Meets May error
own_meets May (Set key value) error may is = pair_meets May key value error may is
own_meets May (Add key operand) error may is = pair_meets May key operand error may is
own_meets May (CompareAndClear key operand) error may is = pair_meets May key operand error may is
own_meets May (ClearRange range) error may is = by_begin (nat_le (length range.begin) 10_000) refl is
  where
    by_end : (b : Bool) → nat_le (length range.end) 10_001 ≡ b → cond (not b) (Some limits.KeyTooLarge) None ≡ Some error → Meets May error
    by_end false large said =
        let told : limits.KeyTooLarge ≡ error = cc in
        let n : 10_001 < length range.end = leb-false (length range.end) 10_001 large in
        let most : length range.end ≤ suc (length range.begin) = may.1 in
        subst (Meets May) told (range.begin, may.0, omega (arith, n, most))
    by_end true fits said = absurd (cc)

    by_begin : (b : Bool) → nat_le (length range.begin) 10_000 ≡ b → cond (not b) (Some limits.KeyTooLarge) (cond (not (nat_le (length range.end) 10_001)) (Some limits.KeyTooLarge) None) ≡ Some error → Meets May error
    by_begin false large said = let told : limits.KeyTooLarge ≡ error = cc in subst (Meets May) told (range.begin, may.0, leb-false (length range.begin) 10_000 large)
    by_begin true fits said = by_end (nat_le (length range.end) 10_001) refl said

some_key : (May : List ℕ → Type 0) (mutation : Mutation) → WritesOnly May mutation → (key : List ℕ) × May key
some_key May (Set key value) may = (key, may)
some_key May (Add key operand) may = (key, may)
some_key May (CompareAndClear key operand) may = (key, may)
some_key May (ClearRange range) may = (range.begin, may.0)

one_meets : (May : List ℕ → Type 0) (before : List Mutation) (mutation : Mutation) (error : WriteError) → WritesOnly May mutation → write_refusal before mutation ≡ Some error → Meets May error
one_meets May before mutation error may is = by_own (own_refusal mutation) refl is
  where
    by_size : (b : Bool) → cond (not b) (Some limits.TransactionTooLarge) None ≡ Some error → Meets May error
    by_size false said = let told : limits.TransactionTooLarge ≡ error = cc in let some = some_key May mutation may in subst (Meets May) told (some.0, some.1, tt)
    by_size true said = absurd (cc)

    by_own : (o : Option WriteError) → own_refusal mutation ≡ o → option_or o (cond (not (nat_le (size_of_all before + size_of mutation) 10_000_000)) (Some limits.TransactionTooLarge) None) ≡ Some error → Meets May error
    by_own (Some why) own said = let told : why ≡ error = cc in own_meets May mutation error may (own ∙ ap Some told)
    by_own None own said = by_size (nat_le (size_of_all before + size_of mutation) 10_000_000) said

pub limit_met : (May : List ℕ → Type 0) (before mutations : List Mutation) (error : WriteError) → WriteOnlySuch May mutations → write_all_refusal before mutations ≡ Some error → Meets May error
limit_met May before [] error all is = absurd (cc)
limit_met May before (mutation ∷ more) error all is = by_first (write_refusal before mutation) refl is (limit_met May (before ++ mutation ∷ []) more error all.1)
  where
    by_first : (o : Option WriteError) → write_refusal before mutation ≡ o → option_or o (write_all_refusal (before ++ mutation ∷ []) more) ≡ Some error →
        (write_all_refusal (before ++ mutation ∷ []) more ≡ Some error → Meets May error) → Meets May error
    by_first (Some why) first said later = let told : why ≡ error = cc in one_meets May before mutation error all.0 (first ∙ ap Some told)
    by_first None first said later = later said
