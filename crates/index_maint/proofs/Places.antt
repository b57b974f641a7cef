-- The places of a store under its prefix: no key is in two of them.
use Rattle.std.proofs.Common.{◌≡◌, arith, ℕ, ◌<◌, ◌^◌, List, [], ◌∷◌, ◌++◌, append_assoc, refl, sym, ap, subst, ◌∙◌, pos}
use Rattle.std.specs.Ordering.{nat_cmp, ordering_then}
use Rattle.std.specs.declared.cmp.Ordering.{Ordering}
use Rattle.std.specs.declared.cmp.Ordering.TheVariants.{Less, Equal, Greater}
use Rattle.std.specs.FinMap.{nat_cmp-IsAntisymmetric}
use Rattle.std.proofs.lemmas.Cmp.{tied_itself, nat_list_cmp_total}
use Rattle.tuple_codec.specs.Item.{Item, int}
use Rattle.tuple_codec.specs.Spelling.{int_spelling, item_spelling, outer, spelling}
use Rattle.tuple_codec.specs.Subspace.{BeginsWith, subspace_key}
use Rattle.tuple_codec.proofs.IntOrder.{cmp_int, int_cmp_pos}
use Rattle.tuple_codec.proofs.Prefixes.{cancel}
use Rattle.kv_core.specs.Bytes.{key_cmp}
use Rattle.index_maint.specs.Layout.{entries_prefix}

-- what begins with a prefix and more begins with the prefix
pub begins_before : (p q key : List ℕ) → BeginsWith (p ++ q) key → BeginsWith p key
begins_before p q key (rest, is) = (q ++ rest, is ∙ append_assoc p q rest)

-- a key of items begins with the first of them
abbrev pub first_item : (p key : List ℕ) (one : Item) (more : List Item) → BeginsWith (subspace_key p (one ∷ more)) key → (rest : List ℕ) × (key ≡ p ++ (item_spelling outer one ++ rest))
first_item p key one more (rest, is) = (
  spelling more ++ rest,
  is ∙ append_assoc p (item_spelling outer one ++ spelling more) rest ∙ ap (λ k. p ++ k) (append_assoc (item_spelling outer one) (spelling more) rest),
)

-- numbers behind one prefix that begin one key are the same
same_number : (m n : ℕ) (r q : List ℕ) → m < 2 ^ 64 → n < 2 ^ 64 → int_spelling (pos m) ++ r ≡ int_spelling (pos n) ++ q → m ≡ n
same_number m n r q low high same =
    nat_cmp-IsAntisymmetric m n (first_equal (nat_cmp m n) (key_cmp r q)
    (ap (λ o. ordering_then o (key_cmp r q)) (sym (int_cmp_pos m n)) ∙ sym (cmp_int (pos m) (pos n) r q low high)
    ∙ ap (key_cmp (int_spelling (pos m) ++ r)) (sym same) ∙ tied_itself nat_list_cmp_total (int_spelling (pos m) ++ r)))
  where
    first_equal : (o q : Ordering) → ordering_then o q ≡ Equal → o ≡ Equal
    first_equal Less q e = cc
    first_equal Equal q e = refl
    first_equal Greater q e = cc

-- PLACES: keys under different numbers differ, whatever comes behind the numbers
pub places_apart : (p key : List ℕ) (m n : ℕ) (ms ns : List Item) → m < 2 ^ 64 → n < 2 ^ 64 →
    BeginsWith (subspace_key p (int (pos m) ∷ ms)) key → BeginsWith (subspace_key p (int (pos n) ∷ ns)) key → m ≡ n
places_apart p key m n ms ns low high one other =
    let a = first_item p key (int (pos m)) ms one in
    let b = first_item p key (int (pos n)) ns other in
    same_number m n a.0 b.0 low high (cancel p (int_spelling (pos m) ++ a.0) (int_spelling (pos n) ++ b.0) (sym a.1 ∙ b.1))

-- keys are those of their last items behind the key of the first one
behind_first : (p : List ℕ) (one : Item) (more : List Item) → subspace_key p (one ∷ more) ≡ subspace_key (p ++ item_spelling outer one) more
behind_first p one more = sym (append_assoc p (item_spelling outer one) (spelling more))

-- so do keys under one item and different numbers
pub parts_apart : (p key : List ℕ) (one : Item) (m n : ℕ) (ms ns : List Item) → m < 2 ^ 64 → n < 2 ^ 64 →
    BeginsWith (subspace_key p (one ∷ int (pos m) ∷ ms)) key → BeginsWith (subspace_key p (one ∷ int (pos n) ∷ ns)) key → m ≡ n
parts_apart p key one m n ms ns low high a b =
    places_apart (p ++ item_spelling outer one) key m n ms ns low high
    (subst (λ k. BeginsWith k key) (behind_first p one (int (pos m) ∷ ms)) a) (subst (λ k. BeginsWith k key) (behind_first p one (int (pos n) ∷ ns)) b)

-- INDEXES: keys of entries of different indexes differ
pub indexes_apart : (p key : List ℕ) (i j : ℕ) → i < 2 ^ 64 → j < 2 ^ 64 → BeginsWith (entries_prefix p i) key → BeginsWith (entries_prefix p j) key → i ≡ j
indexes_apart p key i j low high a b = parts_apart p key (int (pos 2)) i j [] [] low high a b

-- ELSEWHERE: no key of an entry is under another number than 2
pub entries_elsewhere : (p key : List ℕ) (i n : ℕ) (ns : List Item) → n < 2 ^ 64 → (n ≡ 2 → ⊥) → BeginsWith (entries_prefix p i) key → BeginsWith (subspace_key p (int (pos n) ∷ ns)) key → ⊥
entries_elsewhere p key i n ns low other a b = other (sym (places_apart p key 2 n (int (pos i) ∷ []) ns (omega arith) low a b))

-- so keys under different numbers are different keys
pub places_differ : (p a b : List ℕ) (m n : ℕ) (ms ns : List Item) → m < 2 ^ 64 → n < 2 ^ 64 → (m ≡ n → ⊥) →
    BeginsWith (subspace_key p (int (pos m) ∷ ms)) a → BeginsWith (subspace_key p (int (pos n) ∷ ns)) b → a ≡ b → ⊥
places_differ p a b m n ms ns low high differ one other same = differ (places_apart p b m n ms ns low high (subst (BeginsWith (subspace_key p (int (pos m) ∷ ms))) same one) other)
