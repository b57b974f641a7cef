-- Which pairs stand for a range.
use Rattle.std.proofs.Common.{◌≡◌, ℕ, arith, false, ◌&&◌, List, [], ◌∷◌, ◌++◌, Some, None, Result, Ok, Err, IfErr, IfOk, sym, ap, subst, ◌∙◌}
use Rattle.std.proofs.lemmas.Bool.{true≢false}
use Rattle.tuple_codec.specs.Item.{Item, IsTuple, AreBytes, bytes}
use Rattle.tuple_codec.specs.Subspace.{SpellsUnder, subspace_key}
use Rattle.tuple_codec.proofs.Prefixes.{key_spells}
use Rattle.tuple_codec.proofs.Spellings.{one_spelling}
use Rattle.kv_core.specs.Range.{KeyRange, is_key_range}
use Rattle.kv_core.proofs.Order.{le_from_lt}
use Rattle.range_set.specs.declared.error.RangeSetError.{RangeSetError}
use Rattle.range_set.specs.declared.error.RangeSetError.TheVariants.{Memory, Read, Corrupt}
use Rattle.range_set.specs.Steps.{IsNoStoredRange, IsPairOfNoRange, IsPairOfRange, IsSpelledAs, IsUnspelled, only_bytes}
use Rattle.range_set.specs.Stored.{IsStoredRange}

pub if_err_map : {T : Type 0} (r : Result T RangeSetError) (P Q : RangeSetError → Type 0) → ((error : RangeSetError) → P error → Q error) → IfErr r P → IfErr r Q
if_err_map (Ok value) P Q f h = tt
if_err_map (Err error) P Q f h = f error h

pub spelled_as : (self place at key : List ℕ) (t : List Item) → self ≡ place → at ≡ key → SpellsUnder self t at → ((u : List Item) → SpellsUnder self u at → t ≡ u) → IsSpelledAs place key t
spelled_as self place at key t same here spelled only = record {
  spelled = subst (λ p. SpellsUnder p t key) same (subst (λ k. SpellsUnder self t k) here spelled);
  only = λ u s. only u (subst (λ p. SpellsUnder p u at) (sym same) (subst (λ k. SpellsUnder place u k) (sym here) s));
}

pub unspelled : (self place at key : List ℕ) → self ≡ place → at ≡ key → ((u : List Item) → SpellsUnder self u at → ⊥) → (u : List Item) → SpellsUnder place u key → ⊥
unspelled self place at key same here none u s = none u (subst (λ p. SpellsUnder p u at) (sym same) (subst (λ k. SpellsUnder place u k) (sym here) s))

-- a range that isn't one of keys can't be stored
pub no_stored : (begin end : List ℕ) → is_key_range (record { begin = begin; end = end }) ≡ false → IsStoredRange (record { begin = begin; end = end }) → ⊥
no_stored begin end none is = true≢false (sym (λ i. le_from_lt begin end is.some i && is.upto i) ∙ none)

-- ---- pairs

one_tuple : (begin : List ℕ) → AreBytes begin → IsTuple (bytes begin ∷ [])
one_tuple begin h = record { items = (h, tt); depth = omega arith }

spells_it : (place : List ℕ) (pair : List ℕ × List ℕ) (range : KeyRange) → IsPairOfRange place pair range → SpellsUnder place (bytes range.begin ∷ []) pair.0
spells_it place pair range is =
    subst (λ k. SpellsUnder place (bytes range.begin ∷ []) k) (sym (ap (λ (p : List ℕ × List ℕ). p.0) is.is)) (key_spells place (bytes range.begin ∷ []) (one_tuple range.begin is.stored.begin))

pub unread_key : (place : List ℕ) (pair : List ℕ × List ℕ) (error : RangeSetError) → IsUnspelled place pair.0 error → IsPairOfNoRange place pair error
unread_key place pair Memory none = tt
unread_key place pair (Read error) none = none
unread_key place pair (Corrupt key) none = (none.0, λ range is. none.1 (bytes range.begin ∷ []) (spells_it place pair range is))

some_bytes : (a b : List ℕ) → Some a ≡ Some b → a ≡ b
some_bytes a b same = cc

pub unread_range : (place : List ℕ) (pair : List ℕ × List ℕ) (t : List Item) (begin : List ℕ) → IsSpelledAs place pair.0 t → Some begin ≡ only_bytes t → (error : RangeSetError) → IsNoStoredRange pair.0 begin pair.1 error → IsPairOfNoRange place pair error
unread_range place pair t begin told found Memory none = tt
unread_range place pair t begin told found (Read error) none = none
unread_range place pair t begin told found (Corrupt key) none = (
  none.0,
  λ range is.
      let same : begin ≡ range.begin = some_bytes begin range.begin (found ∙ ap only_bytes (told.only (bytes range.begin ∷ []) (spells_it place pair range is))) in
      none.1 (subst IsStoredRange (λ i. record { begin = sym same i; end = sym (ap (λ (p : List ℕ × List ℕ). p.1) is.is) i }) is.stored),
)

pub unread_tuple : (place : List ℕ) (pair : List ℕ × List ℕ) (t : List Item) → IsSpelledAs place pair.0 t → None ≡ only_bytes t → (range : KeyRange) → IsPairOfRange place pair range → ⊥
unread_tuple place pair t told found range is = no_bytes range.begin (found ∙ ap only_bytes (told.only (bytes range.begin ∷ []) (spells_it place pair range is)))
  where
    no_bytes : (b : List ℕ) → None ≡ Some b → ⊥
    no_bytes b h = cc

-- a tuple whose only item is bytes
only_bytes-is : (t : List Item) (begin : List ℕ) → Some begin ≡ only_bytes t → t ≡ bytes begin ∷ []
only_bytes-is (bytes b ∷ []) begin h = ap (λ k. bytes k ∷ []) (sym (some_bytes begin b h))
only_bytes-is t begin h = cc

-- a pair that was found is read as its range
pub read_as : (place : List ℕ) (pair : List ℕ × List ℕ) (t : List Item) (begin : List ℕ) (range : KeyRange) → IsSpelledAs place pair.0 t → Some begin ≡ only_bytes t →
    range ≡ record { begin = begin; end = pair.1 } → IsStoredRange range → IsPairOfRange place pair range
read_as place pair t begin range told found same stored = record {
  stored = stored;
  is = λ i. (keyed i, sym (ap (λ (r : KeyRange). r.end) same) i);
}
  where
    keyed : pair.0 ≡ subspace_key place (bytes range.begin ∷ [])
    keyed =
        told.spelled.1 ∙ ap (λ rest. place ++ rest) (one_spelling t told.spelled.0 told.spelled.2)
        ∙ ap (subspace_key place) (only_bytes-is t begin found ∙ ap (λ k. bytes k ∷ []) (sym (ap (λ (r : KeyRange). r.begin) same)))

pub if_ok_map : {T : Type 0} (r : Result T RangeSetError) (P Q : T → Type 0) → ((value : T) → P value → Q value) → IfOk r P → IfOk r Q
if_ok_map (Ok value) P Q f h = f value h
if_ok_map (Err error) P Q f h = tt
