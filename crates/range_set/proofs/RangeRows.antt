-- The ranges that pairs stand for, one pair after another.
use Rattle.std.proofs.Common.{◌≡◌, ◌<◌, ◌+◌, ℕ, arith, Bool, true, List, [], ◌∷◌, ◌++◌, map, take, drop, length, get_or, append_assoc, refl, sym, ap, subst, ◌∙◌, IsTrue}
use Rattle.std.specs.Prelude.{zero, suc}
use Rattle.std.specs.List.{AllByRecursion}
use Rattle.std.proofs.lemmas.List.{map-append, take-map, take_at, take_more}
use Rattle.kv_core.specs.Bytes.{key_le, key_lt}
use Rattle.kv_core.specs.Range.{KeyRange}
use Rattle.kv_core.proofs.Order.{clash, le_from_lt, le_refl, le_trans}
use Rattle.range_set.specs.declared.error.RangeSetError.{RangeSetError}
use Rattle.range_set.specs.declared.error.RangeSetError.TheVariants.{Memory, Read, Corrupt}
use Rattle.range_set.specs.Steps.{HaveNoRanges, IsNext, IsNotNext, IsPairOfRange, last_end}
use Rattle.range_set.specs.Stored.{ArePairsOf, AreStored, AreWritten, IsFirstDamaged, IsStoredRange, range_pair}
use Rattle.range_set.proofs.PlacePairs.{one_range}

abbrev Pair : Type 0
Pair = List ℕ × List ℕ

-- ---- lists

all_append : {X : Type 0} (P : X → Type 0) (xs : List X) (x : X) → AllByRecursion P xs → P x → AllByRecursion P (xs ++ x ∷ [])
all_append P [] x all one = (one, tt)
all_append P (y ∷ xs) x all one = (all.0, all_append P xs x all.1 one)

all_take : {X : Type 0} (P : X → Type 0) (n : ℕ) (xs : List X) → AllByRecursion P xs → AllByRecursion P (take n xs)
all_take P zero xs all = tt
all_take P (suc n) [] all = tt
all_take P (suc n) (x ∷ xs) all = (all.0, all_take P n xs all.1)

split_at : {X : Type 0} (i : ℕ) (xs : List X) (x : X) → i < length xs → x ≡ get_or xs i x → xs ≡ take i xs ++ x ∷ drop (suc i) xs
split_at zero [] x within is = absurd (omega (arith, within))
split_at zero (y ∷ xs) x within is = ap (λ z. z ∷ xs) (sym is)
split_at (suc i) [] x within is = absurd (omega (arith, within))
split_at (suc i) (y ∷ xs) x within is = ap (λ ys. y ∷ ys) (split_at i xs x (omega (arith, within)) is)

-- ---- ranges that may be stored together

stored_take : (n : ℕ) (ranges : List KeyRange) → AreStored ranges → AreStored (take n ranges)
stored_take zero ranges h = tt
stored_take (suc n) [] h = tt
stored_take (suc n) (range ∷ ranges) h = (h.0, all_take (λ later. IsTrue (key_le range.end later.begin)) n ranges h.1, stored_take n ranges h.2)

-- all begin behind no bytes
pub all_from : (ranges : List KeyRange) → AllByRecursion (λ later. IsTrue (key_le [] later.begin)) ranges
all_from [] = tt
all_from (range ∷ ranges) = (starts range.begin, all_from ranges)
  where
    starts : (position : List ℕ) → key_le [] position ≡ true
    starts [] = refl
    starts (b ∷ position) = refl

pub last_end-more : (low : List ℕ) (ranges : List KeyRange) (range : KeyRange) → last_end low (ranges ++ range ∷ []) ≡ range.end
last_end-more low [] range = refl
last_end-more low (first ∷ ranges) range = last_end-more first.end ranges range

-- the last one ends behind where all begin
end_from : (low : List ℕ) (ranges : List KeyRange) → AreStored ranges → AllByRecursion (λ later. IsTrue (key_le low later.begin)) ranges → key_le low (last_end low ranges) ≡ true
end_from low [] h all = le_refl low
end_from low (range ∷ ranges) h all =
    le_trans low range.end (last_end range.end ranges) (le_trans low range.begin range.end all.0 (le_from_lt range.begin range.end h.0.some)) (end_from range.end ranges h.2 h.1)

-- one more behind the last one
stored_more : (low : List ℕ) (ranges : List KeyRange) (range : KeyRange) → AreStored ranges → IsStoredRange range → key_le (last_end low ranges) range.begin ≡ true → AreStored (ranges ++ range ∷ [])
stored_more low [] range h is behind = (is, tt, tt)
stored_more low (first ∷ ranges) range h is behind = (
  h.0,
  all_append (λ later. IsTrue (key_le first.end later.begin)) ranges range h.1 (le_trans first.end (last_end first.end ranges) range.begin (end_from first.end ranges h.2 h.1) behind),
  stored_more first.end ranges range h.2 is behind,
)

-- ---- their pairs

module _ (place : List ℕ) where
  -- the first ones of pairs of the written form are of it
  written_front : (before behind : List Pair) → AreWritten place (before ++ behind) → AreWritten place before
  written_front before behind w = (
    take (length before) w.0,
    record {
      stored = stored_take (length before) w.0 w.1.stored;
      are = sym (take_at before behind (length before) refl) ∙ ap (take (length before)) w.1.are ∙ take-map (range_pair place) (length before) w.0;
    },
  )

  -- DAMAGE: so none of them is damaged
  pub not_damaged : (pairs : List Pair) (key : List ℕ) → AreWritten place pairs → IsFirstDamaged place pairs key → ⊥
  not_damaged pairs key w d =
      d.damaged (written_front (d.before ++ d.bad ∷ []) d.behind (subst (AreWritten place) (d.split ∙ sym (append_assoc d.before (d.bad ∷ []) d.behind)) w))

  -- MORE: one pair more stands for the next range
  pub ranges_more : (i : ℕ) (pairs : List Pair) (pair : Pair) (ranges : List KeyRange) (range : KeyRange) (end : List ℕ) → i < length pairs → pair ≡ get_or pairs i pair →
      ArePairsOf place (take i pairs) ranges → end ≡ last_end [] ranges → IsNext place end pair range → ArePairsOf place (take (i + 1) pairs) (ranges ++ range ∷ [])
  ranges_more i pairs pair ranges range end within is good ends next = record {
    stored = stored_more [] ranges range good.stored next.stands.stored (subst (λ e. key_le e range.begin ≡ true) ends next.behind);
    are =
        take_more pairs i pair within ∙ ap (λ p. take i pairs ++ p ∷ []) (sym is ∙ next.stands.is)
        ∙ ap (λ ps. ps ++ range_pair place range ∷ []) good.are ∙ sym (map-append (range_pair place) ranges (range ∷ []));
  }

  -- behind the pairs of ranges, a pair with which they are of the written form stands for the next range
  next_of : (low : List ℕ) (ranges others : List KeyRange) (pair : Pair) → AreStored ranges → AreStored others → AllByRecursion (λ later. IsTrue (key_le low later.begin)) others →
      map (range_pair place) ranges ++ pair ∷ [] ≡ map (range_pair place) others → (range : KeyRange) × IsNext place (last_end low ranges) pair range
  next_of low [] [] pair h k all same = cc
  next_of low [] (other ∷ others) pair h k all same =
      let first : pair ≡ range_pair place other = cc in
      (other, record { stands = record { stored = k.0; is = first }; behind = all.0 })
  next_of low (range ∷ ranges) [] pair h k all same = cc
  next_of low (range ∷ ranges) (other ∷ others) pair h k all same =
      let first : range_pair place range ≡ range_pair place other = cc in
      let rest : map (range_pair place) ranges ++ pair ∷ [] ≡ map (range_pair place) others = cc in
      let one : range ≡ other = one_range place range other h.0 k.0 first in
      next_of range.end ranges others pair h.2 k.2 (subst (λ (r : KeyRange). AllByRecursion (λ later. IsTrue (key_le r.end later.begin)) others) (sym one) k.1) rest

  -- DAMAGED: a pair that stands for no next range is the first damaged one
  pub damaged_at : (i : ℕ) (pairs : List Pair) (pair : Pair) (ranges : List KeyRange) (end : List ℕ) (error : RangeSetError) → i < length pairs → pair ≡ get_or pairs i pair →
      ArePairsOf place (take i pairs) ranges → end ≡ last_end [] ranges → IsNotNext place end pair error → HaveNoRanges place pairs error
  damaged_at i pairs pair ranges end Memory within is good ends none = tt
  damaged_at i pairs pair ranges end (Read error) within is good ends none = none
  damaged_at i pairs pair ranges end (Corrupt key) within is good ends none = record {
    before = take i pairs;
    bad = pair;
    behind = drop (suc i) pairs;
    split = split_at i pairs pair within is;
    good = (ranges, good);
    damaged = λ w.
        let next = next_of [] ranges w.0 pair good.stored w.1.stored (all_from w.0) (ap (λ ps. ps ++ pair ∷ []) (sym good.are) ∙ w.1.are) in
        none.1 next.0 (subst (λ e. IsNext place e pair next.0) (sym ends) next.1);
    at = none.0;
  }

  -- OVERLAP: a pair whose range begins before an end stands for no range that is next
  pub overlap : (end : List ℕ) (pair : Pair) (range : KeyRange) (begin : List ℕ) (b : Bool) → IsPairOfRange place pair range → begin ≡ range.begin → b ≡ key_lt begin end → b ≡ true → (other : KeyRange) → IsNext place end pair other → ⊥
  overlap end pair range begin b is first tests true_so other next =
      let same : range ≡ other = one_range place range other is.stored next.stands.stored (sym is.is ∙ next.stands.is) in
      clash range.begin end (ap (λ k. key_lt k end) (sym first) ∙ sym tests ∙ true_so) (subst (λ (r : KeyRange). key_le end r.begin ≡ true) (sym same) next.behind)
