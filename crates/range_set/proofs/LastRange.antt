-- What reading backwards from a position finds among the ranges that a map has: whether the position is in the set.
use Rattle.std.proofs.Common.{◌≡◌, inl, inr, ℕ, Bool, true, false, not, cond, ◌&&◌, ◌||◌, List, [], ◌∷◌, ◌++◌, map, take, reverse, append_assoc, refl, sym, ap, subst, ◌∙◌, IsTrue}
use Rattle.std.specs.List.{AllByRecursion, filter}
use Rattle.std.specs.Ordering.{is_lt}
use Rattle.tuple_codec.specs.Item.{AreBytes, bytes}
use Rattle.tuple_codec.specs.Spelling.{spelling}
use Rattle.tuple_codec.proofs.Prefixes.{cmp_behind}
use Rattle.kv_core.specs.Bytes.{key_le, key_lt, next_key}
use Rattle.kv_core.specs.Map.{Map, pairs_in}
use Rattle.kv_core.specs.Range.{KeyRange, contains, entries_in}
use Rattle.kv_core.specs.Read.{read_of}
use Rattle.kv_core.proofs.Order.{cases_key, le_from_lt, le_lt_trans, less_self, lt_le_trans}
use Rattle.kv_core.proofs.Pairs.{next_least}
use Rattle.kv_core.proofs.Stored.{last_first, pairs_in-stored, stored}
use Rattle.range_set.specs.Gaps.{has_position}
use Rattle.range_set.specs.Stored.{ArePairsOf, AreStored, AreWritten, HasSet, IsStoredRange, range_key, range_pair, upto_range}
use Rattle.range_set.specs.Steps.{ends_behind}
use Rattle.range_set.proofs.PlacePairs.{key_order, keys_rise, place_pairs}

abbrev Pair : Type 0
Pair = List ℕ × List ℕ

-- ---- the ranges that begin at a position or before it

-- before the next key is at the key or before it
lt_next : (a k : List ℕ) → key_lt a (next_key k) ≡ key_le a k
lt_next a k = elim (cases_key k a) [
  | inl behind ↦ next_least k a behind ∙ sym (ap not behind)
  | inr upto ↦ le_lt_trans a k (next_key k) upto (less_self k) ∙ sym upto
]

-- of the ranges those are read that begin at the position or before it
upto_contains : (place : List ℕ) (position begin : List ℕ) → AreBytes position → AreBytes begin → contains (upto_range place position) (range_key place begin) ≡ key_le begin position
upto_contains place position begin h k =
    (λ i. not (is_lt (cmp_behind place (spelling (bytes begin ∷ [])) (0 ∷ []) i)) && lt_next (range_key place begin) (range_key place position) i)
    ∙ ap (λ o. not (is_lt o)) (key_order place position begin h k)

abbrev upto : List ℕ → List KeyRange → List KeyRange
upto position ranges = filter (λ range. key_le range.begin position) ranges

entries_upto : (place position : List ℕ) (ranges : List KeyRange) → AreBytes position → AreStored ranges →
    entries_in (upto_range place position) (map (range_pair place) ranges) ≡ map (range_pair place) (upto position ranges)
entries_upto place position [] h stored_so = refl
entries_upto place position (range ∷ ranges) h stored_so =
    ap (λ b. cond b (range_pair place range ∷ entries_in (upto_range place position) (map (range_pair place) ranges)) (entries_in (upto_range place position) (map (range_pair place) ranges)))
    (upto_contains place position range.begin h stored_so.0.begin)
    ∙ by_test (key_le range.begin position) (entries_upto place position ranges h stored_so.2)
  where
    by_test : (b : Bool) → entries_in (upto_range place position) (map (range_pair place) ranges) ≡ map (range_pair place) (upto position ranges) →
        cond b (range_pair place range ∷ entries_in (upto_range place position) (map (range_pair place) ranges)) (entries_in (upto_range place position) (map (range_pair place) ranges))
        ≡ map (range_pair place) (cond b (range ∷ upto position ranges) (upto position ranges))
    by_test true rest = ap (λ ps. range_pair place range ∷ ps) rest
    by_test false rest = rest

-- ---- what the last of them tells

-- the first pair tells whether a position is in the set: it is where the pair's value lies behind the position
abbrev pub is_told : List ℕ → List Pair → Bool
is_told position [] = false
is_told position (pair ∷ pairs) = key_lt position pair.1

-- so does the range that it stands for
range_tells : (place position : List ℕ) (ranges : List KeyRange) → ends_behind position ranges ≡ is_told position (map (range_pair place) ranges)
range_tells place position [] = refl
range_tells place position (range ∷ ranges) = refl

last_tells : List ℕ → List Pair → Bool
last_tells position [] = false
last_tells position (pair ∷ []) = key_lt position pair.1
last_tells position (pair ∷ other ∷ pairs) = last_tells position (other ∷ pairs)

-- the last pair, and those before it
record IsSplit (position : List ℕ) (pairs : List Pair) : Type 0 where
  pub front : List Pair
  pub last : Pair
  pub is : pairs ≡ front ++ last ∷ []
  pub tells : last_tells position pairs ≡ key_lt position last.1

split_last : (position : List ℕ) (pair : Pair) (pairs : List Pair) → IsSplit position (pair ∷ pairs)
unfolding last_tells
split_last position pair [] = record { front = []; last = pair; is = refl; tells = refl }
split_last position pair (other ∷ pairs) =
    let rest = split_last position other pairs in
    record { front = pair ∷ rest.front; last = rest.last; is = ap (λ ps. pair ∷ ps) rest.is; tells = rest.tells }

first_back : (position : List ℕ) (pairs : List Pair) → is_told position (take 1 (reverse pairs)) ≡ last_tells position pairs
unfolding last_tells
first_back position [] = refl
first_back position (pair ∷ pairs) =
    let s = split_last position pair pairs in
    ap (λ ps. is_told position (take 1 ps)) (last_first (pair ∷ pairs) s.front s.last s.is) ∙ sym s.tells

-- no range is read or has the position where all begin behind it
none_begin : (position : List ℕ) (ranges : List KeyRange) → AllByRecursion (λ later. key_lt position later.begin ≡ true) ranges → (upto position ranges ≡ []) × (has_position ranges position ≡ false)
none_begin position [] all = (refl, refl)
none_begin position (range ∷ ranges) all =
    let rest = none_begin position ranges all.1 in (
      ap (λ b. cond (not b) (range ∷ upto position ranges) (upto position ranges)) all.0 ∙ rest.0,
      ap (λ b. (not b && key_lt position range.end) || has_position ranges position) all.0 ∙ rest.1,
    )

all_behind : (position low : List ℕ) (ranges : List KeyRange) → key_lt position low ≡ true → AllByRecursion (λ later. IsTrue (key_le low later.begin)) ranges → AllByRecursion (λ later. key_lt position later.begin ≡ true) ranges
all_behind position low [] less all = tt
all_behind position low (range ∷ ranges) less all = (lt_le_trans position low range.begin less all.0, all_behind position low ranges less all.1)

-- DECIDES: the last range that begins at a position or before it tells whether the position is in the set
last_decides : (place position : List ℕ) (ranges : List KeyRange) → AreStored ranges →
    last_tells position (map (range_pair place) (upto position ranges)) ≡ has_position ranges position
unfolding last_tells
last_decides place position [] stored_so = refl
last_decides place position (range ∷ ranges) stored_so = elim (cases_key position range.begin) [
  | inl low ↦
      let none = none_begin position (range ∷ ranges) (low, all_behind position range.end ranges (lt_le_trans position range.begin range.end low (le_from_lt range.begin range.end stored_so.0.some)) stored_so.1) in
      ap (λ rs. last_tells position (map (range_pair place) rs)) none.0 ∙ sym none.1
  | inr high ↦
      ap (λ b. last_tells position (map (range_pair place) (cond b (range ∷ upto position ranges) (upto position ranges)))) high
      ∙ by_end (key_lt position range.end) refl (last_decides place position ranges stored_so.2)
      ∙ sym (ap (λ b. (b && key_lt position range.end) || has_position ranges position) high)
]
  where
    skips : (pairs : List Pair) → key_lt position range.end ≡ false → last_tells position (range_pair place range ∷ pairs) ≡ last_tells position pairs
    skips [] past = past
    skips (pair ∷ pairs) past = refl

    by_end : (b : Bool) → key_lt position range.end ≡ b → last_tells position (map (range_pair place) (upto position ranges)) ≡ has_position ranges position →
        last_tells position (range_pair place range ∷ map (range_pair place) (upto position ranges)) ≡ (key_lt position range.end || has_position ranges position)
    by_end true within rest =
        let none = none_begin position ranges (all_behind position range.end ranges within stored_so.1) in
        ap (λ rs. last_tells position (range_pair place range ∷ map (range_pair place) rs)) none.0 ∙ within ∙ sym (ap (λ b. b || has_position ranges position) within)
    by_end false past rest = skips (map (range_pair place) (upto position ranges)) past ∙ rest ∙ sym (ap (λ b. b || has_position ranges position) past)

-- ---- the read

module _ (place position : List ℕ) where
  -- the pairs of the range that is read, of which the last one is
  pairs_upto : (set : List KeyRange) (m : Map) → AreBytes position → (has : HasSet place set m) →
      pairs_in m (upto_range place position) ≡ map (range_pair place) (upto position has.ranges)
  pairs_upto set m h has =
      in_place ∙ pairs_in-stored (map (range_pair place) has.ranges) (upto_range place position) (keys_rise place has.ranges has.stored)
      ∙ entries_upto place position has.ranges h has.stored
    where
      -- the end of the range begins as its begin does
      ends : place ++ (spelling (bytes position ∷ []) ++ 0 ∷ []) ≡ (place ++ spelling (bytes position ∷ [])) ++ 0 ∷ []
      ends = sym (append_assoc place (spelling (bytes position ∷ [])) (0 ∷ []))

      in_place : pairs_in m (upto_range place position) ≡ pairs_in (stored (map (range_pair place) has.ranges)) (upto_range place position)
      in_place =
          subst (λ e. pairs_in m (record { begin = place ++ 0 ∷ []; end = e }) ≡ pairs_in (stored (map (range_pair place) has.ranges)) (record { begin = place ++ 0 ∷ []; end = e }))
          ends (place_pairs place has.ranges m (0 ∷ []) (spelling (bytes position ∷ []) ++ 0 ∷ []) has.has)

  -- READ: so the read backwards tells it, whatever else the map has
  pub found_tells : (set : List KeyRange) (m : Map) → AreBytes position → HasSet place set m → is_told position (read_of m (upto_range place position) 1 true) ≡ has_position set position
  found_tells set m h has =
      ap (λ ps. is_told position (take 1 (reverse ps))) (pairs_upto set m h has)
      ∙ first_back position (map (range_pair place) (upto position has.ranges))
      ∙ last_decides place position has.ranges has.stored ∙ has.same position

  pub range_found_tells : (set ranges : List KeyRange) (m : Map) → AreBytes position → ArePairsOf place (read_of m (upto_range place position) 1 true) ranges → HasSet place set m → ends_behind position ranges ≡ has_position set position
  range_found_tells set ranges m h read has = range_tells place position ranges ∙ ap (is_told position) (sym read.are) ∙ found_tells set m h has

  -- FORM: and what it reads is of the written form
  pub found_written : (set : List KeyRange) (m : Map) → AreBytes position → HasSet place set m → AreWritten place (read_of m (upto_range place position) 1 true)
  found_written set m h has = subst (λ ps. AreWritten place (take 1 (reverse ps))) (sym (pairs_upto set m h has)) (one_written (upto position has.ranges) (all_upto has.ranges has.stored))
    where
      all_upto : (ranges : List KeyRange) → AreStored ranges → AllByRecursion IsStoredRange (upto position ranges)
      all_upto [] stored_so = tt
      all_upto (range ∷ ranges) stored_so = by_test (key_le range.begin position) (all_upto ranges stored_so.2)
        where
          by_test : (b : Bool) → AllByRecursion IsStoredRange (upto position ranges) → AllByRecursion IsStoredRange (cond b (range ∷ upto position ranges) (upto position ranges))
          by_test true rest = (stored_so.0, rest)
          by_test false rest = rest

      -- the last one stands for a range
      last_of : (range : KeyRange) (ranges : List KeyRange) → AllByRecursion IsStoredRange (range ∷ ranges) →
          (front : List Pair) × (last : KeyRange) × IsStoredRange last × (map (range_pair place) (range ∷ ranges) ≡ front ++ range_pair place last ∷ [])
      last_of range [] all = ([], range, all.0, refl)
      last_of range (other ∷ ranges) all =
          let rest = last_of other ranges all.1 in
          (range_pair place range ∷ rest.0, rest.1, rest.2, ap (λ ps. range_pair place range ∷ ps) rest.3)

      one_written : (ranges : List KeyRange) → AllByRecursion IsStoredRange ranges → AreWritten place (take 1 (reverse (map (range_pair place) ranges)))
      one_written [] all = ([], record { stored = tt; are = refl })
      one_written (range ∷ ranges) all =
          let l = last_of range ranges all in
          subst (λ ps. AreWritten place (take 1 ps)) (sym (last_first (map (range_pair place) (range ∷ ranges)) l.0 (range_pair place l.1) l.3))
          (l.1 ∷ [], record { stored = (l.2, tt, tt); are = refl })
