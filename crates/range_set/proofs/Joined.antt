-- Once a range is inserted in a gap, a map has it with those that touch it as one range, and so the set with its positions.
use Rattle.std.proofs.Common.{◌≡◌, ℕ, Bool, true, false, not, cond, ◌||◌, List, [], ◌∷◌, ◌++◌, map, Option, Some, None, refl, sym, ap, subst, ◌∙◌}
use Rattle.std.specs.Prelude.{unwrap_or}
use Rattle.std.specs.BTreeMap.{is_at}
use Rattle.std.specs.FinMap.{find, get, insert}
use Rattle.std.specs.List.{AllByRecursion}
use Rattle.std.specs.Map.{lookup}
use Rattle.std.specs.Ordering.{is_eq}
use Rattle.std.proofs.lemmas.Bool.{false_from_ne_true, or_parts, true≢false}
use Rattle.tuple_codec.specs.Item.{AreBytes}
use Rattle.kv_core.specs.Bytes.{key_cmp, key_lt}
use Rattle.kv_core.specs.Map.{Map, after_all, pairs_in}
use Rattle.kv_core.specs.Range.{KeyRange, contains, point}
use Rattle.kv_core.specs.declared.change.CommitRequest.{CommitRequest}
use Rattle.kv_core.specs.declared.change.Mutation.{Mutation}
use Rattle.kv_core.specs.declared.change.Mutation.TheVariants.{ClearRange}
use Rattle.kv_core.proofs.Changes.{after_all-append, get-kept, get-set, pairs_in-same}
use Rattle.kv_core.proofs.Order.{clash, le_refl, tied_keys, tied_swap}
use Rattle.kv_core.proofs.Pairs.{contains-point-is, pairs_by_key}
use Rattle.kv_core.proofs.Stored as entries
use Rattle.txn.specs.Reads.{seen, with_mutations}
use Rattle.range_set.specs.Stored.{AreStored, HasSet, IsInGap, IsStoredRange, Joins, begin_of_left, begins_at, end_of_right, insertion, range_key, range_pair, whole_range, with_neighbours}
use Rattle.range_set.specs.Told.{ApartAt, insertion_in, stored_in}
use Rattle.range_set.proofs.Inserts.{looked_up}
use Rattle.range_set.proofs.Neighbours.{begin_below, joined_cover, joined_free, joined_is, joined_ranges, joined_stored, left_begins, none_begins, none_ends, others, others_stored}
use Rattle.range_set.proofs.PlacePairs.{key_order}
use Rattle.range_set.proofs.RangesTold.{ranges_tell, ranges_told, set_told, some_ranges}
use Rattle.range_set.proofs.WholeRead.{all_read}

-- the value at a key among the pairs of some ranges
abbrev among : List ℕ → List ℕ → List KeyRange → Option (List ℕ)
among place q ranges = lookup (is_at (key_cmp q)) (map (range_pair place) ranges)

-- the keys of two ranges are one only where both begin alike
same_begin : (place q a b : List ℕ) → AreBytes a → AreBytes b → is_eq (key_cmp q (range_key place a)) ≡ true → is_eq (key_cmp q (range_key place b)) ≡ true → is_eq (key_cmp a b) ≡ true
same_begin place q a b h k first second =
    ap is_eq (sym (key_order place a b h k)) ∙ ap (λ p. is_eq (key_cmp p (range_key place b))) (sym (tied_keys q (range_key place a) first)) ∙ second

-- ---- the pairs of the others

-- a key has what it had, but for those of the ranges that touch the one inserted
among_others : (place : List ℕ) (range : KeyRange) (low q : List ℕ) (ranges : List KeyRange) → IsStoredRange range → AreStored ranges →
    AllByRecursion (λ one. is_eq (key_cmp one.end range.begin) ≡ true → one.begin ≡ low) ranges → is_eq (key_cmp q (range_key place low)) ≡ false →
    among place q (others range ranges) ≡ cond (is_eq (key_cmp q (range_key place range.end))) None (among place q ranges)
among_others place range low q [] is stored lefts other = sym (alike (is_eq (key_cmp q (range_key place range.end))) None)
  where
    alike : (b : Bool) (o : Option (List ℕ)) → cond b o o ≡ o
    alike true o = refl
    alike false o = refl
among_others place range low q (one ∷ ranges) is stored lefts other =
    by_tests (is_eq (key_cmp one.end range.begin)) (is_eq (key_cmp one.begin range.end)) refl refl (others range ranges) (among_others place range low q ranges is stored.2 lefts.1 other)
  where
    has_own : Bool
    has_own = is_eq (key_cmp q (range_key place one.begin))

    has_end : Bool
    has_end = is_eq (key_cmp q (range_key place range.end))

    twice : (b : Bool) (value rest : Option (List ℕ)) → cond b None rest ≡ cond b None (cond b value rest)
    twice true value rest = refl
    twice false value rest = refl

    turned : (x y : Bool) (rest : Option (List ℕ)) → has_own ≡ x → has_end ≡ y → is_eq (key_cmp one.begin range.end) ≡ false → cond x (Some one.end) (cond y None rest) ≡ cond y None (cond x (Some one.end) rest)
    turned true true rest h k differ = absurd (true≢false (sym (same_begin place q one.begin range.end stored.0.begin is.end h k) ∙ differ))
    turned true false rest h k differ = refl
    turned false y rest h k differ = refl

    by_tests : (x y : Bool) → is_eq (key_cmp one.end range.begin) ≡ x → is_eq (key_cmp one.begin range.end) ≡ y → (rest : List KeyRange) → among place q rest ≡ cond has_end None (among place q ranges) →
        among place q (cond (not (x || y)) (one ∷ rest) rest) ≡ cond has_end None (cond has_own (Some one.end) (among place q ranges))
    by_tests true y ends begins rest go =
        go ∙ ap (λ b. cond has_end None (cond b (Some one.end) (among place q ranges))) (sym (ap (λ k. is_eq (key_cmp q (range_key place k))) (lefts.0 ends) ∙ other))
    by_tests false true ends begins rest go =
        go ∙ twice has_end (Some one.end) (among place q ranges)
        ∙ ap (λ k. cond has_end None (cond (is_eq (key_cmp q (range_key place k))) (Some one.end) (among place q ranges))) (sym (tied_keys one.begin range.end begins))
    by_tests false false ends begins rest go = ap (λ o. cond has_own (Some one.end) o) go ∙ turned has_own has_end (among place q ranges) refl refl begins

-- the key of a position where none begins has nothing
none_among : (place at q : List ℕ) (ranges : List KeyRange) → AreBytes at → AreStored ranges → begins_at ranges at ≡ false → is_eq (key_cmp q (range_key place at)) ≡ true → among place q ranges ≡ None
none_among place at q [] h stored none here = refl
none_among place at q (one ∷ ranges) h stored none here =
    let parts = or_parts (is_eq (key_cmp one.begin at)) (begins_at ranges at) none in
    ap (λ b. cond b (Some one.end) (among place q ranges))
    (false_from_ne_true (is_eq (key_cmp q (range_key place one.begin))) (λ own. true≢false (sym (same_begin place q one.begin at stored.0.begin h own here) ∙ parts.0)))
    ∙ none_among place at q ranges h stored.2 parts.1 here

-- ---- the map

module _ (place : List ℕ) (range : KeyRange) (ranges : List KeyRange) (is : IsStoredRange range) (stored : AreStored ranges) where
  abbrev low : List ℕ
  low = begin_of_left ranges range.begin

  abbrev high : List ℕ
  high = end_of_right ranges range.end

  -- the value at a key after the insertion
  value_then : (m : Map) (q : List ℕ) → get m q ≡ among place q ranges →
      get (after_all (insertion place ranges range) m) q
      ≡ cond (is_eq (key_cmp q (range_key place low))) (Some high) (cond (is_eq (key_cmp q (range_key place range.end))) None (among place q ranges))
  value_then m q has = by_begins (begins_at ranges range.end) refl ∙ ap (λ o. cond has_low (Some high) (cond has_end None o)) has
    where
      has_low : Bool
      has_low = is_eq (key_cmp q (range_key place low))

      has_end : Bool
      has_end = is_eq (key_cmp q (range_key place range.end))

      set : Map
      set = insert m (range_key place low) high

      turned : (x y : Bool) → has_low ≡ x → has_end ≡ y → cond (not y) (cond x (Some high) (get m q)) None ≡ cond x (Some high) (cond y None (get m q))
      turned true true h k = absurd (clash range.end range.end
          (subst (λ p. key_lt p range.end ≡ true) (tied_keys low range.end (same_begin place q low range.end (joined_is range ranges is stored).begin is.end h k)) (begin_below range ranges is stored)) (le_refl range.end))
      turned true false h k = refl
      turned false true h k = refl
      turned false false h k = refl

      nothing_there : (y : Bool) → has_end ≡ y → begins_at ranges range.end ≡ false → get m q ≡ cond y None (get m q)
      nothing_there true h none = has ∙ none_among place range.end q ranges is.end stored none h
      nothing_there false h none = refl

      by_begins : (b : Bool) → begins_at ranges range.end ≡ b →
          get (after_all (cond b (ClearRange (point (range_key place range.end)) ∷ []) []) set) q ≡ cond has_low (Some high) (cond has_end None (get m q))
      by_begins true begins =
          get-kept set (λ key. not (contains (point (range_key place range.end)) key)) q
          ∙ (λ i. cond (not ((contains-point-is (range_key place range.end) q ∙ tied_swap (range_key place range.end) q) i)) (get-set m (range_key place low) high q i) None)
          ∙ turned has_low has_end refl refl
      by_begins false none = get-set m (range_key place low) high q ∙ ap (λ o. cond has_low (Some high) o) (nothing_there has_end refl none)

  module _ (gap : IsInGap range ranges) where
    -- AT: where a key has what these ranges have there, it has what the joined ones have once the range is inserted
    joined_at : (m : Map) (q : List ℕ) → get m q ≡ among place q ranges → get (after_all (insertion place ranges range) m) q ≡ among place q (joined_ranges range ranges)
    joined_at m q has =
        value_then m q has ∙ by_test (is_eq (key_cmp q (range_key place low))) refl
        ∙ sym (looked_up place (with_neighbours ranges range) (others range ranges) q (joined_is range ranges is stored) (others_stored range ranges is stored) (joined_free range ranges is stored gap))
      where
        by_test : (b : Bool) → is_eq (key_cmp q (range_key place low)) ≡ b →
            cond b (Some high) (cond (is_eq (key_cmp q (range_key place range.end))) None (among place q ranges)) ≡ cond b (Some high) (among place q (others range ranges))
        by_test true here = refl
        by_test false other = sym (among_others place range low q ranges is stored (left_begins range.begin ranges stored) other)

    -- TOLD: so the map tells the joined ones then
    pub told_then : (m : Map) → pairs_in m (whole_range place) ≡ map (range_pair place) ranges → stored_in place (after_all (insertion place ranges range) m) ≡ Some (joined_ranges range ranges)
    told_then m read = ranges_tell place (pairs_in n (whole_range place)) (joined_ranges range ranges) (record { stored = may; are = are })
      where
        n : Map
        n = after_all (insertion place ranges range) m

        may : AreStored (joined_ranges range ranges)
        may = joined_stored range ranges is stored gap

        -- what a read gives is what the map has
        read_at : (q : List ℕ) → contains (whole_range place) q ≡ true → get m q ≡ among place q ranges
        read_at q inside =
            ap (λ b. cond b (get m q) None) (sym inside) ∙ sym ((pairs_by_key m (whole_range place)).1 q)
            ∙ ap (find key_cmp q) read ∙ sym (entries.looked_up q (map (range_pair place) ranges))

        are : pairs_in n (whole_range place) ≡ map (range_pair place) (joined_ranges range ranges)
        are =
            pairs_in-same n (entries.stored (map (range_pair place) (joined_ranges range ranges))) (whole_range place)
            (λ q inside. joined_at m q (read_at q inside) ∙ sym (entries.get-stored (map (range_pair place) (joined_ranges range ranges)) q))
            ∙ all_read place (joined_ranges range ranges) may

-- INSERT: a map has the set with the range once that is inserted beside the set's ranges
inserted : (place : List ℕ) (range : KeyRange) (set : List KeyRange) (m : Map) → IsStoredRange range → IsInGap range set → (has : HasSet place set m) → HasSet place (range ∷ set) (after_all (insertion place has.ranges range) m)
inserted place range set m is gap has =
    let free : IsInGap range has.ranges = λ position inside. has.same position ∙ gap position inside in
    record {
      ranges = joined_ranges range has.ranges;
      stored = joined_stored range has.ranges is has.stored free;
      has = λ rest.
          joined_at place range has.ranges is has.stored free m (place ++ rest) (has.has rest ∙ entries.get-stored (map (range_pair place) has.ranges) (place ++ rest))
          ∙ sym (entries.get-stored (map (range_pair place) (joined_ranges range has.ranges)) (place ++ rest));
      same = λ position. joined_cover range has.ranges is has.stored position ∙ ap (λ b. contains range position || b) (has.same position);
    }

-- IN: so it has where that is inserted beside those that the map tells
pub inserted_in : (place : List ℕ) (range : KeyRange) (m : Map) → IsStoredRange range → Joins place range m (after_all (insertion_in place m range) m)
inserted_in place range m is set gap has =
    subst (λ told. HasSet place (range ∷ set) (after_all (insertion place (unwrap_or told []) range) m)) (sym (set_told place set m has)) (inserted place range set m is gap has)

-- JOINS: and where these are told, the set with the range is there then
pub joins_told : (place : List ℕ) (range : KeyRange) (ranges : List KeyRange) (m : Map) → IsStoredRange range → stored_in place m ≡ Some ranges → Joins place range m (after_all (insertion place ranges range) m)
joins_told place range ranges m is told set gap has =
    subst (λ rs. HasSet place (range ∷ set) (after_all (insertion place rs range) m)) (some_ranges has.ranges ranges (sym (set_told place set m has) ∙ told)) (inserted place range set m is gap has)

-- APART: with no two ranges that touch at an end of it
pub apart_told : (place : List ℕ) (range : KeyRange) (ranges : List KeyRange) (m : Map) → IsStoredRange range → stored_in place m ≡ Some ranges → ApartAt place range ranges (after_all (insertion place ranges range) m)
apart_told place range ranges m is told gap =
    let read = ranges_told place (pairs_in m (whole_range place)) ranges told in
    (joined_ranges range ranges, told_then place range ranges is read.stored gap m read.are, none_ends range ranges is read.stored, none_begins range ranges is read.stored)

-- SEEN: what a transaction sees once it has written more
pub seen_then : (written : List Mutation) (old new : CommitRequest) (m : Map) → new ≡ with_mutations written old → seen new m ≡ after_all written (seen old m)
seen_then written old new m made = ap (λ (t : CommitRequest). seen t m) made ∙ after_all-append old.mutations written m
