-- What each call's read tells, and why a call is refused behind it.
use Rattle.std.proofs.Common.{◌≡◌, ℕ, Bool, true, false, not, List, Option, Some, None, refl, ap, subst, sym, ◌∙◌}
use Rattle.std.specs.Option.{is_none, is_some, option_and_then}
use Rattle.tuple_codec.specs.Item.{AreBytes}
use Rattle.kv_core.specs.Map.{Agree, Map, pairs_in}
use Rattle.kv_core.specs.Range.{KeyRange}
use Rattle.kv_core.specs.Read.{range_read, read_of}
use Rattle.kv_core.specs.declared.change.CommitRequest.{CommitRequest}
use Rattle.kv_core.specs.declared.snapshot.ReadError.{ReadError}
use Rattle.txn.specs.Reads.{has_read, seen}
use Rattle.txn.proofs.Running.{ran_because, ran_read}
use Rattle.range_set.specs.declared.error.RangeSetError.{RangeSetError}
use Rattle.range_set.specs.declared.error.RangeSetError.TheVariants.{Memory, Read, Corrupt}
use Rattle.range_set.specs.Calls.{IsPositionTold, IsSetAnswered, IsSetRefused, IsUntold, all_ranges, last_upto}
use Rattle.range_set.specs.Gaps.{SamePositions, first_gap, has_position}
use Rattle.range_set.specs.Steps.{HaveNoRanges, ends_behind}
use Rattle.range_set.specs.Stored.{ArePairsOf, AreWritten, upto_range, whole_range}
use Rattle.range_set.specs.Told.{AreRangesIn, IsGapIn}
use Rattle.range_set.proofs.Answered.{IsReading, answered, answered_so, damaged}
use Rattle.range_set.proofs.Gaps.{same_gap}
use Rattle.range_set.proofs.LastRange.{found_written, range_found_tells}
use Rattle.range_set.proofs.RangeRows.{not_damaged}
use Rattle.range_set.proofs.RangesTold.{ranges_tell}
use Rattle.range_set.proofs.WholeRead.{all_written, positions_read}

abbrev Pair : Type 0
Pair = List ℕ × List ℕ

module _ (maps : ℕ → Map) (refuses : KeyRange → ℕ → ReadError → Type 0) (place : List ℕ) (old new : CommitRequest) where
  -- ---- the last range up to a position

  module _ (position : List ℕ) (known : AreBytes position) (range : KeyRange) (pairs slice : List Pair) (is : range ≡ upto_range place position) (made : new ≡ has_read (range_read range 1 true pairs) old)
      (says : (m : Map) → Agree new.reads (maps old.read_version) m → pairs ≡ read_of (seen old m) range 1 true) (same : slice ≡ pairs) where
    upto_reading : IsReading maps (last_upto place position) (range_read range 1 true pairs) slice old new
    upto_reading m agree =
        let read : pairs ≡ read_of (seen old m) (upto_range place position) 1 true = says m agree ∙ ap (λ r. read_of (seen old m) r 1 true) is in
        (ap (λ r. range_read r 1 true pairs) is ∙ ap (range_read (upto_range place position) 1 true) read, same ∙ read)

    -- CONTAINS: it tells whether the set has the position
    pub contains_told : (ranges row : List KeyRange) (told : Bool) → ArePairsOf place slice ranges → row ≡ ranges → told ≡ ends_behind position row →
        IsSetAnswered maps place (last_upto place position) old new (λ set. told ≡ has_position set position)
    contains_told ranges row told are rows tells =
        answered maps refuses place (last_upto place position) old new (range_read range 1 true pairs) slice ranges (λ set. told ≡ has_position set position) made upto_reading are
        (λ m set there has. tells ∙ ap (ends_behind position) rows ∙ range_found_tells place position set ranges m known there has)

    pub contains_damaged : (error : RangeSetError) → HaveNoRanges place slice error → IsSetRefused maps refuses place (last_upto place position) error old new
    contains_damaged error none =
        damaged maps refuses place (last_upto place position) old new (range_read range 1 true pairs) slice error made upto_reading none (λ m set has. found_written place position set m known has)

  -- ---- all ranges

  module _ (range : KeyRange) (pairs slice : List Pair) (is : range ≡ whole_range place) (made : new ≡ has_read range old) (says : (m : Map) → Agree new.reads (maps old.read_version) m → pairs ≡ pairs_in (seen old m) range)
      (same : slice ≡ pairs) where
    whole_reading : IsReading maps (all_ranges place) range slice old new
    whole_reading m agree = (is, same ∙ says m agree ∙ ap (pairs_in (seen old m)) is)

    -- SET: they have the positions of each set that is there
    pub ranges_found_there : (ranges : List KeyRange) → ArePairsOf place slice ranges → IsSetAnswered maps place (all_ranges place) old new (SamePositions ranges)
    ranges_found_there ranges are =
        answered maps refuses place (all_ranges place) old new range slice ranges (SamePositions ranges) made whole_reading are
        (λ m set there has. positions_read place set ranges m there has)

    -- IN: and they are those that the map's pairs tell
    pub ranges_found_in : (ranges : List KeyRange) → ArePairsOf place slice ranges → AreRangesIn maps place old new ranges
    ranges_found_in ranges are =
        ran_read (whole_range place) (made ∙ ap (λ r. has_read r old) is)
        (λ m agree. ranges_tell place (pairs_in (seen old m) (whole_range place)) ranges (subst (λ ps. ArePairsOf place ps ranges) (whole_reading m agree).1 are))

    pub ranges_damaged : (error : RangeSetError) → HaveNoRanges place slice error → IsSetRefused maps refuses place (all_ranges place) error old new
    ranges_damaged error none = damaged maps refuses place (all_ranges place) old new range slice error made whole_reading none (λ m set has. all_written place set m has)

  -- ---- the first gap of ranges that were read

  pub gap_read : (ranges : List KeyRange) (gap : Option KeyRange) → gap ≡ first_gap ranges → IsSetAnswered maps place (all_ranges place) old new (SamePositions ranges) → IsSetAnswered maps place (all_ranges place) old new (λ set. gap ≡ first_gap set)
  gap_read ranges gap is read = answered_so maps refuses place (all_ranges place) old new (SamePositions ranges) (λ set. gap ≡ first_gap set) read (λ set same. is ∙ same_gap ranges set same)

  pub gap_read_in : (ranges : List KeyRange) (gap : Option KeyRange) → gap ≡ first_gap ranges → AreRangesIn maps place old new ranges → IsGapIn maps place old new gap
  gap_read_in ranges gap is read = ran_because read (λ m told. is ∙ sym (ap (option_and_then first_gap) told))

-- NONE: what has no value, by the test of the call
pub none_told : {T : Type 0} (o : Option T) (none : Bool) → is_some o ≡ not none → none ≡ is_none o
none_told None true says = refl
none_told None false says = cc
none_told (Some x) true says = cc
none_told (Some x) false says = refl

-- TOLD: the ranges of the pairs found tell it
pub told_by : (place position : List ℕ) (pairs : List Pair) (ranges row : List KeyRange) (told : Bool) → AreBytes position → ArePairsOf place pairs ranges → row ≡ ranges → told ≡ ends_behind position row → IsPositionTold place position pairs told
told_by place position pairs ranges row told known are rows tells = record {
  written = (ranges, are);
  is = λ set m there has. tells ∙ ap (ends_behind position) rows ∙ range_found_tells place position set ranges m known (subst (λ ps. ArePairsOf place ps ranges) there are) has;
}

pub untold_by : (place position : List ℕ) (pairs : List Pair) (error : RangeSetError) → AreBytes position → HaveNoRanges place pairs error → IsUntold place position pairs error
untold_by place position pairs Memory known none = tt
untold_by place position pairs (Read error) known none = absurd none
untold_by place position pairs (Corrupt key) known none = (
  none,
  λ set m there has. not_damaged place pairs key (subst (AreWritten place) (sym there) (found_written place position set m known has)) none,
)
