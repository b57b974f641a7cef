-- What the calls on a set of positions establish, whatever map the snapshot turns out to have.
use Rattle.std.specs.Prelude.{◌≡◌, ◌⊎◌, ℕ, Bool, IsTrue, true, List, [], ◌∷◌}
use Rattle.tuple_codec.specs.Item.{AreBytes}
use Rattle.kv_core.specs.Map.{Agree, Map, after_all, pairs_in}
use Rattle.kv_core.specs.Range.{KeyRange, contains}
use Rattle.kv_core.specs.Read.{range_read, read_of}
use Rattle.kv_core.specs.declared.change.CommitRequest.{CommitRequest}
use Rattle.kv_core.specs.declared.snapshot.ReadError.{ReadError}
use Rattle.txn.specs.Runs.{Ran}
use Rattle.range_set.specs.declared.error.RangeSetError.{RangeSetError}
use Rattle.range_set.specs.declared.error.RangeSetError.TheVariants.{Memory, Read, Corrupt}
use Rattle.range_set.specs.Gaps.{has_position}
use Rattle.range_set.specs.Stored.{AreWritten, HasSet, IsFirstDamaged, IsInGap, IsStoredRange, upto_range}
use Rattle.range_set.specs.Stored.{whole_range}
use Rattle.range_set.specs.Told.{insertion_in}

-- what a call reads of a map: the range that it asks for, the range that it adds to those read, and the pairs
pub record SetReading : Type 0 where
  pub asked : KeyRange
  pub added : Map → KeyRange
  pub pairs : Map → List (List ℕ × List ℕ)

-- all ranges of a set are read
abbrev pub all_ranges : List ℕ → SetReading
all_ranges place =
    record {
      asked = whole_range place;
      added = λ m. whole_range place;
      pairs = λ m. pairs_in m (whole_range place);
    }

-- of the ranges that begin at a position or before it the last one is read, if there is one
abbrev pub last_upto : List ℕ → List ℕ → SetReading
last_upto place position =
    record {
      asked = upto_range place position;
      added = λ m. range_read (upto_range place position) 1 true (read_of m (upto_range place position) 1 true);
      pairs = λ m. read_of m (upto_range place position) 1 true;
    }

-- what is read to tell whether a position is in a set decides it, over maps that agree there
abbrev pub ReadDecides : Type 0
ReadDecides =
    (place position : List ℕ) (set other : List KeyRange) (m n : Map) → AreBytes position →
    Agree ((last_upto place position).added m ∷ []) m n → HasSet place set m → HasSet place other n →
    has_position set position ≡ has_position other position

-- so no map agrees there with itself once a range with that position, which lay in a gap, is inserted
abbrev pub InsertMeets : Type 0
InsertMeets =
    (place position : List ℕ) (range : KeyRange) (set : List KeyRange) (m : Map) → AreBytes position →
    IsStoredRange range → IsInGap range set → IsTrue (contains range position) → HasSet place set m →
    Agree ((last_upto place position).added m ∷ []) m (after_all (insertion_in place m range) m) → ⊥

-- why the pair found tells nothing of a position: memory runs out, or the first damaged pair has this key, and no set
-- is in a map of which it was read
abbrev pub IsUntold : List ℕ → List ℕ → List (List ℕ × List ℕ) → RangeSetError → Type 0
IsUntold place position pairs Memory = Unit {0}
IsUntold place position pairs (Read error) = ⊥
IsUntold place position pairs (Corrupt key) =
    IsFirstDamaged place pairs key
    × ((set : List KeyRange) (m : Map) → pairs ≡ (last_upto place position).pairs m → HasSet place set m → ⊥)

-- the pair found tells whether a position is in the set: it is of the written form, and so it is for each set of a map
-- of which it was read
pub record IsPositionTold (place position : List ℕ) (pairs : List (List ℕ × List ℕ)) (told : Bool) : Type 0 where
  pub written : AreWritten place pairs
  pub is :
      (set : List KeyRange) (m : Map) → pairs ≡ (last_upto place position).pairs m → HasSet place set m →
      told ≡ has_position set position

-- the fact stands of each set that the map has under the place
abbrev pub AtSets : List ℕ → Map → (List KeyRange → Type 0) → Type 0
AtSets place m Fact = (set : List KeyRange) → HasSet place set m → Fact set

-- a call was answered: it added to the ranges read the one that it reads, it wrote nothing, the pairs read are of the
-- written form, and the answer is so for each set that is there
pub record IsSetAnswered (maps : ℕ → Map) (place : List ℕ) (reading : SetReading) (old new : CommitRequest)
    (Answer : List KeyRange → Type 0) : Type 0 where
  pub added : KeyRange
  pub ran : Ran maps (added ∷ []) old new []
      (λ m. (added ≡ reading.added m) × AreWritten place (reading.pairs m) × AtSets place m Answer)

-- why a call isn't answered: memory runs out, before the read or after it; or the read is refused, and adds nothing;
-- or it was answered, the first damaged pair of it has this key, and no set is there
abbrev pub IsSetUnread :
    (KeyRange → ReadError → Type 0) → List ℕ → SetReading → RangeSetError → List KeyRange → Map → Type 0
IsSetUnread refuses place reading Memory added m = (added ≡ []) ⊎ (added ≡ reading.added m ∷ [])
IsSetUnread refuses place reading (Read error) added m = (added ≡ []) × refuses reading.asked error
IsSetUnread refuses place reading (Corrupt key) added m =
    (added ≡ reading.added m ∷ []) × IsFirstDamaged place (reading.pairs m) key × AtSets place m (λ set. ⊥)

-- a call wasn't answered: it added these ranges to those read, and wrote nothing
pub record IsSetRefused (maps : ℕ → Map) (refuses : KeyRange → ℕ → ReadError → Type 0) (place : List ℕ)
    (reading : SetReading) (error : RangeSetError) (old new : CommitRequest) : Type 0 where
  pub added : List KeyRange
  pub ran : Ran maps added old new []
      (IsSetUnread (λ range. refuses range old.read_version) place reading error added)
