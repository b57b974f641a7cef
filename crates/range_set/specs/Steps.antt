-- What the decoding of pairs and the walk through ranges establish, beneath whole calls.
use Rattle.std.specs.Prelude.{◌≡◌, ℕ, IsTrue, Bool, false, if◌then◌else◌, List, [], ◌∷◌, Option, Some, None}
use Rattle.tuple_codec.specs.Item.{Item, bytes}
use Rattle.tuple_codec.specs.Subspace.{SpellsUnder}
use Rattle.kv_core.specs.Bytes.{end_of_keys, key_le, key_lt}
use Rattle.kv_core.specs.Range.{KeyRange}
use Rattle.kv_core.specs.declared.snapshot.ReadError.{ReadError}
use Rattle.kv_core.specs.declared.snapshot.ReadError.TheVariants as read
use Rattle.range_set.specs.declared.error.RangeSetError.{RangeSetError}
use Rattle.range_set.specs.declared.error.RangeSetError.TheVariants.{Memory, Read, Corrupt}
use Rattle.range_set.specs.Stored.{IsFirstDamaged, IsStoredRange, range_pair}

-- the error that want of memory is
abbrev pub set_memory : RangeSetError
set_memory = Memory

-- the error that a refused read is
abbrev pub set_read : ReadError → RangeSetError
set_read read.Memory = Memory
set_read error = Read error

-- Private: the only item of a tuple, if that is bytes
abbrev pub only_bytes : List Item → Option (List ℕ)
only_bytes (bytes begin ∷ []) = Some begin
only_bytes other = None

-- Private: a key was read as this tuple after the place, and as no other
pub record IsSpelledAs (place key : List ℕ) (t : List Item) : Type 0 where
  pub spelled : SpellsUnder place t key
  pub only : (u : List Item) → SpellsUnder place u key → t ≡ u

-- Private: why a key is read as no tuple: memory runs out, or there is none after the place
abbrev pub IsUnspelled : List ℕ → List ℕ → RangeSetError → Type 0
IsUnspelled place key Memory = Unit {0}
IsUnspelled place key (Read error) = ⊥
IsUnspelled place key (Corrupt damaged) = (damaged ≡ key) × ((u : List Item) → SpellsUnder place u key → ⊥)

-- Private: why the range from a begin to an end isn't one that may be stored: memory runs out, or it isn't
abbrev pub IsNoStoredRange : List ℕ → List ℕ → List ℕ → RangeSetError → Type 0
IsNoStoredRange key begin end Memory = Unit {0}
IsNoStoredRange key begin end (Read error) = ⊥
IsNoStoredRange key begin end (Corrupt damaged) =
    (damaged ≡ key) × (IsStoredRange (record { begin = begin; end = end }) → ⊥)

-- Private: a pair stands for this range, which may be stored
pub record IsPairOfRange (place : List ℕ) (pair : List ℕ × List ℕ) (range : KeyRange) : Type 0 where
  pub stored : IsStoredRange range
  pub is : pair ≡ range_pair place range

-- Private: why a pair isn't read as a range: memory runs out, or it stands for none
abbrev pub IsPairOfNoRange : List ℕ → List ℕ × List ℕ → RangeSetError → Type 0
IsPairOfNoRange place pair Memory = Unit {0}
IsPairOfNoRange place pair (Read error) = ⊥
IsPairOfNoRange place pair (Corrupt key) =
    (key ≡ pair.0) × ((range : KeyRange) → IsPairOfRange place pair range → ⊥)

-- Private: a pair stands for this range, which begins at a position or after it
pub record IsNext (place end : List ℕ) (pair : List ℕ × List ℕ) (range : KeyRange) : Type 0 where
  pub stands : IsPairOfRange place pair range
  pub behind : IsTrue (key_le end range.begin)

-- Private: why a pair stands for no such range: memory runs out, or it doesn't
abbrev pub IsNotNext : List ℕ → List ℕ → List ℕ × List ℕ → RangeSetError → Type 0
IsNotNext place end pair Memory = Unit {0}
IsNotNext place end pair (Read error) = ⊥
IsNotNext place end pair (Corrupt key) = (key ≡ pair.0) × ((range : KeyRange) → IsNext place end pair range → ⊥)

-- Private: why pairs aren't read as ranges: memory runs out, or the first damaged one has this key
abbrev pub HaveNoRanges : List ℕ → List (List ℕ × List ℕ) → RangeSetError → Type 0
HaveNoRanges place pairs Memory = Unit {0}
HaveNoRanges place pairs (Read error) = ⊥
HaveNoRanges place pairs (Corrupt key) = IsFirstDamaged place pairs key

-- Private: the first of some ranges ends after a position, if there is one
abbrev pub ends_behind : List ℕ → List KeyRange → Bool
ends_behind position [] = false
ends_behind position (range ∷ ranges) = key_lt position range.end

-- Private: where the last of some ranges ends, or this position where there is none
abbrev pub last_end : List ℕ → List KeyRange → List ℕ
last_end end [] = end
last_end end (range ∷ ranges) = last_end range.end ranges

-- Private: the gap from one position to another, if there is a position between, and else this one
abbrev pub gap_between : List ℕ → List ℕ → Option KeyRange → Option KeyRange
gap_between begin end other = if key_lt begin end then Some (record { begin = begin; end = end }) else other

-- Private: the first gap from a position on, of ranges in order
abbrev pub gap_from : List ℕ → List KeyRange → Option KeyRange
gap_from begin [] = gap_between begin end_of_keys None
gap_from begin (range ∷ ranges) = gap_between begin range.begin (gap_from range.end ranges)
