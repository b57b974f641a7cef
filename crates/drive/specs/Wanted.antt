-- What a host is to read next, by the keys that it has covered.
use Rattle.std.specs.Prelude.{◌≡◌, ◌≤◌, ℕ, Bool, true, false, List, ◌∷◌, Contains, IsTrue}
use Rattle.kv_core.specs.Bytes.{key_le}
use Rattle.kv_core.specs.Range.{KeyRange, contains, covers, has_keys}
use Rattle.kv_core.specs.Coverage.{BeginsAt}
use Rattle.drive.specs.declared.wanted.Want.{Want}

-- each key of the one list of ranges is one of the other's
abbrev pub AreWithin : List KeyRange → List KeyRange → Type 0
AreWithin whole parts = (key : List ℕ) → IsTrue (covers parts key) → IsTrue (covers whole key)

-- a range is to be read from its begin on, which isn't covered, or from its end back, just before which not all is
abbrev pub IsUncoveredFrom : List KeyRange → Bool → KeyRange → Type 0
IsUncoveredFrom covered true range = IsTrue (has_keys range) × BeginsAt covered range.end
IsUncoveredFrom covered false range = IsTrue (has_keys range) × (covers covered range.begin ≡ false)

-- each key of the range is covered
abbrev pub IsAllCovered : List KeyRange → KeyRange → Type 0
IsAllCovered covered range = (key : List ℕ) → IsTrue (contains range key) → IsTrue (covers covered key)

-- what is wanted isn't covered where it is to be read from, and is one pair at least
abbrev pub IsUncovered : List KeyRange → Want → Type 0
IsUncovered covered want = IsUncoveredFrom covered want.reverse want.range × (1 ≤ want.limit)

-- Private: a part is left of a range: it lies in the range, and all of the range is covered once it is
pub record IsRemainder (covered : List KeyRange) (range part : KeyRange) : Type 0 where
  pub within : (key : List ℕ) → IsTrue (contains part key) → IsTrue (contains range key)
  pub others : IsAllCovered (part ∷ covered) range

-- this part is left of a range between its first keys that are covered and its last ones: it lies in the range, its
-- begin isn't covered, nor is all just before its end, and all of the range is covered once it is
pub record IsLeftBetween (covered : List KeyRange) (range part : KeyRange) : Type 0 where
  pub within : (key : List ℕ) → IsTrue (contains part key) → IsTrue (contains range key)
  pub begins : IsUncoveredFrom covered false part
  pub ends : IsUncoveredFrom covered true part
  pub others : IsAllCovered (part ∷ covered) range

-- to read a range from its begin on, or from its end back, is to read this part so, and then what lies beyond it
abbrev pub ReadsFrom : Bool → KeyRange → KeyRange → Type 0
ReadsFrom false range part = (range.begin ≡ part.begin) × IsTrue (key_le part.end range.end)
ReadsFrom true range part = (range.end ≡ part.end) × IsTrue (key_le range.begin part.begin)

-- this part is left of one of these ranges
abbrev pub IsLeftOfOne : List KeyRange → List KeyRange → KeyRange → Type 0
IsLeftOfOne covered reads part = (read : KeyRange) × Contains reads read × IsLeftBetween covered read part

-- Private: one of what is wanted reads this part first
abbrev pub HasFrom : List Want → KeyRange → Type 0
HasFrom wants part = (want : Want) × Contains wants want × ReadsFrom want.reverse want.range part

-- one of these ranges isn't covered, and to read what is wanted is to read first what is left of it
abbrev pub IsNeeded : List KeyRange → List KeyRange → Want → Type 0
IsNeeded covered reads want =
    (part : KeyRange) × IsLeftOfOne covered reads part × ReadsFrom want.reverse want.range part
