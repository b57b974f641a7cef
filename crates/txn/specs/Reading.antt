-- Private: a read of a range under own mutations, in rounds: each reads on where the one before it stopped.
use Rattle.std.specs.Prelude.{◌≡◌, ◌-◌, ◌<◌, ℕ, suc, IsTrue, Bool, true, false, Option, None, Some, List, ◌++◌, length}
use Rattle.std.specs.FinMap.{get}
use Rattle.std.specs.FinMap.Entries.{find}
use Rattle.kv_core.specs.Bytes.{key_cmp, key_le, key_lt, next_key}
use Rattle.kv_core.specs.Map.{Map, pairs_in}
use Rattle.kv_core.specs.Range.{KeyRange, contains, covers}
use Rattle.kv_core.specs.Read.{read_of}
use Rattle.kv_core.specs.Parts.{IsPart}
use Rattle.txn.specs.Own.{left_of}

-- from the last pair of a read up to this place, in the direction of the read, all keys are covered
abbrev pub CoversTo : List KeyRange → Bool → List ℕ → List ℕ → Type 0
CoversTo cleared true last place =
    (key : List ℕ) → IsTrue (key_le place key) → IsTrue (key_lt key last) → IsTrue (covers cleared key)
CoversTo cleared false last place =
    (key : List ℕ) → IsTrue (key_le (next_key last) key) → IsTrue (key_lt key place) → IsTrue (covers cleared key)

-- the place lies behind the last pair, in the direction of the read
abbrev pub IsPlaceBehind : Bool → List ℕ → List ℕ → Type 0
IsPlaceBehind true last place = IsTrue (key_le place last)
IsPlaceBehind false last place = IsTrue (key_le (next_key last) place)

-- stored pairs tell what own mutations leave of a map in a range
abbrev pub Tell : List KeyRange → List (List ℕ × List ℕ) → Map → KeyRange → Type 0
Tell cleared stored base part =
    (key : List ℕ) → IsTrue (contains part key) →
    left_of cleared key (find key_cmp key stored) ≡ left_of cleared key (get base key)

-- pairs are a read of a map, or its beginning where the rest of the range is still to be read
abbrev pub IsReadSoFar : Map → KeyRange → ℕ → Bool → List (List ℕ × List ℕ) → Option KeyRange → Type 0
IsReadSoFar m range limit reversed pairs None = pairs ≡ read_of m range limit reversed
IsReadSoFar m range limit reversed pairs (Some rest) =
    read_of m range limit reversed ≡ pairs ++ read_of m rest (limit - length pairs) reversed

-- what is left of a range is a part of it with fewer stored pairs, and is left only where pairs are wanting
abbrev pub IsRestOf : Map → KeyRange → ℕ → List (List ℕ × List ℕ) → Option KeyRange → Type 0
IsRestOf base range limit pairs None = Unit {0}
IsRestOf base range limit pairs (Some rest) =
    (length pairs < limit) × (length (pairs_in base rest) < length (pairs_in base range)) × IsPart rest range

-- how many stored pairs are left, and one more where a range is
abbrev pub left_count : Map → Option KeyRange → ℕ
left_count base None = 0
left_count base (Some rest) = suc (length (pairs_in base rest))
