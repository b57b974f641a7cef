-- What the tests of ranges say.
use Rattle.std.specs.Prelude.{◌≡◌, ◌↔◌, ◌&&◌, ◌||◌, ℕ, List, IsTrue, All}
use Rattle.kv_core.specs.Bytes.{key_le, key_lt}
use Rattle.kv_core.specs.Map.{Map, Agree, pairs_in}
use Rattle.kv_core.specs.Range.{KeyRange, contains, covers, meets, part_before, part_from, with_range}

-- two ranges meet exactly where some key lies in both
abbrev pub MeetsInAKey : Type 0
MeetsInAKey =
    (a b : KeyRange) → IsTrue (meets a b) ↔ ((key : List ℕ) × IsTrue (contains a key) × IsTrue (contains b key))

-- a list with a range added has the keys of the list and those of the range
abbrev pub AddedCovers : Type 0
AddedCovers =
    (range : KeyRange) (ranges : List KeyRange) (key : List ℕ) →
    covers (with_range range ranges) key ≡ (covers ranges key || contains range key)

-- the part of a range before a key has the keys of the range that come before it, and the part from the key on the
-- others
abbrev pub PartsByKey : Type 0
PartsByKey =
    (range : KeyRange) (key q : List ℕ) →
    (contains (part_before key range) q ≡ (contains range q && key_lt q key))
    × (contains (part_from key range) q ≡ (contains range q && key_le key q))

-- maps agree on ranges exactly where they have the same pairs in each of them
abbrev pub AgreeByPairs : Type 0
AgreeByPairs =
    (ranges : List KeyRange) (m n : Map) → Agree ranges m n ↔ All (λ range. pairs_in m range ≡ pairs_in n range) ranges
