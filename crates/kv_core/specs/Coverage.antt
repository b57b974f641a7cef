-- The keys that ranges cover, as stretches: entries from begins to ends.
use Rattle.std.specs.Prelude.{◌≡◌, ◌↔◌, ℕ, IsTrue, false, Some, List, map}
use Rattle.std.specs.Map.{lookup}
use Rattle.std.specs.BTreeMap.{is_at}
use Rattle.kv_core.specs.Bytes.{has_key, key_cmp, key_le, key_lt}
use Rattle.kv_core.specs.Range.{KeyRange, covers}

-- entries from begins to ends, as ranges
abbrev pub stretches_of : List (List ℕ × List ℕ) → List KeyRange
stretches_of entries = map (λ entry. record { begin = entry.0; end = entry.1 }) entries

-- Private: the end of the stretch that begins with a key is this one
abbrev pub EndsAt : List (List ℕ × List ℕ) → List ℕ → List ℕ → Type 0
EndsAt entries begin end = lookup (is_at (key_cmp begin)) entries ≡ Some end

-- Private: there is a key in each stretch, and of two stretches the one that begins first ends first
pub record AreStretches (entries : List (List ℕ × List ℕ)) : Type 0 where
  pub have_keys : (begin end : List ℕ) → EndsAt entries begin end → IsTrue (key_lt begin end)
  pub rise :
      (begin end next next_end : List ℕ) → EndsAt entries begin end → EndsAt entries next next_end →
      IsTrue (key_lt begin next) → IsTrue (key_lt end next_end)

-- Private: of the stretches these are the begins of those that begin after a range does and end within it
abbrev pub AreSwallowed : KeyRange → List (List ℕ × List ℕ) → List (List ℕ) → Type 0
AreSwallowed range entries begins =
    (begin : List ℕ) →
    IsTrue (has_key begins begin)
    ↔ ((end : List ℕ) × EndsAt entries begin end × IsTrue (key_lt range.begin begin) × IsTrue (key_le end range.end))

-- what is covered up to a place and on begins there: from each byte string before it on, some before it aren't covered
abbrev pub BeginsAt : List KeyRange → List ℕ → Type 0
BeginsAt stretches place =
    (begin : List ℕ) → IsTrue (key_lt begin place) →
    (q : List ℕ) × IsTrue (key_le begin q) × IsTrue (key_lt q place) × (covers stretches q ≡ false)

-- Private: the stretches cover the keys from one up to a place, and end at the place or before it, but for those that
-- begin after the key, which don't end before the place
pub record Reaches (entries : List (List ℕ × List ℕ)) (key place : List ℕ) : Type 0 where
  pub from : IsTrue (key_le key place)
  pub covered :
      (q : List ℕ) → IsTrue (key_le key q) → IsTrue (key_lt q place) → IsTrue (covers (stretches_of entries) q)
  pub others : (begin end : List ℕ) → EndsAt entries begin end → IsTrue (key_le begin key) → IsTrue (key_le end place)
  pub ahead : (begin end : List ℕ) → EndsAt entries begin end → IsTrue (key_lt key begin) → IsTrue (key_le place end)
