-- An owner's part of a range has just the keys of both.
use Rattle.std.proofs.Common.{◌≡◌, ℕ, true, Option, None, Some, List, refl, sym, ◌∙◌}
use Rattle.std.proofs.lemmas.Bool.{and_from, and_parts}
use Rattle.kv_core.proofs.Order.{has_keys-from, le-key_max, lt-key_min}
use Rattle.kv_core.specs.Bytes.{key_le, key_lt, key_max, key_min}
use Rattle.kv_core.specs.Range.{KeyRange, contains, has_keys}
use Rattle.cluster_core.specs.Decision.{Owned, cut, owns}

-- the owner's part of a range has the owner's keys of the range
pub contains-cut :
    (from : List ℕ) (upto : Option (List ℕ)) (r : KeyRange) (k : List ℕ) →
    owns (record { from = from; upto = upto }) k ≡ true → contains r k ≡ true →
    contains (cut (record { from = from; upto = upto }) r) k ≡ true
contains-cut from None r k own h =
    let mine = and_parts (key_le from k) true own in
    let inside = and_parts (key_le r.begin k) (key_lt k r.end) h in
    and_from (key_le (key_max from r.begin) k) (key_lt k r.end)
    (le-key_max from r.begin k ∙ and_from _ _ mine.0 inside.0) inside.1
contains-cut from (Some upto) r k own h =
    let mine = and_parts (key_le from k) (key_lt k upto) own in
    let inside = and_parts (key_le r.begin k) (key_lt k r.end) h in
    and_from (key_le (key_max from r.begin) k) (key_lt k (key_min upto r.end))
    (le-key_max from r.begin k ∙ and_from _ _ mine.0 inside.0) (lt-key_min k upto r.end ∙ and_from _ _ mine.1 inside.1)

-- and only these
pub cut_has :
    (from : List ℕ) (upto : Option (List ℕ)) (r : KeyRange) (k : List ℕ) →
    contains (cut (record { from = from; upto = upto }) r) k ≡ true →
    (owns (record { from = from; upto = upto }) k ≡ true) × (contains r k ≡ true)
cut_has from None r k h =
    let parts = and_parts (key_le (key_max from r.begin) k) (key_lt k r.end) h in
    let low = and_parts (key_le from k) (key_le r.begin k) (sym (le-key_max from r.begin k) ∙ parts.0) in
    (and_from (key_le from k) true low.0 refl, and_from _ _ low.1 parts.1)
cut_has from (Some upto) r k h =
    let parts = and_parts (key_le (key_max from r.begin) k) (key_lt k (key_min upto r.end)) h in
    let low = and_parts (key_le from k) (key_le r.begin k) (sym (le-key_max from r.begin k) ∙ parts.0) in
    let high = and_parts (key_lt k upto) (key_lt k r.end) (sym (lt-key_min k upto r.end) ∙ parts.1) in
    (and_from _ _ low.0 high.0, and_from _ _ low.1 high.1)

-- an owner has keys of a range where it owns one of them
pub has_keys-own :
    (owner : Owned) (r : KeyRange) (k : List ℕ) → owns owner k ≡ true → contains r k ≡ true →
    has_keys (cut owner r) ≡ true
has_keys-own owner r k own h = has_keys-from (cut owner r) k (contains-cut owner.from owner.upto r k own h)
