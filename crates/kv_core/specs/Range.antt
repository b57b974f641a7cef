-- Ranges of keys.
use Rattle.std.specs.Prelude.{ℕ, Bool, not, ◌&&◌, if◌then◌else◌, List, [], ◌∷◌, ◌++◌}
use Rattle.std.specs.declared.cmp.Ordering.{Ordering}
use Rattle.std.specs.Ordering.{is_eq, ordering_then}
use Rattle.std.specs.Cmp.{IsTotalOrder}
use Rattle.std.proofs.lemmas.Cmp.{nat_list_cmp_total, on_total, then_total}
use Rattle.std.specs.List.{filter, list_any}
use Rattle.kv_core.specs.Bytes.{key_cmp, key_lt, key_le, key_max, key_min, next_key, end_of_keys}

-- the keys from `begin` up to, and not including, `end`
pub record KeyRange : Type 0 where
  pub begin : List ℕ
  pub end : List ℕ

-- whether a range may be written so: its begin isn't after its end, nor its end after the end of the keys
abbrev pub is_key_range : KeyRange → Bool
is_key_range range = key_le range.begin range.end && key_le range.end end_of_keys

-- whether the key lies in the range
abbrev pub contains : KeyRange → List ℕ → Bool
contains range key = key_le range.begin key && key_lt key range.end

-- the range of one key
abbrev pub point : List ℕ → KeyRange
point key = record { begin = key; end = next_key key }

-- the keys that two ranges have in common
abbrev pub common : KeyRange → KeyRange → KeyRange
common a b = record { begin = key_max a.begin b.begin; end = key_min a.end b.end }

-- the part of a range before a key, which begins where the range does
abbrev pub part_before : List ℕ → KeyRange → KeyRange
part_before key range = record { begin = range.begin; end = key_max range.begin (key_min key range.end) }

-- the part of a range from a key on, which ends where the range does
abbrev pub part_from : List ℕ → KeyRange → KeyRange
part_from key range = record { begin = key_min range.end (key_max range.begin key); end = range.end }

-- whether there is a key in the range
abbrev pub has_keys : KeyRange → Bool
has_keys range = key_lt range.begin range.end

-- whether two ranges have a key in common
abbrev pub meets : KeyRange → KeyRange → Bool
meets a b = has_keys (common a b)

-- whether the key lies in a range of the list
abbrev pub covers : List KeyRange → List ℕ → Bool
covers ranges key = list_any (λ range. contains range key) ranges

-- whether two ranges have the same begin and the same end
abbrev pub is_same_range : KeyRange → KeyRange → Bool
is_same_range a b = is_eq (key_cmp a.begin b.begin) && is_eq (key_cmp a.end b.end)

-- the order of ranges: by their begins, and those with one begin by their ends
abbrev pub range_cmp : KeyRange → KeyRange → Ordering
range_cmp a b = ordering_then (key_cmp a.begin b.begin) (key_cmp a.end b.end)

-- it is total: each two ranges compare, and comparisons agree with one another
pub range_cmp_total : IsTotalOrder range_cmp
range_cmp_total =
    then_total (on_total (λ (range : KeyRange). range.begin) nat_list_cmp_total)
    (on_total (λ (range : KeyRange). range.end) nat_list_cmp_total)

-- Private: whether a range lies within another one
abbrev pub is_within : KeyRange → KeyRange → Bool
is_within range other = key_le other.begin range.begin && key_le range.end other.end

-- the list with a range added at its end, unless it has that range
abbrev pub with_range : KeyRange → List KeyRange → List KeyRange
with_range range ranges = if list_any (is_same_range range) ranges then ranges else ranges ++ range ∷ []

-- whether a range of the list has a key in common with this one
abbrev pub any_meets : KeyRange → List KeyRange → Bool
any_meets range ranges = list_any (meets range) ranges

-- Private: the entries of a list whose keys lie in the range
abbrev pub entries_in : KeyRange → List (List ℕ × List ℕ) → List (List ℕ × List ℕ)
entries_in range entries = filter (λ entry. contains range entry.0) entries

-- Private: the others
abbrev pub entries_outside : KeyRange → List (List ℕ × List ℕ) → List (List ℕ × List ℕ)
entries_outside range entries = filter (λ entry. not (contains range entry.0)) entries
