-- Private: the last mutation of a key, by which most of what a transaction sees at the key is told.
use Rattle.std.specs.Prelude.{◌≡◌, ℕ, ◌<◌, ◌≤◌, false, Option, Some, None, List, length, take, get_or}
use Rattle.std.specs.HashMap.{get}
use Rattle.std.specs.Ordering.{eq_by_cmp}
use Rattle.kv_core.specs.Bytes.{key_cmp}
use Rattle.kv_core.specs.Map.{value_after, value_after_all}
use Rattle.kv_core.specs.Range.{point}
use Rattle.kv_core.specs.declared.change.Mutation.{Mutation}
use Rattle.kv_core.specs.declared.change.Mutation.TheVariants.{Set, ClearRange, Add, CompareAndClear}
use Rattle.txn.specs.declared.latest.Last.{Last}
use Rattle.txn.specs.declared.latest.Last.TheVariants.{Is, Missing, Unknown}
use Rattle.txn.specs.declared.latest.Latest.{Latest}

-- the mutation writes this key and no other
abbrev pub WritesJust : Mutation → List ℕ → Type 0
WritesJust (Set own value) key = own ≡ key
WritesJust (Add own operand) key = own ≡ key
WritesJust (CompareAndClear own operand) key = own ≡ key
WritesJust (ClearRange range) key = range ≡ point key

-- mutations leave the value at a key as it was
abbrev pub LeaveAlone : List Mutation → List ℕ → Type 0
LeaveAlone mutations key = (before : Option (List ℕ)) → value_after_all mutations key before ≡ before

-- a mutation writes this key alone, and mutations make of it what this one makes of some value there
abbrev pub Decides : Mutation → List Mutation → List ℕ → Type 0
Decides mutation mutations key =
    WritesJust mutation key × ((before : Option (List ℕ)) → (other : Option (List ℕ)) ×
    (value_after_all mutations key before ≡ value_after mutation key other))

-- what was found of the last mutation of a key in a list
abbrev pub IsLast : Last → List Mutation → List ℕ → Type 0
IsLast (Is mutation) mutations key = Decides mutation.now mutations key
IsLast Missing mutations key = LeaveAlone mutations key
IsLast Unknown mutations key = Unit {0}

-- at this place of a list stands the last mutation of a key; no place: the list has none
abbrev pub IsLastPlace : Option ℕ → List Mutation → List ℕ → Type 0
IsLastPlace None mutations key = LeaveAlone mutations key
IsLastPlace (Some place) mutations key =
    (place < length mutations) × ((other : Mutation) → Decides (get_or mutations place other) mutations key)

-- what is noted is what there is of these mutations, unless one of them clears more than the point of a key
abbrev pub Notes : Latest → List Mutation → Type 0
Notes latest mutations =
    (latest.noted ≡ length mutations) ×
    (latest.is_cut ≡ false → (key : List ℕ) → IsLastPlace (get (eq_by_cmp key_cmp) latest.places key) mutations key)

-- what is noted is that of the first mutations of a list
abbrev pub NotesFirst : Latest → List Mutation → Type 0
NotesFirst latest mutations =
    (latest.noted ≤ length mutations) × Notes latest (take latest.noted mutations)
