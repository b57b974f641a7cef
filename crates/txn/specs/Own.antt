-- Private: what a transaction's own mutations make of the values that were there before them.
use Rattle.std.specs.Prelude.{◌≡◌, ℕ, if◌then◌else◌, Option, Some, None, unwrap_or, List, [], ◌∷◌}
use Rattle.std.specs.Map.{lookup}
use Rattle.std.specs.BTreeMap.{BTreeMap, get as tree_get, is_at}
use Rattle.std.specs.List.{filter}
use Rattle.std.specs.FinMap.{get, insert}
use Rattle.kv_core.specs.Addition.{added}
use Rattle.kv_core.specs.Bytes.{key_cmp}
use Rattle.kv_core.specs.Map.{Map, value_after_all}
use Rattle.kv_core.specs.Range.{KeyRange, contains, covers}
use Rattle.kv_core.specs.declared.change.Mutation.{Mutation}
use Rattle.txn.specs.declared.own.OwnWrites.{OwnWrites}

-- what operands, added one after another, make of a value that was there or of none
abbrev pub sum_over : List (List ℕ) → Option (List ℕ) → List ℕ
sum_over [] before = unwrap_or before []
sum_over (operand ∷ operands) before = sum_over operands (Some (added before operand))

-- the map that own mutations make of nothing, the keys that they clear, the operands of each key whose value they only
-- add to, and the mutations of each key from its first comparison on
pub record OwnState : Type 0 where
  pub written : Map
  pub cleared : List KeyRange
  pub sums : List (List ℕ × List (List ℕ))
  pub compared : BTreeMap (List ℕ) (List Mutation)

-- what own writes stand for
abbrev pub own_state : OwnWrites → OwnState
own_state own =
    record { written = own.written; cleared = own.cleared; sums = own.sums.entries; compared = own.compared }

-- a value that own mutations make of nothing, or the sum over the value before where they only add to it
abbrev pub worth : List ℕ → Option (List (List ℕ)) → Option (List ℕ) → List ℕ
worth value None before = value
worth value (Some operands) before = sum_over operands before

abbrev pub worth_of : Option (List ℕ) → Option (List (List ℕ)) → Option (List ℕ) → Option (List ℕ)
worth_of None sum before = before
worth_of (Some value) sum before = Some (worth value sum before)

-- the operands that are added at a key
abbrev pub sum_at : List (List ℕ × List (List ℕ)) → List ℕ → Option (List (List ℕ))
sum_at sums key = lookup (is_at (key_cmp key)) sums

-- the value before, unless the key is cleared
abbrev pub left_of : List KeyRange → List ℕ → Option (List ℕ) → Option (List ℕ)
left_of cleared key before = if covers cleared key then None else before

-- the value at a key before own mutations compare it, where there was this value or none
abbrev pub known : OwnState → List ℕ → Option (List ℕ) → Option (List ℕ)
known own key before = worth_of (get own.written key) (sum_at own.sums key) (left_of own.cleared key before)

-- the mutations of a key from its first comparison on
abbrev pub compared_at : BTreeMap (List ℕ) (List Mutation) → List ℕ → List Mutation
compared_at compared key = unwrap_or (tree_get key_cmp compared key) []

-- the compared keys of a range, each with its mutations
abbrev pub compared_in : KeyRange → List (List ℕ × List Mutation) → List (List ℕ × List Mutation)
compared_in range entries = filter (λ entry. contains range entry.0) entries

-- the value at a key under own mutations, where there was this value or none
abbrev pub under : OwnState → List ℕ → Option (List ℕ) → Option (List ℕ)
under own key before = value_after_all (compared_at own.compared key) key (known own key before)

-- a map as it is seen under own mutations
abbrev pub IsUnder : OwnState → Map → Map → Type 0
IsUnder own base m = (key : List ℕ) → get m key ≡ under own key (get base key)

-- a map with pairs put over it, each with what it is worth there
abbrev pub laid_over : List (List ℕ × List (List ℕ)) → List (List ℕ × List ℕ) → Map → Map
laid_over sums [] m = m
laid_over sums (pair ∷ pairs) m =
    laid_over sums pairs (insert m pair.0 (worth pair.1 (sum_at sums pair.0) (get m pair.0)))
