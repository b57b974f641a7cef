-- The keys that lists share.
use Rattle.std.specs.Prelude.{◌≡◌, Bool, false, cond, ◌||◌, List, [], ◌∷◌, filter, refl}
use Rattle.std.specs.List.{list_all, list_any}
use Rattle.std.proofs.Common.{ap, ◌∙◌}
use Rattle.std.specs.Ordering.{eq_by_cmp, is_eq}
use Rattle.metadata.specs.declared.cells.Cell.{Cell}
use Rattle.metadata.specs.Order.{cells_cmp}
use Rattle.planner.proofs.Ranges.{Each}
use Rattle.plan_exec.proofs.InOrder.{IsBelow, turned}

abbrev pub Key : Type 0
Key = List Cell

abbrev pub itself : Key → Key
itself k = k

-- the list has the key
abbrev pub has : List Key → Key → Bool
has keys k = list_any (eq_by_cmp cells_cmp k) keys

-- ---- lists in key order

-- a key below all others isn't there
pub absent : (k : Key) (keys : List Key) → Each (IsBelow itself k) keys → has keys k ≡ false
absent k [] e = refl
absent k (y ∷ keys) e = ap (λ o. is_eq o || has keys k) e.0 ∙ absent k keys e.1

module _ {X : Type 0} (key : X → Key) where
  -- a key below all that are looked for doesn't count
  pub without : (y : Key) (keys : List Key) (looked : List X) → Each (λ x. IsBelow itself y (key x)) looked → filter (λ x. has (y ∷ keys) (key x)) looked ≡ filter (λ x. has keys (key x)) looked
  without y keys [] e = refl
  without y keys (x ∷ looked) e = (λ i. cond (is_eq (turned y (key x) e.0 i) || has keys (key x)) (x ∷ without y keys looked e.1 i) (without y keys looked e.1 i))

  -- an empty list has no key
  pub filter_none : (looked : List X) → filter (λ x. has [] (key x)) looked ≡ []
  filter_none [] = refl
  filter_none (x ∷ looked) = filter_none looked

-- ---- all of several lists

-- all lists have the key
abbrev pub all_have : List (List Key) → Key → Bool
all_have lists k = list_all (list_any (eq_by_cmp cells_cmp k)) lists
