-- What a read of one key's point gives.
use Rattle.std.proofs.Common.{◌≡◌, ℕ, false, cond, Option, None, Some, List, [], ◌∷◌, take, inl, inr, refl, sym, ap, ◌∙◌}
use Rattle.std.proofs.lemmas.Bool.{cases_Bool}
use Rattle.std.specs.List.{filter}
use Rattle.std.specs.Ordering.{is_eq}
use Rattle.std.specs.FinMap.{get, entries, get-entries, find}
use Rattle.kv_core.specs.Bytes.{key_cmp}
use Rattle.kv_core.specs.Range.{contains, point}
use Rattle.kv_core.specs.Map.{Map}
use Rattle.kv_core.specs.Read.{read_of}
use Rattle.kv_core.proofs.Lists.{filter_here, filter_not}
use Rattle.kv_core.proofs.Order.{tied_keys}
use Rattle.kv_core.proofs.Pairs.{contains-point-is, entries-kept}

abbrev Pair : Type 0
Pair = List ℕ × List ℕ

-- the pair of a key that has a value
abbrev pub pair_of : List ℕ → Option (List ℕ) → List Pair
pair_of k None = []
pair_of k (Some v) = (k, v) ∷ []

first_pair : (k : List ℕ) (es : List Pair) → take 1 (filter (λ e. contains (point k) e.0) es) ≡ pair_of k (find key_cmp k es)
first_pair k [] = refl
first_pair k (e ∷ es) =
    elim (cases_Bool (is_eq (key_cmp k e.0))) [
      | inl same ↦
          ap (take 1) (filter_here (λ e. contains (point k) e.0) e es (contains-point-is k e.0 ∙ same))
          ∙ ap (λ q. (q, e.1) ∷ []) (sym (tied_keys k e.0 same))
          ∙ sym (ap (λ t. pair_of k (cond t (Some e.1) (find key_cmp k es))) same)
      | inr other ↦
          ap (take 1) (filter_not (λ e. contains (point k) e.0) e es (contains-point-is k e.0 ∙ other))
          ∙ first_pair k es ∙ sym (ap (λ t. pair_of k (cond t (Some e.1) (find key_cmp k es))) other)
    ]

-- a read of one key's point with limit 1 gives the pair of the key
pub read_of-point : (m : Map) (k : List ℕ) → read_of m (point k) 1 false ≡ pair_of k (get m k)
read_of-point m k = ap (take 1) (entries-kept m (contains (point k))) ∙ first_pair k (entries m) ∙ ap (pair_of k) (sym (get-entries m k))
