-- A plan scans no index but those that it may use.
use Rattle.std.specs.Prelude.{◌≡◌, ℕ, Bool, true, false, not, ◌==◌, nat_lt, List, [], ◌∷◌, length, map, filter, fold, refl, Option, Some, None, option_map, unwrap_or, if◌then◌else◌}
use Rattle.std.specs.List.{list_all, list_any}
use Rattle.std.proofs.Common.{sym, subst}
use Rattle.std.proofs.lemmas.Option.{same_Some}
use Rattle.metadata.specs.declared.index.IndexDefinition.{IndexDefinition}
use Rattle.metadata.specs.declared.index.IndexKind.{IndexKind}
use Rattle.metadata.specs.declared.index.IndexKind.TheVariants.{Value, Count, Sum}
use Rattle.metadata.specs.Index.{is_value}
use Rattle.metadata.specs.declared.definition.TypeDefinition.{TypeDefinition}
use Rattle.query.specs.Filter.{Filter, compare, null_field, starts, all_of, some_of, negation, Filters, no_filters, filter as part, parts, conjuncts, conjuncts_of}
use Rattle.query.specs.Query.{Query}
use Rattle.planner.specs.Match.{Path, primary, along, Conjunct, numbered_filters, Match, match_of, used, serves, paths}
use Rattle.planner.specs.Match.{others}
use Rattle.planner.specs.Plan.{Node, fetch, intersection, union, unordered_union, distinct}
use Rattle.planner.specs.Scanned.{scans_all}
use Rattle.planner.specs.Planned.{index_scan, path_scan, residual, Matched, longer_of, longest, matched_paths, sorted_plan, fixes_all, joining, Draft, other_than, index_draft, path_draft, single_plan, nodes_of, union_of, is_empty, union_plan, only_union_plan, part_plans, unsorted_plan, planned}
use Rattle.planner.specs.Right.{indexes_of, indexes_of_all, indexes_of_scans}
use Rattle.planner.proofs.Ranges.{Each}
use Rattle.planner.proofs.Residual.{each_append, each_of_map, each_where}
use Rattle.planner.proofs.Unsorted.{residual_indexes, longest_has}

-- VALUE: a kind that is told to be VALUE is
pub value_is : (kind : IndexKind) → is_value kind ≡ true → kind ≡ Value
value_is Value is = refl
value_is Count is = absurd (cc)
value_is Sum is = absurd (cc)

module _ (t : TypeDefinition) (indexes : List IndexDefinition) (P : IndexDefinition → Type 0) (all : Each P indexes) where
  -- a node scans only such indexes
  abbrev Uses : Node → Type 0
  Uses n = Each P (indexes_of n)

  joining_uses : (is : List IndexDefinition) (cs : List Conjunct) → Each P is → Each (λ k. P k.0) (joining t is cs)
  joining_uses [] cs g = tt
  joining_uses (i ∷ is) cs g = by (fixes_all i (match_of t cs (along i))) (joining_uses is (others (used (match_of t cs (along i))) cs) g.1) (joining_uses is cs g.1)
    where
      by : (b : Bool) → Each (λ k. P k.0) (joining t is (others (used (match_of t cs (along i))) cs)) → Each (λ k. P k.0) (joining t is cs) →
          Each (λ k. P k.0) (if b then (i, match_of t cs (along i)) ∷ joining t is (others (used (match_of t cs (along i))) cs) else joining t is cs)
      by true a b = (g.0, a)
      by false a b = b

  scans_use : (ks : List (IndexDefinition × Match)) → Each (λ k. P k.0) ks → Each P (indexes_of_scans (map (λ k. index_scan k.0 k.1 false) ks))
  scans_use [] e = tt
  scans_use (k ∷ ks) e = (e.0, scans_use ks e.1)

  residual_uses : (cs : List Conjunct) (n : Node) → Uses n → Uses (residual cs n)
  residual_uses cs n e = subst (Each P) (sym (residual_indexes cs n)) e

  abbrev OnPath : Path → Type 0
  OnPath primary = Unit {0}
  OnPath (along i) = P i

  scan_uses : (p : Path) (m : Match) (reversed : Bool) → OnPath p → Uses (path_scan p m reversed)
  scan_uses primary m reversed e = tt
  scan_uses (along i) m reversed e = (e, tt)

  on_paths : Each OnPath (paths indexes)
  on_paths = (tt, each_of_map OnPath along indexes all)

  on_matched : (cs : List Conjunct) (ps : List Path) → Each OnPath ps → Each (λ q. OnPath q.0) (matched_paths t cs ps)
  on_matched cs [] e = tt
  on_matched cs (p ∷ ps) e = (e.0, on_matched cs ps e.1)

  index_draft_uses : (cs : List Conjunct) (i : IndexDefinition) (m : Match) (js : List (IndexDefinition × Match)) → P i → Each (λ k. P k.0) js → Uses (index_draft cs i m js).root
  index_draft_uses cs i m [] h e = residual_uses (others (used m) cs) (path_scan (along i) m false) (h, tt)
  index_draft_uses cs i m (j ∷ js) h e = residual_uses _ (fetch (intersection (map (λ k. index_scan k.0 k.1 false) ((i, m) ∷ j ∷ js)))) (scans_use ((i, m) ∷ j ∷ js) (h, e))

  draft_uses : (cs : List Conjunct) (p : Path) (m : Match) → OnPath p → Uses (path_draft t indexes cs p m).root
  draft_uses cs primary m e = residual_uses (others (used m) cs) (path_scan primary m false) tt
  draft_uses cs (along i) m e = by (fixes_all i m)
    where
      by : (b : Bool) → Uses (index_draft cs i m (if b then joining t (other_than i indexes) (others (used m) cs) else [])).root
      by true = index_draft_uses cs i m (joining t (other_than i indexes) (others (used m) cs)) e
          (joining_uses (other_than i indexes) (others (used m) cs) (each_where P (λ j. not (j.number == i.number)) indexes all))
      by false = index_draft_uses cs i m [] e tt

  single_uses : (cs : List Conjunct) → Uses (single_plan t indexes cs).root
  single_uses cs =
      let rest : List Matched = matched_paths t cs (map along indexes) in
      let p : Matched = fold longer_of (primary, match_of t cs primary) rest in
      draft_uses cs p.0 p.1 (longest_has (λ q. OnPath q.0) (primary, match_of t cs primary) rest tt (on_matched cs (map along indexes) on_paths.1))

  sorted_uses : (cs : List Conjunct) (sort : List (List ℕ)) (reversed : Bool) (root : Node) → sorted_plan t indexes cs sort reversed ≡ Some root → Uses root
  sorted_uses cs sort reversed root e = by (filter (serves t cs sort) (paths indexes)) (each_where OnPath (serves t cs sort) (paths indexes) on_paths) e
    where
      by : (ps : List Path) → Each OnPath ps → option_map (λ p. residual (others (used p.1) cs) (path_scan p.0 p.1 reversed)) (longest (matched_paths t cs ps)) ≡ Some root → Uses root
      by [] s h = cc
      by (p ∷ ps) s h =
          let rest : List Matched = matched_paths t cs ps in
          let q : Matched = fold longer_of (p, match_of t cs p) rest in
          subst Uses (same_Some (residual (others (used q.1) cs) (path_scan q.0 q.1 reversed)) root h)
          (residual_uses (others (used q.1) cs) (path_scan q.0 q.1 reversed) (scan_uses q.0 q.1 reversed (longest_has (λ x. OnPath x.0) (p, match_of t cs p) rest s.0 (on_matched cs ps s.1))))

  absurd_none : (d : Draft) → ◌≡◌ {A = Option Draft} None (Some d) → Uses d.root
  absurd_none d e = absurd (never e)
    where
      never : ◌≡◌ {A = Option Draft} None (Some d) → ⊥
      never e = cc

  union_uses : (ds : List Draft) → Each P (indexes_of_all (nodes_of (map (λ d. d.root) ds))) → (d : Draft) → union_of ds ≡ Some d → Uses d.root
  union_uses ds u d e = by (list_any (λ d. scans_all d.root) ds) (list_all (λ d. d.in_key_order) ds) e
    where
      by : (a b : Bool) →
          (if a then None else if b then Some (record { root = union (nodes_of (map (λ d. d.root) ds)); in_key_order = true })
          else Some (record { root = distinct (unordered_union (nodes_of (map (λ d. d.root) ds))); in_key_order = false })) ≡ Some d → Uses d.root
      by true b e = absurd_none d e
      by false true e = subst (λ x. Uses x.root) (same_Some (record { root = union (nodes_of (map (λ d. d.root) ds)); in_key_order = true }) d e) u
      by false false e = subst (λ x. Uses x.root) (same_Some (record { root = distinct (unordered_union (nodes_of (map (λ d. d.root) ds))); in_key_order = false }) d e) u

  some_by : (fs : Filters) (d : Draft) (b : Bool) → Each P (indexes_of_all (nodes_of (map (λ d. d.root) (part_plans t indexes fs)))) → (if b then union_of (part_plans t indexes fs) else None) ≡ Some d → Uses d.root
  some_by fs d true u e = union_uses (part_plans t indexes fs) u d e
  some_by fs d false u e = absurd_none d e

  only_by : (d : Draft) (x y : Option Draft) (a b : Bool) → (x ≡ Some d → Uses d.root) → (y ≡ Some d → Uses d.root) → (if a then x else if b then y else None) ≡ Some d → Uses d.root
  only_by d x y true b later own e = later e
  only_by d x y false true later own e = own e
  only_by d x y false false later own e = absurd_none d e

  either_uses : (o : Option Draft) (d : Draft) → ((x : Draft) → o ≡ Some x → Uses x.root) → Uses d.root → Uses (unwrap_or o d).root
  either_uses None d f u = u
  either_uses (Some x) d f u = f x refl

  mutual
    union_plan_uses : (f : Filter) (d : Draft) → union_plan t indexes f ≡ Some d → Uses d.root
    union_plan_uses (compare n o w) d e = absurd_none d e
    union_plan_uses (null_field n) d e = absurd_none d e
    union_plan_uses (starts n w) d e = absurd_none d e
    union_plan_uses (all_of fs) d e = only_union_uses fs d e
    union_plan_uses (some_of fs) d e = some_by fs d (nat_lt 1 (length (parts fs))) (parts_use fs) e
    union_plan_uses (negation f) d e = absurd_none d e

    only_union_uses : (fs : Filters) (d : Draft) → only_union_plan t indexes fs ≡ Some d → Uses d.root
    only_union_uses no_filters d e = absurd_none d e
    only_union_uses (part f fs) d e = only_by d (only_union_plan t indexes fs) (union_plan t indexes f) (is_empty (conjuncts f)) (is_empty (conjuncts_of fs)) (λ g. only_union_uses fs d g) (λ g. union_plan_uses f d g) e

    parts_use : (fs : Filters) → Each P (indexes_of_all (nodes_of (map (λ d. d.root) (part_plans t indexes fs))))
    parts_use no_filters = tt
    parts_use (part f fs) =
        each_append P (indexes_of (unsorted_plan t indexes f).root) (indexes_of_all (nodes_of (map (λ d. d.root) (part_plans t indexes fs))))
        (either_uses (union_plan t indexes f) (single_plan t indexes (numbered_filters (conjuncts f))) (λ d g. union_plan_uses f d g) (single_uses (numbered_filters (conjuncts f)))) (parts_use fs)

  -- what holds of all indexes that may be used holds of those that the plan scans
  pub planned_uses : (q : Query) (root : Node) → planned t indexes q ≡ Some root → Uses root
  planned_uses q root e = by (is_empty q.sort) e
    where
      by : (b : Bool) → (if b then Some (unsorted_plan t indexes q.filter).root else sorted_plan t indexes (numbered_filters (conjuncts q.filter)) q.sort q.reverse) ≡ Some root → Uses root
      by true h = subst Uses (same_Some (unsorted_plan t indexes q.filter).root root h)
          (either_uses (union_plan t indexes q.filter) (single_plan t indexes (numbered_filters (conjuncts q.filter))) (λ d g. union_plan_uses q.filter d g) (single_uses (numbered_filters (conjuncts q.filter))))
      by false h = sorted_uses (numbered_filters (conjuncts q.filter)) q.sort q.reverse root h
