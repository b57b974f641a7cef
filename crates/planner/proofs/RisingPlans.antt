-- The planner's plans merge only what rises.
use Rattle.std.specs.Prelude.{◌≡◌, ℕ, Bool, true, false, nat_lt, List, [], ◌∷◌, length, filter, map, flat_map, Option, Some, None, refl, option_map, unwrap_or, if◌then◌else◌}
use Rattle.std.specs.List.{AllByRecursion, list_all, list_any}
use Rattle.std.specs.Cmp.{first_so, second_so}
use Rattle.std.specs.Ordering.{is_le}
use Rattle.std.proofs.Common.{ap, sym, ◌∙◌, subst, arith}
use Rattle.std.proofs.lemmas.Bool.{eqb-true}
use Rattle.std.proofs.lemmas.List.{length-map}
use Rattle.std.proofs.lemmas.Option.{none-some, same_Some}
use Rattle.tuple_codec.specs.Order.{bytes_cmp}
use Rattle.metadata.specs.Cell.{IsCell}
use Rattle.metadata.specs.declared.cells.Cell.{Cell}
use Rattle.metadata.specs.declared.definition.TypeDefinition.{TypeDefinition}
use Rattle.metadata.specs.declared.index.IndexDefinition.{IndexDefinition}
use Rattle.query.specs.Filter.{Filter, compare, null_field, starts, all_of, some_of, negation, Filters, no_filters, filter as part, parts, conjuncts, conjuncts_of, nodes, nodes_of as nodes_of_parts}
use Rattle.query.specs.Query.{Query}
use Rattle.planner.specs.Match.{Path, primary, along, Conjunct, numbered_filters, Match, matching, column_in_front, match_of, name_at, fixing, bounding, said, first, used, others, serves, paths}
use Rattle.planner.specs.Plan.{Node, fetch, intersection, union, unordered_union, distinct}
use Rattle.planner.specs.Planned.{index_scan, path_scan, residual, Matched, longest, matched_paths, sorted_plan, fixes_all, joining, Draft, other_than, index_draft, path_draft, single_plan, nodes_of, union_of, is_empty, union_plan, only_union_plan, part_plans, unsorted_plan, planned}
use Rattle.planner.specs.Range.{Bound, bounded}
use Rattle.planner.specs.Rising.{EntriesRise, MergesRising, PartsMerge, PartsRise, Rises}
use Rattle.planner.specs.Scanned.{scans_all}
use Rattle.planner.proofs.Lists.{each_all}
use Rattle.planner.proofs.Paths.{match_stored}
use Rattle.planner.proofs.Ranges.{Each}
use Rattle.planner.proofs.Residual.{HasValue, each_where}
use Rattle.planner.proofs.Unsorted.{conjuncts_checked, each_left, each_right, longest_has, numbered_checked}

-- ---- filters that are left

-- a filter over a node rises where the node does, and merges what it does
residual_rises : (cs : List Conjunct) (n : Node) → Rises n → Rises (residual cs n)
residual_rises [] n h = h
residual_rises (c ∷ []) n h = h
residual_rises (c ∷ d ∷ cs) n h = h

residual_merges : (cs : List Conjunct) (n : Node) → MergesRising n → MergesRising (residual cs n)
residual_merges [] n h = h
residual_merges (c ∷ []) n h = h
residual_merges (c ∷ d ∷ cs) n h = h

-- a scan of a path merges nothing
path_merges : (p : Path) (m : Match) (reversed : Bool) → MergesRising (path_scan p m reversed)
path_merges primary m reversed = tt
path_merges (along i) m reversed = tt

-- ---- a match that fixes all columns

-- it has no bounds
no_bounds : (cs : List Conjunct) (names : List (List ℕ)) → length (matching cs names).fixed ≡ length names → (matching cs names).bounds ≡ []
no_bounds cs [] e = refl
no_bounds cs (name ∷ names) e = by (first (said (fixing name) cs)) (λ h. no_bounds cs names h) e
  where
    by : (o : Option (ℕ × Cell)) → (length (matching cs names).fixed ≡ length names → (matching cs names).bounds ≡ []) →
        length (column_in_front o (said (bounding name) cs) (matching cs names)).fixed ≡ length (name ∷ names) → (column_in_front o (said (bounding name) cs) (matching cs names)).bounds ≡ []
    by None more h = absurd (omega (arith, h))
    by (Some f) more h = more (omega (arith, h))

module _ (t : TypeDefinition) (cs : List Conjunct) (values : Each (λ c. HasValue IsCell c.1) cs) where
  -- its scan rises
  fixed_rises : (i : IndexDefinition) → fixes_all i (match_of t cs (along i)) ≡ true → EntriesRise (index_scan i (match_of t cs (along i)) false)
  fixed_rises i all =
      let m = match_of t cs (along i) in
      let names = map (name_at t) i.columns in
      let size : length m.fixed ≡ length i.columns = eqb-true (length m.fixed) (length i.columns) all in
      let none : m.bounds ≡ [] = no_bounds cs names (size ∙ sym (length-map i.columns (name_at t))) in
      record {
        forward = refl;
        cells = map (λ f. f.1) m.fixed;
        are_stored = each_all IsCell (map (λ f. f.1) m.fixed) (match_stored IsCell tt cs values names).0;
        each_column = length-map m.fixed (λ f. f.1) ∙ size;
        rest = bounded (map (λ b. b.1) m.bounds);
        below_ff = ap (λ (bs : List (ℕ × Bound)). is_le (bytes_cmp (bounded (map (λ b. b.1) bs)).end (0xff ∷ []))) none;
        in_range = refl;
      }

module _ (t : TypeDefinition) where
  abbrev Scans : List (IndexDefinition × Match) → Type 0
  Scans ks = AllByRecursion EntriesRise (map (λ k. index_scan k.0 k.1 false) ks)

  -- so do those of the indexes that join
  joining_rise : (is : List IndexDefinition) (cs : List Conjunct) → Each (λ c. HasValue IsCell c.1) cs → Scans (joining t is cs)
  joining_rise [] cs v = tt
  joining_rise (i ∷ is) cs v =
      by (fixes_all i (match_of t cs (along i))) refl
      (joining_rise is (others (used (match_of t cs (along i))) cs) (each_where (λ c. HasValue IsCell c.1) _ cs v))
      (joining_rise is cs v)
    where
      by : (b : Bool) → fixes_all i (match_of t cs (along i)) ≡ b → Scans (joining t is (others (used (match_of t cs (along i))) cs)) → Scans (joining t is cs) →
          Scans (if b then (i, match_of t cs (along i)) ∷ joining t is (others (used (match_of t cs (along i))) cs) else joining t is cs)
      by true all with_it without = (fixed_rises t cs v i all, with_it)
      by false all with_it without = without

-- ---- drafts

-- a draft merges only what rises, and rises where it is said to be in key order
pub record IsMerging (d : Draft) : Type 0 where
  pub merges : MergesRising d.root
  pub rises : d.in_key_order ≡ true → Rises d.root

module _ (t : TypeDefinition) (cs : List Conjunct) (v : Each (λ c. HasValue IsCell c.1) cs) where
  fetched_merging : (i : IndexDefinition) → IsMerging (index_draft cs i (match_of t cs (along i)) [])
  fetched_merging i =
      let m = match_of t cs (along i) in
      let n = path_scan (along i) m false in
      record { merges = residual_merges (others (used m) cs) n tt; rises = λ all. residual_rises (others (used m) cs) n (fixed_rises t cs v i all) }

  joined_merging : (i : IndexDefinition) (js : List (IndexDefinition × Match)) → fixes_all i (match_of t cs (along i)) ≡ true → Scans t js → IsMerging (index_draft cs i (match_of t cs (along i)) js)
  joined_merging i [] all scans = fetched_merging i
  joined_merging i (j ∷ js) all scans =
      let ks : List (IndexDefinition × Match) = (i, match_of t cs (along i)) ∷ j ∷ js in
      let left : List Conjunct = others (flat_map (λ k. used k.1) ks) cs in
      let n : Node = fetch (intersection (map (λ k. index_scan k.0 k.1 false) ks)) in
      record { merges = residual_merges left n (fixed_rises t cs v i all, scans); rises = λ said. residual_rises left n tt }

  path_merging : (indexes : List IndexDefinition) (p : Path) → IsMerging (path_draft t indexes cs p (match_of t cs p))
  path_merging indexes primary =
      let m = match_of t cs primary in
      let n = path_scan primary m false in
      record { merges = residual_merges (others (used m) cs) n tt; rises = λ said. residual_rises (others (used m) cs) n refl }
  path_merging indexes (along i) = by (fixes_all i (match_of t cs (along i))) refl
    where
      left : List Conjunct
      left = others (used (match_of t cs (along i))) cs

      by : (b : Bool) → fixes_all i (match_of t cs (along i)) ≡ b → IsMerging (index_draft cs i (match_of t cs (along i)) (if b then joining t (other_than i indexes) (others (used (match_of t cs (along i))) cs) else []))
      by true all = joined_merging i (joining t (other_than i indexes) left) all (joining_rise t (other_than i indexes) left (each_where (λ c. HasValue IsCell c.1) _ cs v))
      by false all = fetched_merging i

module _ (t : TypeDefinition) (indexes : List IndexDefinition) where
  single_merging : (cs : List Conjunct) → Each (λ c. HasValue IsCell c.1) cs → IsMerging (single_plan t indexes cs)
  single_merging cs v = longest_has P (primary, match_of t cs primary) (map (λ p. (p, match_of t cs p)) (map along indexes)) (path_merging t cs v indexes primary) (each_along indexes)
    where
      P : Matched → Type 0
      P q = IsMerging (path_draft t indexes cs q.0 q.1)

      each_along : (is : List IndexDefinition) → Each P (map (λ p. (p, match_of t cs p)) (map along is))
      each_along [] = tt
      each_along (i ∷ is) = (path_merging t cs v indexes (along i), each_along is)

  -- ---- unions

  parts_merge : (ds : List Draft) → Each IsMerging ds → PartsMerge (nodes_of (map (λ d. d.root) ds))
  parts_merge [] e = tt
  parts_merge (d ∷ ds) e = (e.0.merges, parts_merge ds e.1)

  parts_rise : (ds : List Draft) → Each IsMerging ds → list_all (λ d. d.in_key_order) ds ≡ true → PartsRise (nodes_of (map (λ d. d.root) ds))
  parts_rise [] e h = tt
  parts_rise (d ∷ ds) e h = (e.0.rises (first_so _ _ h), parts_rise ds e.1 (second_so d.in_key_order _ h))

  union_of_merging : (ds : List Draft) (d : Draft) → Each IsMerging ds → union_of ds ≡ Some d → IsMerging d
  union_of_merging ds d each e = by (list_any (λ x. scans_all x.root) ds) (list_all (λ x. x.in_key_order) ds) refl e
    where
      ordered : Draft
      ordered = record { root = union (nodes_of (map (λ d. d.root) ds)); in_key_order = true }

      unordered : Draft
      unordered = record { root = distinct (unordered_union (nodes_of (map (λ d. d.root) ds))); in_key_order = false }

      not_said : false ≡ true → ⊥
      not_said h = cc

      by : (a b : Bool) → list_all (λ x. x.in_key_order) ds ≡ b → (if a then None else if b then Some ordered else Some unordered) ≡ Some d → IsMerging d
      by true b said h = absurd (none-some d h)
      by false true said h = subst IsMerging (same_Some ordered d h) (record { merges = (parts_rise ds each said, parts_merge ds each); rises = λ s. tt })
      by false false said h = subst IsMerging (same_Some unordered d h) (record { merges = parts_merge ds each; rises = λ s. absurd (not_said s) })

  -- ---- filters

  single_of : (f : Filter) → Each (HasValue IsCell) (nodes f) → IsMerging (single_plan t indexes (numbered_filters (conjuncts f)))
  single_of f v = single_merging (numbered_filters (conjuncts f)) (numbered_checked IsCell (conjuncts f) 0 (conjuncts_checked IsCell f v))

  or_single : (f : Filter) → Each (HasValue IsCell) (nodes f) → (o : Option Draft) → ((d : Draft) → o ≡ Some d → IsMerging d) → IsMerging (unwrap_or o (single_plan t indexes (numbered_filters (conjuncts f))))
  or_single f v None own = single_of f v
  or_single f v (Some d) own = own d refl

  mutual
    union_merging : (f : Filter) → Each (HasValue IsCell) (nodes f) → (d : Draft) → union_plan t indexes f ≡ Some d → IsMerging d
    union_merging (compare name o w) v d e = absurd (none-some d e)
    union_merging (null_field name) v d e = absurd (none-some d e)
    union_merging (starts name w) v d e = absurd (none-some d e)
    union_merging (all_of fs) v d e = only_merging fs v.1 d e
    union_merging (some_of fs) v d e = by (nat_lt 1 (length (parts fs))) (each_merging fs v.1) e
      where
        by : (b : Bool) → Each IsMerging (part_plans t indexes fs) → (if b then union_of (part_plans t indexes fs) else None) ≡ Some d → IsMerging d
        by true each h = union_of_merging (part_plans t indexes fs) d each h
        by false each h = absurd (none-some d h)
    union_merging (negation f) v d e = absurd (none-some d e)

    only_merging : (fs : Filters) → Each (HasValue IsCell) (nodes_of_parts fs) → (d : Draft) → only_union_plan t indexes fs ≡ Some d → IsMerging d
    only_merging no_filters v d e = absurd (none-some d e)
    only_merging (part f fs) v d e =
        by (is_empty (conjuncts f)) (is_empty (conjuncts_of fs))
        (λ h. only_merging fs (each_right (HasValue IsCell) (nodes f) (nodes_of_parts fs) v) d h)
        (λ h. union_merging f (each_left (HasValue IsCell) (nodes f) (nodes_of_parts fs) v) d h) e
      where
        by : (a b : Bool) → (only_union_plan t indexes fs ≡ Some d → IsMerging d) → (union_plan t indexes f ≡ Some d → IsMerging d) →
            (if a then only_union_plan t indexes fs else if b then union_plan t indexes f else None) ≡ Some d → IsMerging d
        by true b later own h = later h
        by false true later own h = own h
        by false false later own h = absurd (none-some d h)

    each_merging : (fs : Filters) → Each (HasValue IsCell) (nodes_of_parts fs) → Each IsMerging (part_plans t indexes fs)
    each_merging no_filters v = tt
    each_merging (part f fs) v = (
      or_single f (each_left (HasValue IsCell) (nodes f) (nodes_of_parts fs) v) (union_plan t indexes f) (λ d e. union_merging f (each_left (HasValue IsCell) (nodes f) (nodes_of_parts fs) v) d e),
      each_merging fs (each_right (HasValue IsCell) (nodes f) (nodes_of_parts fs) v),
    )

  -- UNSORTED: the plan of a filter without a sort merges only what rises, and rises where it is said to be in key order
  pub unsorted_merging : (f : Filter) → Each (HasValue IsCell) (nodes f) → IsMerging (unsorted_plan t indexes f)
  unsorted_merging f v = or_single f v (union_plan t indexes f) (λ d e. union_merging f v d e)

  sorted_merging : (cs : List Conjunct) (sort : List (List ℕ)) (reversed : Bool) (root : Node) → sorted_plan t indexes cs sort reversed ≡ Some root → MergesRising root
  sorted_merging cs sort reversed root e = by (longest (matched_paths t cs (filter (serves t cs sort) (paths indexes)))) e
    where
      by : (o : Option Matched) → option_map (λ p. residual (others (used p.1) cs) (path_scan p.0 p.1 reversed)) o ≡ Some root → MergesRising root
      by None h = absurd (none-some root h)
      by (Some p) h = subst MergesRising (same_Some (residual (others (used p.1) cs) (path_scan p.0 p.1 reversed)) root h) (residual_merges (others (used p.1) cs) (path_scan p.0 p.1 reversed) (path_merges p.0 p.1 reversed))

  -- PLANNED: the plan of a query merges only what rises
  pub planned_merging : (q : Query) → Each (HasValue IsCell) (nodes q.filter) → (root : Node) → planned t indexes q ≡ Some root → MergesRising root
  planned_merging q v root e = by (is_empty q.sort) e
    where
      by : (b : Bool) → (if b then Some (unsorted_plan t indexes q.filter).root else sorted_plan t indexes (numbered_filters (conjuncts q.filter)) q.sort q.reverse) ≡ Some root → MergesRising root
      by true h = subst MergesRising (same_Some (unsorted_plan t indexes q.filter).root root h) (unsorted_merging q.filter v).merges
      by false h = sorted_merging (numbered_filters (conjuncts q.filter)) q.sort q.reverse root h
