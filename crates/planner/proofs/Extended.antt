-- Plans for a type to which fields were appended: the same ones, since columns keep their names.
use Rattle.std.specs.Prelude.{◌≡◌, ℕ, ◌<◌, Bool, cond, not, ◌==◌, nat_lt, List, [], ◌∷◌, ◌++◌, length, map, filter, refl, Some, None, option_map, unwrap_or, if◌then◌else◌}
use Rattle.std.proofs.Common.{ap, ◌∙◌}
use Rattle.metadata.specs.declared.index.IndexDefinition.{IndexDefinition}
use Rattle.metadata.specs.declared.definition.TypeDefinition.{TypeDefinition}
use Rattle.query.specs.Filter.{Filter, compare, null_field, starts, all_of, some_of, negation, Filters, no_filters, filter as part, parts, conjuncts, conjuncts_of}
use Rattle.query.specs.Query.{Query}
use Rattle.planner.specs.Match.{Path, primary, along, Conjunct, numbered_filters, Match, matching, match_of, name_at}
use Rattle.planner.specs.Match.{sort_columns, used, serves_from, serves, paths, others}
use Rattle.planner.specs.Planned.{path_scan, residual, longest, matched_paths, sorted_plan, fixes_all, joining, other_than, index_draft, path_draft, single_plan, union_of, is_empty, union_plan, only_union_plan, part_plans, planned}
use Rattle.planner.proofs.Ranges.{Each}
use Rattle.planner.proofs.Residual.{each_append, each_of_map, each_where}

module _ (t u : TypeDefinition) (n : ℕ) (same_key : t.key ≡ u.key) (same_names : (p : ℕ) → p < n → name_at t p ≡ name_at u p) (key_in : Each (λ p. p < n) t.key) where
  names_same : (places : List ℕ) → Each (λ p. p < n) places → map (name_at t) places ≡ map (name_at u) places
  names_same [] e = refl
  names_same (p ∷ places) e = λ i. same_names p e.0 i ∷ names_same places e.1 i

  -- a path whose columns are of the first n fields
  abbrev pub IsOver : Path → Type 0
  IsOver primary = Unit {0}
  IsOver (along i) = Each (λ p. p < n) i.columns

  match_same : (cs : List Conjunct) (p : Path) → IsOver p → match_of t cs p ≡ match_of u cs p
  match_same cs primary e = ap (matching cs) (names_same t.key key_in ∙ ap (map (name_at u)) same_key)
  match_same cs (along i) e = ap (matching cs) (names_same i.columns e)

  sort_names_same : (p : Path) → IsOver p → map (name_at t) (sort_columns t p) ≡ map (name_at u) (sort_columns u p)
  sort_names_same primary e = names_same t.key key_in ∙ ap (map (name_at u)) same_key
  sort_names_same (along i) e = names_same (i.columns ++ t.key) (each_append (λ p. p < n) i.columns t.key e key_in) ∙ ap (λ k. map (name_at u) (i.columns ++ k)) same_key

  serves_same : (cs : List Conjunct) (sort : List (List ℕ)) (p : Path) → IsOver p → serves t cs sort p ≡ serves u cs sort p
  serves_same cs sort p e = λ i. serves_from sort (length (match_same cs p e i).fixed) (sort_names_same p e i)

  matched_same : (cs : List Conjunct) (ps : List Path) → Each IsOver ps → matched_paths t cs ps ≡ matched_paths u cs ps
  matched_same cs [] e = refl
  matched_same cs (p ∷ ps) e = λ i. (p, match_same cs p e.0 i) ∷ matched_same cs ps e.1 i

  serving_same : (cs : List Conjunct) (sort : List (List ℕ)) (ps : List Path) → Each IsOver ps → filter (serves t cs sort) ps ≡ filter (serves u cs sort) ps
  serving_same cs sort [] e = refl
  serving_same cs sort (p ∷ ps) e = λ i. cond (serves_same cs sort p e.0 i) (p ∷ serving_same cs sort ps e.1 i) (serving_same cs sort ps e.1 i)

  joining_same : (is : List IndexDefinition) (cs : List Conjunct) → Each (λ j. IsOver (along j)) is → joining t is cs ≡ joining u is cs
  joining_same [] cs e = refl
  joining_same (i ∷ is) cs e =
      (λ k. let m = match_same cs (along i) e.0 k in if fixes_all i m then (i, m) ∷ joining t is (others (used m) cs) else joining t is cs)
      ∙ (λ k. if fixes_all i (match_of u cs (along i)) then (i, match_of u cs (along i)) ∷ joining_same is (others (used (match_of u cs (along i))) cs) e.1 k else joining_same is cs e.1 k)

  module _ (indexes : List IndexDefinition) (over : Each (λ j. IsOver (along j)) indexes) where
    paths_over : Each IsOver (paths indexes)
    paths_over = (tt, each_of_map IsOver along indexes over)

    draft_same : (cs : List Conjunct) (p : Path) (m : Match) → path_draft t indexes cs p m ≡ path_draft u indexes cs p m
    draft_same cs primary m = refl
    draft_same cs (along i) m =
        λ k. index_draft cs i m (if fixes_all i m then joining_same (other_than i indexes) (others (used m) cs) (each_where (λ j. IsOver (along j)) (λ j. not (j.number == i.number)) indexes over) k else [])

    single_same : (cs : List Conjunct) → single_plan t indexes cs ≡ single_plan u indexes cs
    single_same cs =
        (λ k. let p = unwrap_or (longest (matched_same cs (paths indexes) paths_over k)) (primary, record { fixed = []; bounds = [] }) in path_draft t indexes cs p.0 p.1)
        ∙ (let p = unwrap_or (longest (matched_paths u cs (paths indexes))) (primary, record { fixed = []; bounds = [] }) in draft_same cs p.0 p.1)

    mutual
      union_same : (f : Filter) → union_plan t indexes f ≡ union_plan u indexes f
      union_same (compare n o v) = refl
      union_same (null_field n) = refl
      union_same (starts n v) = refl
      union_same (all_of fs) = only_union_same fs
      union_same (some_of fs) = λ k. if nat_lt 1 (length (parts fs)) then union_of (parts_same fs k) else None
      union_same (negation f) = refl

      only_union_same : (fs : Filters) → only_union_plan t indexes fs ≡ only_union_plan u indexes fs
      only_union_same no_filters = refl
      only_union_same (part f fs) = λ k. if is_empty (conjuncts f) then only_union_same fs k else if is_empty (conjuncts_of fs) then union_same f k else None

      parts_same : (fs : Filters) → part_plans t indexes fs ≡ part_plans u indexes fs
      parts_same no_filters = refl
      parts_same (part f fs) = λ k. unwrap_or (union_same f k) (single_same (numbered_filters (conjuncts f)) k) ∷ parts_same fs k

    sorted_same : (cs : List Conjunct) (sort : List (List ℕ)) (reversed : Bool) → sorted_plan t indexes cs sort reversed ≡ sorted_plan u indexes cs sort reversed
    sorted_same cs sort reversed =
        ap (λ ms. option_map (λ p. residual (others (used p.1) cs) (path_scan p.0 p.1 reversed)) (longest ms))
        (matched_same cs (filter (serves t cs sort) (paths indexes)) (each_where IsOver (serves t cs sort) (paths indexes) paths_over)
        ∙ ap (matched_paths u cs) (serving_same cs sort (paths indexes) paths_over))

    -- the two types have the same plan
    pub planned_same : (q : Query) → planned t indexes q ≡ planned u indexes q
    planned_same q =
        λ k. if is_empty q.sort then Some (unwrap_or (union_same q.filter k) (single_same (numbered_filters (conjuncts q.filter)) k)).root
        else sorted_same (numbered_filters (conjuncts q.filter)) q.sort q.reverse k
