-- The plan of a filter, put together from the matches of paths.
use Rattle.std.specs.Prelude.{ℕ, Bool, true, false, not, ◌==◌, nat_lt, List, [], ◌∷◌, length, map, filter}
use Rattle.std.specs.Prelude.{fold, flat_map, Option, Some, None, option_map, unwrap_or, if◌then◌else◌}
use Rattle.std.specs.List.{list_all, list_any}
use Rattle.metadata.specs.declared.index.IndexDefinition.{IndexDefinition}
use Rattle.metadata.specs.declared.definition.TypeDefinition.{TypeDefinition}
use Rattle.query.specs.Filter.{Filter, compare, null_field, starts, all_of, some_of, negation, Filters}
use Rattle.query.specs.Filter.{no_filters, filter as part, parts, filters_of, conjuncts, conjuncts_of}
use Rattle.query.specs.Query.{Query}
use Rattle.planner.specs.Range.{PlanRange, range_of}
use Rattle.planner.specs.Match.{Path, primary, along, path_number, Conjunct, numbered_filters, Match, match_of, used}
use Rattle.planner.specs.Match.{is_longer, serves, paths, others}
use Rattle.planner.specs.Scanned.{scans_all}
use Rattle.planner.specs.Plan.{IndexScan, one, intersection, Node, scan, fetch, filtered, union}
use Rattle.planner.specs.Plan.{unordered_union, distinct, Nodes, no_nodes, node}

-- the range that a match gives a scan of its path
abbrev pub matched_range : Match → PlanRange
matched_range m = range_of (map (λ f. f.1) m.fixed) (map (λ b. b.1) m.bounds)

abbrev pub index_scan : IndexDefinition → Match → Bool → IndexScan
index_scan i m reversed = record { index = i; range = matched_range m; reverse = reversed }

-- the records along a path within the range of its match
abbrev pub path_scan : Path → Match → Bool → Node
path_scan primary m reversed = scan (record { range = matched_range m; reverse = reversed })
path_scan (along i) m reversed = fetch (one (index_scan i m reversed))

-- the records of a node at which conjuncts are true: one by itself, several under one `and`
abbrev pub residual : List Conjunct → Node → Node
residual [] n = n
residual (c ∷ []) n = filtered c.1 n
residual (c ∷ d ∷ cs) n = filtered (all_of (filters_of (map (λ e. e.1) (c ∷ d ∷ cs)))) n

-- a path with its match
abbrev pub Matched : Type 0
Matched = Path × Match

abbrev pub longer_of : Matched → Matched → Matched
longer_of p q = if is_longer (path_number q.0, q.1) (path_number p.0, p.1) then q else p

-- the path of the longest match
abbrev pub longest : List Matched → Option Matched
longest [] = None
longest (p ∷ ps) = Some (fold longer_of p ps)

abbrev pub matched_paths : TypeDefinition → List Conjunct → List Path → List Matched
matched_paths t cs ps = map (λ p. (p, match_of t cs p)) ps

-- the plan for a sort: the serving path of the longest match, and the other conjuncts
abbrev pub sorted_plan : TypeDefinition → List IndexDefinition → List Conjunct → List (List ℕ) → Bool → Option Node
sorted_plan t indexes cs sort reversed =
    option_map (λ p. residual (others (used p.1) cs) (path_scan p.0 p.1 reversed))
    (longest (matched_paths t cs (filter (serves t cs sort) (paths indexes))))

-- whether a match fixes all columns of an index
abbrev pub fixes_all : IndexDefinition → Match → Bool
fixes_all i m = length m.fixed == length i.columns

-- the indexes that join an intersection, each with its match of the conjuncts that none before it uses
abbrev pub joining : TypeDefinition → List IndexDefinition → List Conjunct → List (IndexDefinition × Match)
joining t [] cs = []
joining t (i ∷ is) cs =
    let m = match_of t cs (along i) in
    if fixes_all i m then (i, m) ∷ joining t is (others (used m) cs) else joining t is cs

-- a node, and whether its records come in primary key order
pub record Draft : Type 0 where
  pub root : Node
  pub in_key_order : Bool

abbrev pub other_than : IndexDefinition → List IndexDefinition → List IndexDefinition
other_than i is = filter (λ j. not (j.number == i.number)) is

-- the scan of an index, or where it and others have all their columns fixed, the intersection of these
abbrev pub index_draft : List Conjunct → IndexDefinition → Match → List (IndexDefinition × Match) → Draft
index_draft cs i m [] =
    record { root = residual (others (used m) cs) (path_scan (along i) m false); in_key_order = fixes_all i m }
index_draft cs i m (j ∷ js) = record {
  root = residual (others (flat_map (λ k. used k.1) ((i, m) ∷ j ∷ js)) cs)
      (fetch (intersection (map (λ k. index_scan k.0 k.1 false) ((i, m) ∷ j ∷ js))));
  in_key_order = true;
}

-- Private: the draft of an index with those that join it
abbrev pub all_draft : List Conjunct → List (IndexDefinition × Match) → Draft
all_draft cs [] =
    record {
      root = scan (record { range = matched_range (record { fixed = []; bounds = [] }); reverse = false });
      in_key_order = true;
    }
all_draft cs (k ∷ ks) = index_draft cs k.0 k.1 ks

abbrev pub path_draft : TypeDefinition → List IndexDefinition → List Conjunct → Path → Match → Draft
path_draft t indexes cs primary m =
    record { root = residual (others (used m) cs) (path_scan primary m false); in_key_order = true }
path_draft t indexes cs (along i) m =
    index_draft cs i m (if fixes_all i m then joining t (other_than i indexes) (others (used m) cs) else [])

-- the plan of the longest match, where no path matches the scan of all records
abbrev pub single_plan : TypeDefinition → List IndexDefinition → List Conjunct → Draft
single_plan t indexes cs =
    let p = unwrap_or (longest (matched_paths t cs (paths indexes))) (primary, record { fixed = []; bounds = [] }) in
    path_draft t indexes cs p.0 p.1

abbrev pub nodes_of : List Node → Nodes
nodes_of [] = no_nodes
nodes_of (n ∷ ns) = node n (nodes_of ns)

-- the plans of alternatives put together, unless one scans all records
abbrev pub union_of : List Draft → Option Draft
union_of ds =
    let ns = nodes_of (map (λ d. d.root) ds) in
    if list_any (λ d. scans_all d.root) ds then None
    else if list_all (λ d. d.in_key_order) ds then Some (record { root = union ns; in_key_order = true })
    else Some (record { root = distinct (unordered_union ns); in_key_order = false })

abbrev pub is_empty : {A : Type 0} → List A → Bool
is_empty [] = true
is_empty (x ∷ xs) = false

module _ (t : TypeDefinition) (indexes : List IndexDefinition) where
  abbrev mutual
    -- the union for a filter whose only conjunct is an `or` of two or more parts
    pub union_plan : Filter → Option Draft
    union_plan (compare name o v) = None
    union_plan (null_field name) = None
    union_plan (starts name p) = None
    union_plan (all_of fs) = only_union_plan fs
    union_plan (some_of fs) = if nat_lt 1 (length (parts fs)) then union_of (part_plans fs) else None
    union_plan (negation f) = None

    -- the same for the parts of an `and`
    pub only_union_plan : Filters → Option Draft
    only_union_plan no_filters = None
    only_union_plan (part f fs) =
        if is_empty (conjuncts f) then only_union_plan fs
        else if is_empty (conjuncts_of fs) then union_plan f
        else None

    -- the plan of each alternative
    pub part_plans : Filters → List Draft
    part_plans no_filters = []
    part_plans (part f fs) = unwrap_or (union_plan f) (single_plan t indexes (numbered_filters (conjuncts f)))
        ∷ part_plans fs

  -- the plan of a filter without a sort
  abbrev pub unsorted_plan : Filter → Draft
  unsorted_plan f = unwrap_or (union_plan f) (single_plan t indexes (numbered_filters (conjuncts f)))

  -- the plan of a query, if there is one
  abbrev pub planned : Query → Option Node
  planned q =
      if is_empty q.sort then Some (unsorted_plan q.filter).root
      else sorted_plan t indexes (numbered_filters (conjuncts q.filter)) q.sort q.reverse
