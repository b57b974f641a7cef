-- Which plan it is: the paths that it scans, and when it scans all records.
use Rattle.std.specs.Prelude.{◌≡◌, ◌⊎◌, Bool, false, nat_lt, List, [], ◌∷◌, length, Option, Some, None}
use Rattle.std.specs.Prelude.{if◌then◌else◌, filter, All, Any, Contains, IsTrue, IsFalse}
use Rattle.metadata.specs.declared.index.IndexDefinition.{IndexDefinition}
use Rattle.metadata.specs.declared.definition.TypeDefinition.{TypeDefinition}
use Rattle.query.specs.Filter.{Filter, compare, null_field, starts, all_of, some_of, negation, parts, conjuncts}
use Rattle.query.specs.Query.{Query}
use Rattle.planner.specs.Match.{Path, path_number, Conjunct, numbered_filters, match_of, match_reach, is_longer, serves}
use Rattle.planner.specs.Match.{paths}
use Rattle.planner.specs.Plan.{Node}
use Rattle.planner.specs.Planned.{matched_range, is_empty, unsorted_plan}
use Rattle.planner.specs.Scanned.{PathScan, scans_of, scans_all}

-- one of the paths, of which none has a longer match
pub record IsLongest (t : TypeDefinition) (cs : List Conjunct) (ps : List Path) (p : Path) : Type 0 where
  pub is_one : Contains ps p
  pub none_longer : All (λ q. IsFalse
      (is_longer (path_number q, match_of t cs q) (path_number p, match_of t cs p))) ps

-- the scan of a path within the range of its match
abbrev pub matched_scan : TypeDefinition → List Conjunct → Path → Bool → PathScan
matched_scan t cs p reversed = record { path = p; range = matched_range (match_of t cs p); reverse = reversed }

-- the parts of an `or` of two or more parts, where it is the only conjunct
abbrev pub alternatives : List Filter → Option (List Filter)
alternatives [] = None
alternatives (compare n o v ∷ fs) = None
alternatives (null_field n ∷ fs) = None
alternatives (starts n v ∷ fs) = None
alternatives (all_of gs ∷ fs) = None
alternatives (some_of gs ∷ []) = if nat_lt 1 (length (parts gs)) then Some (parts gs) else None
alternatives (some_of gs ∷ f ∷ fs) = None
alternatives (negation f ∷ fs) = None

module _ (t : TypeDefinition) (indexes : List IndexDefinition) where
  -- a plan for a sort scans the serving path of the longest match, and nothing else
  pub record ScansServing (query : Query) (root : Node) : Type 0 where
    pub path : Path
    pub longest : IsLongest t (numbered_filters (conjuncts query.filter))
        (filter (serves t (numbered_filters (conjuncts query.filter)) query.sort) (paths indexes)) path
    pub scans : scans_of root ≡ matched_scan t (numbered_filters (conjuncts query.filter)) path query.reverse ∷ []

  -- a plan first scans the path of the longest match, whose index others may join
  pub record ScansLongest (f : Filter) (root : Node) : Type 0 where
    pub path : Path
    pub joined : List PathScan
    pub longest : IsLongest t (numbered_filters (conjuncts f)) (paths indexes) path
    pub scans : scans_of root ≡ matched_scan t (numbered_filters (conjuncts f)) path false ∷ joined

  -- no path has a match
  abbrev pub HasNoMatch : Filter → Type 0
  HasNoMatch f = All (λ p. match_reach (match_of t (numbered_filters (conjuncts f)) p) ≡ 0) (paths indexes)

  -- one of the alternatives is planned with a full record scan
  abbrev pub HasFullPart : List Filter → Type 0
  HasFullPart fs = Any (λ g. IsTrue (scans_all (unsorted_plan t indexes g).root)) fs

  -- alternatives of which each is planned without a full record scan
  pub record HasUnion (f : Filter) : Type 0 where
    pub its_parts : List Filter
    pub are_alternatives : alternatives (conjuncts f) ≡ Some its_parts
    pub none_full : All (λ g. IsFalse (scans_all (unsorted_plan t indexes g).root)) its_parts

  -- which plan it is, as far as that is promised
  pub record IsChosen (query : Query) (root : Node) : Type 0 where
    pub sorted : IsFalse (is_empty query.sort) → ScansServing query root
    pub unsorted : IsTrue (is_empty query.sort) → HasUnion query.filter ⊎ ScansLongest query.filter root
    pub full_only : IsTrue (is_empty query.sort) → IsTrue (scans_all root) → HasNoMatch query.filter
        × ((gs : List Filter) → alternatives (conjuncts query.filter) ≡ Some gs → HasFullPart gs)
