-- Paths to the records of a type, and how the conjuncts of a filter match the columns of a path.
use Rattle.std.specs.Prelude.{ℕ, zero, suc, ◌+◌, Bool, not, ◌&&◌, ◌||◌, ◌==◌, nat_lt, List, [], ◌∷◌, ◌++◌}
use Rattle.std.specs.Prelude.{length, map, filter, filter_map, Option, Some, None, option_map, bytes_eq}
use Rattle.std.specs.Prelude.{if◌then◌else◌, slice_index_or}
use Rattle.std.specs.List.{list_any, enumerate_from, starts_with}
use Rattle.metadata.specs.declared.cells.Cell.{Cell}
use Rattle.metadata.specs.declared.cells.Cell.TheVariants.{Null}
use Rattle.metadata.specs.declared.index.IndexDefinition.{IndexDefinition}
use Rattle.metadata.specs.declared.definition.TypeDefinition.{TypeDefinition}
use Rattle.query.specs.declared.filter.Operator.TheVariants.{Equal, Less, AtMost, Greater, AtLeast}
use Rattle.query.specs.Filter.{Filter, compare, null_field, starts}
use Rattle.planner.specs.Range.{Bound, above, from, below, up_to, prefixed}

-- a way to the records: along their keys, or along an index
pub data Path : Type 0 where
  primary : Path
  along : IndexDefinition → Path

-- the primary path has number 0, an index's path the index's number
abbrev pub path_number : Path → ℕ
path_number primary = 0
path_number (along i) = i.number

-- the places of the fields that the path goes by
abbrev pub columns : TypeDefinition → Path → List ℕ
columns t primary = t.key
columns t (along i) = i.columns

-- the same for sorting, where an index goes on by the key
abbrev pub sort_columns : TypeDefinition → Path → List ℕ
sort_columns t primary = t.key
sort_columns t (along i) = i.columns ++ t.key

-- a conjunct and its place among the conjuncts
abbrev pub Conjunct : Type 0
Conjunct = ℕ × Filter

abbrev pub numbered_filters : List Filter → List Conjunct
numbered_filters fs = enumerate_from 0 fs

-- the cell to which a filter fixes a field: that of an equality, or null
abbrev pub fixing : List ℕ → Filter → Option Cell
fixing name (compare n Equal v) = if bytes_eq n name then Some v else None
fixing name (null_field n) = if bytes_eq n name then Some Null else None
fixing name f = None

-- the bound that a filter sets on a field
abbrev pub bounding : List ℕ → Filter → Option Bound
bounding name (compare n Less v) = if bytes_eq n name then Some (below v) else None
bounding name (compare n AtMost v) = if bytes_eq n name then Some (up_to v) else None
bounding name (compare n Greater v) = if bytes_eq n name then Some (above v) else None
bounding name (compare n AtLeast v) = if bytes_eq n name then Some (from v) else None
bounding name (starts n s) = if bytes_eq n name then Some (prefixed s) else None
bounding name f = None

-- what of the conjuncts says something, with the conjunct's place
abbrev pub said : {A : Type 0} → (Filter → Option A) → List Conjunct → List (ℕ × A)
said what cs = filter_map (λ c. option_map (λ a. (c.0, a)) (what c.1)) cs

-- the first of a list
abbrev pub first : {A : Type 0} → List A → Option A
first [] = None
first (x ∷ xs) = Some x

-- the cells of the columns fixed, and the bounds on the next one, each with the place of the conjunct that says it
pub record Match : Type 0 where
  pub fixed : List (ℕ × Cell)
  pub bounds : List (ℕ × Bound)

-- the name of the field at a place
abbrev pub name_at : TypeDefinition → ℕ → List ℕ
name_at t place = slice_index_or (map (λ f. f.name) t.fields) place []

-- a column in front of a match: fixed, or bounded and then the last that is matched
abbrev pub column_in_front : Option (ℕ × Cell) → List (ℕ × Bound) → Match → Match
column_in_front None bounds rest = record { fixed = []; bounds = bounds }
column_in_front (Some f) bounds rest = record { fixed = f ∷ rest.fixed; bounds = rest.bounds }

-- the match of the conjuncts along columns of these names: each is fixed by the first conjunct that fixes it, up to
-- the first that none fixes, which all its bounds bound
abbrev pub matching : List Conjunct → List (List ℕ) → Match
matching cs [] = record { fixed = []; bounds = [] }
matching cs (name ∷ names) =
    column_in_front (first (said (fixing name) cs)) (said (bounding name) cs) (matching cs names)

-- the match of a path
abbrev pub match_of : TypeDefinition → List Conjunct → Path → Match
match_of t cs path = matching cs (map (name_at t) (columns t path))

-- the places of the conjuncts that the match uses
abbrev pub used : Match → List ℕ
used m = map (λ f. f.0) m.fixed ++ map (λ b. b.0) m.bounds

-- the columns fixed and bounded together
abbrev pub match_reach : Match → ℕ
match_reach m = length m.fixed + (if nat_lt 0 (length m.bounds) then 1 else 0)

-- whether the first match is longer: in columns fixed and bounded together, else in columns fixed, else by the
-- smaller number of its path
abbrev pub is_longer : ℕ × Match → ℕ × Match → Bool
is_longer (p, m) (q, n) =
    nat_lt (match_reach n) (match_reach m)
    || (match_reach m == match_reach n)
    && (nat_lt (length n.fixed) (length m.fixed) || (length m.fixed == length n.fixed)
    && nat_lt p q)

-- whether the records come sorted by fields of these names along a path: without some of its leading fixed columns,
-- its columns for sorting begin with them
abbrev pub serves_from : List (List ℕ) → ℕ → List (List ℕ) → Bool
serves_from sort zero names = starts_with bytes_eq names sort
serves_from sort (suc fixed) [] = starts_with bytes_eq [] sort
serves_from sort (suc fixed) (n ∷ names) = starts_with bytes_eq (n ∷ names) sort || serves_from sort fixed names

abbrev pub serves : TypeDefinition → List Conjunct → List (List ℕ) → Path → Bool
serves t cs sort path = serves_from sort (length (match_of t cs path).fixed) (map (name_at t) (sort_columns t path))

-- the primary path, and the path of each index that may be used
abbrev pub paths : List IndexDefinition → List Path
paths indexes = primary ∷ map along indexes

-- the conjuncts at other places
abbrev pub others : List ℕ → List Conjunct → List Conjunct
others places cs = filter (λ c. not (list_any (◌==◌ c.0) places)) cs
