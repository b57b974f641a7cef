-- A filter as contracts see it, and the conjuncts that it is made of.
use Rattle.std.specs.Prelude.{ℕ, suc, max, List, [], ◌∷◌, ◌++◌, flat_map}
use Rattle.metadata.specs.declared.cells.Cell.{Cell}
use Rattle.query.specs.declared.filter.Operator.{Operator}

mutual
  pub data Filter : Type 0 where
    compare : List ℕ → Operator → Cell → Filter
    null_field : List ℕ → Filter
    starts : List ℕ → Cell → Filter
    all_of : Filters → Filter
    some_of : Filters → Filter
    negation : Filter → Filter

  pub data Filters : Type 0 where
    no_filters : Filters
    filter : Filter → Filters → Filters

-- the parts in a list
abbrev pub parts : Filters → List Filter
parts no_filters = []
parts (filter f fs) = f ∷ parts fs

abbrev pub filters_of : List Filter → Filters
filters_of [] = no_filters
filters_of (f ∷ fs) = filter f (filters_of fs)

-- how deep the filter nests; a leaf has depth 1
abbrev mutual
  pub depth : Filter → ℕ
  depth (compare name o v) = 1
  depth (null_field name) = 1
  depth (starts name v) = 1
  depth (all_of fs) = suc (greatest_depth fs)
  depth (some_of fs) = suc (greatest_depth fs)
  depth (negation f) = suc (depth f)

  pub greatest_depth : Filters → ℕ
  greatest_depth no_filters = 0
  greatest_depth (filter f fs) = max (depth f) (greatest_depth fs)

-- the filter and all that it contains, a whole before its parts
abbrev mutual
  pub nodes : Filter → List Filter
  nodes (compare name o v) = compare name o v ∷ []
  nodes (null_field name) = null_field name ∷ []
  nodes (starts name v) = starts name v ∷ []
  nodes (all_of fs) = all_of fs ∷ nodes_of fs
  nodes (some_of fs) = some_of fs ∷ nodes_of fs
  nodes (negation f) = negation f ∷ nodes f

  pub nodes_of : Filters → List Filter
  nodes_of no_filters = []
  nodes_of (filter f fs) = nodes f ++ nodes_of fs

-- the value that a leaf speaks of
abbrev pub leaf_values : Filter → List Cell
leaf_values (compare name o v) = v ∷ []
leaf_values (null_field name) = []
leaf_values (starts name v) = v ∷ []
leaf_values (all_of fs) = []
leaf_values (some_of fs) = []
leaf_values (negation f) = []

-- Private: the values that the filter speaks of
abbrev pub values : Filter → List Cell
values f = flat_map leaf_values (nodes f)

-- the parts of an `and`, those of an `and` within it in their place; another filter is one conjunct
abbrev mutual
  pub conjuncts : Filter → List Filter
  conjuncts (compare name o v) = compare name o v ∷ []
  conjuncts (null_field name) = null_field name ∷ []
  conjuncts (starts name v) = starts name v ∷ []
  conjuncts (all_of fs) = conjuncts_of fs
  conjuncts (some_of fs) = some_of fs ∷ []
  conjuncts (negation f) = negation f ∷ []

  pub conjuncts_of : Filters → List Filter
  conjuncts_of no_filters = []
  conjuncts_of (filter f fs) = conjuncts f ++ conjuncts_of fs
