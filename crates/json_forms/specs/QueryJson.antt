-- The filters and queries that JSON stands for, and the JSON of a filter.
use Rattle.std.specs.Prelude.{◌≡◌, ℕ, Bool, false, List, [], ◌∷◌, codes, Option, Some, None, if◌then◌else◌}
use Rattle.std.specs.Prelude.{option_map, option_and_then}
use Rattle.std.specs.Option.{option_map_or}
use Rattle.std.specs.Str.{bytes_eq}
use Rattle.serde_json.specs.Data.{Data, null, boolean, number, string, array, object, Items, no_items, item}
use Rattle.serde_json.specs.Find.{as_bool, as_str, get}
use Rattle.serde_json.specs.Written.{compact_text}
use Rattle.query.specs.declared.filter.Operator.{Operator}
use Rattle.query.specs.declared.filter.Operator.TheVariants.{Equal, NotEqual, Less, AtMost, Greater, AtLeast}
use Rattle.query.specs.Filter.{Filter, compare, null_field, starts, all_of, some_of, negation}
use Rattle.query.specs.Filter.{Filters, no_filters, filter}
use Rattle.query.specs.Query.{Query}
use Rattle.json_forms.specs.CellJson.{cell_data, cell_in}
use Rattle.json_forms.specs.Json.{has_only, json_values, member_in, named}
use Rattle.json_forms.specs.SchemaJson.{names_in}

-- the operator of this name
abbrev pub operator_named : List ℕ → Option Operator
operator_named word = named ((codes "=", Equal) ∷ (codes "!=", NotEqual) ∷ (codes "<", Less) ∷ (codes "<=", AtMost)
    ∷ (codes ">", Greater) ∷ (codes ">=", AtLeast) ∷ []) word

-- the comparison of a field with a value, by an operator's name, or what a text or byte string begins with
abbrev pub comparison_in : List ℕ → Data → Data → Option Filter
comparison_in word field value =
    option_and_then (λ name. option_and_then (λ cell.
    if bytes_eq word (codes "starts") then Some (starts name cell)
    else option_map (λ o. compare name o cell) (operator_named word)) (cell_in value)) (as_str field)

-- the condition on one field that a word and what stands behind it are
abbrev pub leaf_in : List ℕ → List Data → Option Filter
leaf_in word [] = None
leaf_in word (field ∷ []) = if bytes_eq word (codes "null") then option_map null_field (as_str field) else None
leaf_in word (field ∷ value ∷ []) = comparison_in word field value
leaf_in word (field ∷ value ∷ more ∷ rest) = None

-- the filter of a word and what stands behind it, from the filters, the only filter and the values that this is
abbrev pub worded_filter : List ℕ → Option Filters → Option Filter → List Data → Option Filter
worded_filter word several single ds =
    if bytes_eq word (codes "and") then option_map all_of several
    else if bytes_eq word (codes "or") then option_map some_of several
    else if bytes_eq word (codes "not") then option_map negation single
    else leaf_in word ds

abbrev mutual
  -- the filter that a value stands for: a list that begins with a word
  pub filter_in : Data → Option Filter
  filter_in null = None
  filter_in (boolean b) = None
  filter_in (number n) = None
  filter_in (string s) = None
  filter_in (array ds) = list_filter ds
  filter_in (object ms) = None

  pub list_filter : Items → Option Filter
  list_filter no_items = None
  list_filter (item word ds) =
      option_and_then (λ w. worded_filter w (filters_in ds) (only_filter ds) (json_values ds)) (as_str word)

  -- the filters that values stand for
  pub filters_in : Items → Option Filters
  filters_in no_items = Some no_filters
  filters_in (item d ds) = option_and_then (λ f. option_map (filter f) (filters_in ds)) (filter_in d)

  -- the filter that a value with none behind it stands for
  pub only_filter : Items → Option Filter
  only_filter no_items = None
  only_filter (item d no_items) = filter_in d
  only_filter (item d (item e ds)) = None

-- the keys that a query may have
abbrev pub query_keys : List (List ℕ)
query_keys = codes "type" ∷ codes "filter" ∷ codes "sort" ∷ codes "reverse" ∷ []

-- the filter of a query, true everywhere where it has none; its sort fields, none; whether it is turned round, not
abbrev pub query_filter : Data → Option Filter
query_filter d = option_map_or filter_in (get (codes "filter") d) (Some (all_of no_filters))

abbrev pub query_sort : Data → Option (List (List ℕ))
query_sort d = option_map_or names_in (get (codes "sort") d) (Some [])

abbrev pub query_reverse : Data → Option Bool
query_reverse d = option_map_or as_bool (get (codes "reverse") d) (Some false)

-- the query that an object stands for: its type, and perhaps its filter, its sort fields and whether it is turned round
abbrev pub query_in : Data → Option Query
query_in d =
    if has_only query_keys d then
    option_and_then (λ name. option_and_then (λ f. option_and_then (λ sort. option_map (λ turned.
    record { record_type = name; filter = f; sort = sort; reverse = turned })
    (query_reverse d)) (query_sort d)) (query_filter d)) (member_in as_str (codes "type") d)
    else None

-- the name of an operator
abbrev pub operator_name : Operator → List ℕ
operator_name Equal = codes "="
operator_name NotEqual = codes "!="
operator_name Less = codes "<"
operator_name AtMost = codes "<="
operator_name Greater = codes ">"
operator_name AtLeast = codes ">="

-- the list of a word and what stands behind it
abbrev pub worded : List ℕ → Items → Data
worded word ds = array (item (string word) ds)

abbrev mutual
  -- the JSON of a filter
  pub filter_data : Filter → Data
  filter_data (compare name o v) = worded (operator_name o) (item (string name) (item (cell_data v) no_items))
  filter_data (null_field name) = worded (codes "null") (item (string name) no_items)
  filter_data (starts name v) = worded (codes "starts") (item (string name) (item (cell_data v) no_items))
  filter_data (all_of fs) = worded (codes "and") (filters_data fs)
  filter_data (some_of fs) = worded (codes "or") (filters_data fs)
  filter_data (negation f) = worded (codes "not") (item (filter_data f) no_items)

  pub filters_data : Filters → Items
  filters_data no_filters = no_items
  filters_data (filter f fs) = item (filter_data f) (filters_data fs)

-- the compact text of a filter
abbrev pub IsTextOfFilter : List ℕ → Filter → Type 0
IsTextOfFilter text f = text ≡ compact_text (filter_data f)
