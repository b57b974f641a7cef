-- What a checked query is: the first reason to refuse it, in order.
use Rattle.std.specs.Prelude.{ℕ, Bool, false, not, ◌||◌, List, [], ◌∷◌, length, nat_lt, bytes_eq}
use Rattle.std.specs.Prelude.{if◌then◌else◌, is_none, Option, Some, None, find}
use Rattle.std.specs.Option.{option_or, option_map_or}
use Rattle.metadata.specs.declared.cells.Cell.{Cell}
use Rattle.metadata.specs.declared.cells.Cell.TheVariants.{Null}
use Rattle.metadata.specs.declared.cells.Kind.{Kind}
use Rattle.metadata.specs.declared.cells.Kind.TheVariants as kind
use Rattle.metadata.specs.declared.definition.Field.{Field}
use Rattle.metadata.specs.Schema.{Schema, find_type}
use Rattle.metadata.specs.Change.{has_twice}
use Rattle.metadata.specs.Cell.{fits}
use Rattle.query.specs.declared.error.QueryError.{QueryError}
use Rattle.query.specs.declared.error.QueryError.TheVariants.{UnknownType, TooDeep, TooLarge, UnknownField}
use Rattle.query.specs.declared.error.QueryError.TheVariants.{WrongKind, SortTwice}
use Rattle.query.specs.Filter.{Filter, compare, null_field, starts, all_of, some_of, negation, depth, nodes}
use Rattle.query.specs.Query.{Query}

-- the field of this name
abbrev pub field_named : List Field → List ℕ → Option Field
field_named fields name = find (λ f. bytes_eq f.name name) fields

-- whether a value may be compared with a field: of its kind, and not null
abbrev pub is_value_of : Kind → Cell → Bool
is_value_of k Null = false
is_value_of k c = fits k c

-- whether a value may be a prefix for a field
abbrev pub is_prefix_of : Kind → Cell → Bool
is_prefix_of kind.Int c = false
is_prefix_of k c = is_value_of k c

-- the refusal where a test fails
abbrev pub refusal_unless : Bool → QueryError → Option QueryError
refusal_unless ok e = if ok then None else Some e

-- why a single node is refused, its parts aside
abbrev pub node_refusal : List Field → Filter → Option QueryError
node_refusal fields (compare name o v) =
    option_map_or (λ f. refusal_unless (is_value_of f.kind v) WrongKind) (field_named fields name) (Some UnknownField)
node_refusal fields (null_field name) = refusal_unless (not (is_none (field_named fields name))) UnknownField
node_refusal fields (starts name p) =
    option_map_or (λ f. refusal_unless (is_prefix_of f.kind p) WrongKind) (field_named fields name) (Some UnknownField)
node_refusal fields (all_of fs) = None
node_refusal fields (some_of fs) = None
node_refusal fields (negation f) = None

-- the first refusal among those of the list
abbrev pub first_query_refusal : {A : Type 0} → (A → Option QueryError) → List A → Option QueryError
first_query_refusal why [] = None
first_query_refusal why (x ∷ xs) = option_or (why x) (first_query_refusal why xs)

-- limits: the depth of a filter, its nodes, and the sort fields
abbrev pub max_depth : ℕ
max_depth = 32

abbrev pub max_nodes : ℕ
max_nodes = 256

abbrev pub max_sort : ℕ
max_sort = 8

-- why the query is refused for a type's fields: its size, then its nodes from the outermost on, then its sort
abbrev pub refusal_in : List Field → Query → Option QueryError
refusal_in fields q =
    option_or (refusal_unless (not (nat_lt max_depth (depth q.filter))) TooDeep)
    (option_or (refusal_unless (not (nat_lt max_nodes (length (nodes q.filter)) || nat_lt max_sort (length q.sort)))
    TooLarge)
    (option_or (first_query_refusal (node_refusal fields) (nodes q.filter))
    (option_or (first_query_refusal (λ name. refusal_unless (not (is_none (field_named fields name))) UnknownField)
    q.sort)
    (refusal_unless (not (has_twice bytes_eq q.sort)) SortTwice))))

-- why the query is refused under a schema; a query without a refusal is a checked one
abbrev pub query_refusal : Schema → Query → Option QueryError
query_refusal schema q = option_map_or (λ t. refusal_in t.fields q) (find_type schema q.record_type) (Some UnknownType)
