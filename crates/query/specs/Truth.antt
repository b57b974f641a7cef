-- The truth of a filter at a record, with three values: a comparison with null is unknown.
use Rattle.std.specs.Prelude.{Bool, true, false, nat_eq}
use Rattle.std.specs.declared.cmp.Ordering.{Ordering}
use Rattle.std.specs.Ordering.{is_eq, is_ne, is_lt, is_le, is_gt, is_ge}
use Rattle.std.specs.List.{starts_with}
use Rattle.metadata.specs.declared.cells.Cell.{Cell}
use Rattle.metadata.specs.declared.cells.Cell.TheVariants.{Null, Text, Bytes}
use Rattle.metadata.specs.Record.{Record}
use Rattle.metadata.specs.Order.{cell_cmp}
use Rattle.query.specs.Fields.{cell_named}
use Rattle.query.specs.declared.filter.Operator.{Operator}
use Rattle.query.specs.declared.filter.Operator.TheVariants.{Equal, NotEqual, Less, AtMost, Greater, AtLeast}
use Rattle.query.specs.declared.filter.Truth.{Truth}
use Rattle.query.specs.declared.filter.Truth.TheVariants.{True, False, Unknown}
use Rattle.query.specs.Filter.{Filter, compare, null_field, starts, all_of, some_of, negation}
use Rattle.query.specs.Filter.{Filters, no_filters, filter}

-- a test's answer, which is known
abbrev pub known : Bool → Truth
known true = True
known false = False

-- `not`
abbrev pub opposite : Truth → Truth
opposite True = False
opposite False = True
opposite Unknown = Unknown

-- `and`: false where one is false, else unknown where one is unknown, else true
abbrev pub both : Truth → Truth → Truth
both False q = False
both True q = q
both Unknown False = False
both Unknown q = Unknown

-- `or`: true where one is true, else unknown where one is unknown, else false
abbrev pub either : Truth → Truth → Truth
either True q = True
either False q = q
either Unknown True = True
either Unknown q = Unknown

-- whether two values so ordered are so compared
abbrev pub is_so : Operator → Ordering → Bool
is_so Equal o = is_eq o
is_so NotEqual o = is_ne o
is_so Less o = is_lt o
is_so AtMost o = is_le o
is_so Greater o = is_gt o
is_so AtLeast o = is_ge o

-- a cell compared with a value
abbrev pub comparison : Operator → Cell → Cell → Truth
comparison o Null v = Unknown
comparison o c v = known (is_so o (cell_cmp c v))

-- whether a cell is null
abbrev pub null_test : Cell → Truth
null_test Null = True
null_test c = False

-- whether a cell begins with a prefix of its kind
abbrev pub prefix_test : Cell → Cell → Truth
prefix_test Null p = Unknown
prefix_test (Text t) (Text p) = known (starts_with nat_eq t p)
prefix_test (Bytes b) (Bytes p) = known (starts_with nat_eq b p)
prefix_test c p = False

-- the filter's truth at the record
abbrev mutual
  pub truth : Filter → Record → Truth
  truth (compare name o v) r = comparison o (cell_named r name) v
  truth (null_field name) r = null_test (cell_named r name)
  truth (starts name p) r = prefix_test (cell_named r name) p
  truth (all_of fs) r = truth_of_all fs r
  truth (some_of fs) r = truth_of_some fs r
  truth (negation f) r = opposite (truth f r)

  pub truth_of_all : Filters → Record → Truth
  truth_of_all no_filters r = True
  truth_of_all (filter f fs) r = both (truth f r) (truth_of_all fs r)

  pub truth_of_some : Filters → Record → Truth
  truth_of_some no_filters r = False
  truth_of_some (filter f fs) r = either (truth f r) (truth_of_some fs r)

abbrev pub is_true : Truth → Bool
is_true True = true
is_true False = false
is_true Unknown = false

-- a record is selected where the filter is true, and not where it is false or unknown
abbrev pub selects : Filter → Record → Bool
selects f r = is_true (truth f r)
