-- The filter and the query that the program's values stand for.
use Rattle.query.specs.declared.filter.Filter.{Filter as RawFilter, fold-Filter}
use Rattle.query.specs.declared.filter.Filter.TheOpen.{Filter-F}
use Rattle.query.specs.declared.filter.Query.{Query as RawQuery}
use Rattle.query.specs.Filter.{Filter, compare, null_field, starts, all_of, some_of, negation, filters_of}
use Rattle.query.specs.Query.{Query}

-- one level, with each part already seen as its filter
abbrev pub filter_step : Filter-F Filter → Filter
filter_step (Filter-F.Compare name o v) = compare name o v
filter_step (Filter-F.IsNull name) = null_field name
filter_step (Filter-F.StartsWith name p) = starts name p
filter_step (Filter-F.And fs) = all_of (filters_of fs.items)
filter_step (Filter-F.Or fs) = some_of (filters_of fs.items)
filter_step (Filter-F.Not f) = negation f.value

abbrev pub filter_of : RawFilter → Filter
filter_of = fold-Filter Filter filter_step

abbrev pub query_of : RawQuery → Query
query_of q = record { record_type = q.record_type; filter = filter_of q.filter; sort = q.sort; reverse = q.reverse }
