use Rattle.range_set.proofs.RangeRows.{overlap}
use Rattle.range_set.proofs.decoding.next_range.Goals as goal

pub returns-then-is_before-clause-refused : goal.returns-then-is_before-clause-refused
returns-then-is_before-clause-refused c = (
  c.in_ok-copy.ensures,
  overlap c.args.place.now c.args.end.now c.args.pair.now c.in_ok-range.range c.begin.result.now c.is_before.result c.in_ok-range.ensures.found
      c.begin.ensures.value c.is_before.ensures c.if-is_before.true,
)
