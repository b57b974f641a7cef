use Rattle.std.proofs.Common.{◌∙◌, ◌+◌, [], List, ap, subst, sym, take}
use Rattle.kv_core.specs.Range.{KeyRange}
use Rattle.txn.proofs.Exits.{exit_with}
use Rattle.range_set.specs.Steps.{last_end}
use Rattle.range_set.specs.Stored.{ArePairsOf}
use Rattle.range_set.proofs.RangeRows.{damaged_at, last_end-more, ranges_more}
use Rattle.range_set.proofs.decoding.ranges_found.Goals as goal

pub loop-pair-preserved : goal.loop-pair-preserved
loop-pair-preserved c = record {
  pairs = subst (λ (ranges : List KeyRange). ArePairsOf c.args.place.now (take (c.loop-pair.pair-index + 1) c.args.pairs.now) ranges) (sym c.in_ok-push.ensures.items)
      (ranges_more c.args.place.now c.loop-pair.pair-index c.args.pairs.now c.pair-item.result c.loop-pair.ranges.items c.in_ok-range.range c.loop-pair.end
      c.loop-pair-test.true c.pair-item.is c.loop-pair.invariant.pairs c.loop-pair.invariant.ends c.in_ok-range.ensures.found);
  ends =
      c.in_ok-end.ensures ∙ c.end.ensures
      ∙ sym (ap (last_end []) c.in_ok-push.ensures.items ∙ last_end-more [] c.loop-pair.ranges.items c.in_ok-range.range);
}

pub returns-in_err-range-clause-refused : goal.returns-in_err-range-clause-refused
returns-in_err-range-clause-refused c =
    exit_with c.from_residual.result c.in_err-range.field-0.0 _ c.from_residual.ensures
    (damaged_at c.args.place.now c.loop-pair.pair-index c.args.pairs.now c.pair-item.result c.loop-pair.ranges.items c.loop-pair.end c.in_err-range.field-0.0
    c.loop-pair-test.true c.pair-item.is c.loop-pair.invariant.pairs c.loop-pair.invariant.ends c.in_err-range.ensures.refused)
