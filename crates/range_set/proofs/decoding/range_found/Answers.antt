use Rattle.txn.proofs.Exits.{exit_with}
use Rattle.range_set.specs.Steps.{IsNoStoredRange, IsPairOfNoRange}
use Rattle.range_set.proofs.Pairs.{if_err_map, unread_key, unread_range, unread_tuple}
use Rattle.range_set.proofs.decoding.range_found.Goals as goal

pub returns-in_err-tuple-clause-refused : goal.returns-in_err-tuple-clause-refused
returns-in_err-tuple-clause-refused c =
    exit_with c.from_residual.result c.in_err-tuple.field-0.0 (IsPairOfNoRange c.args.place.now c.args.pair.now) c.from_residual.ensures
    (unread_key c.args.place.now c.args.pair.now c.in_err-tuple.field-0.0 c.in_err-tuple.ensures.refused)

pub returns-in-Some-clause-refused : goal.returns-in-Some-clause-refused
returns-in-Some-clause-refused c =
    if_err_map c.range_between.result (IsNoStoredRange c.args.pair.now.0 c.in-Some.begin c.args.pair.now.1) (IsPairOfNoRange c.args.place.now c.args.pair.now)
    (unread_range c.args.place.now c.args.pair.now c.in_ok-tuple.tuple c.in-Some.begin c.in_ok-tuple.ensures.spelled c.in-Some.ensures) c.range_between.ensures.refused

pub returns-in_ok-copy-in-None-clause-refused : goal.returns-in_ok-copy-in-None-clause-refused
returns-in_ok-copy-in-None-clause-refused c = (
  c.in_ok-copy-in-None.ensures,
  unread_tuple c.args.place.now c.args.pair.now c.in_ok-tuple.tuple c.in_ok-tuple.ensures.spelled c.in-None.ensures,
)
