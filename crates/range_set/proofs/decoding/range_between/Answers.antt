use Rattle.std.proofs.Common.{◌∙◌, ap, sym}
use Rattle.kv_core.specs.Range.{is_key_range}
use Rattle.range_set.proofs.Pairs.{no_stored}
use Rattle.range_set.proofs.decoding.range_between.Goals as goal

pub returns-in_ok-copy-in-None-clause-refused : goal.returns-in_ok-copy-in-None-clause-refused
returns-in_ok-copy-in-None-clause-refused c = (
  c.in_ok-copy-in-None.ensures,
  no_stored c.args.begin c.args.end.now
      (ap (λ e. is_key_range (record { begin = c.args.begin; end = e })) (sym c.in_ok-copy-2.ensures)
      ∙ c.in-None.ensures.none),
)
