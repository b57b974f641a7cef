use Rattle.std.proofs.Common.{◌∙◌, Err, subst}
use Rattle.tuple_codec.specs.Subspace.{StripsTuple}
use Rattle.range_set.proofs.Pairs.{spelled_as, unspelled}
use Rattle.range_set.proofs.decoding.tuple_behind.Goals as goal

pub returns-in-Ok-clause-spelled : goal.returns-in-Ok-clause-spelled
returns-in-Ok-clause-spelled c =
    spelled_as _ c.args.place.now _ c.args.key.now c.in-Ok.tuple (c.new.ensures ∙ c.in_ok-from_slice.ensures.items) c.as_slice.ensures c.in-Ok.ensures.spelled c.in-Ok.ensures.reads

pub returns-clause-refused : goal.returns-clause-refused
returns-clause-refused c = (
  c.in_ok-copy-in-Err-Bad.ensures,
  unspelled c.new.result c.args.place.now c.as_slice.result.now c.args.key.now (c.new.ensures ∙ c.in_ok-from_slice.ensures.items) c.as_slice.ensures
      (λ u s. subst (λ e. StripsTuple u (Err e)) c.in-Err-Bad.field-0-is (c.in-Err-Bad.ensures.reads u s)),
)
