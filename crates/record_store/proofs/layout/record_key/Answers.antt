use Rattle.std.proofs.Common.{◌∙◌, ap, ◌++◌}
use Rattle.tuple_codec.specs.Spelling.{spelling}
use Rattle.record_store.proofs.Keys.{below_as, record_below, record_key_is}
use Rattle.record_store.proofs.layout.record_key.Goals as goal

pub returns-clause-key : goal.returns-clause-key
returns-clause-key c =
    c.new.ensures ∙ c.in_ok-pack_into.ensures.ok ∙ ap (λ k. k ++ spelling c.args.primary_key.now) c.in_ok-key.ensures ∙ record_key_is c.args.prefix.now c.args.primary_key.now

pub returns-clause-below : goal.returns-clause-below
returns-clause-below c =
    below_as c.new.result _ (c.new.ensures ∙ c.in_ok-pack_into.ensures.ok ∙ ap (λ k. k ++ spelling c.args.primary_key.now) c.in_ok-key.ensures ∙ record_key_is c.args.prefix.now c.args.primary_key.now)
    (record_below c.args.prefix.now c.args.primary_key.now c.requires)
