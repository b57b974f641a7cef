use Rattle.std.proofs.Common.{◌∙◌, ◌++◌}
use Rattle.tuple_codec.specs.Spelling.{spelling}
use Rattle.record_store.proofs.Keys.{below_as, state_below}
use Rattle.record_store.proofs.Kept.{state_key_is}
use Rattle.record_store.proofs.layout.state_key.Goals as goal

pub returns-clause-key : goal.returns-clause-key
returns-clause-key c = c.new.ensures ∙ c.in_ok-pack_into.ensures.ok ∙ (λ i. c.in_ok-key.ensures i ++ spelling (c.in_ok-tuple.ensures i)) ∙ state_key_is c.args.prefix.now c.args.number

pub returns-clause-below : goal.returns-clause-below
returns-clause-below c =
    below_as c.new.result _ (c.new.ensures ∙ c.in_ok-pack_into.ensures.ok ∙ (λ i. c.in_ok-key.ensures i ++ spelling (c.in_ok-tuple.ensures i)) ∙ state_key_is c.args.prefix.now c.args.number)
    (state_below c.args.prefix.now c.args.number c.requires)
