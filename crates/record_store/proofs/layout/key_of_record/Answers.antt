use Rattle.std.proofs.Common.{◌∙◌, ap, ◌++◌}
use Rattle.tuple_codec.specs.Spelling.{spelling}
use Rattle.metadata.specs.Record.{primary_key}
use Rattle.record_store.proofs.Keys.{below_as, record_below, record_key_is}
use Rattle.record_store.proofs.layout.key_of_record.Goals as goal

pub returns-clause-key : goal.returns-clause-key
returns-clause-key c =
    c.new.ensures ∙ c.in_ok-push_primary_key.ensures.packed ∙ ap (λ k. k ++ spelling (primary_key c.args.lent.now)) c.in_ok-at.ensures
    ∙ record_key_is c.args.prefix.now (primary_key c.args.lent.now)

pub returns-clause-below : goal.returns-clause-below
returns-clause-below c =
    below_as c.new.result _
    (c.new.ensures ∙ c.in_ok-push_primary_key.ensures.packed ∙ ap (λ k. k ++ spelling (primary_key c.args.lent.now)) c.in_ok-at.ensures ∙ record_key_is c.args.prefix.now (primary_key c.args.lent.now))
    (record_below c.args.prefix.now (primary_key c.args.lent.now) c.requires)
