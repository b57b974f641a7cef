use Rattle.std.proofs.Common.{◌∙◌, ap, ◌++◌}
use Rattle.tuple_codec.specs.Spelling.{spelling}
use Rattle.metadata.specs.Record.{key_items}
use Rattle.record_store.proofs.Keys.{below_as, record_below, record_key_is}
use Rattle.record_store.proofs.layout.key_asked.Goals as goal

pub returns-clause-key : goal.returns-clause-key
returns-clause-key c =
    c.new.ensures ∙ c.in_ok-push_key.ensures.packed ∙ ap (λ k. k ++ spelling (key_items c.args.definition.now.number c.args.cells.now)) c.in_ok-asked.ensures
    ∙ record_key_is c.args.prefix.now (key_items c.args.definition.now.number c.args.cells.now)

pub returns-clause-below : goal.returns-clause-below
returns-clause-below c =
    below_as c.new.result _
    (c.new.ensures ∙ c.in_ok-push_key.ensures.packed ∙ ap (λ k. k ++ spelling (key_items c.args.definition.now.number c.args.cells.now)) c.in_ok-asked.ensures
    ∙ record_key_is c.args.prefix.now (key_items c.args.definition.now.number c.args.cells.now))
    (record_below c.args.prefix.now (key_items c.args.definition.now.number c.args.cells.now) c.requires)
