use Rattle.std.proofs.Common.{◌∙◌, ◌++◌}
use Rattle.metadata.specs.Cell.{items_of}
use Rattle.record_store.proofs.Keys.{record_key_is}
use Rattle.plan_exec.proofs.KeyRanges.{key_below}
use Rattle.plan_exec.proofs.keys.record_key.Goals as goal

pub returns-clause-key : goal.returns-clause-key
returns-clause-key c = c.in_ok-key.ensures ∙ (λ i. c.requires i ++ c.primary_key.ensures.packed i) ∙ record_key_is c.args.store.now.prefix (items_of c.args.entry.now.primary_key)

pub returns-clause-below : goal.returns-clause-below
returns-clause-below c =
    key_below c.args.store.now.prefix c.prefix.ensures.below c.args.entry.now.primary_key c.in_ok-key.key
    (c.in_ok-key.ensures ∙ (λ i. c.requires i ++ c.primary_key.ensures.packed i) ∙ record_key_is c.args.store.now.prefix (items_of c.args.entry.now.primary_key))
