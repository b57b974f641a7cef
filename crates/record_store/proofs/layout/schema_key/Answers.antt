use Rattle.std.proofs.Common.{◌∙◌}
use Rattle.record_store.proofs.Keys.{below_as, schema_below}
use Rattle.record_store.proofs.layout.schema_key.Goals as goal

pub returns-clause-below : goal.returns-clause-below
returns-clause-below c = below_as c.new.result _ (c.new.ensures ∙ c.in_ok-key.ensures) (schema_below c.args.prefix.now c.requires)
