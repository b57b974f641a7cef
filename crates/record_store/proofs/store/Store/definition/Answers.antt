use Rattle.std.proofs.Common.{◌∙◌, ap, sym}
use Rattle.std.specs.Option.{option_copied}
use Rattle.metadata.specs.Schema.{find_type}
use Rattle.record_store.proofs.Answered.{found_own}
use Rattle.record_store.proofs.store.Store.definition.Goals as goal

pub returns-in-Some-clause-own : goal.returns-in-Some-clause-own
returns-in-Some-clause-own c =
    ap (λ s. find_type s c.in-Some.definition.now.name) (sym c.schema.ensures)
    ∙ found_own c.schema.result.now c.args.type_name.now c.in-Some.definition.now (sym c.type_named.ensures ∙ ap option_copied c.in-Some.is)
