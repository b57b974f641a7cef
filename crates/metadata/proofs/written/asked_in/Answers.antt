use Rattle.std.proofs.Common.{◌∙◌, Ok, ap, sym}
use Rattle.metadata.specs.Change.{types_alone}
use Rattle.metadata.proofs.MadeSchemas.{made_alone}
use Rattle.metadata.proofs.written.asked_in.Goals as goal

pub returns-in-Ok-clause-made : goal.returns-in-Ok-clause-made
returns-in-Ok-clause-made c = (
  c.in-Some.requests.items,
  c.in-Ok.ensures.made ∙ ap Ok (made_alone c.in-Ok.schema c.in-Some.requests.items c.in-Ok.ensures.made ∙ ap types_alone (sym c.into_types.ensures)),
)
