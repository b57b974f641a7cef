use Rattle.std.proofs.Common.{◌∙◌, ap, subst, sym}
use Rattle.metadata.specs.Change.{add_type}
use Rattle.metadata.specs.Lawful.{IsLawfulSchema}
use Rattle.metadata.proofs.StayLawful.{type_lawful}
use Rattle.record_store.proofs.store.Store.with_type.Goals as goal

pub returns-clause-lawful : goal.returns-clause-lawful
returns-clause-lawful c =
    type_lawful c.args.self.now.schema c.add_type.new.self c.args.request.now (subst IsLawfulSchema c.schema-old.ensures c.lawful_known.ensures)
    (ap (λ s. add_type s c.args.request.now) (sym (c.in_ok-next.ensures ∙ c.schema-old.ensures)) ∙ c.in_ok-add_type.ensures.ok)
