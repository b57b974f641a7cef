use Rattle.std.proofs.Common.{◌∙◌, ap, subst, sym}
use Rattle.metadata.specs.IndexChange.{drop_index}
use Rattle.metadata.specs.Lawful.{IsLawfulSchema}
use Rattle.metadata.proofs.StayLawful.{dropped_lawful}
use Rattle.record_store.proofs.store.Store.schema_without.Goals as goal

pub returns-clause-lawful : goal.returns-clause-lawful
returns-clause-lawful c =
    dropped_lawful c.args.self.now.schema c.drop_index.new.self c.args.name.now (subst IsLawfulSchema c.schema-old.ensures c.lawful_known.ensures)
    (ap (λ s. drop_index s c.args.name.now) (sym (c.in_ok-next.ensures ∙ c.schema-old.ensures)) ∙ c.in-Ok.ensures.ok)
