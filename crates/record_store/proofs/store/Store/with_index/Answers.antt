use Rattle.std.proofs.Common.{◌∙◌, ap, subst, sym}
use Rattle.metadata.specs.IndexChange.{add_index}
use Rattle.metadata.specs.Lawful.{IsLawfulSchema}
use Rattle.metadata.proofs.IndexAdded.{index_lawful}
use Rattle.record_store.proofs.store.Store.with_index.Goals as goal

pub returns-clause-lawful : goal.returns-clause-lawful
returns-clause-lawful c =
    index_lawful c.args.self.now.schema c.add_index.new.self c.args.request.now (subst IsLawfulSchema c.schema-old.ensures c.lawful_known.ensures)
    (ap (λ s. add_index s c.args.request.now) (sym (c.in_ok-next.ensures ∙ c.schema-old.ensures)) ∙ c.in_ok-add_index.ensures.ok)
