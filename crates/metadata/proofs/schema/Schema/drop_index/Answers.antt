use Rattle.std.proofs.Common.{rules, ◌∙◌, ap, sym, not, ◌==◌}
use Rattle.std.proofs.lemmas.Fn.{filter_same}
use Rattle.std.specs.Option.{option_copied}
use Rattle.metadata.proofs.Dropping.{dropped}
use Rattle.metadata.proofs.StillLawful.{still_dropped}
use Rattle.metadata.proofs.schema.Schema.drop_index.Goals as goal

pub returns-clause-ok : goal.returns-clause-ok
returns-clause-ok c =
    dropped c.self.inside.types.items c.self.inside.last_index c.self.inside.indexes.items c.retain.new.self.items c.args.self.now c.args.name.now c.in-Some.index.now
    c.self.view_is (ap option_copied (sym c.in-Some.is) ∙ c.index_named.ensures)
    (filter_same _ (λ index. not (index.number == c.in-Some.index.now.number)) _ (λ x b f' k. search rules) _ _ c.retain.ensures.filtered)

pub invariant_of-self : goal.invariant_of-self
invariant_of-self c =
    still_dropped c.self.inside.types.items c.self.inside.last_index c.self.inside.indexes.items c.args.self.now c.self.view_is c.self.invariant c.args.name.now c.in-Some.index.now c.retain.new.self.items
    (ap option_copied (sym c.in-Some.is) ∙ c.index_named.ensures)
    (filter_same _ (λ index. not (index.number == c.in-Some.index.now.number)) _ (λ x b f' k. search rules) _ _ c.retain.ensures.filtered)
