use Rattle.std.proofs.Common.{sym, ap, ◌∙◌}
use Rattle.std.specs.Option.{option_copied}
use Rattle.tuple_codec.specs.Elements.{item_in}
use Rattle.metadata.specs.Written.{index_parts}
use Rattle.metadata.proofs.ToldForm.{nested_told}
use Rattle.metadata.proofs.same_form.IndexDefinitionWritten.is_in.Goals as goal

pub returns-in-Some : goal.returns-in-Some
returns-in-Some c =
    nested_told (item_in c.args.element.now) c.in-Some.parts.now (index_parts c.args.second c.args.self.now) c.is_index_in.result (sym c.tuple_of.ensures ∙ ap option_copied c.in-Some.is) (rw (← c.elements.ensures.items) c.is_index_in.ensures)
