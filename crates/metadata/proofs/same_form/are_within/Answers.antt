use Rattle.std.proofs.Common.{sym, map}
use Rattle.tuple_codec.specs.Elements.{item_in}
use Rattle.metadata.proofs.ReadBack.{tuple_found}
use Rattle.metadata.proofs.ToldForm.{nested_told}
use Rattle.metadata.proofs.same_form.are_within.Goals as goal

pub returns-in-Nested : goal.returns-in-Nested
returns-in-Nested g c =
    nested_told (item_in c.args.element.now) c.in-Nested.tuple (map (g.T.Written.item c.args.second) c.args.items.now) c.are_in.result (sym (tuple_found _ c.in-Nested.tuple c.in-Nested.is)) (rw (← c.elements.ensures.items) c.are_in.ensures)
