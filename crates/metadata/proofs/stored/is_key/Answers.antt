use Rattle.std.proofs.Common.{◌++◌, ap, ◌∙◌}
use Rattle.tuple_codec.specs.Item.{int}
use Rattle.tuple_codec.specs.Spelling.{item_spelling, outer}
use Rattle.metadata.specs.Cell.{cells_at}
use Rattle.metadata.proofs.Strips.{other_cells}
use Rattle.metadata.proofs.stored.is_key.Goals as goal

pub returns-in-None : goal.returns-in-None
returns-in-None c =
    other_cells c.args.definition.now.number (cells_at c.args.cells.now c.args.definition.now.key) c.args.key.now c.in-Some.behind.now
    (c.in-Some.ensures ∙ ap (λ z. item_spelling outer (int z) ++ c.in-Some.behind.now) c.from.ensures) c.in-None.ensures
