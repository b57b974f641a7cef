use Rattle.std.proofs.Common.{◌∙◌, ap, sym}
use Rattle.std.specs.List.{list_any}
use Rattle.metadata.specs.Cell.{cell_at, is_null}
use Rattle.metadata.proofs.Lists.{list_any-map}
use Rattle.metadata.proofs.cells.Cells.has_null_at.Goals as goal

pub returns : goal.returns
returns c =
    c.is_null_among-found.ensures ∙ ap (list_any (λ place. is_null (cell_at c.args.self.now place))) c.as_slice.ensures
    ∙ sym (list_any-map is_null (cell_at c.args.self.now) c.args.places.now)
