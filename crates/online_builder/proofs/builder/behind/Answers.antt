use Rattle.std.proofs.Common.{◌∙◌, ap}
use Rattle.tuple_codec.specs.Spelling.{spelling}
use Rattle.kv_core.specs.Bytes.{next_key}
use Rattle.metadata.specs.Cell.{cells_at, items_of}
use Rattle.online_builder.proofs.builder.behind.Goals as goal

pub returns : goal.returns
returns c =
    c.in_ok-end.ensures
    ∙ ap next_key (c.new.ensures ∙ c.in_ok-position.ensures.position 0
    ∙ ap (λ cells. spelling (items_of cells)) (c.in_ok-key.ensures ∙ (λ i. cells_at (c.cells.ensures i) (c.definition.ensures.definition i).key)))
