use Rattle.std.proofs.Common.{sym, ◌∙◌}
use Rattle.tuple_codec.specs.Elements.{item_in}
use Rattle.tuple_codec.specs.Item.{int}
use Rattle.metadata.specs.Cell.{item_of}
use Rattle.metadata.proofs.Unpacks.{cell_first, no_cell_first}
use Rattle.metadata.proofs.unpacking.unpack_cell.Goals as goal

pub returns-in-Some-int_cell-clause-first : goal.returns-in-Some-int_cell-clause-first
returns-in-Some-int_cell-clause-first c =
    cell_first c.args.bytes.now (int c.in-Some.found.0) c.in-Some.found.1.now c.in-Some-int_cell.cell c.in-Some.ensures.first (sym c.int_cell.ensures ∙ c.in-Some-int_cell.is)

pub returns-in-None-clause-none : goal.returns-in-None-clause-none
returns-in-None-clause-none c =
    no_cell_first c.args.bytes.now (int c.in-Some.found.0) c.in-Some.found.1.now c.in-Some.ensures.first (sym c.int_cell.ensures ∙ c.in-None.is)

pub returns-in_default-2-clause-none : goal.returns-in_default-2-clause-none
returns-in_default-2-clause-none c = λ cell rest (known, begins). (rw c.in_default-2.is at c.in_ok-element.ensures.reads) (item_of cell) rest begins

pub returns-in-Some-cell_in-clause-first : goal.returns-in-Some-cell_in-clause-first
returns-in-Some-cell_in-clause-first c =
    cell_first c.args.bytes.now (item_in c.in-Some-2.element) c.in-Some-2.behind.now c.in-Some-cell_in.cell (rw c.in-Some-2.is at c.in_ok-element.ensures.first) (sym c.cell_in.ensures ∙ c.in-Some-cell_in.is)

pub returns-in-None-cell_in-clause-none : goal.returns-in-None-cell_in-clause-none
returns-in-None-cell_in-clause-none c =
    no_cell_first c.args.bytes.now (item_in c.in-Some-2.element) c.in-Some-2.behind.now (rw c.in-Some-2.is at c.in_ok-element.ensures.first) (sym c.cell_in.ensures ∙ c.in-None-cell_in.is)
