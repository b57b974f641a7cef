use Rattle.std.proofs.Common.{sym, ◌∙◌}
use Rattle.explain.proofs.Packs.{edge_apart}
use Rattle.explain.proofs.edges.edge_in.Goals as goal

pub returns-in-Some-split_last : goal.returns-in-Some-split_last
returns-in-Some-split_last c =
    rw (edge_apart c.args.bytes.now c.in-Some-split_last.front.now c.in-Some-split_last.last.now (sym c.in_default.is ∙ c.in_ok-cells.ensures) c.in-Some-split_last.ensures.cases.0) c.edge_behind.ensures
