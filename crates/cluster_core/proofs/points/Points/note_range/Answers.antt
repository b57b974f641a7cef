use Rattle.std.proofs.Common.{◌∙◌, sym}
use Rattle.std.proofs.lemmas.Bool.{true≢false}
use Rattle.kv_core.proofs.Order.{has_keys-from}
use Rattle.cluster_core.specs.Decision.{cut}
use Rattle.cluster_core.specs.Cuts.{contains-cut}
use Rattle.cluster_core.proofs.points.Points.note_range.Goals as goal

pub returns-else-meets-clause-covered : goal.returns-else-meets-clause-covered
returns-else-meets-clause-covered c = λ whole key owned inside.
    let some = has_keys-from (cut c.args.part.now c.args.range.now) key (contains-cut c.args.part.now.from c.args.part.now.upto c.args.range.now key owned inside) in
    absurd (true≢false (sym some ∙ sym c.meets.ensures ∙ c.if-meets.false))
