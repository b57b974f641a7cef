use Rattle.std.proofs.Common.{◌∙◌, ap}
use Rattle.kv_core.specs.Range.{covers}
use Rattle.kv_core.proofs.Reaching.{covers_reached}
use Rattle.kv_core.proofs.coverage.Coverage.covers.Goals as goal

pub returns : goal.returns
returns c =
    c.is_before.ensures
    ∙ covers_reached c.args.key.now c.self.inside.stretches.entries c.end_over.result.now c.end_over.ensures.ordered c.end_over.ensures.reaches
    ∙ ap (λ own. covers own c.args.key.now) c.self.view_is
