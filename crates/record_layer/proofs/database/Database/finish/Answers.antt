use Rattle.std.proofs.Common.{◌∙◌, ap, arith, length, refl, sym, true}
use Rattle.cluster_core.specs.Roles.{PipelineState, all_handled, forget}
use Rattle.record_layer.specs.Databases.{DatabaseView}
use Rattle.record_layer.proofs.Settling.{answer_of, refused_so}
use Rattle.record_layer.proofs.database.Database.finish.Goals as goal
use Rattle.record_layer.proofs.database.Database.finish.Goals.{in-Committed, in-Conflict, in-NothingToDo}

pub returns-clause-refused : goal.returns-clause-refused
returns-clause-refused c =
    let some = c.self.invariant.unfinished (ap (λ (d : DatabaseView). d.is_settled) c.self.view_is ∙ c.requires) in
    refused_so c.args.self.now (record { cluster = c.finish.new.cluster; is_settled = true }) c.in-Ok.reported c.match-reported.result c.requires (record { handled = c.in-Ok.ensures.handled ∙ ap (λ (d : DatabaseView). forget (all_handled d.cluster.pipeline)) c.self.view_is; settled = refl })
    (omega (arith, some.1, ap (λ (p : PipelineState). length p.requests) c.in-Ok.ensures.handled)) c.in-Ok.ensures.told
    (elim c.match-reported.branch [
      | in-Committed w ↦ w.result-is ∙ sym (ap answer_of w.in-Committed.is)
      | in-Conflict w ↦ w.result-is ∙ sym (ap answer_of w.in-Conflict.is)
      | in-NothingToDo w ↦ w.result-is ∙ sym (ap answer_of w.in-NothingToDo.is)
    ])
