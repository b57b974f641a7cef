use Rattle.std.proofs.Common.{ℕ, List, ◌∷◌, [], refl, subst, sym}
use Rattle.std.proofs.lemmas.List.{drop_all}
use Rattle.cluster_core.proofs.Places.{drop_item}
use Rattle.metadata.specs.declared.cells.Cell.{Cell}
use Rattle.schedule.specs.declared.step.Command.{Command}
use Rattle.schedule.specs.declared.step.Command.TheVariants.{Save}
use Rattle.race.specs.Runs.{RunsEach, SavesEach}
use Rattle.race.proofs.racing.save_each.Goals as goal

pub loop-cells-preserved : goal.loop-cells-preserved
loop-cells-preserved g c = λ end saves.
    let runs : RunsEach (Save c.args.record_type.now c.cells-item.result ∷ []) c.loop-cells.client c.commit_each.new.client =
    subst (λ (one : Command). RunsEach (one ∷ []) c.loop-cells.client c.commit_each.new.client) c.in_ok-save.ensures c.in_ok-commit_each.ensures in
    c.loop-cells.invariant end
    (subst (λ (left : List (List Cell)). SavesEach c.args.record_type.now left c.loop-cells.client end) (sym (drop_item c.args.rows.now c.loop-cells.cells-index c.cells-item.result c.loop-cells-test.true c.cells-item.is))
    (c.commit_each.new.client, runs, saves))

pub returns : goal.returns
returns g c =
    c.loop-cells.invariant c.loop-cells.client
    (subst (λ (left : List (List Cell)). SavesEach c.args.record_type.now left c.loop-cells.client c.loop-cells.client) (sym (drop_all c.loop-cells.cells-index c.args.rows.now c.loop-cells-test.false)) refl)
