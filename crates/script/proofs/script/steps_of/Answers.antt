use Rattle.std.proofs.Common.{map, rules}
use Rattle.serde_json.specs.View.{view}
use Rattle.script.specs.Script.{explains_steps}
use Rattle.script.specs.Steps.{step_in}
use Rattle.json_forms.proofs.Each.{each_more}
use Rattle.script.proofs.BadSteps.{step_explained}
use Rattle.script.proofs.script.steps_of.Goals as goal

pub returns-in_err-step_at-clause-err : goal.returns-in_err-step_at-clause-err
returns-in_err-step_at-clause-err c =
    let told : explains_steps (map view c.args.items.now) c.in_err-step_at.field-0.0 =
    step_explained c.args.items.now c.loop-index.index c.index-items-index.result c.loop-index.steps.items c.in_err-step_at.field-0.0 c.loop-index-test.true c.index-items-index.is c.loop-index.invariant c.in_err-step_at.ensures.err in
    search (rules, told)

pub loop-index-preserved : goal.loop-index-preserved
loop-index-preserved c = rw c.in_ok-push.ensures.items (each_more step_in c.args.items.now c.loop-index.index c.index-items-index.result _ _ c.loop-index-test.true c.index-items-index.is c.in_ok-step_at.ensures.ok c.loop-index.invariant)
