use Rattle.std.proofs.lemmas.Result.{IfOk-weaker}
use Rattle.script_check.specs.Good.{IsGood}
use Rattle.script_check.proofs.Verdicts.{some_wrong}
use Rattle.script_check.proofs.places.check.Goals as goal

pub returns-in_default : goal.returns-in_default
returns-in_default c =
    IfOk-weaker c.problems_of.result _ _ (λ problems h. some_wrong problems.items (IsGood c.args.text.now) h (λ good. c.in_default.not-Good (c.in_ok-verdict.ensures.1 good))) c.problems_of.ensures
