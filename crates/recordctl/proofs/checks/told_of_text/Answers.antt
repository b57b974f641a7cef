use Rattle.std.proofs.Common.{vec_len, sym, ◌∙◌}
use Rattle.std.proofs.lemmas.Bool.{eqb-true}
use Rattle.script_check.specs.Good.{IsGood}
use Rattle.recordctl.proofs.Told.{none_told}
use Rattle.recordctl.proofs.checks.told_of_text.Goals as goal

pub returns-then-is_empty : goal.returns-then-is_empty
returns-then-is_empty c =
    let problems = c.in_ok-problems.problems in
    none_told problems.items (IsGood c.args.text.now) (sym problems.ok.0 ∙ eqb-true (vec_len problems) 0 (sym c.is_empty.ensures ∙ c.if-is_empty.true)) c.in_ok-problems.ensures
