use Rattle.std.proofs.Common.{sym, subst}
use Rattle.shell.specs.Further.{IsFurther}
use Rattle.shell.specs.declared.import.Import.{Import}
use Rattle.shell.proofs.importing.import_json.Goals.{else-rows-test, then-rows-test+in_ok-row+in_ok-after+then-not-goes_on}
use Rattle.shell.proofs.importing.import_json.Goals as goal

pub returns : goal.returns
returns g c = elim c.rows-test.branch [
  | else-rows-test w ↦ subst (λ (i : Import). IsFurther c.args.import.schedule i.schedule) (sym w.import-is) c.rows.invariant
  | then-rows-test+in_ok-row+in_ok-after+then-not-goes_on w ↦
      subst (λ (i : Import). IsFurther c.args.import.schedule i.schedule) (sym w.import-is) (λ start so_far. w.in_ok-after.ensures start (c.rows.invariant start so_far))
]

pub rows-preserved : goal.rows-preserved
rows-preserved g c start so_far = c.in_ok-after.ensures start (c.rows.invariant start so_far)
