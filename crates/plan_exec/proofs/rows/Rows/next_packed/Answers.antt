use Rattle.std.proofs.Common.{refl, sym}
use Rattle.plan_exec.specs.declared.rows.Step.TheVariants.{Fetched, Scanned}
use Rattle.plan_exec.specs.declared.rows.Rows.TheViews.{out-Rows}
use Rattle.plan_exec.proofs.FirstPart.{if_err_more}
use Rattle.plan_exec.proofs.RowLevels.{part_stopped}
use Rattle.plan_exec.proofs.rows.Rows.next_packed.Goals as goal

pub returns-in-Scanned-clause-stopped : goal.returns-in-Scanned-clause-stopped
returns-in-Scanned-clause-stopped g c =
    if_err_more c.next_packed.result _ _ (λ error one. part_stopped c.args.self.now (Scanned c.in-Scanned.records) (out-Rows c.args.self.now).parts.items (sym c.in-Scanned.is) refl error one) c.next_packed.ensures.stopped

pub returns-in-Fetched-clause-stopped : goal.returns-in-Fetched-clause-stopped
returns-in-Fetched-clause-stopped g c =
    if_err_more c.next_packed-in-Fetched.result _ _ (λ error one. part_stopped c.args.self.now (Fetched c.in-Fetched.records) (out-Rows c.args.self.now).parts.items (sym c.in-Fetched.is) refl error one) c.next_packed-in-Fetched.ensures.stopped
