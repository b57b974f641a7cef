use Rattle.std.proofs.Common.{◌∙◌, refl, sym}
use Rattle.std.proofs.lemmas.List.{with_items_is}
use Rattle.plan_exec.specs.declared.rows.Step.TheVariants.{Fetched, Scanned}
use Rattle.plan_exec.specs.declared.rows.Rows.TheViews.{out-Rows}
use Rattle.plan_exec.proofs.FirstPart.{if_err_more, if_ok_more}
use Rattle.plan_exec.proofs.RowLevels.{part_given, part_stopped}
use Rattle.plan_exec.proofs.rows.Rows.next.Goals as goal

pub returns-in-Scanned-clause-given : goal.returns-in-Scanned-clause-given
returns-in-Scanned-clause-given g c =
    if_ok_more c.next.result _ _ (λ given one. part_given c.args.self.now (Scanned c.in-Scanned.records) (out-Rows c.args.self.now).parts.items (sym c.in-Scanned.is) refl _ _ refl (Scanned c.next.new.self) (out-Rows c.args.self.now).parts.items refl refl given one) c.next.ensures.given

pub returns-in-Scanned-clause-stopped : goal.returns-in-Scanned-clause-stopped
returns-in-Scanned-clause-stopped g c =
    if_err_more c.next.result _ _ (λ error one. part_stopped c.args.self.now (Scanned c.in-Scanned.records) (out-Rows c.args.self.now).parts.items (sym c.in-Scanned.is) refl error one) c.next.ensures.stopped

pub returns-in-Fetched-clause-given : goal.returns-in-Fetched-clause-given
returns-in-Fetched-clause-given g c =
    if_ok_more c.next-in-Fetched.result _ _ (λ given one. part_given c.args.self.now (Fetched c.in-Fetched.records) (out-Rows c.args.self.now).parts.items (sym c.in-Fetched.is) refl _ _ refl (Fetched c.next-in-Fetched.new.self) (out-Rows c.args.self.now).parts.items refl refl given one) c.next-in-Fetched.ensures.given

pub returns-in-Fetched-clause-stopped : goal.returns-in-Fetched-clause-stopped
returns-in-Fetched-clause-stopped g c =
    if_err_more c.next-in-Fetched.result _ _ (λ error one. part_stopped c.args.self.now (Fetched c.in-Fetched.records) (out-Rows c.args.self.now).parts.items (sym c.in-Fetched.is) refl error one) c.next-in-Fetched.ensures.stopped

pub returns-in_default-clause-given : goal.returns-in_default-clause-given
returns-in_default-clause-given g c =
    if_ok_more c.next_row.result _ _ (λ given one. part_given c.args.self.now _ c.as_mut_slice.result.now refl c.as_mut_slice.ensures.value _ _ refl c.next_row.new.step c.next_row.new.parts refl
    (with_items_is (out-Rows c.args.self.now).parts c.next_row.new.parts (c.next_row.auto.parts ∙ c.as_mut_slice.ensures.len)) given one) c.next_row.ensures.given

pub returns-in_default-clause-stopped : goal.returns-in_default-clause-stopped
returns-in_default-clause-stopped g c =
    if_err_more c.next_row.result _ _ (λ error one. part_stopped c.args.self.now _ c.as_mut_slice.result.now refl c.as_mut_slice.ensures.value error one) c.next_row.ensures.stopped
