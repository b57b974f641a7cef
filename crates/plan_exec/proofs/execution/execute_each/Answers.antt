use Rattle.std.specs.Prelude.{◌∷◌, ◌++◌, [], Ok, refl}
use Rattle.std.proofs.Common.{inl, inr, of_calls}
use Rattle.std.proofs.lemmas.Fn.{FoldsTo-push}
use Rattle.planner.specs.View.{node_of, plan_of}
use Rattle.txn.proofs.Exits.{exit_with}
use Rattle.plan_exec.specs.Errors.{exec_memory}
use Rattle.plan_exec.specs.Rows.{level_of}
use Rattle.plan_exec.proofs.Executed.{executed, executed_until, given_before, memory_first, none_given, opened_course}
use Rattle.plan_exec.proofs.Streaming.{given_fewer}
use Rattle.plan_exec.proofs.Taken.{taken_all, taken_ended, taken_more, taken_none, taken_until}
use Rattle.plan_exec.proofs.execution.execute_each.Goals as goal

pub returns-in_err-accepted_type-clause-refused : goal.returns-in_err-accepted_type-clause-refused
returns-in_err-accepted_type-clause-refused g c =
    exit_with c.from_residual.result c.in_err-accepted_type.field-0.0 _ c.from_residual.ensures (
      [],
      inl (refl, none_given _ _ c.args.store.now c.args.plan.now c.in_err-accepted_type.field-0.0 _ c.in_err-accepted_type.ensures.refused),
    )

pub returns-in_err-records-clause-refused : goal.returns-in_err-records-clause-refused
returns-in_err-records-clause-refused g c =
    exit_with c.from_residual-in_err-records.result exec_memory _ c.from_residual-in_err-records.ensures (
      [],
      inl (refl, memory_first c.args.store.now c.args.plan.now c.in_ok-accepted_type.field-0.now c.in_ok-accepted_type.ensures.accepted c.query.ensures.over (rw c.query.ensures.query at c.query.ensures.right) c.query.ensures.merges _ _ _),
    )

pub returns-in_err-rows-clause-refused : goal.returns-in_err-rows-clause-refused
returns-in_err-rows-clause-refused g c =
    exit_with c.from_residual-in_err-rows.result exec_memory _ c.from_residual-in_err-rows.ensures (
      [],
      inl (refl, memory_first c.args.store.now c.args.plan.now c.in_ok-accepted_type.field-0.now c.in_ok-accepted_type.ensures.accepted c.query.ensures.over (rw c.query.ensures.query at c.query.ensures.right) c.query.ensures.merges _ _ _),
    )

pub loop-rows-init : goal.loop-rows-init
loop-rows-init g c = (c.requires, ([], refl, taken_none (level_of c.in_ok-rows.rows).stream))

pub loop-rows-smaller : goal.loop-rows-smaller
loop-rows-smaller g c = given_fewer c.in-Some.given (rw c.in-Some.is at c.in_ok-given.ensures.given)

pub loop-rows-preserved : goal.loop-rows-preserved
loop-rows-preserved g c = (
  search of_calls,
  (
    c.loop-rows.invariant.1.0 ++ c.in-Some.given ∷ [],
    FoldsTo-push (λ before given after. goal.F-step g before given (Ok tt) after) _ c.loop-rows.invariant.1.0 c.loop-rows.row c.in-Some.given _ c.loop-rows.invariant.1.1 c.in_ok-row.ensures,
    taken_more c.loop-rows.invariant.1.0 c.in-Some.given c.loop-rows.invariant.1.2 (rw c.in-Some.is at c.in_ok-given.ensures.given),
  ),
)

pub returns-in_err-given-clause-refused : goal.returns-in_err-given-clause-refused
returns-in_err-given-clause-refused g c =
    exit_with c.from_residual-in_err-given.result c.in_err-given.field-0.0 _ c.from_residual-in_err-given.ensures (
      c.loop-rows.invariant.1.0,
      inl (
        c.loop-rows.invariant.1.1,
        given_before c.args.store.now c.args.plan.now c.in_ok-accepted_type.field-0.now c.in_ok-accepted_type.ensures.accepted c.query.ensures.over (rw c.query.ensures.query at c.query.ensures.right) c.query.ensures.merges c.loop-rows.invariant.1.0 c.in_err-given.field-0.0
            (opened_course c.in_ok-rows.rows c.in_ok-records.records c.args.store.now c.in_ok-accepted_type.field-0.now (node_of c.root.result.now) (plan_of c.args.plan.now).root c.in_ok-rows.ensures c.in_ok-records.ensures.store c.in_ok-records.ensures.typed c.root.ensures)
            (taken_ended c.loop-rows.invariant.1.0 c.in_err-given.field-0.0 c.loop-rows.invariant.1.2 c.in_err-given.ensures.stopped),
      ),
    )

pub returns-in_err-row-clause-refused : goal.returns-in_err-row-clause-refused
returns-in_err-row-clause-refused g c =
    exit_with c.from_residual-in_err-row.result exec_memory _ c.from_residual-in_err-row.ensures (
      c.loop-rows.invariant.1.0 ++ c.in-Some.given ∷ [],
      inr (
        refl,
        (c.loop-rows.invariant.1.0, c.in-Some.given, refl, c.loop-rows.row, c.loop-rows.invariant.1.1, c.in_err-row.field-0.0, c.in_err-row.ensures),
        executed_until c.args.store.now c.args.plan.now c.in_ok-accepted_type.field-0.now c.in_ok-accepted_type.ensures.accepted c.query.ensures.over (rw c.query.ensures.query at c.query.ensures.right) c.query.ensures.merges (c.loop-rows.invariant.1.0 ++ c.in-Some.given ∷ [])
            (opened_course c.in_ok-rows.rows c.in_ok-records.records c.args.store.now c.in_ok-accepted_type.field-0.now (node_of c.root.result.now) (plan_of c.args.plan.now).root c.in_ok-rows.ensures c.in_ok-records.ensures.store c.in_ok-records.ensures.typed c.root.ensures)
            (taken_until (c.loop-rows.invariant.1.0 ++ c.in-Some.given ∷ []) (taken_more c.loop-rows.invariant.1.0 c.in-Some.given c.loop-rows.invariant.1.2 (rw c.in-Some.is at c.in_ok-given.ensures.given))),
      ),
    )

pub returns-clause-executed : goal.returns-clause-executed
returns-clause-executed g c = (
  c.loop-rows.invariant.1.0,
  c.loop-rows.invariant.1.1,
  executed c.args.store.now c.args.plan.now c.in_ok-accepted_type.field-0.now c.in_ok-accepted_type.ensures.accepted c.query.ensures.over (rw c.query.ensures.query at c.query.ensures.right) c.query.ensures.merges c.loop-rows.invariant.1.0
      (opened_course c.in_ok-rows.rows c.in_ok-records.records c.args.store.now c.in_ok-accepted_type.field-0.now (node_of c.root.result.now) (plan_of c.args.plan.now).root c.in_ok-rows.ensures c.in_ok-records.ensures.store c.in_ok-records.ensures.typed c.root.ensures)
      (taken_all c.loop-rows.invariant.1.0 c.loop-rows.invariant.1.2 (rw c.in_default.is at c.in_ok-given.ensures.given)),
)
