use Rattle.std.specs.Prelude.{◌∷◌, ◌++◌, [], refl}
use Rattle.std.proofs.Common.{subst, sym}
use Rattle.planner.specs.View.{node_of, plan_of}
use Rattle.txn.proofs.Exits.{exit_with}
use Rattle.plan_exec.specs.Errors.{exec_memory}
use Rattle.plan_exec.specs.Executing.{IsExecuted}
use Rattle.plan_exec.specs.Rows.{level_of}
use Rattle.plan_exec.proofs.Executed.{executed, opened_course, refused, refused_first}
use Rattle.plan_exec.proofs.Streaming.{given_fewer, not_memory}
use Rattle.plan_exec.proofs.Taken.{HasTaken, taken_all, taken_more, taken_none, taken_stopped}
use Rattle.plan_exec.proofs.execution.execute.Goals as goal

pub returns-in_err-rows-clause-refused : goal.returns-in_err-rows-clause-refused
returns-in_err-rows-clause-refused g c =
    exit_with c.from_residual-in_err-rows.result exec_memory _ c.from_residual-in_err-rows.ensures
    (refused_first c.args.store.now c.args.plan.now c.in_ok-accepted_type.field-0.now c.in_ok-accepted_type.ensures.accepted c.query.ensures.over (rw c.query.ensures.query at c.query.ensures.right) c.query.ensures.merges
    (g.S.Snapshot.map_at c.args.db.now) (g.S.Snapshot.may_refuse c.args.db.now) c.args.tx.now)

pub loop-rows-init : goal.loop-rows-init
loop-rows-init g c =
    subst (λ made. HasTaken (g.S.Snapshot.map_at c.args.db.now) (level_of c.in_ok-rows.rows).stream made (level_of c.in_ok-rows.rows).stream c.args.tx.now c.args.tx.now) (sym c.in_ok-found.ensures.items)
    (taken_none (level_of c.in_ok-rows.rows).stream)

pub loop-rows-smaller : goal.loop-rows-smaller
loop-rows-smaller g c = given_fewer c.in-Some.row (rw c.in-Some.is at c.in_ok-row.ensures.given)

pub loop-rows-preserved : goal.loop-rows-preserved
loop-rows-preserved g c =
    subst (λ made. HasTaken (g.S.Snapshot.map_at c.args.db.now) (level_of c.in_ok-rows.rows).stream made (level_of c.next.new.self).stream c.args.tx.now c.next.new.tx) (sym c.in_ok-push.ensures.items)
    (taken_more c.loop-rows.found.items c.in-Some.row c.loop-rows.invariant (rw c.in-Some.is at c.in_ok-row.ensures.given))

pub returns-in_err-row-clause-refused : goal.returns-in_err-row-clause-refused
returns-in_err-row-clause-refused g c =
    exit_with c.from_residual-in_err-row.result c.in_err-row.field-0.0 _ c.from_residual-in_err-row.ensures
    (refused c.args.store.now c.args.plan.now c.in_ok-accepted_type.field-0.now c.in_ok-accepted_type.ensures.accepted c.query.ensures.over (rw c.query.ensures.query at c.query.ensures.right) c.query.ensures.merges c.in_err-row.field-0.0
    (opened_course c.in_ok-rows.rows c.in_ok-records.records c.args.store.now c.in_ok-accepted_type.field-0.now (node_of c.root.result.now) (plan_of c.args.plan.now).root c.in_ok-rows.ensures c.in_ok-records.ensures.store c.in_ok-records.ensures.typed c.root.ensures)
    (taken_stopped c.loop-rows.found.items c.in_err-row.field-0.0 c.loop-rows.invariant c.in_err-row.ensures.stopped))

pub returns-in_err-push-clause-refused : goal.returns-in_err-push-clause-refused
returns-in_err-push-clause-refused g c =
    exit_with c.from_residual-in_err-push.result exec_memory _ c.from_residual-in_err-push.ensures
    (refused c.args.store.now c.args.plan.now c.in_ok-accepted_type.field-0.now c.in_ok-accepted_type.ensures.accepted c.query.ensures.over (rw c.query.ensures.query at c.query.ensures.right) c.query.ensures.merges exec_memory
    (opened_course c.in_ok-rows.rows c.in_ok-records.records c.args.store.now c.in_ok-accepted_type.field-0.now (node_of c.root.result.now) (plan_of c.args.plan.now).root c.in_ok-rows.ensures c.in_ok-records.ensures.store c.in_ok-records.ensures.typed c.root.ensures)
    (taken_stopped (c.loop-rows.found.items ++ c.in-Some.row ∷ []) exec_memory
    (taken_more c.loop-rows.found.items c.in-Some.row c.loop-rows.invariant (rw c.in-Some.is at c.in_ok-row.ensures.given))
    (not_memory (level_of c.next.new.self).stream refl)))

pub returns-clause-executed : goal.returns-clause-executed
returns-clause-executed g c =
    subst (λ rows. IsExecuted (g.S.Snapshot.map_at c.args.db.now) c.args.store.now c.args.plan.now rows c.args.tx.now c.next.new.tx) (sym c.new-2.ensures)
    (executed c.args.store.now c.args.plan.now c.in_ok-accepted_type.field-0.now c.in_ok-accepted_type.ensures.accepted c.query.ensures.over (rw c.query.ensures.query at c.query.ensures.right) c.query.ensures.merges c.loop-rows.found.items
    (opened_course c.in_ok-rows.rows c.in_ok-records.records c.args.store.now c.in_ok-accepted_type.field-0.now (node_of c.root.result.now) (plan_of c.args.plan.now).root c.in_ok-rows.ensures c.in_ok-records.ensures.store c.in_ok-records.ensures.typed c.root.ensures)
    (taken_all c.loop-rows.found.items c.loop-rows.invariant (rw c.in_default.is at c.in_ok-row.ensures.given)))
