use Rattle.std.proofs.Common.{◌∙◌}
use Rattle.planner.specs.View.{node_of, plan_of}
use Rattle.txn.proofs.Exits.{exit_with}
use Rattle.plan_exec.specs.Errors.{exec_memory}
use Rattle.plan_exec.specs.Rows.{level_of}
use Rattle.plan_exec.proofs.Executed.{executed, opened_course, refused, refused_first}
use Rattle.plan_exec.proofs.Packed.{none_packed, packed_end, packed_fewer, packed_more}
use Rattle.plan_exec.proofs.Taken.{taken_all, taken_stopped}
use Rattle.plan_exec.proofs.execution.execute_rows.Goals as goal

pub returns-in_err-rows-clause-refused : goal.returns-in_err-rows-clause-refused
returns-in_err-rows-clause-refused g c =
    exit_with c.from_residual-in_err-rows.result exec_memory _ c.from_residual-in_err-rows.ensures
    (refused_first c.args.store.now c.args.plan.now c.in_ok-accepted_type.field-0.now c.in_ok-accepted_type.ensures.accepted c.query.ensures.over (rw c.query.ensures.query at c.query.ensures.right) c.query.ensures.merges
    (g.S.Snapshot.map_at c.args.db.now) (g.S.Snapshot.may_refuse c.args.db.now) c.args.tx.now)

pub loop-rows-init : goal.loop-rows-init
loop-rows-init g c = none_packed (level_of c.in_ok-rows.rows).stream c.in_ok-found.found c.in_ok-found.ensures

pub loop-rows-smaller : goal.loop-rows-smaller
loop-rows-smaller g c = packed_fewer c.in_ok-next_packed.ensures.packed c.if-branch.true

pub loop-rows-preserved : goal.loop-rows-preserved
loop-rows-preserved g c = packed_more c.in_ok-next_packed.ensures.packed c.if-branch.true c.loop-rows.invariant

pub returns-in_err-next_packed-clause-refused : goal.returns-in_err-next_packed-clause-refused
returns-in_err-next_packed-clause-refused g c =
    exit_with c.from_residual-in_err-next_packed.result c.in_err-next_packed.field-0.0 _ c.from_residual-in_err-next_packed.ensures
    (refused c.args.store.now c.args.plan.now c.in_ok-accepted_type.field-0.now c.in_ok-accepted_type.ensures.accepted c.query.ensures.over (rw c.query.ensures.query at c.query.ensures.right) c.query.ensures.merges c.in_err-next_packed.field-0.0
    (opened_course c.in_ok-rows.rows c.in_ok-records.records c.args.store.now c.in_ok-accepted_type.field-0.now (node_of c.root.result.now) (plan_of c.args.plan.now).root c.in_ok-rows.ensures c.in_ok-records.ensures.store c.in_ok-records.ensures.typed c.root.ensures)
    (taken_stopped c.loop-rows.invariant.made c.in_err-next_packed.field-0.0 c.loop-rows.invariant.taken c.in_err-next_packed.ensures.stopped))

pub returns-clause-executed : goal.returns-clause-executed
returns-clause-executed g c =
    let ended = packed_end c.in_ok-next_packed.ensures.packed c.if-branch.false in (
      c.loop-rows.invariant.made,
      ended.1 ∙ c.loop-rows.invariant.rows,
      executed c.args.store.now c.args.plan.now c.in_ok-accepted_type.field-0.now c.in_ok-accepted_type.ensures.accepted c.query.ensures.over (rw c.query.ensures.query at c.query.ensures.right) c.query.ensures.merges c.loop-rows.invariant.made
          (opened_course c.in_ok-rows.rows c.in_ok-records.records c.args.store.now c.in_ok-accepted_type.field-0.now (node_of c.root.result.now) (plan_of c.args.plan.now).root c.in_ok-rows.ensures c.in_ok-records.ensures.store c.in_ok-records.ensures.typed c.root.ensures)
          (taken_all c.loop-rows.invariant.made c.loop-rows.invariant.taken ended.0),
    )
