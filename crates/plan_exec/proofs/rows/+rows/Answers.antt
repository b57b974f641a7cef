use Rattle.std.proofs.Common.{ap, sym, ◌∙◌, subst, refl, map, ℕ, ◌+◌, Some, None, drop, slice_index_or}
use Rattle.planner.specs.Layout.{primary_cells}
use Rattle.query.specs.View.{filter_of}
use Rattle.plan_exec.specs.Rows.{chained_levels, first_rows, level_of, step_course, weight}
use Rattle.plan_exec.specs.Streams.{HasGiven}
use Rattle.txn.proofs.Exits.{exit_with}
use Rattle.std.proofs.lemmas.List.{with_items_is}
use Rattle.kv_core.specs.Map.{Map}
use Rattle.plan_exec.specs.Errors.{exec_memory}
use Rattle.plan_exec.proofs.ChainedLevels.{no_part_given}
use Rattle.plan_exec.proofs.FirstPart.{OtherIsKnown, chained_first_given, chained_first_stopped, chained_others_given, chained_others_stopped, if_err_more, if_ok_more, merged_first_stopped, merged_given, merged_others_stopped, merged_weights, no_levels, other_asked, other_known, weights_first, weights_put, zero_more}
use Rattle.plan_exec.proofs.FirstRows.{fresh_given, fresh_gone, fresh_memory, fresh_none, fresh_not, kept_none, kept_not}
use Rattle.plan_exec.proofs.RowLevels.{head_given, head_is, head_stopped, part_given, part_stopped, parts_again, step_again, weight_kept}
use Rattle.plan_exec.proofs.Levels.{given_known}
use Rattle.query.specs.Truth.{selects}
use Rattle.plan_exec.specs.declared.rows.Rows.TheViews.{out-Rows, roll-Rows, roll-out-Rows}
use Rattle.std.specs.Option.{is_some}
use Rattle.plan_exec.proofs.MergedLevels.{no_level_given}
use Rattle.plan_exec.proofs.Streaming.{given_none, given_fewer, gone_given, gone_not, gone_still, gone_then, kept_given, kept_gone}
use Rattle.plan_exec.proofs.rows.+rows.Goals as goal
use Rattle.plan_exec.proofs.rows.+rows.Goals.{next_merged-then-is_none+in_ok-other+in-Some-1, next_merged-then-is_none+in_ok-other+in-None-1, next_merged-else-is_none}
use Rattle.plan_exec.proofs.rows.+rows.Goals.{find_head-then-is_none+in_ok-part+in-Some-1, find_head-then-is_none+in_ok-part+in-None-1, find_head-else-is_none}

pub find_head-returns-in_err-part-clause-stopped :
    goal.find_head-returns-in_err-part-clause-stopped
find_head-returns-in_err-part-clause-stopped g t c =
    exit_with c.from_residual.result c.in_err-part.field-0.0 _ c.from_residual.ensures
    (head_stopped c.args.part.now _ c.as_mut_slice.result.now (step_again (out-Rows c.args.part.now)) (c.as_mut_slice.ensures.value ∙ parts_again (out-Rows c.args.part.now))
    c.in_err-part.field-0.0 c.if-is_none.ensures c.in_err-part.ensures.stopped)

pub find_head-returns-clause-same : goal.find_head-returns-clause-same
find_head-returns-clause-same g t c =
    elim c.if-is_none.branch [
      | find_head-then-is_none+in_ok-part+in-Some-1 w ↦ ap (λ n. 0 + n) (weight_kept c.args.part.now _ w.as_mut_slice.result.now (step_again (out-Rows c.args.part.now)) (w.as_mut_slice.ensures.value ∙ parts_again (out-Rows c.args.part.now))
          c.if-is_none.part _ w.next_row.new.parts w.part-is (parts_again _ ∙ with_items_is (out-Rows (roll-Rows (out-Rows c.args.part.now))).parts w.next_row.new.parts (w.next_row.auto.parts ∙ w.as_mut_slice.ensures.len)) w.in_ok-part.ensures.same)
      | find_head-then-is_none+in_ok-part+in-None-1 w ↦ ap (λ n. 0 + n) (weight_kept c.args.part.now _ w.as_mut_slice.result.now (step_again (out-Rows c.args.part.now)) (w.as_mut_slice.ensures.value ∙ parts_again (out-Rows c.args.part.now))
          c.if-is_none.part _ w.next_row.new.parts w.part-is (parts_again _ ∙ with_items_is (out-Rows (roll-Rows (out-Rows c.args.part.now))).parts w.next_row.new.parts (w.next_row.auto.parts ∙ w.as_mut_slice.ensures.len)) w.in_ok-part.ensures.same)
      | find_head-else-is_none w ↦ ap (λ p. 0 + weight p) (w.part-is ∙ roll-out-Rows c.args.part.now)
    ]

pub find_head-returns-clause-given : goal.find_head-returns-clause-given
find_head-returns-clause-given g t c =
    elim c.if-is_none.branch [
      | find_head-then-is_none+in_ok-part+in-Some-1 w ↦ rw w.tx-is (head_given c.args.part.now _ w.as_mut_slice.result.now (step_again (out-Rows c.args.part.now)) (w.as_mut_slice.ensures.value ∙ parts_again (out-Rows c.args.part.now))
          c.if-is_none.part _ w.part-is w.next_row.new.step w.next_row.new.parts (step_again _) (parts_again _ ∙ with_items_is (out-Rows (roll-Rows (out-Rows c.args.part.now))).parts w.next_row.new.parts (w.next_row.auto.parts ∙ w.as_mut_slice.ensures.len))
          w.in_ok-part.field-0 w.in_ok-part.ensures.given refl w.if-is_none.ensures)
      | find_head-then-is_none+in_ok-part+in-None-1 w ↦ rw w.tx-is (head_given c.args.part.now _ w.as_mut_slice.result.now (step_again (out-Rows c.args.part.now)) (w.as_mut_slice.ensures.value ∙ parts_again (out-Rows c.args.part.now))
          c.if-is_none.part _ w.part-is w.next_row.new.step w.next_row.new.parts (step_again _) (parts_again _ ∙ with_items_is (out-Rows (roll-Rows (out-Rows c.args.part.now))).parts w.next_row.new.parts (w.next_row.auto.parts ∙ w.as_mut_slice.ensures.len))
          w.in_ok-part.field-0 w.in_ok-part.ensures.given refl w.if-is_none.ensures)
      | find_head-else-is_none w ↦ rw (w.part-is ∙ roll-out-Rows c.args.part.now, w.tx-is) (given_known (level_of c.args.part.now).head (level_of c.args.part.now).stream (ap is_some (head_is c.args.part.now) ∙ w.if-is_none.ensures))
    ]

pub next_first-loop-row-init : goal.next_first-loop-row-init
next_first-loop-row-init g t c =
    (refl, gone_still (first_rows c.args.seen.now (map level_of c.args.parts.now)) (first_rows c.args.seen.now (map level_of c.args.parts.now)) (λ m. refl) refl)

pub next_first-returns-in_err-row-clause-stopped :
    goal.next_first-returns-in_err-row-clause-stopped
next_first-returns-in_err-row-clause-stopped g t c =
    exit_with c.from_residual.result c.in_err-row.field-0.0 _ c.from_residual.ensures
    (gone_not c.loop-row.invariant.1 (fresh_not primary_cells c.loop-row.seen.keys c.in_err-row.field-0.0 c.in_err-row.ensures.stopped))

pub next_first-returns-in_err-insert-clause-stopped :
    goal.next_first-returns-in_err-insert-clause-stopped
next_first-returns-in_err-insert-clause-stopped g t c =
    exit_with c.from_residual-in_err-insert.result exec_memory _ c.from_residual-in_err-insert.ensures
    (gone_not c.loop-row.invariant.1 (fresh_memory primary_cells c.loop-row.seen.keys c.in-Some.row
    (subst (λ o. HasGiven (g.S.Snapshot.map_at c.args.db.now) (chained_levels (map level_of c.loop-row.parts)) o (chained_levels (map level_of c.next_chained.new.parts)) c.loop-row.tx c.next_chained.new.tx) c.in-Some.is c.in_ok-row.ensures.given)))

pub next_first-returns-then-branch-clause-given : goal.next_first-returns-then-branch-clause-given
next_first-returns-then-branch-clause-given g t c =
    gone_given _ c.loop-row.invariant.1 (fresh_given primary_cells c.loop-row.seen.keys c.insert.new.self.keys c.in-Some.row c.in_ok-insert.ensures.keys
    (subst (λ o. HasGiven (g.S.Snapshot.map_at c.args.db.now) (chained_levels (map level_of c.loop-row.parts)) o (chained_levels (map level_of c.next_chained.new.parts)) c.loop-row.tx c.next_chained.new.tx) c.in-Some.is c.in_ok-row.ensures.given)
    (sym c.in_ok-insert.ensures.added ∙ c.if-branch.true))

pub next_first-loop-row-smaller : goal.next_first-loop-row-smaller
next_first-loop-row-smaller g t c =
    given_fewer c.in-Some.row
    (subst (λ o. HasGiven (g.S.Snapshot.map_at c.args.db.now) (chained_levels (map level_of c.loop-row.parts)) o (chained_levels (map level_of c.next_chained.new.parts)) c.loop-row.tx c.next_chained.new.tx) c.in-Some.is c.in_ok-row.ensures.given)

pub next_first-loop-row-preserved : goal.next_first-loop-row-preserved
next_first-loop-row-preserved g t c = (
  c.in_ok-row.ensures.same ∙ c.loop-row.invariant.0,
  gone_then c.loop-row.invariant.1 (fresh_gone primary_cells c.loop-row.seen.keys c.insert.new.self.keys c.in-Some.row c.in_ok-insert.ensures.keys
      (subst (λ o. HasGiven (g.S.Snapshot.map_at c.args.db.now) (chained_levels (map level_of c.loop-row.parts)) o (chained_levels (map level_of c.next_chained.new.parts)) c.loop-row.tx c.next_chained.new.tx) c.in-Some.is c.in_ok-row.ensures.given)
      (sym c.in_ok-insert.ensures.added ∙ c.if-branch.false)),
)

pub next_first-returns-clause-given : goal.next_first-returns-clause-given
next_first-returns-clause-given g t c =
    gone_given _ c.loop-row.invariant.1 (fresh_none primary_cells c.loop-row.seen.keys (given_none c.in_ok-row.field-0 c.in_default.not-Some c.in_ok-row.ensures.given))

pub next_kept-returns-in_err-row-clause-stopped : goal.next_kept-returns-in_err-row-clause-stopped
next_kept-returns-in_err-row-clause-stopped g t c =
    exit_with c.from_residual.result c.in_err-row.field-0.0 _ c.from_residual.ensures
    (gone_not c.loop-row.invariant.1 (kept_not (selects (filter_of c.args.condition.now)) c.in_err-row.field-0.0 c.in_err-row.ensures.stopped))

pub next_kept-returns-then-selects-clause-given : goal.next_kept-returns-then-selects-clause-given
next_kept-returns-then-selects-clause-given g t c =
    gone_given _ c.loop-row.invariant.1 (kept_given (selects (filter_of c.args.condition.now)) c.in-Some.row
    (subst (λ o. HasGiven (g.S.Snapshot.map_at c.args.db.now) (chained_levels (map level_of c.loop-row.parts)) o (chained_levels (map level_of c.next_chained.new.parts)) c.loop-row.tx c.next_chained.new.tx) c.in-Some.is c.in_ok-row.ensures.given)
    (sym c.selects.ensures ∙ c.if-selects.true))

pub next_kept-loop-row-smaller : goal.next_kept-loop-row-smaller
next_kept-loop-row-smaller g t c =
    given_fewer c.in-Some.row
    (subst (λ o. HasGiven (g.S.Snapshot.map_at c.args.db.now) (chained_levels (map level_of c.loop-row.parts)) o (chained_levels (map level_of c.next_chained.new.parts)) c.loop-row.tx c.next_chained.new.tx) c.in-Some.is c.in_ok-row.ensures.given)

pub next_kept-loop-row-preserved : goal.next_kept-loop-row-preserved
next_kept-loop-row-preserved g t c = (
  c.in_ok-row.ensures.same ∙ c.loop-row.invariant.0,
  gone_then c.loop-row.invariant.1 (kept_gone (selects (filter_of c.args.condition.now)) c.in-Some.row
      (subst (λ o. HasGiven (g.S.Snapshot.map_at c.args.db.now) (chained_levels (map level_of c.loop-row.parts)) o (chained_levels (map level_of c.next_chained.new.parts)) c.loop-row.tx c.next_chained.new.tx) c.in-Some.is c.in_ok-row.ensures.given)
      (sym c.selects.ensures ∙ c.if-selects.false)),
)

pub next_kept-returns-clause-given : goal.next_kept-returns-clause-given
next_kept-returns-clause-given g t c =
    gone_given _ c.loop-row.invariant.1 (kept_none (selects (filter_of c.args.condition.now)) (given_none c.in_ok-row.field-0 c.in_default.not-Some c.in_ok-row.ensures.given))

pub next_row-returns-in-First-clause-given : goal.next_row-returns-in-First-clause-given
next_row-returns-in-First-clause-given g t c = rw c.in-First.is c.next_first.ensures.given

pub next_row-returns-in-First-clause-stopped : goal.next_row-returns-in-First-clause-stopped
next_row-returns-in-First-clause-stopped g t c = rw c.in-First.is c.next_first.ensures.stopped

pub next_row-returns-in-Merged-clause-given : goal.next_row-returns-in-Merged-clause-given
next_row-returns-in-Merged-clause-given g t c = rw c.in-Merged.is c.next_merged.ensures.given

pub next_row-returns-in-Merged-clause-stopped : goal.next_row-returns-in-Merged-clause-stopped
next_row-returns-in-Merged-clause-stopped g t c = rw c.in-Merged.is c.next_merged.ensures.stopped

pub next_row-returns-in-Chained-clause-given : goal.next_row-returns-in-Chained-clause-given
next_row-returns-in-Chained-clause-given g t c = rw c.in-Chained.is c.next_chained.ensures.given

pub next_row-returns-in-Chained-clause-stopped : goal.next_row-returns-in-Chained-clause-stopped
next_row-returns-in-Chained-clause-stopped g t c = rw c.in-Chained.is c.next_chained.ensures.stopped

pub next_chained-returns-then-is_empty-clause-given : goal.next_chained-returns-then-is_empty-clause-given
next_chained-returns-then-is_empty-clause-given g t c =
    no_part_given (map level_of c.args.parts.now) (no_levels c.args.parts.now c.if-is_empty.ensures)

pub next_chained-returns-in_err-row-clause-stopped : goal.next_chained-returns-in_err-row-clause-stopped
next_chained-returns-in_err-row-clause-stopped g t c =
    exit_with c.from_residual.result c.in_err-row.field-0.0 _ c.from_residual.ensures
    (chained_first_stopped c.args.parts.now c.if-is_empty.ensures c.index-parts-0.result c.in_err-row.field-0.0
    (part_stopped (slice_index_or c.args.parts.now 0 c.index-parts-0.result) _ c.as_mut_slice.result.now refl c.as_mut_slice.ensures.value c.in_err-row.field-0.0 c.in_err-row.ensures.stopped))

pub next_chained-returns-in-Some-clause-same : goal.next_chained-returns-in-Some-clause-same
next_chained-returns-in-Some-clause-same g t c =
    weights_first c.args.parts.now c.if-is_empty.ensures c.index-parts-0.result _
    (weight_kept (slice_index_or c.args.parts.now 0 c.index-parts-0.result) _ c.as_mut_slice.result.now refl c.as_mut_slice.ensures.value _ _ c.next_row.new.parts refl
    (with_items_is (out-Rows (slice_index_or c.args.parts.now 0 c.index-parts-0.result)).parts c.next_row.new.parts (c.next_row.auto.parts ∙ c.as_mut_slice.ensures.len)) c.in_ok-row.ensures.same)

pub next_chained-returns-in-Some-clause-given : goal.next_chained-returns-in-Some-clause-given
next_chained-returns-in-Some-clause-given g t c =
    chained_first_given c.args.parts.now c.if-is_empty.ensures c.index-parts-0.result _ c.in-Some.row
    (part_given (slice_index_or c.args.parts.now 0 c.index-parts-0.result) _ c.as_mut_slice.result.now refl c.as_mut_slice.ensures.value _ _ refl c.next_row.new.step c.next_row.new.parts refl
    (with_items_is (out-Rows (slice_index_or c.args.parts.now 0 c.index-parts-0.result)).parts c.next_row.new.parts (c.next_row.auto.parts ∙ c.as_mut_slice.ensures.len)) (Some c.in-Some.row) (subst (λ o. HasGiven (g.S.Snapshot.map_at c.args.db.now) (step_course (out-Rows (slice_index_or c.args.parts.now 0 c.index-parts-0.result)).step (map level_of c.as_mut_slice.result.now)) o (step_course c.next_row.new.step (map level_of c.next_row.new.parts)) c.args.tx.now c.next_row.new.tx) c.in-Some.is c.in_ok-row.ensures.given))

pub next_chained-returns-in-None-clause-same : goal.next_chained-returns-in-None-clause-same
next_chained-returns-in-None-clause-same g t c =
    if_ok_more c.next_chained.result _ _ (λ given same. weights_put c.args.parts.now c.if-is_empty.ensures c.index-parts-0.result _ c.next_chained.new.parts
    (weight_kept (slice_index_or c.args.parts.now 0 c.index-parts-0.result) _ c.as_mut_slice.result.now refl c.as_mut_slice.ensures.value _ _ c.next_row.new.parts refl
    (with_items_is (out-Rows (slice_index_or c.args.parts.now 0 c.index-parts-0.result)).parts c.next_row.new.parts (c.next_row.auto.parts ∙ c.as_mut_slice.ensures.len)) c.in_ok-row.ensures.same) same) c.next_chained.ensures.same

pub next_chained-returns-in-None-clause-given : goal.next_chained-returns-in-None-clause-given
next_chained-returns-in-None-clause-given g t c =
    if_ok_more c.next_chained.result _ _ (λ given two. chained_others_given c.args.parts.now c.if-is_empty.ensures c.index-parts-0.result _ c.next_chained.new.parts given
    (part_given (slice_index_or c.args.parts.now 0 c.index-parts-0.result) _ c.as_mut_slice.result.now refl c.as_mut_slice.ensures.value _ _ refl c.next_row.new.step c.next_row.new.parts refl
    (with_items_is (out-Rows (slice_index_or c.args.parts.now 0 c.index-parts-0.result)).parts c.next_row.new.parts (c.next_row.auto.parts ∙ c.as_mut_slice.ensures.len)) None (subst (λ o. HasGiven (g.S.Snapshot.map_at c.args.db.now) (step_course (out-Rows (slice_index_or c.args.parts.now 0 c.index-parts-0.result)).step (map level_of c.as_mut_slice.result.now)) o (step_course c.next_row.new.step (map level_of c.next_row.new.parts)) c.args.tx.now c.next_row.new.tx) c.in-None.is c.in_ok-row.ensures.given)) two) c.next_chained.ensures.given

pub next_chained-returns-in-None-clause-stopped : goal.next_chained-returns-in-None-clause-stopped
next_chained-returns-in-None-clause-stopped g t c =
    if_err_more c.next_chained.result _ _ (λ e two. chained_others_stopped c.args.parts.now c.if-is_empty.ensures c.index-parts-0.result _ e
    (part_given (slice_index_or c.args.parts.now 0 c.index-parts-0.result) _ c.as_mut_slice.result.now refl c.as_mut_slice.ensures.value _ _ refl c.next_row.new.step c.next_row.new.parts refl
    (with_items_is (out-Rows (slice_index_or c.args.parts.now 0 c.index-parts-0.result)).parts c.next_row.new.parts (c.next_row.auto.parts ∙ c.as_mut_slice.ensures.len)) None (subst (λ o. HasGiven (g.S.Snapshot.map_at c.args.db.now) (step_course (out-Rows (slice_index_or c.args.parts.now 0 c.index-parts-0.result)).step (map level_of c.as_mut_slice.result.now)) o (step_course c.next_row.new.step (map level_of c.next_row.new.parts)) c.args.tx.now c.next_row.new.tx) c.in-None.is c.in_ok-row.ensures.given)) two) c.next_chained.ensures.stopped

pub next_merged-returns-then-is_empty-clause-given : goal.next_merged-returns-then-is_empty-clause-given
next_merged-returns-then-is_empty-clause-given g t c =
    no_level_given (λ stream. stream) primary_cells (map level_of c.args.parts.now) (no_levels c.args.parts.now c.if-is_empty.ensures)

pub next_merged-returns-in_err-find_head-clause-stopped : goal.next_merged-returns-in_err-find_head-clause-stopped
next_merged-returns-in_err-find_head-clause-stopped g t c =
    exit_with c.from_residual.result c.in_err-find_head.field-0.0 _ c.from_residual.ensures
    (merged_first_stopped c.args.parts.now c.if-is_empty.ensures c.index-parts-0.result c.in_err-find_head.ensures.stopped)

pub next_merged-returns-in_err-other-clause-stopped : goal.next_merged-returns-in_err-other-clause-stopped
next_merged-returns-in_err-other-clause-stopped g t c =
    exit_with c.from_residual-in_err-other.result c.in_err-other.field-0.0 _ c.from_residual-in_err-other.ensures
    (merged_others_stopped c.args.parts.now c.if-is_empty.ensures c.find_head.new.part c.index-parts-0-2.result c.index-parts-0.result c.in_ok-find_head.ensures.other c.in_ok-find_head.ensures.given
    c.if-is_none.ensures c.in_err-other.ensures.stopped)

pub next_merged-returns-clause-same : goal.next_merged-returns-clause-same
next_merged-returns-clause-same g t c =
    let maps : ℕ → Map = g.S.Snapshot.map_at c.args.db.now in
    let known : OtherIsKnown maps c.find_head.new.part (drop 1 c.args.parts.now) c.if-is_none.parts c.find_head.new.tx c.if-is_none.tx = elim c.if-is_none.branch [
      | next_merged-then-is_none+in_ok-other+in-Some-1 w ↦ rw w.tx-is (other_asked c.args.parts.now c.if-is_empty.ensures c.find_head.new.part c.index-parts-0-2.result w.in_ok-other.other w.next_merged.new.parts c.if-is_none.parts _ w.parts-is w.if-is_none.ensures w.in_ok-other.ensures.same w.in_ok-other.ensures.given)
      | next_merged-then-is_none+in_ok-other+in-None-1 w ↦ rw w.tx-is (other_asked c.args.parts.now c.if-is_empty.ensures c.find_head.new.part c.index-parts-0-2.result w.in_ok-other.other w.next_merged.new.parts c.if-is_none.parts _ w.parts-is w.if-is_none.ensures w.in_ok-other.ensures.same w.in_ok-other.ensures.given)
      | next_merged-else-is_none w ↦ rw w.tx-is (other_known c.args.parts.now c.if-is_empty.ensures c.find_head.new.part c.index-parts-0-2.result c.if-is_none.parts w.parts-is w.if-is_none.ensures)
    ] in
    merged_weights c.args.parts.now c.if-is_empty.ensures c.index-parts-0.result c.find_head.new.part c.if-is_none.parts known c.index-parts-0-3.result c.take_next.new.head c.take_next.new.other (zero_more (weight c.find_head.new.part) c.in_ok-find_head.ensures.same)

pub next_merged-returns-clause-given : goal.next_merged-returns-clause-given
next_merged-returns-clause-given g t c =
    let maps : ℕ → Map = g.S.Snapshot.map_at c.args.db.now in
    let known : OtherIsKnown maps c.find_head.new.part (drop 1 c.args.parts.now) c.if-is_none.parts c.find_head.new.tx c.if-is_none.tx = elim c.if-is_none.branch [
      | next_merged-then-is_none+in_ok-other+in-Some-1 w ↦ rw w.tx-is (other_asked c.args.parts.now c.if-is_empty.ensures c.find_head.new.part c.index-parts-0-2.result w.in_ok-other.other w.next_merged.new.parts c.if-is_none.parts _ w.parts-is w.if-is_none.ensures w.in_ok-other.ensures.same w.in_ok-other.ensures.given)
      | next_merged-then-is_none+in_ok-other+in-None-1 w ↦ rw w.tx-is (other_asked c.args.parts.now c.if-is_empty.ensures c.find_head.new.part c.index-parts-0-2.result w.in_ok-other.other w.next_merged.new.parts c.if-is_none.parts _ w.parts-is w.if-is_none.ensures w.in_ok-other.ensures.same w.in_ok-other.ensures.given)
      | next_merged-else-is_none w ↦ rw w.tx-is (other_known c.args.parts.now c.if-is_empty.ensures c.find_head.new.part c.index-parts-0-2.result c.if-is_none.parts w.parts-is w.if-is_none.ensures)
    ] in
    merged_given c.args.parts.now c.if-is_empty.ensures c.index-parts-0.result c.find_head.new.part c.if-is_none.parts known c.index-parts-0-3.result c.take_next.new.head c.take_next.new.other c.in_ok-find_head.ensures.other c.in_ok-find_head.ensures.given c.take_next.result c.take_next.ensures

pub next_row-returns-in-Scanned-clause-given : goal.next_row-returns-in-Scanned-clause-given
next_row-returns-in-Scanned-clause-given g t c = rw c.in-Scanned.is c.next.ensures.given

pub next_row-returns-in-Fetched-clause-given : goal.next_row-returns-in-Fetched-clause-given
next_row-returns-in-Fetched-clause-given g t c = rw c.in-Fetched.is c.next-in-Fetched.ensures.given

pub next_row-returns-in-Kept-clause-given : goal.next_row-returns-in-Kept-clause-given
next_row-returns-in-Kept-clause-given g t c = rw c.in-Kept.is c.next_kept.ensures.given
