-- The levels and the weights of rows, by their steps and parts.
use Rattle.std.specs.Prelude.{◌≡◌, ℕ, suc, false, ◌+◌, List, ◌∷◌, map, Option, sum}
use Rattle.std.specs.Option.{is_some}
use Rattle.std.proofs.Common.{ap, sym, ◌∙◌, subst}
use Rattle.std.proofs.lemmas.List.Sums.{sum_by-cons}
use Rattle.kv_core.specs.Map.{Map}
use Rattle.kv_core.specs.Range.{KeyRange}
use Rattle.kv_core.specs.declared.change.CommitRequest.{CommitRequest}
use Rattle.kv_core.specs.declared.snapshot.ReadError.{ReadError}
use Rattle.metadata.specs.Record.{Record}
use Rattle.plan_exec.specs.Levels.{head_then}
use Rattle.plan_exec.specs.Streams.{HasGiven, HasNotGiven}
use Rattle.plan_exec.specs.declared.error.ExecError.{ExecError}
use Rattle.plan_exec.proofs.Levels.{given_unknown, stopped_unknown}
use Rattle.plan_exec.specs.Rows.{RowsLevel, level_of, level_step, step_course, weight, weights}
use Rattle.plan_exec.specs.declared.rows.Rows.{Rows}
use Rattle.plan_exec.specs.declared.rows.Step.{Step}
use Rattle.plan_exec.specs.declared.rows.Rows.TheOpen.{Rows-F}
use Rattle.plan_exec.specs.declared.rows.Rows.TheViews.{out-Rows, out-roll-Rows, roll-Rows}
use Rattle.plan_exec.specs.declared.rows.Rows.TheFolds.{fold-roll-Rows, fold_out-Rows}

-- what rows that are made or opened have still to give
pub level_rolled : (rows : Rows-F Rows) → level_of (roll-Rows rows) ≡ record { stream = step_course rows.step (map level_of rows.parts.items); head = rows.head; other = rows.other }
level_rolled = fold-roll-Rows RowsLevel level_step

pub level_is : (rows : Rows) → level_of rows ≡ record { stream = step_course (out-Rows rows).step (map level_of (out-Rows rows).parts.items); head = (out-Rows rows).head; other = (out-Rows rows).other }
level_is = fold_out-Rows RowsLevel level_step

-- how much they weigh
pub weight_rolled : (rows : Rows-F Rows) → weight (roll-Rows rows) ≡ suc (weights rows.parts.items)
weight_rolled = fold-roll-Rows ℕ (λ rows. suc (sum rows.parts.items))

pub weight_is : (rows : Rows) → weight rows ≡ suc (weights (out-Rows rows).parts.items)
weight_is = fold_out-Rows ℕ (λ rows. suc (sum rows.parts.items))

-- one part and others
pub weights_both : (part : Rows) (parts : List Rows) → weights (part ∷ parts) ≡ weight part + weights parts
weights_both part parts = sum_by-cons (λ x. x) (weight part) (map weight parts)

-- as much as others that weigh the same one by one
pub weights_same : (part other : Rows) (parts others : List Rows) → weight part ≡ weight other → weights parts ≡ weights others → weights (part ∷ parts) ≡ weights (other ∷ others)
weights_same part other parts others one rest = weights_both part parts ∙ (λ i. one i + rest i) ∙ sym (weights_both other others)

-- ---- a part that goes on by its step

-- the head that a part knows
pub head_is : (part : Rows) → (level_of part).head ≡ (out-Rows part).head
head_is part = ap (λ (level : RowsLevel). level.head) (level_is part)

-- and the head of the parts behind it
pub other_is : (part : Rows) → (level_of part).other ≡ (out-Rows part).other
other_is part = ap (λ (level : RowsLevel). level.other) (level_is part)

-- what was opened and made again
pub step_again : (rows : Rows-F Rows) → (out-Rows (roll-Rows rows)).step ≡ rows.step
step_again rows = ap (λ (r : Rows-F Rows). r.step) (out-roll-Rows rows)

pub parts_again : (rows : Rows-F Rows) → (out-Rows (roll-Rows rows)).parts.items ≡ rows.parts.items
parts_again rows = ap (λ (r : Rows-F Rows). r.parts.items) (out-roll-Rows rows)

-- a part that is made of a step and parts
module _ (now : Rows) (made : Rows-F Rows) (is : now ≡ roll-Rows made) where
  -- its level and its weight
  pub level_made : level_of now ≡ record { stream = step_course made.step (map level_of made.parts.items); head = made.head; other = made.other }
  level_made = ap level_of is ∙ level_rolled made

  pub weight_made : weight now ≡ suc (weights made.parts.items)
  weight_made = ap weight is ∙ weight_rolled made

module _ (part : Rows) (step : Step) (parts : List Rows) (same_step : step ≡ (out-Rows part).step) (same : parts ≡ (out-Rows part).parts.items) where
  -- its rows are those of its step
  pub stream_is : step_course step (map level_of parts) ≡ (level_of part).stream
  stream_is = (λ i. step_course (same_step i) (map level_of (same i))) ∙ sym (ap (λ (level : RowsLevel). level.stream) (level_is part))

  -- it weighs as much with other parts that weigh the same
  pub weight_kept : (now : Rows) (made : Rows-F Rows) (left : List Rows) → now ≡ roll-Rows made → made.parts.items ≡ left → weights left ≡ weights parts → weight now ≡ weight part
  weight_kept now made left is as_left as_much =
      weight_made now made is ∙ ap (λ ps. suc (weights ps)) as_left ∙ ap suc as_much ∙ ap (λ ps. suc (weights ps)) same ∙ sym (weight_is part)

  module _ {maps : ℕ → Map} where
    -- NOT GIVEN
    pub part_stopped : {refuses : KeyRange → ℕ → ReadError → Type 0} (e : ExecError) {old new : CommitRequest} → HasNotGiven maps refuses (step_course step (map level_of parts)) e old new → HasNotGiven maps refuses (level_of part).stream e old new
    part_stopped {refuses = refuses} e {old = old} {new = new} stop = subst (λ course. HasNotGiven maps refuses course e old new) stream_is stop

    -- NOT GIVEN, where its next row was looked for
    pub head_stopped : {refuses : KeyRange → ℕ → ReadError → Type 0} (e : ExecError) {old new : CommitRequest} → is_some (out-Rows part).head ≡ false → HasNotGiven maps refuses (step_course step (map level_of parts)) e old new →
        HasNotGiven maps refuses (λ pairs. head_then (level_of part).head ((level_of part).stream pairs)) e old new
    head_stopped e unknown stop = stopped_unknown (level_of part).head (level_of part).stream (ap is_some (head_is part) ∙ unknown) (part_stopped e stop)

    -- GIVEN
    module _ (now : Rows) (made : Rows-F Rows) (is : now ≡ roll-Rows made) (new_step : Step) (left : List Rows) (as_step : made.step ≡ new_step) (as_left : made.parts.items ≡ left) {old new : CommitRequest} (given : Option Record)
        (one : HasGiven maps (step_course step (map level_of parts)) given (step_course new_step (map level_of left)) old new) where
      -- the rows that are left
      left_is : step_course new_step (map level_of left) ≡ (level_of now).stream
      left_is = sym (ap (λ (level : RowsLevel). level.stream) (level_made now made is) ∙ (λ i. step_course (as_step i) (map level_of (as_left i))))

      pub part_given : HasGiven maps (level_of part).stream given (level_of now).stream old new
      part_given = subst (λ course. HasGiven maps course given (level_of now).stream old new) stream_is (subst (λ course. HasGiven maps (step_course step (map level_of parts)) given course old new) left_is one)

      -- GIVEN, and known as its next row from then on
      pub head_given : made.head ≡ given → is_some (out-Rows part).head ≡ false → HasGiven maps (λ pairs. head_then (level_of part).head ((level_of part).stream pairs)) (level_of now).head (level_of now).stream old new
      head_given as_head unknown =
          subst (λ head. HasGiven maps (λ pairs. head_then (level_of part).head ((level_of part).stream pairs)) head (level_of now).stream old new) (sym (ap (λ (level : RowsLevel). level.head) (level_made now made is) ∙ as_head))
          (given_unknown (level_of part).head given (level_of part).stream (level_of now).stream (ap is_some (head_is part) ∙ unknown) part_given)
