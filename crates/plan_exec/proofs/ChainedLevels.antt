-- The rows of parts one behind another: what is given, what is left then, and where they stopped.
use Rattle.std.specs.Prelude.{◌≡◌, ℕ, List, [], ◌∷◌, ◌++◌, length, Option, Some, None}
use Rattle.std.specs.FinMap.{entries}
use Rattle.std.proofs.Common.{ap, sym, ◌∙◌, subst, arith}
use Rattle.std.proofs.lemmas.List.{map-append}
use Rattle.kv_core.specs.Map.{Map}
use Rattle.kv_core.specs.Range.{KeyRange}
use Rattle.kv_core.specs.declared.change.CommitRequest.{CommitRequest}
use Rattle.kv_core.specs.declared.snapshot.ReadError.{ReadError}
use Rattle.txn.proofs.Running.{ran_because, ran_then}
use Rattle.metadata.specs.Layout.{Pair}
use Rattle.metadata.specs.Record.{Record}
use Rattle.plan_exec.specs.Course.{Course, finds}
use Rattle.plan_exec.specs.Reads.{PlanRead}
use Rattle.plan_exec.specs.Rows.{RowsLevel, chained_levels}
use Rattle.plan_exec.specs.Streams.{GoesOn, HasGiven, HasNotGiven, reads_then}
use Rattle.plan_exec.specs.declared.error.ExecError.{ExecError}
use Rattle.plan_exec.proofs.Levels.{given_none}
use Rattle.plan_exec.proofs.Streaming.{gone_not, not_front, then_append, then_both}

module _ {maps : ℕ → Map} where
  -- ---- one course behind another

  module _ {A : Type 0} (before after other : List Pair → Course A) where
    -- what the first one finds is found
    pub given_before : {old new : CommitRequest} (a : A) → HasGiven maps before (Some a) after old new → HasGiven maps (λ pairs. before pairs ++ other pairs) (Some a) (λ pairs. after pairs ++ other pairs) old new
    given_before a one = record {
      added = one.added;
      ran = ran_because one.ran (λ m (done, is, so). (done, is, ap (λ c. c ++ other (entries m)) so ∙ then_append done (finds a ∷ after (entries m)) (other (entries m))));
    }

    -- where it has ended the other one goes on
    pub given_behind : {old mid new : CommitRequest} (left : List Pair → Course A) (given : Option A) → HasGiven maps before None after old mid → HasGiven maps other given left mid new →
        HasGiven maps (λ pairs. before pairs ++ other pairs) given (λ pairs. after pairs ++ left pairs) old new
    given_behind left given one two = record {
      added = one.added ++ two.added;
      ran = ran_then one.ran two.ran (λ m (done, is, so) (more, has, goes). (
        done ++ more,
        (λ i. is i ++ has i) ∙ sym (map-append (λ (r : PlanRead). r.added) done more),
        by m done so.0 so.1 more given goes,
      ));
    }
      where
        by : (m : Map) (done : List PlanRead) → before (entries m) ≡ reads_then done [] → after (entries m) ≡ [] → (more : List PlanRead) (o : Option A) → GoesOn (other (entries m)) more o (left (entries m)) →
            GoesOn (before (entries m) ++ other (entries m)) (done ++ more) o (after (entries m) ++ left (entries m))
        by m done so ends more (Some a) goes =
            ap (λ c. c ++ other (entries m)) so ∙ then_append done [] (other (entries m)) ∙ ap (reads_then done) goes ∙ then_both done more (finds a ∷ left (entries m))
            ∙ ap (λ c. reads_then (done ++ more) (finds a ∷ (c ++ left (entries m)))) (sym ends)
        by m done so ends more None (goes, none) = (
          ap (λ c. c ++ other (entries m)) so ∙ then_append done [] (other (entries m)) ∙ ap (reads_then done) goes ∙ then_both done more [],
          λ i. ends i ++ none i,
        )

    -- or stops
    pub stopped_behind : {refuses : KeyRange → ℕ → ReadError → Type 0} {e : ExecError} {old mid new : CommitRequest} → HasGiven maps before None after old mid → HasNotGiven maps refuses other e mid new →
        HasNotGiven maps refuses (λ pairs. before pairs ++ other pairs) e old new
    stopped_behind {refuses = refuses} {e = e} one two = gone_not {refuses = refuses} {e = e} (record {
      added = one.added;
      ran = ran_because one.ran (λ m (done, is, so). (done, is, ap (λ c. c ++ other (entries m)) so.0 ∙ then_append done [] (other (entries m))));
    }) two

  -- ---- levels

  -- NONE: no part has a row
  pub no_part_given : {old : CommitRequest} (levels : List RowsLevel) → length levels ≡ 0 → HasGiven maps (chained_levels levels) None (chained_levels levels) old old
  no_part_given [] none = given_none
  no_part_given (level ∷ levels) none = absurd (omega (arith, none))

  module _ (levels : List RowsLevel) (level : RowsLevel) (rest : List RowsLevel) (is : levels ≡ level ∷ rest) where
    -- STOPPED in the first part
    pub first_part_stopped : {refuses : KeyRange → ℕ → ReadError → Type 0} (e : ExecError) {old new : CommitRequest} → HasNotGiven maps refuses level.stream e old new → HasNotGiven maps refuses (chained_levels levels) e old new
    first_part_stopped {refuses = refuses} e {old = old} {new = new} stop =
        subst (λ ls. HasNotGiven maps refuses (chained_levels ls) e old new) (sym is) (not_front level.stream (chained_levels rest) e stop)

    module _ (now : RowsLevel) where
      -- GIVEN by the first part
      pub first_part_given : {old new : CommitRequest} (row : Record) → HasGiven maps level.stream (Some row) now.stream old new → HasGiven maps (chained_levels levels) (Some row) (chained_levels (now ∷ rest)) old new
      first_part_given {old = old} {new = new} row one =
          subst (λ ls. HasGiven maps (chained_levels ls) (Some row) (chained_levels (now ∷ rest)) old new) (sym is) (given_before level.stream now.stream (chained_levels rest) row one)

      -- GIVEN by those behind it, where it has no more rows
      pub other_parts_given : {old mid new : CommitRequest} (left : List RowsLevel) (given : Option Record) → HasGiven maps level.stream None now.stream old mid → HasGiven maps (chained_levels rest) given (chained_levels left) mid new →
          HasGiven maps (chained_levels levels) given (chained_levels (now ∷ left)) old new
      other_parts_given {old = old} {new = new} left given one two =
          subst (λ ls. HasGiven maps (chained_levels ls) given (chained_levels (now ∷ left)) old new) (sym is) (given_behind level.stream now.stream (chained_levels rest) (chained_levels left) given one two)

      -- STOPPED in one of those
      pub other_parts_stopped : {refuses : KeyRange → ℕ → ReadError → Type 0} (e : ExecError) {old mid new : CommitRequest} → HasGiven maps level.stream None now.stream old mid → HasNotGiven maps refuses (chained_levels rest) e mid new →
          HasNotGiven maps refuses (chained_levels levels) e old new
      other_parts_stopped {refuses = refuses} e {old = old} {new = new} one two =
          subst (λ ls. HasNotGiven maps refuses (chained_levels ls) e old new) (sym is) (stopped_behind level.stream now.stream (chained_levels rest) one two)
