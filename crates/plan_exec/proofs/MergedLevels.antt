-- Levels of streams merged by their keys: what is given, what is left then, and where they stopped.
use Rattle.std.specs.Prelude.{◌≡◌, ℕ, false, List, [], ◌∷◌, length, Option, Some, None, refl}
use Rattle.std.specs.Option.{is_some}
use Rattle.std.specs.Ordering.{match_ordering}
use Rattle.std.specs.declared.cmp.Ordering.{Ordering}
use Rattle.std.specs.declared.cmp.Ordering.TheVariants.{Less, Equal, Greater}
use Rattle.std.proofs.Common.{sym, ◌∙◌, subst, arith}
use Rattle.kv_core.specs.Map.{Map}
use Rattle.kv_core.specs.Range.{KeyRange}
use Rattle.kv_core.specs.declared.change.CommitRequest.{CommitRequest}
use Rattle.kv_core.specs.declared.snapshot.ReadError.{ReadError}
use Rattle.metadata.specs.declared.cells.Cell.{Cell}
use Rattle.metadata.specs.Layout.{Pair}
use Rattle.metadata.specs.Order.{cells_cmp}
use Rattle.plan_exec.specs.Course.{Course, fails, finds, merged, merged_head, reads}
use Rattle.plan_exec.specs.Levels.{TakesNext, head_then, merged_levels, takes_next}
use Rattle.plan_exec.specs.Reads.{PlanRead}
use Rattle.plan_exec.specs.Streams.{GoesOn, HasGiven, HasNotGiven}
use Rattle.plan_exec.specs.declared.error.ExecError.{ExecError}
use Rattle.plan_exec.specs.declared.level.Level.{Level}
use Rattle.plan_exec.proofs.Levels.{HasEnded, HasReadOn, ReadsInTurn, both_given, first_stopped, given_none, of_stream, read_on_still, same_stream, second_stopped, stopped_unknown}

-- ---- merged

module _ {A : Type 0} (key : A → List Cell) where
  merged_turns : ReadsInTurn (merged key)
  merged_turns = record {
    first_reads = λ read course other. refl;
    first_fails = λ k course other. refl;
    second_reads = reads_second;
    second_fails = fails_second;
  }
    where
      reads_second : (head : Option A) (course : Course A) → HasEnded head course → (read : PlanRead) (other : Course A) → merged key (head_then head course) (reads read ∷ other) ≡ reads read ∷ merged key (head_then head course) other
      reads_second None course none read other = (λ i. merged key (none i) (reads read ∷ other)) ∙ (λ i. reads read ∷ merged key (sym none i) other)
      reads_second (Some a) course none read other = refl

      fails_second : (head : Option A) (course : Course A) → HasEnded head course → (k : List ℕ) (other : Course A) → (more : Course A) × (merged key (head_then head course) (fails k ∷ other) ≡ fails k ∷ more)
      fails_second None course none k other = (other, λ i. merged key (none i) (fails k ∷ other))
      fails_second (Some a) course none k other = ([], refl)

  module _ (head other given head_left other_left : Option A) (course rest : Course A) where
    -- what is taken is found next
    settled : (before : Course A) {x y z : Option A} → given ≡ x → head_left ≡ y → other_left ≡ z → GoesOn before [] x (merged key (head_then y course) (head_then z rest)) → GoesOn before [] given (merged key (head_then head_left course) (head_then other_left rest))
    settled before {x = x} {y = y} is left so goes =
        subst (λ g. GoesOn before [] g (merged key (head_then head_left course) (head_then other_left rest))) (sym is)
        (subst (λ h. GoesOn before [] x (merged key (head_then h course) (head_then other_left rest))) (sym left)
        (subst (λ o. GoesOn before [] x (merged key (head_then y course) (head_then o rest))) (sym so) goes))

    -- NEXT: what is taken of two known things is what both courses merged find next
    pub next_goes : HasEnded head course → HasEnded other rest → TakesNext key head other given head_left other_left → GoesOn (merged key (head_then head course) (head_then other rest)) [] given (merged key (head_then head_left course) (head_then other_left rest))
    next_goes one two = by head other one two
      where
        by : (h o : Option A) → HasEnded h course → HasEnded o rest → TakesNext key h o given head_left other_left → GoesOn (merged key (head_then h course) (head_then o rest)) [] given (merged key (head_then head_left course) (head_then other_left rest))
        by None None none ended (is, left, so) =
            let nothing : merged key course rest ≡ [] = λ i. merged key (none i) (ended i) in
            settled (merged key course rest) is left so (nothing, nothing)
        by None (Some b) none ended (is, left, so) =
            settled (merged key course (finds b ∷ rest)) is left so (subst (λ c. merged key c (finds b ∷ rest) ≡ finds b ∷ merged key c rest) (sym none) refl)
        by (Some a) None none ended (is, left, so) =
            settled (merged key (finds a ∷ course) rest) is left so (subst (λ d. merged key (finds a ∷ course) d ≡ finds a ∷ merged key course d) (sym ended) refl)
        by (Some a) (Some b) none ended takes = ordered (cells_cmp (key a) (key b)) takes
          where
            ordered : (o : Ordering) → takes_next key (Some a) (Some b) given head_left other_left o →
                GoesOn (match_ordering o (finds a ∷ merged key course (finds b ∷ rest)) (finds b ∷ merged key course rest) (finds b ∷ merged_head key a (merged key course) rest)) [] given
                (merged key (head_then head_left course) (head_then other_left rest))
            ordered Less (is, left, so) = settled (finds a ∷ merged key course (finds b ∷ rest)) is left so refl
            ordered Equal (is, left, so) = settled (finds b ∷ merged key course rest) is left so refl
            ordered Greater (is, left, so) = settled (finds b ∷ merged_head key a (merged key course) rest) is left so refl

-- ---- levels

module _ {R A : Type 0} (course : R → List Pair → Course A) where
  module _ {maps : ℕ → Map} (key : A → List Cell) where
    -- no level gives anything
    pub no_level_given : {old : CommitRequest} (levels : List (Level R A)) → length levels ≡ 0 → HasGiven maps (merged_levels course key levels) None (merged_levels course key levels) old old
    no_level_given [] none = given_none
    no_level_given (level ∷ levels) none = absurd (omega (arith, none))

    module _ (levels : List (Level R A)) (level : Level R A) (rest : List (Level R A)) (is : levels ≡ level ∷ rest) where
      not_begun : {old : CommitRequest} → HasReadOn maps (merged_levels course key levels) (λ pairs. merged key (of_stream course level pairs) (head_then level.other (merged_levels course key rest pairs))) old old
      not_begun {old = old} = subst (λ ls. HasReadOn maps (merged_levels course key ls) (λ pairs. merged key (of_stream course level pairs) (head_then level.other (merged_levels course key rest pairs))) old old) (sym is) (read_on_still (merged_levels course key (level ∷ rest)))

      -- STOPPED in the first stream
      pub first_level_stopped : {refuses : KeyRange → ℕ → ReadError → Type 0} {e : ExecError} {old new : CommitRequest} → HasNotGiven maps refuses (of_stream course level) e old new → HasNotGiven maps refuses (merged_levels course key levels) e old new
      first_level_stopped stop = first_stopped (merged key) (merged_turns key) (merged_levels course key levels) (of_stream course level) (λ pairs. head_then level.other (merged_levels course key rest pairs)) not_begun stop

      module _ (one : Level R A) (kept : one.other ≡ level.other) {old mid : CommitRequest} (first : HasGiven maps (of_stream course level) one.head (course one.stream) old mid) where
        -- STOPPED in the levels behind it
        pub other_levels_stopped : {refuses : KeyRange → ℕ → ReadError → Type 0} {e : ExecError} {new : CommitRequest} → is_some one.other ≡ false → HasNotGiven maps refuses (merged_levels course key rest) e mid new → HasNotGiven maps refuses (merged_levels course key levels) e old new
        other_levels_stopped {refuses = refuses} {e = e} {new = new} unknown stop =
            second_stopped (merged key) (merged_turns key) (merged_levels course key levels) (of_stream course level) (λ pairs. head_then level.other (merged_levels course key rest pairs)) not_begun first
            (subst (λ o. HasNotGiven maps refuses (λ pairs. head_then o (merged_levels course key rest pairs)) e mid new) kept (stopped_unknown one.other (merged_levels course key rest) unknown stop))

        -- GIVEN: what is taken of the heads of both
        pub levels_given : {new : CommitRequest} (two : Level R A) (left : List (Level R A)) → two.stream ≡ one.stream → two.head ≡ one.head →
            HasGiven maps (λ pairs. head_then one.other (merged_levels course key rest pairs)) two.other (merged_levels course key left) mid new → (given head other : Option A) → TakesNext key two.head two.other given head other →
            HasGiven maps (merged_levels course key levels) given (merged_levels course key (record { stream = two.stream; head = head; other = other } ∷ left)) old new
        levels_given {new = new} two left same same_head second given head other takes =
            both_given (merged key) (merged_turns key) (merged_levels course key levels) (of_stream course level) (λ pairs. head_then level.other (merged_levels course key rest pairs)) not_begun
            (same_stream course (of_stream course level) one two same same_head first)
            (subst (λ o. HasGiven maps (λ pairs. head_then o (merged_levels course key rest pairs)) two.other (merged_levels course key left) mid new) kept second)
            (λ pairs none ended. next_goes key two.head two.other given head other (course two.stream pairs) (merged_levels course key left pairs) none ended takes)
