-- What was taken of a stream so far, and what its course comes to with it.
use Rattle.std.specs.Prelude.{◌≡◌, ℕ, zero, suc, ◌+◌, length, List, [], ◌∷◌, ◌++◌, Some, None, Result, Ok, Err, refl}
use mathlib.Core.List.{IsPrefix}
use Rattle.std.specs.FinMap.{entries}
use Rattle.std.specs.Result.{result_err}
use Rattle.std.proofs.Common.{ap, sym, ◌∙◌, subst, append-nil, append_assoc, arith}
use Rattle.std.proofs.Math.Nat.{add-zero, zero-add}
use Rattle.std.proofs.lemmas.List.{length_push, map-append}
use Rattle.kv_core.specs.Map.{Map}
use Rattle.kv_core.specs.Range.{KeyRange}
use Rattle.kv_core.specs.declared.change.CommitRequest.{CommitRequest}
use Rattle.kv_core.specs.declared.snapshot.ReadError.{ReadError}
use Rattle.txn.proofs.Running.{ran_because, ran_still, ran_then}
use Rattle.record_store.specs.Steps.{DidRead}
use Rattle.metadata.specs.Layout.{Pair}
use Rattle.plan_exec.specs.Course.{Course, finds, found_before, outcome_of}
use Rattle.plan_exec.specs.Errors.{exec_memory}
use Rattle.plan_exec.specs.Executing.{HasFound, HasStopped, IsExecutionStopped, ranges_added}
use Rattle.plan_exec.specs.Handing.{reads_until}
use Rattle.plan_exec.specs.Reads.{PlanRead, PlanReading, without_reads}
use Rattle.plan_exec.specs.Streams.{HasGiven, HasNotGiven, reads_then}
use Rattle.plan_exec.specs.declared.error.ExecError.{ExecError}
use Rattle.plan_exec.proofs.Composing.{stop_made, stop_second}
use Rattle.plan_exec.proofs.InBatches.{ahead, ahead_both, ahead_ended, ahead_none, behind_these}
use Rattle.plan_exec.proofs.Streaming.{not_given_stopped, not_memory, outcome_then}

module _ {A : Type 0} where
  -- reads find nothing
  before_then : (done : List PlanRead) (course : Course A) → found_before (reads_then done course) ≡ found_before course
  before_then [] course = refl
  before_then (read ∷ done) course = before_then done course

  -- one more is found behind reads
  until_then : (n : ℕ) (done : List PlanRead) (a : A) (course : Course A) → reads_until (suc n) (reads_then done (finds a ∷ course)) ≡ done ++ reads_until n course
  until_then n [] a course = refl
  until_then n (read ∷ done) a course = ap (λ rs. read ∷ rs) (until_then n done a course)

  -- and with it there is one more
  one_more : (made : List A) (a : A) (n : ℕ) → length (made ++ a ∷ []) + n ≡ length made + suc n
  one_more made a n = omega (arith, length_push made a)

  -- what is found behind some things begins with them
  behind_begins : (made : List A) (rest : Result (List A) (List ℕ)) (all : List A) → behind_these made rest ≡ Ok all → IsPrefix made all
  behind_begins made (Ok more) all is = (more, cc)
  behind_begins made (Err key) all is = absurd (cc)

-- these things begin what a course finds before its first damage, and where it shows none they begin all that it finds
pub record Begins {A : Type 0} (made : List A) (course : Course A) : Type 0 where
  pub before : IsPrefix made (found_before course)
  pub whole : (all : List A) → (outcome_of course).found ≡ Ok all → IsPrefix made all

-- so it is with things that were taken of it
begins_so : {A : Type 0} (made : List A) (done : List PlanRead) (course rest : Course A) → outcome_of course ≡ ahead done made (outcome_of rest) → found_before course ≡ made ++ found_before rest → Begins made course
begins_so made done course rest so found = record {
  before = (found_before rest, sym found);
  whole = λ all shows. behind_begins made (outcome_of rest).found all (sym (ap (λ (r : PlanReading (List _)). r.found) so) ∙ shows);
}

-- these things were taken of the whole course, and this is left of it
pub record HasTaken {A : Type 0} (maps : ℕ → Map) (whole : List Pair → Course A) (made : List A) (after : List Pair → Course A) (old new : CommitRequest) : Type 0 where
  pub added : List KeyRange
  pub ran :
      DidRead maps added old new
      (λ m. (done : List PlanRead) × (added ≡ ranges_added done) × (outcome_of (whole (entries m)) ≡ ahead done made (outcome_of (after (entries m))))
      × (found_before (whole (entries m)) ≡ made ++ found_before (after (entries m)))
      × ((n : ℕ) → reads_until (length made + n) (whole (entries m)) ≡ done ++ reads_until n (after (entries m))))

-- the course was read until these things were found, and no further
pub record HasGivenUntil {A : Type 0} (maps : ℕ → Map) (whole : List Pair → Course A) (made : List A) (old new : CommitRequest) : Type 0 where
  pub added : List KeyRange
  pub ran : DidRead maps added old new (λ m. (added ≡ ranges_added (reads_until (length made) (whole (entries m)))) × Begins made (whole (entries m)))

-- behind these things the course was not read on
pub record HasEndedBehind {A : Type 0} (maps : ℕ → Map) (refuses : KeyRange → ℕ → ReadError → Type 0) (whole : List Pair → Course A) (made : List A) (e : ExecError) (old new : CommitRequest) : Type 0 where
  pub added : List KeyRange
  pub ran :
      DidRead maps added old new
      (λ m. IsExecutionStopped (λ range. refuses range old.read_version) (outcome_of (whole (entries m))).reads (result_err (outcome_of (whole (entries m))).found) e added
      × Begins made (whole (entries m)))

module _ {maps : ℕ → Map} {A : Type 0} where
  -- NOTHING yet
  pub taken_none : {old : CommitRequest} (whole : List Pair → Course A) → HasTaken maps whole [] whole old old
  taken_none whole = record { added = []; ran = ran_still refl (λ m. ([], refl, ahead_none (outcome_of (whole (entries m))), refl, λ n. ap (λ k. reads_until k (whole (entries m))) (zero-add n))) }

  -- ONE MORE
  pub taken_more : {old mid new : CommitRequest} {whole between after : List Pair → Course A} (made : List A) (a : A) → HasTaken maps whole made between old mid → HasGiven maps between (Some a) after mid new → HasTaken maps whole (made ++ a ∷ []) after old new
  taken_more {whole = whole} {after = after} made a one two = record {
    added = one.added ++ two.added;
    ran = ran_then one.ran two.ran (λ m (done, is, so, found, until) (more, has, goes). (
      done ++ more,
      (λ i. is i ++ has i) ∙ sym (map-append (λ (r : PlanRead). r.added) done more),
      so ∙ ap (λ c. ahead done made (outcome_of c)) goes ∙ ap (ahead done made) (outcome_then more (finds a ∷ after (entries m)))
          ∙ ahead_both done more made (a ∷ []) (outcome_of (after (entries m))),
      found ∙ ap (λ c. made ++ found_before c) goes ∙ ap (λ xs. made ++ xs) (before_then more (finds a ∷ after (entries m))) ∙ sym (append_assoc made (a ∷ []) (found_before (after (entries m)))),
      λ n. ap (λ k. reads_until k (whole (entries m))) (one_more made a n) ∙ until (suc n) ∙ ap (λ c. done ++ reads_until (suc n) c) goes
          ∙ ap (λ rs. done ++ rs) (until_then n more a (after (entries m))) ∙ sym (append_assoc done more (reads_until n (after (entries m)))),
    ));
  }

  -- ALL was taken
  pub taken_all : {old mid new : CommitRequest} {whole between after : List Pair → Course A} (made : List A) → HasTaken maps whole made between old mid → HasGiven maps between None after mid new → HasFound maps (λ pairs. outcome_of (whole pairs)) made old new
  taken_all {whole = whole} made one two = record {
    added = one.added ++ two.added;
    ran = ran_then one.ran two.ran (λ m (done, is, so, found, until) (more, has, goes).
        let all : outcome_of (whole (entries m)) ≡ record { reads = done ++ more; found = Ok made } =
        so ∙ ap (λ c. ahead done made (outcome_of c)) goes.0 ∙ ap (ahead done made) (outcome_then more [])
        ∙ ahead_both done more made [] (without_reads (Ok [])) ∙ ahead_ended (done ++ more) (made ++ [])
        ∙ ap (λ xs. record { reads = done ++ more; found = Ok xs }) (append-nil made) in (
          (λ i. is i ++ has i) ∙ sym (map-append (λ (r : PlanRead). r.added) done more) ∙ ap (λ (r : PlanReading (List A)). ranges_added r.reads) (sym all),
          ap (λ (r : PlanReading (List A)). r.found) all,
        ));
  }

  module _ {refuses : KeyRange → ℕ → ReadError → Type 0} {old mid new : CommitRequest} {whole between : List Pair → Course A} (made : List A) where
    -- ENDED: nothing more was given
    pub taken_ended : (e : ExecError) → HasTaken maps whole made between old mid → HasNotGiven maps refuses between e mid new → HasEndedBehind maps refuses whole made e old new
    taken_ended e one two =
        let stop = not_given_stopped between e two in
        record {
          added = one.added ++ stop.added;
          ran = ran_then one.ran stop.ran (λ m (done, is, so, found, until) says.
              let rest : PlanReading (List A) = outcome_of (between (entries m)) in (
                subst (λ (r : PlanReading (List A)). IsExecutionStopped (λ range. refuses range old.read_version) r.reads (result_err r.found) e (one.added ++ stop.added)) (sym so)
                    (subst (λ firsts. IsExecutionStopped (λ range. refuses range old.read_version) (done ++ rest.reads) (result_err (behind_these made rest.found)) e (firsts ++ stop.added)) (sym is)
                    (stop_made (λ range. refuses range old.read_version) (λ more. made ++ more) (done ++ rest.reads) rest.found e (ranges_added done ++ stop.added)
                    (stop_second (λ range. refuses range old.read_version) done rest e stop.added
                    (subst (λ v. IsExecutionStopped (λ range. refuses range v) rest.reads (result_err rest.found) e stop.added) one.ran.version says)))),
                begins_so made done (whole (entries m)) (between (entries m)) so found,
              ));
        }

    -- STOPPED: so what the course comes to wasn't read on
    pub taken_stopped : (e : ExecError) → HasTaken maps whole made between old mid → HasNotGiven maps refuses between e mid new → HasStopped maps refuses (λ pairs. outcome_of (whole pairs)) e old new
    taken_stopped e one two = let ended = taken_ended e one two in record { added = ended.added; ran = ran_because ended.ran (λ m says. says.0) }

  -- UNTIL what was taken, and no further
  pub taken_until : {old new : CommitRequest} {whole after : List Pair → Course A} (made : List A) → HasTaken maps whole made after old new → HasGivenUntil maps whole made old new
  taken_until {whole = whole} {after = after} made one = record {
    added = one.added;
    ran = ran_because one.ran (λ m (done, is, so, found, until).
        let just : reads_until (length made) (whole (entries m)) ≡ done = ap (λ k. reads_until k (whole (entries m))) (sym (add-zero (length made))) ∙ until zero ∙ append-nil done in (
          is ∙ ap ranges_added (sym just),
          begins_so made done (whole (entries m)) (after (entries m)) so found,
        ));
  }

  -- NONE: memory was wanting before anything was read
  pub none_taken : {refuses : KeyRange → ℕ → ReadError → Type 0} {old : CommitRequest} (whole : List Pair → Course A) → HasEndedBehind maps refuses whole [] exec_memory old old
  none_taken whole = taken_ended [] exec_memory (taken_none whole) (not_memory whole refl)
