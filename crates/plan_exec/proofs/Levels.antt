-- Two streams of which one thing is made by turns: how far both were read, what is given then, and where it stopped.
use Rattle.std.specs.Prelude.{◌≡◌, ℕ, true, false, List, [], ◌∷◌, ◌++◌, length, Option, Some, None, refl}
use Rattle.std.specs.FinMap.{entries}
use Rattle.std.specs.Option.{is_some}
use Rattle.std.proofs.Common.{ap, sym, ◌∙◌, subst, append-nil}
use Rattle.std.proofs.lemmas.List.{map-append}
use Rattle.kv_core.specs.Map.{Map, after_all}
use Rattle.kv_core.specs.Range.{KeyRange}
use Rattle.kv_core.specs.declared.change.CommitRequest.{CommitRequest}
use Rattle.kv_core.proofs.Changes.{Agree-refl}
use Rattle.kv_core.specs.declared.snapshot.ReadError.{ReadError}
use Rattle.txn.specs.Reads.{seen}
use Rattle.txn.proofs.Running.{ran_because, ran_still, ran_then}
use Rattle.record_store.specs.Steps.{DidRead}
use Rattle.metadata.specs.Layout.{Pair}
use Rattle.plan_exec.specs.Course.{Course, fails, finds, reads}
use Rattle.plan_exec.specs.Executing.{ranges_added}
use Rattle.plan_exec.specs.Levels.{head_then}
use Rattle.plan_exec.specs.Reads.{PlanRead}
use Rattle.plan_exec.specs.Streams.{GoesOn, HasGiven, HasNotGiven, StopsHere, reads_then}
use Rattle.plan_exec.proofs.Courses.{things}
use Rattle.plan_exec.specs.declared.error.ExecError.{ExecError}
use Rattle.plan_exec.specs.declared.error.ExecError.TheVariants.{OtherSchema, IndexNotReadable, Read, Corrupt, Memory}
use Rattle.plan_exec.specs.declared.level.Level.{Level}

-- ---- one course

module _ {A : Type 0} where
  -- reads and then others
  reads_both : (done more : List PlanRead) (course : Course A) → reads_then done (reads_then more course) ≡ reads_then (done ++ more) course
  reads_both [] more course = refl
  reads_both (read ∷ done) more course = ap (λ c. reads read ∷ c) (reads_both done more course)

  -- where nothing is known to come next, nothing comes
  abbrev pub HasEnded : Option A → Course A → Type 0
  HasEnded None course = course ≡ []
  HasEnded (Some a) course = Unit {0}

  -- a course that went on to what is known now
  went_on : (before after : Course A) (done : List PlanRead) (head : Option A) → GoesOn before done head after → before ≡ reads_then done (head_then head after)
  went_on before after done None (is, none) = is ∙ ap (reads_then done) (sym none)
  went_on before after done (Some a) is = is

  has_ended : (before after : Course A) (done : List PlanRead) (head : Option A) → GoesOn before done head after → HasEnded head after
  has_ended before after done None (is, none) = none
  has_ended before after done (Some a) is = tt

  -- so it went on behind other reads
  on_behind : (before mid after : Course A) (done : List PlanRead) (given : Option A) → before ≡ reads_then done mid → GoesOn mid [] given after → GoesOn before done given after
  on_behind before mid after done None is (so, none) = (is ∙ ap (reads_then done) so, none)
  on_behind before mid after done (Some a) is so = is ∙ ap (reads_then done) so

-- what is known isn't none
pub is_known : {A : Type 0} (head : Option A) → is_some head ≡ true → head ≡ None → ⊥
is_known None known none = cc
is_known (Some a) known none = cc

-- a run that only read: by what was read one course came to the other
pub record HasReadOn {A : Type 0} (maps : ℕ → Map) (before after : List Pair → Course A) (old new : CommitRequest) : Type 0 where
  pub added : List KeyRange
  pub ran : DidRead maps added old new (λ m. (done : List PlanRead) × (added ≡ ranges_added done) × (before (entries m) ≡ reads_then done (after (entries m))))

added_both : {first second : List KeyRange} (done more : List PlanRead) → first ≡ ranges_added done → second ≡ ranges_added more → first ++ second ≡ ranges_added (done ++ more)
added_both done more is so = (λ i. is i ++ so i) ∙ sym (map-append (λ (r : PlanRead). r.added) done more)

module _ {maps : ℕ → Map} {A : Type 0} where
  -- STILL: nothing was read
  pub read_on_still : {old : CommitRequest} (before : List Pair → Course A) → HasReadOn maps before before old old
  read_on_still before = record { added = []; ran = ran_still refl (λ m. ([], refl, refl)) }

  -- KNOWN: what is known to come next is given, and nothing was read
  pub given_still : {old : CommitRequest} (a : A) (course : List Pair → Course A) → HasGiven maps (λ pairs. finds a ∷ course pairs) (Some a) course old old
  given_still a course = record { added = []; ran = ran_still refl (λ m. ([], refl, refl)) }

  -- KNOWN OR NOT: what is known stays so, and else what comes next is given
  pub given_known : {old : CommitRequest} (head : Option A) (course : List Pair → Course A) → is_some head ≡ true → HasGiven maps (λ pairs. head_then head (course pairs)) head course old old
  given_known None course known = absurd (cc)
  given_known (Some a) course known = given_still a course

  pub given_unknown : {old new : CommitRequest} (head given : Option A) (course after : List Pair → Course A) → is_some head ≡ false → HasGiven maps course given after old new → HasGiven maps (λ pairs. head_then head (course pairs)) given after old new
  given_unknown None given course after unknown is = is
  given_unknown (Some a) given course after unknown is = absurd (cc)

  pub stopped_unknown : {refuses : KeyRange → ℕ → ReadError → Type 0} {e : ExecError} {old new : CommitRequest} (head : Option A) (course : List Pair → Course A) → is_some head ≡ false → HasNotGiven maps refuses course e old new → HasNotGiven maps refuses (λ pairs. head_then head (course pairs)) e old new
  stopped_unknown None course unknown stop = stop
  stopped_unknown (Some a) course unknown stop = absurd (cc)

  -- NONE: an empty course has ended
  pub given_none : {old : CommitRequest} → HasGiven {A = A} maps (λ pairs. []) None (λ pairs. []) old old
  given_none = record { added = []; ran = ran_still refl (λ m. ([], refl, (refl, refl))) }

-- ---- how much is left

-- a run that only read sees the same map behind it
pub seen_kept : {maps : ℕ → Map} {added : List KeyRange} {old new : CommitRequest} {F : Map → Type 0} → DidRead maps added old new F → seen new (maps new.read_version) ≡ seen old (maps old.read_version)
seen_kept {maps = maps} {old = old} ran = (λ i. after_all (ran.wrote i) (maps (ran.version i))) ∙ ap (λ ms. after_all ms (maps old.read_version)) (append-nil old.mutations)

module _ (maps : ℕ → Map) {A : Type 0} where
  -- how many things a course has still to find in the map that a transaction sees
  abbrev pub left_in : CommitRequest → (List Pair → Course A) → ℕ
  left_in tx course = length (things (course (entries (seen tx (maps tx.read_version)))))

  things_behind : (done : List PlanRead) (course : Course A) → things (reads_then done course) ≡ things course
  things_behind [] course = refl
  things_behind (read ∷ done) course = things_behind done course

  -- as many where the next one is known as before
  pub left_kept : {before after : List Pair → Course A} {given : Option A} {old new : CommitRequest} → HasGiven maps before given after old new → left_in new (λ pairs. head_then given (after pairs)) ≡ left_in old before
  left_kept {before = before} {after = after} {given = given} {old = old} {new = new} one =
      ap (λ m. length (things (head_then given (after (entries m))))) (seen_kept one.ran)
      ∙ sym (ap (λ c. length (things c)) (went_on (before here) (after here) fact.0 given fact.2)
      ∙ ap length (things_behind fact.0 (head_then given (after here))))
    where
      here : List Pair
      here = entries (seen old (maps old.read_version))

      fact : (done : List PlanRead) × (one.added ≡ ranges_added done) × GoesOn (before here) done given (after here)
      fact = one.ran.over (maps old.read_version) (Agree-refl new.reads (maps old.read_version))

-- ---- two courses, read by turns

-- the first one is read until its next thing is known, and then the second one
pub record ReadsInTurn {A : Type 0} (f : Course A → Course A → Course A) : Type 0 where
  pub first_reads : (read : PlanRead) (course other : Course A) → f (reads read ∷ course) other ≡ reads read ∷ f course other
  pub first_fails : (key : List ℕ) (course other : Course A) → f (fails key ∷ course) other ≡ fails key ∷ []
  pub second_reads : (head : Option A) (course : Course A) → HasEnded head course → (read : PlanRead) (other : Course A) → f (head_then head course) (reads read ∷ other) ≡ reads read ∷ f (head_then head course) other
  pub second_fails : (head : Option A) (course : Course A) → HasEnded head course → (key : List ℕ) (other : Course A) → (more : Course A) × (f (head_then head course) (fails key ∷ other) ≡ fails key ∷ more)

module _ {A : Type 0} (f : Course A → Course A → Course A) (turns : ReadsInTurn f) where
  first_read : (done : List PlanRead) (course other : Course A) → f (reads_then done course) other ≡ reads_then done (f course other)
  first_read [] course other = refl
  first_read (read ∷ done) course other = turns.first_reads read (reads_then done course) other ∙ ap (λ c. reads read ∷ c) (first_read done course other)

  second_read : (head : Option A) (course : Course A) → HasEnded head course → (done : List PlanRead) (other : Course A) → f (head_then head course) (reads_then done other) ≡ reads_then done (f (head_then head course) other)
  second_read head course ended [] other = refl
  second_read head course ended (read ∷ done) other = turns.second_reads head course ended read (reads_then done other) ∙ ap (λ c. reads read ∷ c) (second_read head course ended done other)

  -- where one of both goes no further, neither does what is made of them
  first_stops : (refuses : KeyRange → ReadError → Type 0) (e : ExecError) (rest other : Course A) → StopsHere refuses rest e → StopsHere refuses (f rest other) e
  first_stops refuses Memory rest other why = tt
  first_stops refuses (Read error) rest other (read, more, is, refused) = (read, f more other, ap (λ c. f c other) is ∙ turns.first_reads read more other, refused)
  first_stops refuses (Corrupt key) rest other (more, is) = ([], ap (λ c. f c other) is ∙ turns.first_fails key more other)
  first_stops refuses OtherSchema rest other why = absurd why
  first_stops refuses IndexNotReadable rest other why = absurd why

  second_stops : (refuses : KeyRange → ReadError → Type 0) (e : ExecError) (head : Option A) (course : Course A) → HasEnded head course → (rest : Course A) → StopsHere refuses rest e → StopsHere refuses (f (head_then head course) rest) e
  second_stops refuses Memory head course ended rest why = tt
  second_stops refuses (Read error) head course ended rest (read, more, is, refused) =
      (read, f (head_then head course) more, ap (f (head_then head course)) is ∙ turns.second_reads head course ended read more, refused)
  second_stops refuses (Corrupt key) head course ended rest (more, is) =
      let so : (left : Course A) × (f (head_then head course) (fails key ∷ more) ≡ fails key ∷ left) = turns.second_fails head course ended key more in
      (so.0, ap (f (head_then head course)) is ∙ so.1)
  second_stops refuses OtherSchema head course ended rest why = absurd why
  second_stops refuses IndexNotReadable head course ended rest why = absurd why

  module _ {maps : ℕ → Map} (before course other : List Pair → Course A) {old mid : CommitRequest} (come : HasReadOn maps before (λ pairs. f (course pairs) (other pairs)) old mid) where
    -- STOPPED in the first one
    pub first_stopped : {refuses : KeyRange → ℕ → ReadError → Type 0} {new : CommitRequest} {e : ExecError} → HasNotGiven maps refuses course e mid new → HasNotGiven maps refuses before e old new
    first_stopped {refuses = refuses} {e = e} stop = record {
      added = come.added ++ stop.added;
      ran = ran_then come.ran stop.ran (λ m (done, is, so) (more, rest, was, left, why). (
        done ++ more,
        f rest (other (entries m)),
        added_both done more is was,
        so ∙ ap (reads_then done) (ap (λ c. f c (other (entries m))) left ∙ first_read more rest (other (entries m))) ∙ reads_both done more (f rest (other (entries m))),
        subst (λ v. StopsHere (λ range. refuses range v) (f rest (other (entries m))) e) come.ran.version (first_stops (λ range. refuses range mid.read_version) e rest (other (entries m)) why),
      ));
    }

    module _ {head : Option A} {behind : List Pair → Course A} {read : CommitRequest} (first : HasGiven maps course head behind mid read) where
      -- the first one's next thing is known
      first_known : DidRead maps (come.added ++ first.added) old read (λ m. (done : List PlanRead) × (come.added ++ first.added ≡ ranges_added done) × (before (entries m) ≡ reads_then done (f (head_then head (behind (entries m))) (other (entries m)))) × HasEnded head (behind (entries m)))
      first_known = ran_then come.ran first.ran (λ m (done, is, so) (more, was, on). (
        done ++ more,
        added_both done more is was,
        so ∙ ap (reads_then done) (ap (λ c. f c (other (entries m))) (went_on (course (entries m)) (behind (entries m)) more head on) ∙ first_read more (head_then head (behind (entries m))) (other (entries m))) ∙ reads_both done more (f (head_then head (behind (entries m))) (other (entries m))),
        has_ended (course (entries m)) (behind (entries m)) more head on,
      ))

      -- STOPPED in the second one
      pub second_stopped : {refuses : KeyRange → ℕ → ReadError → Type 0} {new : CommitRequest} {e : ExecError} → HasNotGiven maps refuses other e read new → HasNotGiven maps refuses before e old new
      second_stopped {refuses = refuses} {e = e} stop = record {
        added = come.added ++ first.added ++ stop.added;
        ran = ran_then first_known stop.ran (λ m (done, is, so, ended) (more, rest, was, left, why). (
          done ++ more,
          f (head_then head (behind (entries m))) rest,
          added_both done more is was,
          so ∙ ap (reads_then done) (ap (f (head_then head (behind (entries m)))) left ∙ second_read head (behind (entries m)) ended more rest) ∙ reads_both done more (f (head_then head (behind (entries m))) rest),
          subst (λ v. StopsHere (λ range. refuses range v) (f (head_then head (behind (entries m))) rest) e) first_known.version
              (second_stops (λ range. refuses range read.read_version) e head (behind (entries m)) ended rest why),
        ));
      }

      module _ {next : Option A} {left : List Pair → Course A} {new : CommitRequest} (second : HasGiven maps other next left read new) where
        -- both next things are known
        both_known : DidRead maps (come.added ++ first.added ++ second.added) old new (λ m. (done : List PlanRead) × (come.added ++ first.added ++ second.added ≡ ranges_added done)
            × (before (entries m) ≡ reads_then done (f (head_then head (behind (entries m))) (head_then next (left (entries m))))) × HasEnded head (behind (entries m)) × HasEnded next (left (entries m)))
        both_known = ran_then first_known second.ran (λ m (done, is, so, ended) (more, was, on). (
          done ++ more,
          added_both done more is was,
          so ∙ ap (reads_then done) (ap (f (head_then head (behind (entries m)))) (went_on (other (entries m)) (left (entries m)) more next on) ∙ second_read head (behind (entries m)) ended more (head_then next (left (entries m))))
              ∙ reads_both done more (f (head_then head (behind (entries m))) (head_then next (left (entries m)))),
          ended,
          has_ended (other (entries m)) (left (entries m)) more next on,
        ))

        -- GIVEN, by what both come to
        pub both_given : {given : Option A} {after : List Pair → Course A} → ((m : List Pair) → HasEnded head (behind m) → HasEnded next (left m) → GoesOn (f (head_then head (behind m)) (head_then next (left m))) [] given (after m)) → HasGiven maps before given after old new
        both_given {given = given} {after = after} by = record {
          added = come.added ++ first.added ++ second.added;
          ran = ran_because both_known (λ m (done, is, so, one, two). (done, is, on_behind (before (entries m)) (f (head_then head (behind (entries m))) (head_then next (left (entries m)))) (after (entries m)) done given so (by (entries m) one two)));
        }

        -- READ ON, where nothing is given
        pub both_read_on : {after : List Pair → Course A} → ((m : List Pair) → HasEnded head (behind m) → HasEnded next (left m) → f (head_then head (behind m)) (head_then next (left m)) ≡ after m) → HasReadOn maps before after old new
        both_read_on by = record {
          added = come.added ++ first.added ++ second.added;
          ran = ran_because both_known (λ m (done, is, so, one, two). (done, is, so ∙ ap (reads_then done) (by (entries m) one two)));
        }

-- ---- levels

module _ {R A : Type 0} (course : R → List Pair → Course A) where
  -- what a level's stream has still to give
  abbrev pub of_stream : Level R A → List Pair → Course A
  of_stream level pairs = head_then level.head (course level.stream pairs)

  module _ {maps : ℕ → Map} where
    -- what is known of a stream is that of another level with the same stream
    pub same_stream : {old new : CommitRequest} (before : List Pair → Course A) (one two : Level R A) → two.stream ≡ one.stream → two.head ≡ one.head → HasGiven maps before one.head (course one.stream) old new → HasGiven maps before two.head (course two.stream) old new
    same_stream {old = old} {new = new} before one two same is given =
        subst (λ h. HasGiven maps before h (course two.stream) old new) (sym is) (subst (λ s. HasGiven maps before one.head (course s) old new) (sym same) given)
