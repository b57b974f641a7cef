-- How courses go on, and with them streams that give one thing at a time.
use Rattle.std.specs.Prelude.{◌≡◌, ◌⊎◌, ℕ, suc, ◌<◌, Bool, true, false, cond, List, [], ◌∷◌, ◌++◌, Option, Some, None, Result, Err, refl}
use Rattle.std.specs.FinMap.{entries}
use Rattle.std.specs.Result.{result_err}
use Rattle.std.proofs.Common.{ap, sym, ◌∙◌, subst, append-nil, arith, inl, inr}
use Rattle.std.proofs.lemmas.List.{map-append}
use Rattle.kv_core.specs.Map.{Map, after_all}
use Rattle.kv_core.specs.Range.{KeyRange}
use Rattle.kv_core.specs.declared.change.CommitRequest.{CommitRequest}
use Rattle.kv_core.proofs.Changes.{Agree-refl}
use Rattle.kv_core.specs.declared.snapshot.ReadError.{ReadError}
use Rattle.kv_core.specs.declared.snapshot.ReadError.TheVariants as read
use Rattle.txn.specs.Reads.{seen}
use Rattle.txn.proofs.Running.{ran_because, ran_still, ran_then}
use Rattle.record_store.specs.Steps.{DidRead}
use Rattle.record_store.proofs.Stopping.{none_begin}
use Rattle.metadata.specs.Layout.{Pair}
use Rattle.plan_exec.specs.Course.{Course, fails, finds, for_each, found_or, kept_course, outcome_of, reads}
use Rattle.plan_exec.specs.Decoding.{IsDamage}
use Rattle.plan_exec.specs.Errors.{exec_memory, exec_read}
use Rattle.plan_exec.specs.Executing.{HasStopped, IsExecutionStopped, ranges_added, ranges_asked}
use Rattle.plan_exec.specs.Reads.{PlanRead, PlanReading, or_damaged, read_first}
use Rattle.plan_exec.specs.Streams.{GoesOn, HasGiven, HasNotGiven, HasOnlyRead, StopsHere, reads_then}
use Rattle.plan_exec.specs.declared.error.ExecError.{ExecError}
use Rattle.plan_exec.specs.declared.error.ExecError.TheVariants.{OtherSchema, IndexNotReadable, Read, Corrupt, Memory}
use Rattle.plan_exec.proofs.Composing.{stop_second}

-- ---- courses

module _ {A : Type 0} where
  -- reads, and then more
  pub then_both : (done more : List PlanRead) (course : Course A) → reads_then done (reads_then more course) ≡ reads_then (done ++ more) course
  then_both [] more course = refl
  then_both (read ∷ done) more course = ap (λ c. reads read ∷ c) (then_both done more course)

  pub then_append : (done : List PlanRead) (course other : Course A) → reads_then done course ++ other ≡ reads_then done (course ++ other)
  then_append [] course other = refl
  then_append (read ∷ done) course other = ap (λ c. reads read ∷ c) (then_append done course other)

  -- what they come to
  pub outcome_then : (done : List PlanRead) (course : Course A) → outcome_of (reads_then done course) ≡ record { reads = done ++ (outcome_of course).reads; found = (outcome_of course).found }
  outcome_then [] course = refl
  outcome_then (read ∷ done) course = ap (read_first read) (outcome_then done course)

  -- how many things a course finds
  abbrev pub found_count : Course A → ℕ
  found_count [] = 0
  found_count (reads read ∷ course) = found_count course
  found_count (finds a ∷ course) = suc (found_count course)
  found_count (fails key ∷ course) = found_count course

  pub count_then : (done : List PlanRead) (course : Course A) → found_count (reads_then done course) ≡ found_count course
  count_then [] course = refl
  count_then (read ∷ done) course = count_then done course

-- something happens for each thing found behind the reads
pub each_then : {A B : Type 0} (f : A → Course B) (done : List PlanRead) (course : Course A) → for_each f (reads_then done course) ≡ reads_then done (for_each f course)
each_then f [] course = refl
each_then f (read ∷ done) course = ap (λ c. reads read ∷ c) (each_then f done course)

-- ---- where a course stops

module _ (refuses : KeyRange → ReadError → Type 0) where
  -- so stops what happens for each thing that it finds
  pub stops_each : {A B : Type 0} (f : A → Course B) (course : Course A) (e : ExecError) → StopsHere refuses course e → StopsHere refuses (for_each f course) e
  stops_each f course Memory says = tt
  stops_each f course (Read error) (read, rest, is, met) = (read, for_each f rest, ap (for_each f) is, met)
  stops_each f course (Corrupt key) (rest, is) = ([], ap (for_each f) is)
  stops_each f course OtherSchema says = absurd says
  stops_each f course IndexNotReadable says = absurd says

  -- and a longer course
  pub stops_append : {A : Type 0} (course other : Course A) (e : ExecError) → StopsHere refuses course e → StopsHere refuses (course ++ other) e
  stops_append course other Memory says = tt
  stops_append course other (Read error) (read, rest, is, met) = (read, rest ++ other, ap (λ c. c ++ other) is, met)
  stops_append course other (Corrupt key) (rest, is) = (rest ++ other, ap (λ c. c ++ other) is)
  stops_append course other OtherSchema says = absurd says
  stops_append course other IndexNotReadable says = absurd says

  -- what it comes to stops there, too
  stops_outcome : {A : Type 0} (course : Course A) (e : ExecError) → StopsHere refuses course e → IsExecutionStopped refuses (outcome_of course).reads (result_err (outcome_of course).found) e []
  stops_outcome course Memory says = none_begin (ranges_added (outcome_of course).reads)
  stops_outcome course (Read error) (read, rest, is, met) = (
    none_begin (ranges_added (outcome_of course).reads),
    record { range = read.asked; rest = ranges_asked (outcome_of rest).reads; next = ap (λ c. ranges_asked (outcome_of c).reads) is; refused = met },
  )
  stops_outcome course (Corrupt key) (rest, is) = (sym (ap (λ c. ranges_added (outcome_of c).reads) is), ap (λ c. result_err (outcome_of c).found) is)
  stops_outcome course OtherSchema says = absurd says
  stops_outcome course IndexNotReadable says = absurd says

-- ---- how streams go on

-- a course begins with a read that asks for this range
abbrev pub AsksFirst : {A : Type 0} → KeyRange → Course A → Type 0
AsksFirst range course = (first : PlanRead) × (rest : Course _) × (course ≡ reads first ∷ rest) × (first.asked ≡ range)

err_same : {A : Type 0} {key other : List ℕ} → (let r : Result A (List ℕ) = Err key in r) ≡ Err other → key ≡ other
err_same is = cc

module _ {maps : ℕ → Map} {A : Type 0} where
  -- STILL: nothing was read
  pub gone_still : {old new : CommitRequest} (before after : List Pair → Course A) → ((m : Map) → before (entries m) ≡ after (entries m)) → new ≡ old → HasOnlyRead maps before after old new
  gone_still before after same still = record { added = []; ran = ran_still still (λ m. ([], refl, same m)) }

  -- THEN: first so far, and then further
  pub gone_then : {old mid new : CommitRequest} {before between after : List Pair → Course A} → HasOnlyRead maps before between old mid → HasOnlyRead maps between after mid new → HasOnlyRead maps before after old new
  gone_then one two = record {
    added = one.added ++ two.added;
    ran = ran_then one.ran two.ran (λ m (done, is, so) (more, has, goes). (
      done ++ more,
      (λ i. is i ++ has i) ∙ sym (map-append (λ (r : PlanRead). r.added) done more),
      so ∙ ap (reads_then done) goes ∙ then_both done more _,
    ));
  }

  -- GIVEN: behind these reads
  pub gone_given : {old mid new : CommitRequest} {before between after : List Pair → Course A} (given : Option A) → HasOnlyRead maps before between old mid → HasGiven maps between given after mid new → HasGiven maps before given after old new
  gone_given {before = before} {between = between} {after = after} given one two = record {
    added = one.added ++ two.added;
    ran = ran_then one.ran two.ran (λ m (done, is, so) (more, has, goes). (
      done ++ more,
      (λ i. is i ++ has i) ∙ sym (map-append (λ (r : PlanRead). r.added) done more),
      by m done so more given goes,
    ));
  }
    where
      by : (m : Map) (done : List PlanRead) → before (entries m) ≡ reads_then done (between (entries m)) → (more : List PlanRead) (o : Option A) → GoesOn (between (entries m)) more o (after (entries m)) → GoesOn (before (entries m)) (done ++ more) o (after (entries m))
      by m done so more (Some a) goes = so ∙ ap (reads_then done) goes ∙ then_both done more (finds a ∷ after (entries m))
      by m done so more None (goes, ends) = (so ∙ ap (reads_then done) goes ∙ then_both done more [], ends)

  -- NOT GIVEN: behind these reads
  pub gone_not : {refuses : KeyRange → ℕ → ReadError → Type 0} {old mid new : CommitRequest} {before between : List Pair → Course A} {e : ExecError} → HasOnlyRead maps before between old mid → HasNotGiven maps refuses between e mid new → HasNotGiven maps refuses before e old new
  gone_not {refuses = refuses} {e = e} one two = record {
    added = one.added ++ two.added;
    ran = ran_then one.ran two.ran (λ m (done, is, so) (more, rest, has, goes, says). (
      done ++ more,
      rest,
      (λ i. is i ++ has i) ∙ sym (map-append (λ (r : PlanRead). r.added) done more),
      so ∙ ap (reads_then done) goes ∙ then_both done more rest,
      subst (λ v. StopsHere (λ range. refuses range v) rest e) one.ran.version says,
    ));
  }

  -- NOT GIVEN: memory was wanting, at once or behind reads
  pub not_memory : {refuses : KeyRange → ℕ → ReadError → Type 0} {old new : CommitRequest} (course : List Pair → Course A) → new ≡ old → HasNotGiven maps refuses course exec_memory old new
  not_memory course same = record { added = []; ran = ran_still same (λ m. ([], course (entries m), refl, refl, tt)) }

  pub gone_memory : {refuses : KeyRange → ℕ → ReadError → Type 0} {old new : CommitRequest} {before after : List Pair → Course A} → HasOnlyRead maps before after old new → HasNotGiven maps refuses before exec_memory old new
  gone_memory {after = after} one = record { added = one.added; ran = ran_because one.ran (λ m (done, is, so). (done, after (entries m), is, so, tt)) }

  -- NOT GIVEN: the read of a range, with which the course begins, was refused, or memory was wanting for it
  pub not_read : {refuses : KeyRange → ℕ → ReadError → Type 0} {old new : CommitRequest} (course : List Pair → Course A) (range : KeyRange) (error : ReadError) → ((m : Map) → AsksFirst range (course (entries m))) → new ≡ old →
      (error ≡ read.Memory) ⊎ refuses range old.read_version error → HasNotGiven maps refuses course (exec_read error) old new
  not_read {refuses = refuses} {old = old} course range error asks same says = record { added = []; ran = ran_still same (λ m. ([], course (entries m), refl, refl, by m error says)) }
    where
      met_at : (m : Map) (e : ReadError) → refuses range old.read_version e → StopsHere (λ r. refuses r old.read_version) (course (entries m)) (Read e)
      met_at m e met = let (first, rest, is, asked) = asks m in (first, rest, is, subst (λ r. refuses r old.read_version e) (sym asked) met)

      by : (m : Map) (e : ReadError) → (e ≡ read.Memory) ⊎ refuses range old.read_version e → StopsHere (λ r. refuses r old.read_version) (course (entries m)) (exec_read e)
      by m read.Memory met = tt
      by m read.TooOld (inl memory) = absurd (cc)
      by m read.TooOld (inr met) = met_at m read.TooOld met
      by m read.FutureVersion (inl memory) = absurd (cc)
      by m read.FutureVersion (inr met) = met_at m read.FutureVersion met

  -- STOPPED: where nothing more was given, what a course comes to wasn't read on
  pub not_given_stopped : {refuses : KeyRange → ℕ → ReadError → Type 0} {old new : CommitRequest} (course : List Pair → Course A) (e : ExecError) → HasNotGiven maps refuses course e old new → HasStopped maps refuses (λ pairs. outcome_of (course pairs)) e old new
  not_given_stopped {refuses = refuses} {old = old} course e one = record {
    added = one.added;
    ran = ran_because one.ran (λ m (done, rest, is, so, says).
        subst (λ (r : PlanReading (List A)). IsExecutionStopped (λ range. refuses range old.read_version) r.reads (result_err r.found) e one.added) (sym (ap outcome_of so ∙ outcome_then done rest))
        (subst (IsExecutionStopped (λ range. refuses range old.read_version) (done ++ (outcome_of rest).reads) (result_err (outcome_of rest).found) e) (append-nil (ranges_added done) ∙ sym is)
        (stop_second (λ range. refuses range old.read_version) done (outcome_of rest) e [] (stops_outcome (λ range. refuses range old.read_version) rest e says))));
  }

  -- GIVEN, or not: what was found at the begin of a course
  pub found_given : {old : CommitRequest} (key : List ℕ) (o : Option A) (a : A) (rest : List Pair → Course A) → o ≡ Some a → HasGiven maps (λ pairs. found_or key o ++ rest pairs) (Some a) rest old old
  found_given key o a rest is = record { added = []; ran = ran_still refl (λ m. ([], refl, ap (λ x. found_or key x ++ rest (entries m)) is)) }

  pub damaged_not : {refuses : KeyRange → ℕ → ReadError → Type 0} {old : CommitRequest} (key : List ℕ) (o : Option A) (e : ExecError) (rest : List Pair → Course A) → IsDamage (or_damaged key o) e → HasNotGiven maps refuses (λ pairs. found_or key o ++ rest pairs) e old old
  damaged_not {refuses = refuses} {old = old} key o e rest says = record { added = []; ran = ran_still refl (λ m. ([], found_or key o ++ rest (entries m), refl, refl, by m e says)) }
    where
      shown : (m : Map) (k : List ℕ) (x : Option A) → or_damaged key x ≡ Err k → found_or key x ++ rest (entries m) ≡ fails k ∷ rest (entries m)
      shown m k None is = ap (λ k. fails k ∷ rest (entries m)) (err_same is)
      shown m k (Some a) is = absurd (cc)

      by : (m : Map) (e : ExecError) → IsDamage (or_damaged key o) e → StopsHere (λ range. refuses range old.read_version) (found_or key o ++ rest (entries m)) e
      by m Memory s = tt
      by m (Corrupt k) s = (rest (entries m), shown m k o s)
      by m (Read error) s = absurd s
      by m OtherSchema s = absurd s
      by m IndexNotReadable s = absurd s

-- nothing was given
pub given_none : {maps : ℕ → Map} {A : Type 0} {old new : CommitRequest} {before after : List Pair → Course A} (given : Option A) → ((a : A) → given ≡ Some a → ⊥) → HasGiven maps before given after old new → HasGiven maps before None after old new
given_none (Some a) not one = absurd (not a refl)
given_none None not one = one

-- ---- something happens for each thing given

-- what happens for what a course finds
abbrev pub each_of : {A B : Type 0} → (List Pair → A → Course B) → (List Pair → Course A) → List Pair → Course B
each_of f course pairs = for_each (f pairs) (course pairs)

module _ {maps : ℕ → Map} {A B : Type 0} (f : List Pair → A → Course B) where
  pub gone_each : {old new : CommitRequest} {before after : List Pair → Course A} → HasOnlyRead maps before after old new → HasOnlyRead maps (each_of f before) (each_of f after) old new
  gone_each {after = after} one = record {
    added = one.added;
    ran = ran_because one.ran (λ m (done, is, so). (done, is, ap (for_each (f (entries m))) so ∙ each_then (f (entries m)) done (after (entries m))));
  }

  -- ONE was given: something happens for it, and then for each further one
  pub each_some : {old new : CommitRequest} {before after : List Pair → Course A} (a : A) → HasGiven maps before (Some a) after old new → HasOnlyRead maps (each_of f before) (λ pairs. f pairs a ++ each_of f after pairs) old new
  each_some {after = after} a one = record {
    added = one.added;
    ran = ran_because one.ran (λ m (done, is, so). (done, is, ap (for_each (f (entries m))) so ∙ each_then (f (entries m)) done (finds a ∷ after (entries m))));
  }

  -- NONE is left
  pub each_none : {old new : CommitRequest} {before after : List Pair → Course A} → HasGiven maps before None after old new → HasGiven maps (each_of f before) None (each_of f after) old new
  each_none one = record {
    added = one.added;
    ran = ran_because one.ran (λ m (done, is, so). (done, is, (ap (for_each (f (entries m))) so.0 ∙ each_then (f (entries m)) done [], ap (for_each (f (entries m))) so.1)));
  }

  -- NOT GIVEN
  pub each_not : {refuses : KeyRange → ℕ → ReadError → Type 0} {old new : CommitRequest} {before : List Pair → Course A} (e : ExecError) → HasNotGiven maps refuses before e old new → HasNotGiven maps refuses (each_of f before) e old new
  each_not {refuses = refuses} {old = old} e one = record {
    added = one.added;
    ran = ran_because one.ran (λ m (done, rest, is, so, says). (
      done,
      for_each (f (entries m)) rest,
      is,
      ap (for_each (f (entries m))) so ∙ each_then (f (entries m)) done rest,
      stops_each (λ range. refuses range old.read_version) (f (entries m)) rest e says,
    ));
  }

-- ---- a course and another one behind it

module _ {maps : ℕ → Map} {A : Type 0} (course rest : List Pair → Course A) where
  -- the one thing that the first one finds was given
  pub given_front : {old new : CommitRequest} (a : A) → HasGiven maps course (Some a) (λ pairs. []) old new → HasGiven maps (λ pairs. course pairs ++ rest pairs) (Some a) rest old new
  given_front a one = record {
    added = one.added;
    ran = ran_because one.ran (λ m (done, is, so). (done, is, ap (λ c. c ++ rest (entries m)) so ∙ then_append done (finds a ∷ []) (rest (entries m))));
  }

  pub not_front : {refuses : KeyRange → ℕ → ReadError → Type 0} {old new : CommitRequest} (e : ExecError) → HasNotGiven maps refuses course e old new → HasNotGiven maps refuses (λ pairs. course pairs ++ rest pairs) e old new
  not_front {refuses = refuses} {old = old} e one = record {
    added = one.added;
    ran = ran_because one.ran (λ m (done, more, is, so, says). (
      done,
      more ++ rest (entries m),
      is,
      ap (λ c. c ++ rest (entries m)) so ∙ then_append done more (rest (entries m)),
      stops_append (λ range. refuses range old.read_version) more (rest (entries m)) e says,
    ));
  }

-- ---- how much is left

module _ {maps : ℕ → Map} {added : List KeyRange} {old new : CommitRequest} {F : Map → Type 0} (ran : DidRead maps added old new F) where
  -- a run of reads leaves the map seen over the snapshot as it is, and its fact stands of it
  pub same_seen : seen new (maps new.read_version) ≡ seen old (maps old.read_version)
  same_seen = (λ i. after_all (ran.wrote i) (maps (ran.version i))) ∙ ap (λ ms. after_all ms (maps old.read_version)) (append-nil old.mutations)

  pub ran_here : F (seen old (maps old.read_version))
  ran_here = ran.over (maps old.read_version) (Agree-refl new.reads (maps old.read_version))

-- how many things a stream has still to give
abbrev pub count_left : {A : Type 0} → (ℕ → Map) → (List Pair → Course A) → CommitRequest → ℕ
count_left maps course tx = found_count (course (entries (seen tx (maps tx.read_version))))

module _ {maps : ℕ → Map} {A : Type 0} where
  -- FEWER: behind each one that was given
  pub given_fewer : {old new : CommitRequest} {before after : List Pair → Course A} (a : A) → HasGiven maps before (Some a) after old new → count_left maps after new < count_left maps before old
  given_fewer {old = old} {before = before} {after = after} a one =
      let (done, is, so) = ran_here one.ran in
      let m : Map = seen old (maps old.read_version) in
      let count : found_count (before (entries m)) ≡ suc (found_count (after (entries m))) = ap found_count so ∙ count_then done (finds a ∷ after (entries m)) in
      subst (λ (m : Map). found_count (after (entries m)) < count_left maps before old) (sym (same_seen one.ran)) (omega (arith, count))

  -- reads alone leave the number as it is
  pub same_left : {added : List KeyRange} {old new : CommitRequest} {F : Map → Type 0} (course : List Pair → Course A) → DidRead maps added old new F → count_left maps course new ≡ count_left maps course old
  same_left course ran = ap (λ (m : Map). found_count (course (entries m))) (same_seen ran)

-- ---- streams that are made of others

module _ {maps : ℕ → Map} {A B : Type 0} (f : List Pair → A → Course B) {old mid new : CommitRequest} {before after : List Pair → Course A} (a : A) (one : HasGiven maps before (Some a) after old mid) where
  -- what was given makes a course that gave something, and nothing more
  pub each_given : (b : B) → HasGiven maps (λ pairs. f pairs a) (Some b) (λ pairs. []) mid new → HasGiven maps (each_of f before) (Some b) (each_of f after) old new
  each_given b two = gone_given (Some b) (each_some f a one) (given_front (λ pairs. f pairs a) (each_of f after) b two)

  -- or it stopped
  pub each_stopped : {refuses : KeyRange → ℕ → ReadError → Type 0} (e : ExecError) → HasNotGiven maps refuses (λ pairs. f pairs a) e mid new → HasNotGiven maps refuses (each_of f before) e old new
  each_stopped e two = gone_not (each_some f a one) (not_front (λ pairs. f pairs a) (each_of f after) e two)

-- of each thing something is made, or its key is damaged
module _ {maps : ℕ → Map} {A B : Type 0} (key : A → List ℕ) (made : A → Option B) {old new : CommitRequest} {before after : List Pair → Course A} (a : A) (one : HasGiven maps before (Some a) after old new) where
  pub made_given : (b : B) → made a ≡ Some b → HasGiven maps (each_of (λ pairs a. found_or (key a) (made a)) before) (Some b) (each_of (λ pairs a. found_or (key a) (made a)) after) old new
  made_given b is = gone_given (Some b) (each_some (λ pairs a. found_or (key a) (made a)) a one) (found_given (key a) (made a) b (each_of (λ pairs a. found_or (key a) (made a)) after) is)

  pub made_not : {refuses : KeyRange → ℕ → ReadError → Type 0} (e : ExecError) → IsDamage (or_damaged (key a) (made a)) e → HasNotGiven maps refuses (each_of (λ pairs a. found_or (key a) (made a)) before) e old new
  made_not e says = gone_not (each_some (λ pairs a. found_or (key a) (made a)) a one) (damaged_not (key a) (made a) e (each_of (λ pairs a. found_or (key a) (made a)) after) says)

-- some things are kept
module _ {maps : ℕ → Map} {A : Type 0} (keeps : A → Bool) {old new : CommitRequest} {before after : List Pair → Course A} (a : A) (one : HasGiven maps before (Some a) after old new) where
  -- one that is kept was given
  pub kept_given : keeps a ≡ true → HasGiven maps (λ pairs. kept_course keeps (before pairs)) (Some a) (λ pairs. kept_course keeps (after pairs)) old new
  kept_given keep = gone_given (Some a) (each_some (λ pairs a. cond (keeps a) (finds a ∷ []) []) a one) (record {
    added = [];
    ran = ran_still refl (λ m. ([], refl, ap (λ b. cond b (finds a ∷ []) [] ++ kept_course keeps (after (entries m))) keep));
  })

  -- one that isn't was passed over
  pub kept_gone : keeps a ≡ false → HasOnlyRead maps (λ pairs. kept_course keeps (before pairs)) (λ pairs. kept_course keeps (after pairs)) old new
  kept_gone not = gone_then (each_some (λ pairs a. cond (keeps a) (finds a ∷ []) []) a one)
      (gone_still (λ pairs. cond (keeps a) (finds a ∷ []) [] ++ kept_course keeps (after pairs)) (λ pairs. kept_course keeps (after pairs))
      (λ m. ap (λ b. cond b (finds a ∷ []) [] ++ kept_course keeps (after (entries m))) not) refl)
