-- The rows that are kept, and the first row of each key with a set of the keys that stood before: what is given of them,
-- what is left then, and where they stopped.
use Rattle.std.specs.Prelude.{◌≡◌, ℕ, Bool, true, false, cond, not, ◌||◌, List, [], ◌∷◌, ◌++◌, Some, None, refl}
use Rattle.std.specs.BTreeSet.{BTreeSet, contains}
use Rattle.std.specs.FinMap.{entries}
use Rattle.std.specs.Ordering.{eq_by_cmp}
use Rattle.std.proofs.Common.{ap, sym, ◌∙◌}
use Rattle.kv_core.specs.Map.{Map}
use Rattle.kv_core.specs.Range.{KeyRange}
use Rattle.kv_core.specs.declared.change.CommitRequest.{CommitRequest}
use Rattle.kv_core.specs.declared.snapshot.ReadError.{ReadError}
use Rattle.txn.proofs.Running.{ran_because}
use Rattle.metadata.specs.declared.cells.Cell.{Cell}
use Rattle.metadata.specs.Layout.{Pair}
use Rattle.metadata.specs.Order.{cells_cmp}
use Rattle.plan_exec.specs.Course.{Course, fails, finds, first_course, kept_course, reads}
use Rattle.plan_exec.specs.Errors.{exec_memory}
use Rattle.plan_exec.specs.Reads.{PlanRead}
use Rattle.plan_exec.specs.Streams.{HasGiven, HasNotGiven, HasOnlyRead, StopsHere, reads_then}
use Rattle.plan_exec.specs.declared.error.ExecError.{ExecError}
use Rattle.plan_exec.specs.declared.error.ExecError.TheVariants.{OtherSchema, IndexNotReadable, Read, Corrupt, Memory}
use Rattle.plan_exec.proofs.Streaming.{each_none, each_not, each_then, stops_each}

-- ---- what is kept

module _ {maps : ℕ → Map} {A : Type 0} (keeps : A → Bool) where
  -- NONE is left
  pub kept_none : {old new : CommitRequest} {before after : List Pair → Course A} → HasGiven maps before None after old new → HasGiven maps (λ pairs. kept_course keeps (before pairs)) None (λ pairs. kept_course keeps (after pairs)) old new
  kept_none one = each_none (λ pairs a. cond (keeps a) (finds a ∷ []) []) one

  -- NOT GIVEN
  pub kept_not : {refuses : KeyRange → ℕ → ReadError → Type 0} {old new : CommitRequest} {before : List Pair → Course A} (e : ExecError) → HasNotGiven maps refuses before e old new → HasNotGiven maps refuses (λ pairs. kept_course keeps (before pairs)) e old new
  kept_not e one = each_not (λ pairs a. cond (keeps a) (finds a ∷ []) []) e one

-- ---- the first of each key

-- keys, each once
abbrev pub Keys : Type 0
Keys = BTreeSet (List Cell)

-- the set has the keys of another, and this one
abbrev pub HasKeyToo : Keys → Keys → List Cell → Type 0
HasKeyToo seen now key = (q : List Cell) → contains cells_cmp now q ≡ (eq_by_cmp cells_cmp key q || contains cells_cmp seen q)

module _ {A : Type 0} (key : A → List Cell) where
  -- the key isn't in the set
  abbrev pub is_new : Keys → A → Bool
  is_new seen a = not (contains cells_cmp seen (key a))

  -- what a course finds, without that whose key is in the set or stood before
  abbrev pub fresh : Keys → Course A → Course A
  fresh seen course = kept_course (is_new seen) (first_course key course)

  -- behind one element its key is in the set
  kept_too : (seen now : Keys) (a : A) (course : Course A) → HasKeyToo seen now (key a) → kept_course (is_new seen) (kept_course (λ b. not (eq_by_cmp cells_cmp (key a) (key b))) course) ≡ kept_course (is_new now) course
  kept_too seen now a [] more = refl
  kept_too seen now a (reads read ∷ course) more = ap (λ c. reads read ∷ c) (kept_too seen now a course more)
  kept_too seen now a (finds b ∷ course) more = by (eq_by_cmp cells_cmp (key a) (key b)) (contains cells_cmp now (key b)) (more (key b)) (kept_too seen now a course more)
    where
      others : Course A
      others = kept_course (λ b. not (eq_by_cmp cells_cmp (key a) (key b))) course

      by : (tied t : Bool) → t ≡ (tied || contains cells_cmp seen (key b)) → kept_course (is_new seen) others ≡ kept_course (is_new now) course →
          kept_course (is_new seen) (cond (not tied) (finds b ∷ []) [] ++ others) ≡ cond (not t) (finds b ∷ []) [] ++ kept_course (is_new now) course
      by true t e same = same ∙ ap (λ q. cond (not q) (finds b ∷ []) [] ++ kept_course (is_new now) course) (sym e)
      by false t e same =
          (λ i. cond (is_new seen b) (finds b ∷ []) [] ++ same i)
          ∙ ap (λ q. cond (not q) (finds b ∷ []) [] ++ kept_course (is_new now) course) (sym e)
  kept_too seen now a (fails k ∷ course) more = refl

  -- reads stay in front
  first_then : (done : List PlanRead) (course : Course A) → first_course key (reads_then done course) ≡ reads_then done (first_course key course)
  first_then [] course = refl
  first_then (read ∷ done) course = ap (λ c. reads read ∷ c) (first_then done course)

  fresh_then : (seen : Keys) (done : List PlanRead) (course : Course A) → fresh seen (reads_then done course) ≡ reads_then done (fresh seen course)
  fresh_then seen done course = ap (kept_course (is_new seen)) (first_then done course) ∙ each_then (λ a. cond (is_new seen a) (finds a ∷ []) []) done (first_course key course)

  -- one whose key is new is found, and another one passed over
  fresh_one : (seen now : Keys) (a : A) (course : Course A) (new : Bool) → is_new seen a ≡ new → HasKeyToo seen now (key a) → fresh seen (finds a ∷ course) ≡ cond new (finds a ∷ []) [] ++ fresh now course
  fresh_one seen now a course new is more = λ i. cond (is i) (finds a ∷ []) [] ++ kept_too seen now a (first_course key course) more i

  -- it stops where the course stops
  stops_first : (refuses : KeyRange → ReadError → Type 0) (course : Course A) (e : ExecError) → StopsHere refuses course e → StopsHere refuses (first_course key course) e
  stops_first refuses course Memory says = tt
  stops_first refuses course (Read error) (read, rest, is, met) = (read, first_course key rest, ap (first_course key) is, met)
  stops_first refuses course (Corrupt k) (rest, is) = ([], ap (first_course key) is)
  stops_first refuses course OtherSchema says = absurd says
  stops_first refuses course IndexNotReadable says = absurd says

  module _ {maps : ℕ → Map} (seen : Keys) where
    module _ (now : Keys) (a : A) (more : HasKeyToo seen now (key a)) {old new : CommitRequest} {before after : List Pair → Course A} (one : HasGiven maps before (Some a) after old new) where
      -- GIVEN: the key is new
      pub fresh_given : is_new seen a ≡ true → HasGiven maps (λ pairs. fresh seen (before pairs)) (Some a) (λ pairs. fresh now (after pairs)) old new
      fresh_given is = record {
        added = one.added;
        ran = ran_because one.ran (λ m (done, is_added, so). (
          done,
          is_added,
          ap (fresh seen) so ∙ fresh_then seen done (finds a ∷ after (entries m)) ∙ ap (reads_then done) (fresh_one seen now a (after (entries m)) true is more),
        ));
      }

      -- GONE: it isn't
      pub fresh_gone : is_new seen a ≡ false → HasOnlyRead maps (λ pairs. fresh seen (before pairs)) (λ pairs. fresh now (after pairs)) old new
      fresh_gone is = record {
        added = one.added;
        ran = ran_because one.ran (λ m (done, is_added, so). (
          done,
          is_added,
          ap (fresh seen) so ∙ fresh_then seen done (finds a ∷ after (entries m)) ∙ ap (reads_then done) (fresh_one seen now a (after (entries m)) false is more),
        ));
      }

    -- NONE is left
    pub fresh_none : {old new : CommitRequest} {before after : List Pair → Course A} → HasGiven maps before None after old new → HasGiven maps (λ pairs. fresh seen (before pairs)) None (λ pairs. fresh seen (after pairs)) old new
    fresh_none one = record {
      added = one.added;
      ran = ran_because one.ran (λ m (done, is, so). (done, is, (ap (fresh seen) so.0 ∙ fresh_then seen done [], ap (fresh seen) so.1)));
    }

    -- NOT GIVEN
    pub fresh_not : {refuses : KeyRange → ℕ → ReadError → Type 0} {old new : CommitRequest} {before : List Pair → Course A} (e : ExecError) → HasNotGiven maps refuses before e old new → HasNotGiven maps refuses (λ pairs. fresh seen (before pairs)) e old new
    fresh_not {refuses = refuses} {old = old} e one = record {
      added = one.added;
      ran = ran_because one.ran (λ m (done, rest, is, so, says). (
        done,
        fresh seen rest,
        is,
        ap (fresh seen) so ∙ fresh_then seen done rest,
        stops_each (λ range. refuses range old.read_version) (λ b. cond (is_new seen b) (finds b ∷ []) []) (first_course key rest) e (stops_first (λ range. refuses range old.read_version) rest e says),
      ));
    }

    -- NOT GIVEN: memory was wanting once something was given
    pub fresh_memory : {refuses : KeyRange → ℕ → ReadError → Type 0} {old new : CommitRequest} {before after : List Pair → Course A} (a : A) → HasGiven maps before (Some a) after old new → HasNotGiven maps refuses (λ pairs. fresh seen (before pairs)) exec_memory old new
    fresh_memory {after = after} a one = record {
      added = one.added;
      ran = ran_because one.ran (λ m (done, is, so). (done, fresh seen (finds a ∷ after (entries m)), is, ap (fresh seen) so ∙ fresh_then seen done (finds a ∷ after (entries m)), tt));
    }
