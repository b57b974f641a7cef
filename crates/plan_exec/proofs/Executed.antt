-- What the call that executes a plan establishes, from what its steps do.
use Rattle.std.specs.Prelude.{◌≡◌, ℕ, List, [], Some, None, Result, Ok, Err, refl}
use Rattle.std.specs.FinMap.{entries}
use Rattle.std.specs.Result.{result_err, result_ok}
use Rattle.std.proofs.Common.{ap, sym, ◌∙◌, subst}
use Rattle.std.proofs.lemmas.Option.{same_Some}
use Rattle.kv_core.specs.Map.{Map}
use Rattle.kv_core.specs.Range.{KeyRange}
use Rattle.kv_core.specs.declared.change.CommitRequest.{CommitRequest}
use Rattle.kv_core.proofs.Changes.{Agree-refl}
use Rattle.kv_core.specs.declared.snapshot.ReadError.{ReadError}
use Rattle.txn.proofs.Running.{ran_because}
use Rattle.metadata.specs.declared.definition.TypeDefinition.{TypeDefinition}
use Rattle.metadata.specs.Record.{Record}
use Rattle.metadata.specs.Records.{of_type}
use Rattle.metadata.specs.Schema.{find_type}
use Rattle.metadata.proofs.StoredApart.{named_typed}
use Rattle.record_store.specs.Call.{AtStore, Opened}
use Rattle.record_store.proofs.Listed.{state_told_there}
use Rattle.query.specs.Query.{Allows}
use Rattle.query.specs.View.{query_of}
use Rattle.planner.specs.Asked.{AskedPlan}
use Rattle.planner.specs.Meaning.{rows_of}
use Rattle.planner.specs.Plan.{Node}
use Rattle.planner.specs.Right.{IsRightFor, ScansOwn, indexes_of}
use Rattle.planner.specs.Rising.{MergesRising}
use Rattle.metadata.specs.Layout.{Pair}
use Rattle.planner.specs.View.{plan_of}
use Rattle.planner.proofs.Lists.{member_contained}
use Rattle.planner.proofs.Residual.{each_member}
use Rattle.plan_exec.specs.Accepting.{Accepts, IsNotAccepted, IsReadableAt}
use Rattle.plan_exec.specs.Executing.{HasBegun, HasFound, HasNoMeaning, HasStopped, IsCutShort, IsExecuted}
use Rattle.plan_exec.specs.Executing.{IsExecutionRefused, IsExecutionStopped, IsGivenBefore, IsUnexecuted, damage_of}
use Rattle.plan_exec.specs.Course.{Course, node_course, outcome_of}
use Rattle.plan_exec.specs.Errors.{exec_memory}
use Rattle.plan_exec.specs.Handing.{IsExecutedUntil}
use Rattle.plan_exec.specs.Reads.{PlanRead}
use Rattle.plan_exec.specs.Rows.{RowsLevel, level_of, new_level}
use Rattle.plan_exec.specs.declared.readers.RecordsOf.{RecordsOf}
use Rattle.plan_exec.specs.declared.rows.Rows.{Rows}
use Rattle.plan_exec.specs.declared.error.ExecError.{ExecError}
use Rattle.plan_exec.specs.declared.error.ExecError.TheVariants.{OtherSchema, IndexNotReadable, Read, Corrupt, Memory}
use Rattle.plan_exec.proofs.Answers.{answers}
use Rattle.plan_exec.proofs.CourseMeanings.{node_course_ok}
use Rattle.plan_exec.proofs.Meanings.{no_rows}
use Rattle.plan_exec.proofs.Pairs.{rise_of}
use Rattle.plan_exec.proofs.Streaming.{not_memory}
use Rattle.plan_exec.proofs.Taken.{Begins, HasEndedBehind, HasGivenUntil, none_taken, taken_none, taken_stopped}

-- what is found where there is something
ok_by : {A E : Type 0} (r : Result A E) (a : A) → result_ok r ≡ Some a → r ≡ Ok a
ok_by (Ok b) a is = cc
ok_by (Err e) a is = absurd (cc)

-- the rows of a step are opened with its course
pub opened_course : (rows : Rows) (records : RecordsOf) (opened : Opened) (t : TypeDefinition) (n root : Node) → level_of rows ≡ new_level (λ pairs. node_course records.store.now.prefix pairs records.definition.value n) →
    records.store.now ≡ opened → records.definition.value ≡ t → n ≡ root → (level_of rows).stream ≡ (λ pairs. node_course opened.prefix pairs t root)
opened_course rows records opened t n root is store type same = ap (λ (level : RowsLevel). level.stream) is ∙ (λ i pairs. node_course (store i).prefix pairs (type i) (same i))

-- NOT ACCEPTED: nothing was handed out, and nothing was read
pub none_given : (maps : ℕ → Map) (refuses : KeyRange → ℕ → ReadError → Type 0) (opened : Opened) (plan : AskedPlan) (error : ExecError) (request : CommitRequest) → IsNotAccepted opened (plan_of plan) error → IsGivenBefore maps refuses opened plan [] error request request
none_given maps refuses opened plan OtherSchema request none = (none, refl, refl)
none_given maps refuses opened plan IndexNotReadable request none = (none, refl, refl)
none_given maps refuses opened plan (Read reason) request none = absurd none
none_given maps refuses opened plan (Corrupt key) request none = absurd none
none_given maps refuses opened plan Memory request none = absurd none

module _ (opened : Opened) (plan : AskedPlan) (t : TypeDefinition) (accepted : Accepts opened (plan_of plan) t) (over : ScansOwn (plan_of plan)) (right : IsRightFor (query_of plan.query) (plan_of plan)) (merges : MergesRising (plan_of plan).root) where
  -- over the map of a store that was opened so the plan has rows, and they answer its query
  pub answered : (m : Map) → AtStore opened m (λ store. (rows : List Record) × (rows_of opened.prefix (entries m) t (plan_of plan) ≡ Some rows) × Allows (query_of plan.query) (of_type t.number store.records) rows)
  answered m store holds same =
      answers opened.prefix m store (query_of plan.query) (plan_of plan) t holds right
      (named_typed store.schema plan.definition.name t holds.lawful.schema (subst (λ schema. find_type schema plan.definition.name ≡ Some t) (sym same.schema) accepted.has_type.named))
      accepted.has_type.extends
      (λ i c.
      let at : IsReadableAt opened i = each_member (IsReadableAt opened) accepted.has_indexes (member_contained i (indexes_of (plan_of plan).root) c) in record {
        there = subst (λ schema. Rattle.std.specs.Prelude.Contains schema.indexes i) (sym same.schema) at.there;
        value = (over i c).kind;
        over = (over i c).type ∙ sym accepted.has_type.extends.same_number;
        readable = state_told_there opened store i same at.there ∙ at.readable;
      })

  -- what the steps find in a map is the plan's meaning
  abbrev pub plan_course : List Pair → Course Record
  plan_course pairs = node_course opened.prefix pairs t (plan_of plan).root

  pub means : (m : Map) → result_ok (outcome_of (plan_course (entries m))).found ≡ rows_of opened.prefix (entries m) t (plan_of plan)
  means m = node_course_ok opened.prefix (entries m) t (rise_of m) (plan_of plan).root merges

  has_meaning : (m : Map) (rows : List Record) → (outcome_of (plan_course (entries m))).found ≡ Ok rows → rows_of opened.prefix (entries m) t (plan_of plan) ≡ Some rows
  has_meaning m rows found = sym (means m) ∙ ap result_ok found

  has_answer : (m : Map) (rows : List Record) → rows_of opened.prefix (entries m) t (plan_of plan) ≡ Some rows → AtStore opened m (λ store. Allows (query_of plan.query) (of_type t.number store.records) rows)
  has_answer m rows meaning store holds same =
      let (found, is, allowed) = answered m store holds same in
      subst (λ rs. Allows (query_of plan.query) (of_type t.number store.records) rs) (same_Some found rows (sym is ∙ meaning)) allowed

  -- EXECUTED
  pub executed : {maps : ℕ → Map} {old new : CommitRequest} {whole : List Pair → Course Record} (rows : List Record) → whole ≡ plan_course → HasFound maps (λ pairs. outcome_of (whole pairs)) rows old new → IsExecuted maps opened plan rows old new
  executed {maps = maps} {old = old} {new = new} rows opens says =
      let found : HasFound maps (λ pairs. outcome_of (plan_course pairs)) rows old new = subst (λ (course : List Pair → Course Record). HasFound maps (λ pairs. outcome_of (course pairs)) rows old new) opens says in
      record {
        type = t;
        accepted = accepted;
        added = found.added;
        ran = ran_because found.ran (λ m is. record { reads = is.0; undamaged = ap result_err is.1; meaning = has_meaning m rows is.1; answers = has_answer m rows (has_meaning m rows is.1) });
      }

  no_meaning : (refuses : KeyRange → ReadError → Type 0) (m : Map) (reads : List PlanRead) (added : List KeyRange) (error : ExecError) → IsExecutionStopped refuses reads (damage_of opened.prefix (entries m) t (plan_of plan).root) error added → HasNoMeaning opened plan t error m
  no_meaning refuses m reads added (Corrupt key) stopped = (unmeant, λ store holds same. let (rows, is, allowed) = answered m store holds same in absurd (let none = sym unmeant ∙ is in cc))
    where
      unmeant : rows_of opened.prefix (entries m) t (plan_of plan) ≡ None
      unmeant = sym (means m) ∙ no_rows (outcome_of (plan_course (entries m))).found key stopped.1
  no_meaning refuses m reads added OtherSchema stopped = tt
  no_meaning refuses m reads added IndexNotReadable stopped = tt
  no_meaning refuses m reads added (Read reason) stopped = tt
  no_meaning refuses m reads added Memory stopped = tt

  -- rows that were handed out begin what the steps find, and the plan's meaning
  begun : (rows : List Record) (m : Map) → Begins rows (plan_course (entries m)) → HasBegun opened plan t rows m
  begun rows m begins = record {
    found = begins.before;
    meaning = λ all meaning. begins.whole all (ok_by (outcome_of (plan_course (entries m))).found all (means m ∙ meaning));
  }

  -- EXECUTED until these rows were found
  pub executed_until : {maps : ℕ → Map} {old new : CommitRequest} {whole : List Pair → Course Record} (rows : List Record) → whole ≡ plan_course → HasGivenUntil maps whole rows old new → IsExecutedUntil maps opened plan rows old new
  executed_until {maps = maps} {old = old} {new = new} rows opens given =
      let until : HasGivenUntil maps plan_course rows old new = subst (λ (course : List Pair → Course Record). HasGivenUntil maps course rows old new) opens given in
      record { type = t; accepted = accepted; added = until.added; ran = ran_because until.ran (λ m says. (says.0, begun rows m says.1)) }

  -- NOT EXECUTED
  module _ {maps : ℕ → Map} {refuses : KeyRange → ℕ → ReadError → Type 0} {old new : CommitRequest} where
    unexecuted : (error : ExecError) → HasStopped maps refuses (λ pairs. outcome_of (plan_course pairs)) error old new → IsUnexecuted maps refuses opened plan error old new
    unexecuted error stop = record {
      type = t;
      accepted = accepted;
      added = stop.added;
      ran = ran_because stop.ran (λ m says. record { stopped = says; damage = no_meaning _ m _ stop.added error says });
    }

    refused_plan : (error : ExecError) → HasStopped maps refuses (λ pairs. outcome_of (plan_course pairs)) error old new → IsExecutionRefused maps refuses opened plan error old new
    refused_plan OtherSchema stop = absurd (stop.ran.over (maps old.read_version) (Agree-refl new.reads (maps old.read_version)))
    refused_plan IndexNotReadable stop = absurd (stop.ran.over (maps old.read_version) (Agree-refl new.reads (maps old.read_version)))
    refused_plan (Read reason) stop = unexecuted (Read reason) stop
    refused_plan (Corrupt key) stop = unexecuted (Corrupt key) stop
    refused_plan Memory stop = unexecuted Memory stop

    pub refused : {whole : List Pair → Course Record} (error : ExecError) → whole ≡ plan_course → HasStopped maps refuses (λ pairs. outcome_of (whole pairs)) error old new → IsExecutionRefused maps refuses opened plan error old new
    refused error opens stop = refused_plan error (subst (λ (course : List Pair → Course Record). HasStopped maps refuses (λ pairs. outcome_of (course pairs)) error old new) opens stop)

    -- NOT EXECUTED to its end: these rows were handed out before
    cut_short : (rows : List Record) (error : ExecError) → HasEndedBehind maps refuses plan_course rows error old new → IsCutShort maps refuses opened plan rows error old new
    cut_short rows error ended = record {
      type = t;
      accepted = accepted;
      added = ended.added;
      ran = ran_because ended.ran (λ m says. (record { stopped = says.0; damage = no_meaning _ m _ ended.added error says.0 }, begun rows m says.1));
    }

    cut_plan : (rows : List Record) (error : ExecError) → HasEndedBehind maps refuses plan_course rows error old new → IsGivenBefore maps refuses opened plan rows error old new
    cut_plan rows OtherSchema ended = absurd (ended.ran.over (maps old.read_version) (Agree-refl new.reads (maps old.read_version))).0
    cut_plan rows IndexNotReadable ended = absurd (ended.ran.over (maps old.read_version) (Agree-refl new.reads (maps old.read_version))).0
    cut_plan rows (Read reason) ended = cut_short rows (Read reason) ended
    cut_plan rows (Corrupt key) ended = cut_short rows (Corrupt key) ended
    cut_plan rows Memory ended = cut_short rows Memory ended

    pub given_before : {whole : List Pair → Course Record} (rows : List Record) (error : ExecError) → whole ≡ plan_course → HasEndedBehind maps refuses whole rows error old new → IsGivenBefore maps refuses opened plan rows error old new
    given_before rows error opens ended = cut_plan rows error (subst (λ (course : List Pair → Course Record). HasEndedBehind maps refuses course rows error old new) opens ended)

  -- MEMORY was wanting before anything was read
  pub memory_first : (maps : ℕ → Map) (refuses : KeyRange → ℕ → ReadError → Type 0) (request : CommitRequest) → IsGivenBefore maps refuses opened plan [] exec_memory request request
  memory_first maps refuses request = given_before [] exec_memory refl (none_taken plan_course)

  pub refused_first : (maps : ℕ → Map) (refuses : KeyRange → ℕ → ReadError → Type 0) (request : CommitRequest) → IsExecutionRefused maps refuses opened plan exec_memory request request
  refused_first maps refuses request = refused exec_memory refl (taken_stopped [] exec_memory (taken_none plan_course) (not_memory plan_course refl))
