-- What executing plans comes to as commands.
use Rattle.std.proofs.Common.{◌≡◌, ℕ, Bool, true, false, ◌&&◌, cond, List, [], ◌∷◌, ◌++◌, inl, inr, map, refl, sym, ap, subst, ◌∙◌, Option, Some, None}
use Rattle.std.specs.Prelude.{option_and_then}
use Rattle.std.specs.FinMap.{entries}
use Rattle.std.specs.List.{AllByRecursion, list_all}
use Rattle.std.proofs.lemmas.Bool.{and_parts}
use Rattle.kv_core.specs.Range.{KeyRange}
use Rattle.kv_core.specs.Map.{Map}
use Rattle.kv_core.specs.declared.change.CommitRequest.{CommitRequest}
use Rattle.kv_core.specs.declared.snapshot.ReadError.{ReadError}
use Rattle.txn.proofs.Running.{ran_then}
use Rattle.metadata.specs.declared.definition.TypeDefinition.{TypeDefinition}
use Rattle.metadata.specs.Record.{Record}
use Rattle.metadata.specs.Records.{of_type}
use Rattle.metadata.specs.declared.index.IndexDefinition.{IndexDefinition}
use Rattle.metadata.specs.declared.index.State.{State}
use Rattle.metadata.specs.Schema.{Schema, find_type}
use Rattle.record_store.specs.declared.error.StoreError.{StoreError}
use Rattle.record_store.specs.declared.error.StoreError.TheVariants as fault
use Rattle.record_store.specs.Call.{AtStore, IsOpenAs, Opened, Reading, whole}
use Rattle.record_store.specs.Call as call
use Rattle.record_store.specs.Holds.{Holds}
use Rattle.record_store.specs.Opening.{AtSerials, HasSchema, IsOpened, IsThereAs, opening_reach}
use Rattle.record_store.specs.Steps.{IsBeginning, IsNextRefused}
use Rattle.record_store.specs.Store.{Serial, Store, listed_states}
use Rattle.record_store.specs.Layout.{store_prefix}
use Rattle.record_store.proofs.Stopping.{begin_behind}
use Rattle.query.specs.Query.{Allows}
use Rattle.query.specs.View.{query_of}
use Rattle.planner.specs.Asked.{AskedPlan}
use Rattle.planner.specs.Plan.{Plan}
use Rattle.planner.specs.Right.{indexes_of}
use Rattle.planner.specs.View.{plan_of}
use Rattle.plan_exec.specs.Accepting.{Accepts, HasType, IsNotAccepted, IsReadableAt, extends, may_read}
use Rattle.plan_exec.specs.Executing.{HasNoRows, HasRows, IsExecuted, asks_of, damage_of, reads_of}
use Rattle.plan_exec.specs.declared.error.ExecError.{ExecError}
use Rattle.plan_exec.specs.declared.error.ExecError.TheVariants as execution
use Rattle.plan_exec.proofs.Accepted.{all_readable, extends-Decides, found_name}
use Rattle.schedule.specs.declared.refusal.Refusal.{Refusal}
use Rattle.schedule.specs.declared.refusal.Refusal.TheVariants.{IndexNotReadable, OtherSchema}
use Rattle.schedule.specs.declared.step.Command.{Command}
use Rattle.schedule.specs.declared.step.Command.TheVariants.{Execute}
use Rattle.schedule.specs.declared.reply.Reply.{Reply}
use Rattle.schedule.specs.declared.reply.Reply.TheVariants as reply
use Rattle.schedule.specs.Query.{opened_as}
use Rattle.schedule.specs.Serve.{IsReply, effect}
use Rattle.schedule.specs.Holds.{Stands}
use Rattle.schedule.specs.Executed.{PlanSteps, plan_steps, steps_damage, steps_reading, steps_with}
use Rattle.schedule.specs.Executions.{IsExecution, IsNoExecution, found, other_schema, unreadable}
use Rattle.schedule.specs.Reach.{opened_in, added_by, open_reach, own_damage, own_reading, reach, writes}
use Rattle.schedule.specs.Performed.{IsCommandSound, IsPerformed, IsPerformedAt, IsReadRefusedAs}
use Rattle.schedule.specs.Calls.{IsCommandRefused}
use Rattle.schedule.proofs.Outcomes.{answered_as, at_serial, begin_serial, located}
use Rattle.schedule.proofs.Looking.{Looks, looked}
use Rattle.schedule.proofs.Reached.{all_added, next_within, own_asked, told_refusal}
use Rattle.schedule.proofs.Stops.{IsRight, IsStop, at, opened_is, opened_same, read_right, refused_by, served_idle, stop_memory, told_damage, told_read}

-- what a command is that executes the steps of a plan over the store's type: it reads what they read, and at each store that was opened so rows that answer the plan's query are its reply
pub record Executes (number : ℕ) (opened : Opened) (command : Command) (plan : AskedPlan) (t : TypeDefinition) : Type 0 where
  pub opens : open_reach number command ≡ opening_reach (store_prefix number)
  pub reads : own_reading (Some opened) command ≡ steps_reading opened (Some (t, (plan_of plan).root))
  pub damage : (m : Map) → own_damage (Some opened) command m ≡ damage_of opened.prefix (entries m) t (plan_of plan).root
  pub idle : (m : Map) (store : Store) → writes number m (Some store) command ≡ []
  pub leaves : (store : Store) → effect (Some store) command ≡ Some store
  pub replies : (store : Store) → IsOpenAs opened store → (rows : List Record) → Allows (query_of plan.query) (of_type t.number store.records) rows → IsReply (Some store) command (reply.Rows (map (λ r. r.cells) rows))

module _ (number : ℕ) (opened : Opened) (command : Command) (plan : AskedPlan) (t : TypeDefinition) (so : Executes number (at number opened) command plan t) (ranges : List KeyRange) (m : Map) where
  -- the ranges of the opening, and behind them those of the steps
  all_ranges : ranges ≡ reads_of (store_prefix number) (entries m) t (plan_of plan).root → opening_reach (store_prefix number) ++ ranges ≡ added_by number (Some (at number opened)) command m
  all_ranges is i = sym so.opens i ++ (is ∙ ap (λ (r : Reading). r.added m) (sym so.reads)) i

  first_ranges : IsBeginning ranges (reads_of (store_prefix number) (entries m) t (plan_of plan).root) → IsBeginning (opening_reach (store_prefix number) ++ ranges) (added_by number (Some (at number opened)) command m)
  first_ranges begin =
      subst (λ (r : Reading). IsBeginning (opening_reach (store_prefix number) ++ ranges) (open_reach number command ++ r.added m)) (sym so.reads)
      (subst (λ first. IsBeginning (opening_reach (store_prefix number) ++ ranges) (first ++ reads_of (store_prefix number) (entries m) t (plan_of plan).root)) (sym so.opens) (begin_behind (opening_reach (store_prefix number)) begin))

-- EXECUTED: a store was opened, and a plan executed
executed_at : (number : ℕ) {maps : ℕ → Map} {refuses : KeyRange → ReadError → Type 0} {old mid new : CommitRequest} (opened : Opened) (command : Command) (plan : AskedPlan) (rows : List Record) →
    ((t : TypeDefinition) → Accepts (at number opened) (plan_of plan) t → Executes number (at number opened) command plan t) → IsOpened maps (at number opened) old mid → IsExecuted maps (at number opened) plan rows mid new →
    IsPerformed number maps refuses command (reply.Rows (map (λ r. r.cells) rows)) old new
executed_at number {refuses = refuses} {old = old} opened command plan rows executes is_opened is = record {
  opened = Some (at number opened);
  added = opening_reach (store_prefix number) ++ is.added;
  written = [];
  changes = refl;
  ran = ran_then is_opened.ran is.ran (λ m has fact. (
    record {
      there = (refl, has.0);
      reads = all_added answer (all_ranges number opened command plan is.type so is.added m fact.reads);
      told = sound m fact;
    },
    λ serial stands. here m fact serial stands (has.1 serial stands),
  ));
}
  where
    answer : Reply
    answer = reply.Rows (map (λ r. r.cells) rows)

    so : Executes number (at number opened) command plan is.type
    so = executes is.type is.accepted

    sound : (m : Map) → HasRows (at number opened) plan is.type rows is.added m → IsCommandSound number (Some (at number opened)) command answer m
    sound m fact = (
      subst (λ (r : Reading). call.IsSound (at number opened) r m) (sym so.reads) tt,
      so.damage m ∙ fact.undamaged,
    )

    here : (m : Map) → HasRows (at number opened) plan is.type rows is.added m → (serial : Serial) → Stands number m serial → IsThereAs (at number opened) serial →
        IsPerformedAt number refuses command answer old.mutations [] (opening_reach (store_prefix number) ++ is.added) m serial
    here m fact None stands has = absurd has
    here m fact (Some store) stands has = record {
      right = inl (served_idle number m old.mutations (Some store) command answer (so.idle m store) (so.replies store has rows (fact.answers store stands has)));
      wrote = sym (so.idle m store);
      holds = subst (Stands number m) (sym (so.leaves store)) stands;
      reads = all_added answer (at_serial number opened command m (Some store) (opening_reach (store_prefix number) ++ is.added) stands has (all_ranges number opened command plan is.type so is.added m fact.reads));
    }

-- NOT EXECUTED: a store was opened, and a plan wasn't executed
unexecuted_at : (number : ℕ) {maps : ℕ → Map} {refuses : KeyRange → ℕ → ReadError → Type 0} {old mid new : CommitRequest} (opened : Opened) (command : Command) (plan : AskedPlan) (error : StoreError) →
    ((t : TypeDefinition) → Accepts (at number opened) (plan_of plan) t → Executes number (at number opened) command plan t) → IsOpened maps (at number opened) old mid → IsNoExecution maps refuses (at number opened) plan error mid new →
    IsCommandRefused number maps refuses command error old new
unexecuted_at number {maps = maps} {refuses = refuses} {old = old} {mid = mid} {new = new} opened command plan error executes is_opened met_error = by_error error met_error
  where
    refused : KeyRange → ReadError → Type 0
    refused range = refuses range old.read_version

    same_version : mid.read_version ≡ old.read_version
    same_version = is_opened.ran.version

    HasRead : Map → Type 0
    HasRead m = HasSchema (at number opened) m × AtSerials (store_prefix number) m (IsThereAs (at number opened))

    Met : TypeDefinition → ExecError → List KeyRange → Map → Type 0
    Met t why ranges m = HasNoRows (λ range. refuses range mid.read_version) (at number opened) plan t why ranges m

    memory : (t : TypeDefinition) → Executes number (at number opened) command plan t → (ranges : List KeyRange) (m : Map) → HasRead m → Met t execution.Memory ranges m → IsStop number refused (Some (at number opened)) command old.mutations fault.Memory (opening_reach (store_prefix number) ++ ranges) m
    memory t so ranges m has met =
        stop_memory number refused (Some (at number opened)) command old.mutations (opening_reach (store_prefix number) ++ ranges) m (refl, has.0) (first_ranges number opened command plan t so ranges m met.stopped)
        (λ serial stands. begin_serial number opened command m serial (opening_reach (store_prefix number) ++ ranges) stands (has.1 serial stands) (first_ranges number opened command plan t so ranges m met.stopped))

    unread : (t : TypeDefinition) → Executes number (at number opened) command plan t → (reason : ReadError) (ranges : List KeyRange) (m : Map) → HasRead m → Met t (execution.Read reason) ranges m → IsStop number refused (Some (at number opened)) command old.mutations (fault.Read reason) (opening_reach (store_prefix number) ++ ranges) m
    unread t so reason ranges m has met = record {
      there = (refl, has.0);
      reads = first_ranges number opened command plan t so ranges m met.stopped.0;
      told = λ answer same. told_read number (Some (at number opened)) command reason answer m same;
      held = λ serial stands. (
        λ answer same. inr (read_right refused (reach number (opened_in number serial) command m) reason answer same
            (subst (λ s. IsReadRefusedAs refused (reach number s command m) reason) (sym (opened_is number (at number opened) serial refl (has.1 serial stands)))
            (next_within refused (asks_of (store_prefix number) (entries m) t (plan_of plan).root) ranges (reach number (Some (at number opened)) command m) reason (own_asked number (Some (at number opened)) command m (steps_reading (at number opened) (Some (t, (plan_of plan).root))) so.reads)
            (subst (λ v. IsNextRefused (λ range. refuses range v) (asks_of (store_prefix number) (entries m) t (plan_of plan).root) ranges reason) same_version met.stopped.1)))),
        begin_serial number opened command m serial (opening_reach (store_prefix number) ++ ranges) stands (has.1 serial stands) (first_ranges number opened command plan t so ranges m met.stopped.0),
      );
    }

    damaged : (t : TypeDefinition) → Executes number (at number opened) command plan t → (key : List ℕ) (ranges : List KeyRange) (m : Map) → HasRead m → Met t (execution.Corrupt key) ranges m → IsStop number refused (Some (at number opened)) command old.mutations (fault.Corrupt key) (opening_reach (store_prefix number) ++ ranges) m
    damaged t so key ranges m has met = record {
      there = (refl, has.0);
      reads = all_ranges number opened command plan t so ranges m met.stopped.0;
      told = λ answer same. told_damage number (Some (at number opened)) command key answer m same (inr (so.damage m ∙ met.stopped.1));
      held = λ serial stands. none serial stands (has.1 serial stands);
    }
      where
        none : (serial : Serial) → Holds (store_prefix number) m serial → IsThereAs (at number opened) serial → IsRight number refused command old.mutations (fault.Corrupt key) m serial × (opening_reach (store_prefix number) ++ ranges ≡ added_by number (opened_in number serial) command m)
        none None holds not = absurd not
        none (Some store) holds same = absurd (met.damage.1 store holds same)

    by_error : (error : StoreError) → IsNoExecution maps refuses (at number opened) plan error mid new → IsCommandRefused number maps refuses command error old new
    by_error fault.Memory is = refused_by number command (Some (at number opened)) fault.Memory (opening_reach (store_prefix number) ++ is.added) (ran_then is_opened.ran is.ran (λ m has met. memory is.type (executes is.type is.accepted) is.added m has met))
    by_error (fault.Read reason) is = refused_by number command (Some (at number opened)) (fault.Read reason) (opening_reach (store_prefix number) ++ is.added) (ran_then is_opened.ran is.ran (λ m has met. unread is.type (executes is.type is.accepted) reason is.added m has met))
    by_error (fault.Corrupt key) is = refused_by number command (Some (at number opened)) (fault.Corrupt key) (opening_reach (store_prefix number) ++ is.added) (ran_then is_opened.ran is.ran (λ m has met. damaged is.type (executes is.type is.accepted) key is.added m has met))
    by_error (fault.Write reason) is = absurd is
    by_error (fault.Refused refusal) is = absurd is
    by_error fault.NoStore is = absurd is
    by_error fault.AlreadyThere is = absurd is
    by_error fault.OtherSchema is = absurd is
    by_error fault.NotAggregate is = absurd is
    by_error fault.NotReadable is = absurd is
    by_error fault.WrongState is = absurd is
    by_error fault.NotBuilt is = absurd is

-- ---- the same where the opened store stands at the store's prefix

module _ (number : ℕ) {maps : ℕ → Map} {old mid new : CommitRequest} (opened : Opened) (command : Command) (plan : AskedPlan) (here : opened.prefix ≡ store_prefix number)
    (executes : (t : TypeDefinition) → Accepts (at number opened) (plan_of plan) t → Executes number (at number opened) command plan t) (is_opened : IsOpened maps opened old mid) where
  -- EXECUTED
  pub executed : {refuses : KeyRange → ReadError → Type 0} (rows : List Record) → IsExecuted maps opened plan rows mid new → IsPerformed number maps refuses command (reply.Rows (map (λ r. r.cells) rows)) old new
  executed rows is =
      executed_at number opened command plan rows executes (subst (λ o. IsOpened maps o old mid) (located number opened here) is_opened) (subst (λ o. IsExecuted maps o plan rows mid new) (located number opened here) is)

  -- NOT EXECUTED
  pub unexecuted : {refuses : KeyRange → ℕ → ReadError → Type 0} (error : StoreError) → IsNoExecution maps refuses opened plan error mid new → IsCommandRefused number maps refuses command error old new
  unexecuted {refuses = refuses} error is =
      unexecuted_at number opened command plan error executes (subst (λ o. IsOpened maps o old mid) (located number opened here) is_opened) (subst (λ o. IsNoExecution maps refuses o plan error mid new) (located number opened here) is)

-- ---- a plan that is given

-- whether a store accepts a plan doesn't depend on its prefix
module _ (schema : Schema) (states : List (ℕ × State)) (p q : List ℕ) (plan : Plan) where
  abbrev under : List ℕ → Opened
  under prefix = record { prefix = prefix; schema = schema; states = states }

  readable_under : (is : List IndexDefinition) → AllByRecursion (IsReadableAt (under p)) is → AllByRecursion (IsReadableAt (under q)) is
  readable_under [] all = tt
  readable_under (i ∷ is) all = (record { there = all.0.there; readable = all.0.readable }, readable_under is all.1)

  typed_under : (t : TypeDefinition) → HasType (under p) plan t → HasType (under q) plan t
  typed_under t has = record { named = has.named; extends = has.extends }

  accepts_under : (t : TypeDefinition) → Accepts (under p) plan t → Accepts (under q) plan t
  accepts_under t is = record { has_type = typed_under t is.has_type; has_indexes = readable_under (indexes_of plan.root) is.has_indexes }

module _ (store : Store) (p q : List ℕ) (plan : Plan) where
  lacks_type_under : IsNotAccepted (opened_as p store) plan execution.OtherSchema → IsNotAccepted (opened_as q store) plan execution.OtherSchema
  lacks_type_under lacks = λ t has. lacks t (typed_under store.schema (listed_states store) q p plan t has)

  lacks_index_under : IsNotAccepted (opened_as p store) plan execution.IndexNotReadable → IsNotAccepted (opened_as q store) plan execution.IndexNotReadable
  lacks_index_under lacks = ((lacks.0.0, typed_under store.schema (listed_states store) p q plan lacks.0.0 lacks.0.1), λ all. lacks.1 (readable_under store.schema (listed_states store) q p plan (indexes_of plan.root) all))

-- the steps of a plan that is accepted
accepted_steps : (opened : Opened) (plan : Plan) (t : TypeDefinition) → Accepts opened plan t → plan_steps opened plan ≡ Some (t, plan.root)
accepted_steps opened plan t accepted =
    ap (option_and_then (steps_with opened plan)) accepted.has_type.named
    ∙ ap (λ b. cond {A = Option PlanSteps} b (Some (t, plan.root)) None) (λ i. (extends-Decides plan.definition t accepted.has_type.extends.same_name).1 accepted.has_type.extends i && (all_readable opened (indexes_of plan.root)).1 accepted.has_indexes i)

-- there are none of a plan that isn't
unaccepted_steps : (opened : Opened) (plan : Plan) → ((t : TypeDefinition) → Accepts opened plan t → ⊥) → plan_steps opened plan ≡ None
unaccepted_steps opened plan not = by_type (find_type opened.schema plan.definition.name) refl
  where
    by_test : (t : TypeDefinition) → find_type opened.schema plan.definition.name ≡ Some t → (b : Bool) → (extends plan.definition t && list_all (may_read opened) (indexes_of plan.root)) ≡ b → cond {A = Option PlanSteps} b (Some (t, plan.root)) None ≡ None
    by_test t named false is = refl
    by_test t named true is =
        let both = and_parts (extends plan.definition t) (list_all (may_read opened) (indexes_of plan.root)) is in
        absurd (not t (record {
          has_type = record { named = named; extends = (extends-Decides plan.definition t (found_name plan.definition.name opened.schema.types t named)).0 both.0 };
          has_indexes = (all_readable opened (indexes_of plan.root)).0 both.1;
        }))

    by_type : (o : Option TypeDefinition) → find_type opened.schema plan.definition.name ≡ o → option_and_then (steps_with opened plan) o ≡ None
    by_type None is = refl
    by_type (Some t) is = by_test t is (extends plan.definition t && list_all (may_read opened) (indexes_of plan.root)) refl

module _ (number : ℕ) (opened : Opened) (plan : AskedPlan) where
  pub plan_executes : plan.definition.name ≡ (query_of plan.query).record_type → (t : TypeDefinition) → Accepts (at number opened) (plan_of plan) t → Executes number (at number opened) (Execute plan) plan t
  plan_executes named t accepted = record {
    opens = refl;
    reads = ap (steps_reading (at number opened)) steps;
    damage = λ m. ap (λ s. steps_damage (at number opened) s m) steps;
    idle = λ m store. refl;
    leaves = λ store. refl;
    replies = λ store same rows allowed. (
      (t, accepts_under store.schema (listed_states store) (store_prefix number) [] (plan_of plan) t (subst (λ o. Accepts o (plan_of plan) t) (opened_same number opened store same) accepted)),
      record {
        type = t;
        named = ap (find_type store.schema) (sym named) ∙ ap (λ s. find_type s plan.definition.name) same.schema ∙ accepted.has_type.named;
        rows = rows;
        allowed = allowed;
        shown = refl;
      },
    );
  }
    where
      steps : plan_steps (at number opened) (plan_of plan) ≡ Some (t, (plan_of plan).root)
      steps = accepted_steps (at number opened) (plan_of plan) t accepted

  module _ (refusal : Refusal) where
    -- a plan that isn't accepted is refused without a read
    unaccepted_looks : ((t : TypeDefinition) → Accepts (at number opened) (plan_of plan) t → ⊥) → ((store : Store) → IsOpenAs (at number opened) store → IsReply (Some store) (Execute plan) (reply.Refused refusal)) → Looks number (at number opened) (Execute plan) (reply.Refused refusal)
    unaccepted_looks not replies = record {
      opens = refl;
      reads = ap (steps_reading (at number opened)) none;
      undamaged = λ m. ap (λ s. steps_damage (at number opened) s m) none;
      looking = refl;
      told = λ m sound. told_refusal number (Some (at number opened)) (Execute plan) refusal m sound;
      replies = replies;
      idle = λ m store same. refl;
      leaves = λ store same. refl;
    }
      where
        none : plan_steps (at number opened) (plan_of plan) ≡ None
        none = unaccepted_steps (at number opened) (plan_of plan) not

-- EXECUTE: the command, by what the execution came to
pub execution_performed : (number : ℕ) {maps : ℕ → Map} {refuses : KeyRange → ReadError → Type 0} {old mid new : CommitRequest} (opened : Opened) (plan : AskedPlan) (answer : Reply) → opened.prefix ≡ store_prefix number → plan.definition.name ≡ (query_of plan.query).record_type →
    IsOpened maps opened old mid → IsExecution maps opened plan answer mid new → IsPerformed number maps refuses (Execute plan) answer old new
execution_performed number opened plan answer here named is_opened (found rows same is) = answered_as number same (executed number opened (Execute plan) plan here (plan_executes number opened plan named) is_opened rows is)
execution_performed number {maps = maps} {refuses = refuses} {old = old} opened plan answer here named is_opened (other_schema same not unread) =
    subst (λ t. IsPerformed number maps refuses (Execute plan) answer old t) (sym unread) (answered_as number same
    (looked number opened (Execute plan) (reply.Refused OtherSchema) here
    (unaccepted_looks number opened plan OtherSchema (λ t accepted. lacks t accepted.has_type) (λ store as_opened. lacks_type_under store (store_prefix number) [] (plan_of plan) (subst (λ o. IsNotAccepted o (plan_of plan) execution.OtherSchema) (opened_same number opened store as_opened) lacks))) is_opened))
  where
    lacks : IsNotAccepted (at number opened) (plan_of plan) execution.OtherSchema
    lacks = subst (λ o. IsNotAccepted o (plan_of plan) execution.OtherSchema) (located number opened here) not
execution_performed number {maps = maps} {refuses = refuses} {old = old} opened plan answer here named is_opened (unreadable same not unread) =
    subst (λ t. IsPerformed number maps refuses (Execute plan) answer old t) (sym unread) (answered_as number same
    (looked number opened (Execute plan) (reply.Refused IndexNotReadable) here
    (unaccepted_looks number opened plan IndexNotReadable (λ t accepted. lacks.1 accepted.has_indexes) (λ store as_opened. lacks_index_under store (store_prefix number) [] (plan_of plan) (subst (λ o. IsNotAccepted o (plan_of plan) execution.IndexNotReadable) (opened_same number opened store as_opened) lacks))) is_opened))
  where
    lacks : IsNotAccepted (at number opened) (plan_of plan) execution.IndexNotReadable
    lacks = subst (λ o. IsNotAccepted o (plan_of plan) execution.IndexNotReadable) (located number opened here) not
