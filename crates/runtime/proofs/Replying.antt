-- What the reply to a command is that accepts it: an answer of the call that the command makes.
use Rattle.std.proofs.Common.{◌≡◌, ℕ, zero, suc, Bool, true, false, List, refl, sym, ap, ◌∙◌, Option, Some, None, true≢false}
use Rattle.std.specs.Prelude.{Result, Ok, Err, IfOk}
use Rattle.kv_core.specs.Range.{KeyRange}
use Rattle.kv_core.specs.declared.change.WriteError.{WriteError}
use Rattle.kv_core.specs.declared.change.WriteError.TheVariants as write
use Rattle.metadata.specs.declared.cells.Cell.{Cell}
use Rattle.metadata.specs.Record.{Record, key_of, record_of}
use Rattle.metadata.specs.Schema.{find_index}
use Rattle.record_store.specs.declared.error.StoreError.{StoreError}
use Rattle.record_store.specs.Meaning.{Meaning, by_schema, load_meaning, readable_meaning, remove_meaning, save_meaning, total_meaning, totalled_index, write_only_named}
use Rattle.record_store.specs.Store.{Serial, Store, listed_states}
use Rattle.query.specs.Checked.{query_refusal}
use Rattle.query.specs.Query as asked
use Rattle.query.specs.declared.error.QueryError.{QueryError}
use Rattle.online_builder.specs.declared.progress.Progress.{Progress}
use Rattle.online_builder.specs.declared.progress.Progress.TheVariants as progress
use Rattle.online_builder.specs.Stepping.{step_meaning}
use Rattle.planner.specs.Asked.{AskedPlan}
use Rattle.planner.specs.Right.{is_served}
use Rattle.schedule.specs.declared.step.Command.{Command}
use Rattle.schedule.specs.declared.step.Command.TheVariants as commands
use Rattle.schedule.specs.declared.reply.Reply.{Reply}
use Rattle.schedule.specs.declared.reply.Reply.TheVariants as reply
use Rattle.schedule.specs.Past.{is_accepted}
use Rattle.schedule.specs.Performed.{IsLimit, IsLimited}
use Rattle.schedule.specs.Planning.{IsPlanned}
use Rattle.schedule.specs.Query.{IsExecuteReply, Unrefused, states_of}
use Rattle.schedule.specs.Serve.{IsReply, IsReplyOf, answering, calling, done, reply_to_build, reply_to_load, reply_to_remove, reply_to_save}
use Rattle.schedule.proofs.Stops.{error_refuses}
use Rattle.runtime.specs.declared.answers.CommandError.{CommandError}
use Rattle.runtime.specs.declared.published_reads.EnterError.{EnterError}
use Rattle.runtime.specs.Calls.{HasCalled, HasPerformed, found_reply, marked_reply, part_reply, removed_reply, saved_reply, told_result}
use Rattle.runtime.specs.Clients.{Knowledge}
use Rattle.runtime.specs.Errors.{accepted_reply, accepted_or_refusal}

-- a reply that refuses doesn't accept
not_both : (answer : Reply) {X : Type 0} → is_accepted answer ≡ false → is_accepted answer ≡ true → X
not_both answer refuses accepts = absurd (true≢false (sym accepts ∙ refuses))

refused_no : {X : Type 0} (answer refusal : Reply) → is_accepted refusal ≡ false → answer ≡ refusal → is_accepted answer ≡ true → X
refused_no answer refusal refuses is accepts = not_both answer (ap is_accepted is ∙ refuses) accepts

-- ---- served replies

limit_refuses : (error : WriteError) (answer : Reply) → IsLimit error answer → is_accepted answer ≡ false
limit_refuses write.KeyOutside answer is = ap is_accepted is
limit_refuses write.KeyTooLarge answer is = ap is_accepted is
limit_refuses write.ValueTooLarge answer is = ap is_accepted is
limit_refuses write.TransactionTooLarge answer is = ap is_accepted is
limit_refuses write.Memory answer is = absurd is

unlimited : (limit : Option WriteError) (serial : Serial) (command : Command) (answer : Reply) → IsLimited limit serial command answer → is_accepted answer ≡ true → IsReply serial command answer
unlimited None serial command answer is accepts = is
unlimited (Some error) serial command answer is accepts = not_both answer (limit_refuses error answer is) accepts

-- a call's answer
answered : {A : Type 0} (store : Store) (told : A → Reply) (meaning : Meaning A) (result : Result A StoreError) (answer : Reply) → IsReplyOf (answering store told meaning result) answer → is_accepted answer ≡ true → (a : A) × (answer ≡ told a)
answered store told meaning (Ok a) answer is accepts = (a, is)
answered store told meaning (Err error) answer is accepts = not_both answer (error_refuses error answer is).0 accepts

called : {K A : Type 0} (store : Store) (told : A → Reply) (meaning : K → Meaning A) (asked_for : Result K StoreError) (answer : Reply) → IsReplyOf (calling store told meaning asked_for) answer → is_accepted answer ≡ true → (a : A) × (answer ≡ told a)
called store told meaning (Ok value) answer is accepts = answered store told (meaning value) ((meaning value).answer store) answer is accepts
called store told meaning (Err error) answer is accepts = not_both answer (error_refuses error answer is).0 accepts

no_store : {X : Type 0} (refusal answer : Reply) → ◌≡◌ {A = Option Reply} (Some refusal) (Some answer) → is_accepted refusal ≡ false → is_accepted answer ≡ true → X
no_store refusal answer is refuses accepts = let same : refusal ≡ answer = cc in refused_no answer refusal refuses (sym same) accepts

-- the shape of a reply to a command
abbrev Shape : {A : Type 0} → Command → (A → Reply) → Type 0
Shape {A} command told = (serial : Serial) (answer : Reply) → IsReply serial command answer → is_accepted answer ≡ true → (a : A) × (answer ≡ told a)

save_told : (found : Option Record) → (cells : Option (List Cell)) × (reply_to_save found ≡ saved_reply cells)
save_told None = (None, refl)
save_told (Some old) = (Some old.cells, refl)

load_told : (found : Option Record) → (cells : Option (List Cell)) × (reply_to_load found ≡ found_reply cells)
load_told None = (None, refl)
load_told (Some found) = (Some found.cells, refl)

remove_told : (was_there : Bool) → (b : Bool) × (reply_to_remove was_there ≡ removed_reply b)
remove_told true = (true, refl)
remove_told false = (false, refl)

pub save_shape : (type : List ℕ) (cells : List Cell) → Shape (commands.Save type cells) saved_reply
save_shape type cells None answer is accepts = no_store (reply.Refused _) answer is refl accepts
save_shape type cells (Some store) answer is accepts =
    let found = called store reply_to_save save_meaning (by_schema (record_of store.schema type cells)) answer is accepts in
    let told = save_told found.0 in (told.0, found.1 ∙ told.1)

pub load_shape : (type : List ℕ) (cells : List Cell) → Shape (commands.Load type cells) found_reply
load_shape type cells None answer is accepts = no_store (reply.Refused _) answer is refl accepts
load_shape type cells (Some store) answer is accepts =
    let found = called store reply_to_load load_meaning (by_schema (key_of store.schema type cells)) answer is accepts in
    let told = load_told found.0 in (told.0, found.1 ∙ told.1)

pub remove_shape : (type : List ℕ) (cells : List Cell) → Shape (commands.Remove type cells) removed_reply
remove_shape type cells None answer is accepts = no_store (reply.Refused _) answer is refl accepts
remove_shape type cells (Some store) answer is accepts =
    let found = called store reply_to_remove remove_meaning (by_schema (key_of store.schema type cells)) answer is accepts in
    let told = remove_told found.0 in (told.0, found.1 ∙ told.1)

pub aggregate_shape : (name : List ℕ) (group : List Cell) → Shape (commands.Aggregate name group) reply.Total
aggregate_shape name group None answer is accepts = no_store (reply.Refused _) answer is refl accepts
aggregate_shape name group (Some store) answer is accepts = called store reply.Total (total_meaning group) (totalled_index store.schema (listed_states store) group (find_index store.schema name)) answer is accepts

pub plan_shape : (query : asked.Query) → Shape (commands.Plan query) reply.Planned
plan_shape query None answer is accepts = no_store (reply.Refused _) answer is refl accepts
plan_shape query (Some store) answer is accepts = by_refusal (query_refusal store.schema query) (is_served store.schema (states_of store) query) is
  where
    by_refusal : (why : Option QueryError) (served : Bool) → Unrefused why served (IsPlanned store.schema (states_of store) query) answer → (plan : AskedPlan) × (answer ≡ reply.Planned plan)
    by_refusal (Some error) served says = refused_no answer (reply.Refused _) refl says accepts
    by_refusal None false says = refused_no answer (reply.Refused _) refl says accepts
    by_refusal None true says = (says.plan, says.shown)

build_told : (step : Progress) → (part : Option (ℕ × KeyRange)) × (reply_to_build step ≡ part_reply part)
build_told (progress.Built records range) = (Some (records, range), refl)
build_told progress.Finished = (None, refl)

pub build_shape : (name : List ℕ) (limit : ℕ) → Shape (commands.Build name limit) part_reply
build_shape name zero None answer is accepts = no_store (reply.Refused _) answer is refl accepts
build_shape name zero (Some store) answer is accepts = no_store (reply.Refused _) answer is refl accepts
build_shape name (suc more) None answer is accepts = no_store (reply.Refused _) answer is refl accepts
build_shape name (suc more) (Some store) answer is accepts =
    let found = called store reply_to_build (step_meaning (suc more)) (write_only_named store.schema (listed_states store) name) answer is accepts in
    let told = build_told found.0 in (told.0, found.1 ∙ told.1)

pub readable_shape : (name : List ℕ) → Shape (commands.Readable name) marked_reply
readable_shape name None answer is accepts = no_store (reply.Refused _) answer is refl accepts
readable_shape name (Some store) answer is accepts = (tt, (called store done (λ index. readable_meaning index.number) (write_only_named store.schema (listed_states store) name) answer is accepts).1)

execute_rows : (store : Store) (plan : AskedPlan) (answer : Reply) → IsExecuteReply store plan answer → is_accepted answer ≡ true → (rows : List (List Cell)) × (answer ≡ reply.Rows rows)
execute_rows store plan (reply.Rows rows) is accepts = (rows, refl)
execute_rows store plan (reply.Refused refusal) is accepts = absurd (cc)
execute_rows store plan (reply.Corrupt key) is accepts = absurd (cc)
execute_rows store plan reply.Stopped is accepts = absurd (cc)
execute_rows store plan (reply.Begun version) is accepts = absurd is
execute_rows store plan reply.Done is accepts = absurd is
execute_rows store plan reply.SavedNew is accepts = absurd is
execute_rows store plan (reply.SavedOver cells) is accepts = absurd is
execute_rows store plan (reply.Found cells) is accepts = absurd is
execute_rows store plan reply.Absent is accepts = absurd is
execute_rows store plan reply.Removed is accepts = absurd is
execute_rows store plan (reply.Planned made) is accepts = absurd is
execute_rows store plan (reply.Indexed state) is accepts = absurd is
execute_rows store plan (reply.State state) is accepts = absurd is
execute_rows store plan (reply.Total total) is accepts = absurd is
execute_rows store plan (reply.Built records range) is accepts = absurd is
execute_rows store plan reply.Finished is accepts = absurd is
execute_rows store plan (reply.Submitted version) is accepts = absurd is
execute_rows store plan reply.ReadOnly is accepts = absurd is
execute_rows store plan reply.Nothing is accepts = absurd is
execute_rows store plan (reply.Reported reports) is accepts = absurd is

pub execute_shape : (plan : AskedPlan) → Shape (commands.Execute plan) reply.Rows
execute_shape plan None answer is accepts = no_store (reply.Refused _) answer is refl accepts
execute_shape plan (Some store) answer is accepts = execute_rows store plan answer is accepts

-- ---- replies of calls

-- a reply that a call hands on accepts its command
pub unrefused : (told answer : Reply) → accepted_or_refusal told ≡ Ok answer → (told ≡ answer) × (is_accepted told ≡ true)
unrefused (reply.Refused refusal) answer is = absurd (cc)
unrefused (reply.Corrupt key) answer is = absurd (cc)
unrefused reply.Stopped answer is = absurd (cc)
unrefused (reply.Begun version) answer is = (cc (is), refl)
unrefused reply.Done answer is = (cc (is), refl)
unrefused reply.SavedNew answer is = (cc (is), refl)
unrefused (reply.SavedOver cells) answer is = (cc (is), refl)
unrefused (reply.Found cells) answer is = (cc (is), refl)
unrefused reply.Absent answer is = (cc (is), refl)
unrefused reply.Removed answer is = (cc (is), refl)
unrefused (reply.Rows rows) answer is = (cc (is), refl)
unrefused (reply.Planned made) answer is = (cc (is), refl)
unrefused (reply.Indexed state) answer is = (cc (is), refl)
unrefused (reply.State state) answer is = (cc (is), refl)
unrefused (reply.Total total) answer is = (cc (is), refl)
unrefused (reply.Built records range) answer is = (cc (is), refl)
unrefused reply.Finished answer is = (cc (is), refl)
unrefused (reply.Submitted version) answer is = (cc (is), refl)
unrefused reply.ReadOnly answer is = (cc (is), refl)
unrefused reply.Nothing answer is = (cc (is), refl)
unrefused (reply.Reported reports) answer is = (cc (is), refl)

-- a reply tells itself
pub told_same : (r : Result Reply CommandError) → told_result (λ (given : Reply). given) r ≡ r
told_same (Ok x) = refl
told_same (Err e) = refl

module _ {A : Type 0} (command : Command) (told : A → Reply) (shape : Shape command told) where
  by_reply : (old new : Knowledge) (performed : Result Reply EnterError) (answer : Reply) → HasPerformed command old performed new → accepted_reply performed ≡ Ok answer → (a : A) × (answer ≡ told a)
  by_reply old new (Err error) answer has is = absurd (cc)
  by_reply old new (Ok given) answer has is =
      let handed = unrefused given answer is in
      let served = has.answer has.open_then.0 has.open_then.1 in
      let fits = shape _ given (unlimited _ _ command given served handed.1) handed.1 in
      (fits.0, sym handed.0 ∙ fits.1)

  -- the reply that a call hands on is that to an answer
  pub fits : (old new : Knowledge) (result : Result Reply CommandError) → HasCalled (λ given. given) command old result new → IfOk result (λ given. (a : A) × (given ≡ told a))
  fits old new (Err error) called_so = tt
  fits old new (Ok answer) called_so = by_reply old new called_so.reply answer called_so.performed called_so.answer

  -- what a call answers by it
  pub answers : (old new : Knowledge) (given : Result Reply CommandError) (result : Result A CommandError) → HasCalled (λ given. given) command old given new → given ≡ told_result told result → HasCalled told command old result new
  answers old new given result called_so is = record {
    reply = called_so.reply;
    performed = called_so.performed;
    answer = called_so.answer ∙ told_same given ∙ is;
  }
