-- What each command on an index is by the call that it makes on the open store.
use Rattle.std.proofs.Common.{◌≡◌, ℕ, zero, suc, Bool, true, false, List, [], inl, refl, sym, ap, ◌∙◌, Option, Some, None, Result, Ok, Err, subst}
use Rattle.kv_core.specs.Range.{KeyRange}
use Rattle.kv_core.specs.Map.{Map}
use Rattle.kv_core.specs.declared.change.CommitRequest.{CommitRequest}
use Rattle.kv_core.specs.declared.snapshot.ReadError.{ReadError}
use Rattle.txn.proofs.Running.{ran_still}
use Rattle.metadata.specs.declared.cells.Cell.{Cell}
use Rattle.metadata.specs.declared.index.IndexDefinition.{IndexDefinition}
use Rattle.metadata.specs.declared.index.IndexKind.{IndexKind}
use Rattle.metadata.specs.declared.index.IndexKind.TheVariants.{Value, Count, Sum}
use Rattle.metadata.specs.declared.index.IndexRequest.{IndexRequest}
use Rattle.metadata.specs.declared.index.State as states
use Rattle.metadata.specs.declared.index.State.TheVariants as mark
use Rattle.metadata.specs.declared.refusal.Refusal.{Refusal}
use Rattle.metadata.specs.declared.refusal.Refusal.TheVariants as schema
use Rattle.metadata.specs.Group.{fits_group}
use Rattle.metadata.specs.IndexChange.{new_index}
use Rattle.metadata.specs.Schema.{Schema, find_index}
use Rattle.record_store.specs.Holds.{has_number}
use Rattle.record_store.specs.Store.{Serial, state_in}
use Rattle.record_store.proofs.IndexCalls.{named_there}
use Rattle.record_store.proofs.Listed.{state_told}
use Rattle.record_store.specs.declared.error.StoreError.{StoreError}
use Rattle.record_store.specs.declared.error.StoreError.TheVariants.{Refused}
use Rattle.record_store.specs.declared.error.StoreError.TheVariants as fault
use Rattle.record_store.specs.Call.{Call, Footprint, IsAnswered, Opened, call_on, reads_only, service_of, whole}
use Rattle.record_store.specs.Opening.{IsOpened, opening_reach}
use Rattle.record_store.specs.Calls.{aggregate_call, drop_call, drop_footprint, index_call, index_footprint, mark_call, mark_footprint, readable_call, readable_footprint, state_named, total_footprint}
use Rattle.record_store.specs.Meaning.{by_schema, drop_meaning, in_write_only, index_meaning, index_number, mark_meaning, readable_meaning, state_meaning, total_meaning, total_refusal, totalled_index, unless, write_only_found, write_only_named}
use Rattle.record_store.specs.Layout.{store_prefix}
use Rattle.online_builder.specs.declared.progress.Progress.{Progress}
use Rattle.online_builder.specs.declared.progress.Progress.TheVariants as progress
use Rattle.online_builder.specs.Stepping.{has_built, step_call, step_footprint, step_meaning}
use Rattle.schedule.specs.declared.refusal.Refusal.TheVariants.{BadLimit, NoStore, NotAggregate, NotReadable, UnknownIndex, WrongKind, WrongState}
use Rattle.schedule.specs.declared.step.Command.TheVariants.{Aggregate, Build, Index, Drop, Disable, State}
use Rattle.schedule.specs.declared.step.Command.TheVariants as commands
use Rattle.schedule.specs.declared.reply.Reply.TheVariants as reply
use Rattle.schedule.specs.Serve.{IsReply, done, reply_to_build}
use Rattle.schedule.specs.Past.{is_accepted, tells_change}
use Rattle.schedule.specs.Reach.{added_by, footprint_on, open_reach, opened_in, writes}
use Rattle.schedule.specs.Calls.{IsCommandRefused}
use Rattle.schedule.specs.Refusals.{reply_of}
use Rattle.schedule.specs.Performed.{IsPerformed}
use Rattle.schedule.proofs.Outcomes.{Meets, located, performed, refused_own}
use Rattle.schedule.proofs.Serving.{IsRefusal, meets, schema_refuses}
use Rattle.schedule.proofs.Stops.{at, served_idle}

-- what an index of a name is asked for by
abbrev numbered : List ℕ → Schema → List (ℕ × states.State) → Result ℕ StoreError
numbered name schema states = by_schema (index_number (find_index schema name))

abbrev building : List ℕ → Schema → List (ℕ × states.State) → Result IndexDefinition StoreError
building name schema states = write_only_named schema states name

-- what refuses an index that isn't there, or isn't write-only, is a refusal
write_only_refuses : (listed : List (ℕ × states.State)) (o : Option IndexDefinition) (error : StoreError) → write_only_found listed o ≡ Err error → IsRefusal error
write_only_refuses listed None error is = let same : Refused schema.UnknownIndex ≡ error = cc in (UnknownIndex, ap reply_of (sym same))
write_only_refuses listed (Some index) error is = by_state (state_in listed index.number) is
  where
    by_state : (state : states.State) → in_write_only state index ≡ Err error → IsRefusal error
    by_state mark.Readable is = let same : fault.WrongState ≡ error = cc in (WrongState, ap reply_of (sym same))
    by_state mark.WriteOnly is = absurd (cc)
    by_state mark.Disabled is = let same : fault.WrongState ≡ error = cc in (WrongState, ap reply_of (sym same))

-- ---- index

pub index_meets : (store_number : ℕ) (opened : Opened) (request : IndexRequest) → Meets store_number (at store_number opened) (Index request) (index_call (at store_number opened) request) reply.Indexed
index_meets store_number opened request =
    meets store_number (λ schema states. by_schema (new_index schema request)) index_meaning index_footprint reply.Indexed opened (Index request) refl (λ m. refl) (λ store. refl) (λ o. refl)
    (schema_refuses (new_index opened.schema request)) (λ state. refl) (λ index state. refl)

-- ---- drop, disable and write-only

pub drop_meets : (store_number : ℕ) (opened : Opened) (name : List ℕ) → Meets store_number (at store_number opened) (Drop name) (drop_call (at store_number opened) name) done
drop_meets store_number opened name =
    meets store_number (numbered name) drop_meaning drop_footprint done opened (Drop name) refl (λ m. refl) (λ store. refl) (λ o. refl)
    (schema_refuses (index_number (find_index opened.schema name))) (λ answer. refl) (λ number answer. refl)

pub disable_meets : (store_number : ℕ) (opened : Opened) (name : List ℕ) → Meets store_number (at store_number opened) (Disable name) (mark_call mark.Disabled (at store_number opened) name) done
disable_meets store_number opened name =
    meets store_number (numbered name) (mark_meaning mark.Disabled) (mark_footprint mark.Disabled) done opened (Disable name) refl (λ m. refl) (λ store. refl) (λ o. refl)
    (schema_refuses (index_number (find_index opened.schema name))) (λ answer. refl) (λ number answer. refl)

pub write_only_meets : (store_number : ℕ) (opened : Opened) (name : List ℕ) → Meets store_number (at store_number opened) (commands.WriteOnly name) (mark_call mark.WriteOnly (at store_number opened) name) done
write_only_meets store_number opened name =
    meets store_number (numbered name) (mark_meaning mark.WriteOnly) (mark_footprint mark.WriteOnly) done opened (commands.WriteOnly name) refl (λ m. refl) (λ store. refl) (λ o. refl)
    (schema_refuses (index_number (find_index opened.schema name))) (λ answer. refl) (λ number answer. refl)

-- ---- readable

pub readable_meets : (store_number : ℕ) (opened : Opened) (name : List ℕ) → Meets store_number (at store_number opened) (commands.Readable name) (readable_call (at store_number opened) name) done
readable_meets store_number opened name =
    meets store_number (building name) (λ index. readable_meaning index.number) (λ o index. readable_footprint o index.number) done opened (commands.Readable name) refl (λ m. refl) (λ store. refl) (λ o. refl)
    (write_only_refuses opened.states (find_index opened.schema name)) (λ answer. refl) (λ index answer. refl)

-- ---- build

-- LIMIT: a step of no record is refused, and reads nothing
pub refused_limit : (store_number : ℕ) {maps : ℕ → Map} {refuses : KeyRange → ReadError → Type 0} {old new : CommitRequest} (name : List ℕ) (limit : ℕ) → limit ≡ 0 → new ≡ old → IsPerformed store_number maps refuses (Build name limit) (reply.Refused BadLimit) old new
refused_limit store_number name (suc more) none same = absurd (cc)
refused_limit store_number {refuses = refuses} {old = old} name zero none same = record {
  opened = None;
  added = [];
  written = [];
  changes = refl;
  ran = ran_still same (λ m. (
    record { there = tt; reads = refl; told = tt },
    λ serial stands. record { right = inl (served_idle store_number m old.mutations serial (Build name zero) (reply.Refused BadLimit) (idle m serial) (replies serial)); wrote = refl; holds = stands; reads = nothing serial m },
  ));
}
  where
    idle : (m : Map) (serial : Serial) → writes store_number m serial (Build name zero) ≡ []
    idle m None = refl
    idle m (Some store) = refl

    replies : (serial : Serial) → IsReply serial (Build name zero) (reply.Refused BadLimit)
    replies None = refl
    replies (Some store) = refl

    nothing : (serial : Serial) (m : Map) → [] ≡ added_by store_number (opened_in store_number serial) (Build name zero) m
    nothing None m = refl
    nothing (Some store) m = refl

-- ---- a step

pub build_opens : (store_number : ℕ) (name : List ℕ) (limit : ℕ) → (limit ≡ 0 → ⊥) → open_reach store_number (Build name limit) ≡ opening_reach (store_prefix store_number)
build_opens store_number name zero some = absurd (some refl)
build_opens store_number name (suc more) some = refl

-- where there is no store
pub build_unopened : (store_number : ℕ) (name : List ℕ) (limit : ℕ) → (limit ≡ 0 → ⊥) → IsReply None (Build name limit) (reply.Refused NoStore) × ((m : Map) → writes store_number m None (Build name limit) ≡ [])
build_unopened store_number name zero some = absurd (some refl)
build_unopened store_number name (suc more) some = (refl, λ m. refl)

build_accepted : (answer : Progress) → is_accepted (reply_to_build answer) ≡ true
build_accepted (progress.Built records range) = refl
build_accepted progress.Finished = refl

build_tells : (answer : Progress) → has_built answer ≡ tells_change (reply_to_build answer)
build_tells (progress.Built records range) = refl
build_tells progress.Finished = refl

pub build_meets : (store_number : ℕ) (opened : Opened) (name : List ℕ) (limit : ℕ) → (limit ≡ 0 → ⊥) → Meets store_number (at store_number opened) (Build name limit) (step_call (at store_number opened) (record { name = name; limit = limit })) reply_to_build
build_meets store_number opened name zero some = absurd (some refl)
build_meets store_number opened name (suc more) some =
    meets store_number (building name) (step_meaning (suc more)) (λ o. step_footprint o (suc more)) reply_to_build opened (Build name (suc more)) refl (λ m. refl) (λ store. refl) (λ o. refl)
    (write_only_refuses opened.states (find_index opened.schema name)) build_accepted (λ index. build_tells)

-- ---- aggregate

-- what refuses a total is a refusal
total_refuses : (kind : IndexKind) (fits : Bool) (state : states.State) (index : IndexDefinition) (error : StoreError) → unless (total_refusal kind fits state) index ≡ Err error → IsRefusal error
total_refuses Value fits state index error is = let same : fault.NotAggregate ≡ error = cc in (NotAggregate, ap reply_of (sym same))
total_refuses Count false state index error is = let same : Refused schema.WrongKind ≡ error = cc in (WrongKind, ap reply_of (sym same))
total_refuses Sum false state index error is = let same : Refused schema.WrongKind ≡ error = cc in (WrongKind, ap reply_of (sym same))
total_refuses Count true mark.Readable index error is = absurd (cc)
total_refuses Sum true mark.Readable index error is = absurd (cc)
total_refuses Count true mark.WriteOnly index error is = let same : fault.NotReadable ≡ error = cc in (NotReadable, ap reply_of (sym same))
total_refuses Sum true mark.WriteOnly index error is = let same : fault.NotReadable ≡ error = cc in (NotReadable, ap reply_of (sym same))
total_refuses Count true mark.Disabled index error is = let same : fault.NotReadable ≡ error = cc in (NotReadable, ap reply_of (sym same))
total_refuses Sum true mark.Disabled index error is = let same : fault.NotReadable ≡ error = cc in (NotReadable, ap reply_of (sym same))

totalled_refuses : (own : Schema) (listed : List (ℕ × states.State)) (group : List Cell) (o : Option IndexDefinition) (error : StoreError) → totalled_index own listed group o ≡ Err error → IsRefusal error
totalled_refuses own listed group None error is = let same : Refused schema.UnknownIndex ≡ error = cc in (UnknownIndex, ap reply_of (sym same))
totalled_refuses own listed group (Some index) error is = total_refuses index.kind (fits_group own index group) (state_in listed index.number) index error is

pub aggregate_meets : (store_number : ℕ) (opened : Opened) (name : List ℕ) (group : List Cell) → Meets store_number (at store_number opened) (Aggregate name group) (aggregate_call (at store_number opened) name group) reply.Total
aggregate_meets store_number opened name group =
    meets store_number (λ schema states. totalled_index schema states group (find_index schema name)) (total_meaning group) (λ o. total_footprint o group) reply.Total opened (Aggregate name group) refl (λ m. refl) (λ store. refl) (λ o. refl)
    (totalled_refuses opened.schema opened.states group (find_index opened.schema name)) (λ total. refl) (λ index total. refl)

-- ---- state

-- the state of an index, as a call that reads and writes nothing
abbrev state_footprint : Opened → ℕ → Footprint
state_footprint opened number = reads_only (whole [])

abbrev state_call : Opened → List ℕ → Call states.State
state_call opened name = call_on state_meaning (state_footprint opened) (by_schema (index_number (find_index opened.schema name)))

-- a command that has no footprint of its own
nothing_printed : (o : Opened) (outcome : Result ℕ StoreError) → reads_only (whole []) ≡ footprint_on (state_footprint o) outcome
nothing_printed o (Ok number) = refl
nothing_printed o (Err error) = refl

state_meets : (store_number : ℕ) (opened : Opened) (name : List ℕ) → Meets store_number (at store_number opened) (State name) (state_call (at store_number opened) name) reply.State
state_meets store_number opened name =
    meets store_number (numbered name) state_meaning state_footprint reply.State opened (State name) refl (λ m. refl) (λ store. refl) (λ o. nothing_printed o (numbered name o.schema o.states))
    (schema_refuses (index_number (find_index opened.schema name))) (λ state. refl) (λ number state. refl)

-- the index of a name whose state is known
state_number : (states_of : List (ℕ × states.State)) (found : Option IndexDefinition) (state : states.State) →
    ◌≡◌ {A = Result states.State Refusal} (elim found [ None ↦ Err schema.UnknownIndex | Some index ↦ Ok (state_in states_of index.number) ]) (Ok state) →
    (number : ℕ) × (index_number found ≡ Ok number) × (state ≡ state_in states_of number)
state_number states_of None state is = absurd (cc)
state_number states_of (Some index) state is = let same : state_in states_of index.number ≡ state = cc in (index.number, refl, sym same)

state_unknown : (states_of : List (ℕ × states.State)) (found : Option IndexDefinition) (refusal : Refusal) →
    ◌≡◌ {A = Result states.State Refusal} (elim found [ None ↦ Err schema.UnknownIndex | Some index ↦ Ok (state_in states_of index.number) ]) (Err refusal) →
    index_number found ≡ Err refusal
state_unknown states_of None refusal is = let same : schema.UnknownIndex ≡ refusal = cc in ap Err same
state_unknown states_of (Some index) refusal is = absurd (cc)

state_answered : {maps : ℕ → Map} {old : CommitRequest} (opened : Opened) (name : List ℕ) (state : states.State) → state_named opened name ≡ Ok state → IsAnswered maps opened (state_call opened name) state old old
state_answered opened name state is =
    let (number, found, same) = state_number opened.states (find_index opened.schema name) state is in
    let known = named_there opened.schema name number found in record {
      service = service_of state_meaning (state_footprint opened) number;
      accepted = ap (λ o. call_on state_meaning (state_footprint opened) (by_schema o)) found;
      added = [];
      written = [];
      changes = refl;
      ran = ran_still refl (λ m. (refl, tt, λ store holds as_opened. record { answers = ap Ok (state_told opened store number as_opened (ap (λ (s : Schema). has_number s.indexes number) as_opened.schema ∙ known) ∙ sym same); wrote = refl; allowed = refl; holds = holds }));
    }

-- STATE: the state that the opened store has of the index is the reply
pub state_performed : (store_number : ℕ) {maps : ℕ → Map} {refuses : KeyRange → ReadError → Type 0} {old new : CommitRequest} (opened : Opened) (name : List ℕ) (state : states.State) → opened.prefix ≡ store_prefix store_number → IsOpened maps opened old new →
    state_named opened name ≡ Ok state → IsPerformed store_number maps refuses (State name) (reply.State state) old new
state_performed store_number opened name state here is_opened is =
    performed store_number opened (State name) (λ o. state_call o name) reply.State state here (state_meets store_number opened name) is_opened (state_answered opened name state is)

pub state_refused : (store_number : ℕ) {maps : ℕ → Map} {refuses : KeyRange → ℕ → ReadError → Type 0} {old new : CommitRequest} (opened : Opened) (name : List ℕ) (refusal : Refusal) → opened.prefix ≡ store_prefix store_number → IsOpened maps opened old new →
    state_named opened name ≡ Err refusal → IsCommandRefused store_number maps refuses (State name) (Refused refusal) old new
state_refused store_number {maps = maps} {old = old} {new = new} opened name refusal here is_opened is =
    refused_own store_number opened (State name) (Refused refusal)
    (subst (λ o. Meets store_number (at store_number opened) (State name) (call_on state_meaning (state_footprint (at store_number opened)) (by_schema o)) reply.State) (state_unknown opened.states (find_index opened.schema name) refusal is) (state_meets store_number opened name))
    (subst (λ o. IsOpened maps o old new) (located store_number opened here) is_opened)
