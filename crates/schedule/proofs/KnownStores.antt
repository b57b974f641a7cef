-- A store that a command left open stands open for the next one.
use Rattle.std.proofs.Common.{◌≡◌, ℕ, ℤ, Bool, true, false, cond, List, Option, Some, None, Result, Ok, Err, refl, sym, subst}
use Rattle.std.specs.Prelude.{IfOk}
use Rattle.kv_core.specs.Map.{Map}
use Rattle.kv_core.specs.declared.change.CommitRequest.{CommitRequest}
use Rattle.txn.specs.Reads.{seen}
use Rattle.metadata.specs.declared.cells.Cell.{Cell}
use Rattle.metadata.specs.Record.{Record, key_of, record_of}
use Rattle.metadata.specs.Schema.{find_index}
use Rattle.query.specs.declared.filter.Query as declared
use Rattle.planner.specs.Asked.{AskedPlan}
use Rattle.record_store.specs.declared.error.StoreError.{StoreError}
use Rattle.record_store.specs.Call.{Footprint, IsAnswered, IsOpenAs, Opened, Service, call_on, service_of}
use Rattle.record_store.specs.Calls.{aggregate_call, load_call, load_footprint, remove_call, remove_footprint, save_as_call, save_footprint, total_footprint}
use Rattle.record_store.specs.Holds.{Holds}
use Rattle.record_store.specs.Layout.{store_prefix}
use Rattle.record_store.specs.Meaning.{Meaning, by_schema, load_meaning, remove_meaning, save_meaning, total_meaning, totalled_index}
use Rattle.record_store.specs.Opening.{IsOpened, StandsThere}
use Rattle.record_store.specs.Store.{Store}
use Rattle.record_store.proofs.Reopening.{answered_stays, opened_there_stands, read_stays}
use Rattle.schedule.specs.declared.reply.Reply.{Reply}
use Rattle.schedule.specs.Executions.{IsExecution, found, other_schema, unreadable, IsQueried, bad, unserved, planned_so}
use Rattle.schedule.specs.Known.{IsKnown, SeesSerial, StaysKnown}

-- no store is known
pub none_known : (number : ℕ) (maps : ℕ → Map) (known : Option Opened) (tx : CommitRequest) → known ≡ None → IsKnown number maps known tx
none_known number maps known tx none = subst (λ o. IsKnown number maps o tx) (sym none) tt

-- one is
pub some_known : (number : ℕ) (maps : ℕ → Map) (known : Option Opened) (opened : Opened) (tx : CommitRequest) → known ≡ Some opened → IsKnown number maps known tx →
    (opened.prefix ≡ store_prefix number) × StandsThere maps opened tx
some_known number maps known opened tx is known_is = subst (λ o. IsKnown number maps o tx) is known_is

-- one that stays open where stores may, and where the transaction saw a store or none before
pub stays_known : (stays_open : Bool) (number : ℕ) (maps : ℕ → Map) (known kept : Option Opened) (old new : CommitRequest) → kept ≡ cond stays_open known None → StaysKnown number maps known old new →
    (stays_open ≡ true → SeesSerial number maps old) → IsKnown number maps kept new
stays_known true number maps known kept old new is stays sees = subst (λ o. IsKnown number maps o new) (sym is) (stays (sees refl))
stays_known false number maps known kept old new is stays sees = none_known number maps kept new is

-- one was opened anew
pub there_opened : {E : Type 0} (number : ℕ) (maps : ℕ → Map) (old new : CommitRequest) (r : Result Opened E) → IfOk r (λ store. IsOpened maps store old new) → IfOk r (λ store. store.prefix ≡ store_prefix number) →
    IfOk r (λ store. SeesSerial number maps old → StandsThere maps store new)
there_opened number maps old new (Ok store) opened prefix = λ (serial, holds). opened_there_stands maps store old new opened serial (subst (λ p. Holds p (seen old (maps old.read_version)) serial) (sym prefix) holds)
there_opened number maps old new (Err error) opened prefix = tt

-- what is known is so by the maps of a later cluster
pub known_elsewhere : (number : ℕ) (maps maps2 : ℕ → Map) (known : Option Opened) (tx : CommitRequest) → maps tx.read_version ≡ maps2 tx.read_version → IsKnown number maps known tx → IsKnown number maps2 known tx
known_elsewhere number maps maps2 None tx same is = tt
known_elsewhere number maps maps2 (Some opened) tx same (prefix, there) = (
  prefix,
  record {
    schema_read = there.schema_read;
    states_read = there.states_read;
    store = there.store;
    holds = subst (λ m. Holds opened.prefix (seen tx m) (Some there.store)) same there.holds;
    same = there.same;
  },
)

-- ---- after calls that leave the schema and the states

-- a call whose meaning leaves them does so
call_keeps : {K A : Type 0} (meaning : K → Meaning A) (footprint : K → Footprint) (asked : Result K StoreError) (service : Service A) (opened : Opened) → call_on meaning footprint asked ≡ Ok service →
    ((value : K) (store : Store) → IsOpenAs opened store → IsOpenAs opened ((meaning value).after store)) → (store : Store) → IsOpenAs opened store → IsOpenAs opened (service.meaning.after store)
call_keeps {A = A} meaning footprint (Ok value) service opened is keeps store same =
    let made : service_of meaning footprint value ≡ service = cc in
    subst (λ (s : Service A). IsOpenAs opened (s.meaning.after store)) made (keeps value store same)
call_keeps {A = A} meaning footprint (Err error) service opened is keeps store same =
    let no : ◌≡◌ {A = Result (Service A) StoreError} (Err error) (Ok service) = is in absurd (cc)

module _ (maps : ℕ → Map) (opened : Opened) (old new : CommitRequest) where
  pub load_stays : (name : List ℕ) (cells : List Cell) (answer : Option Record) → IsAnswered maps opened (load_call opened name cells) answer old new → StandsThere maps opened old → StandsThere maps opened new
  load_stays name cells answer is =
      answered_stays maps opened (load_call opened name cells) answer old new is
      (call_keeps load_meaning (load_footprint opened) (by_schema (key_of opened.schema name cells)) is.service opened is.accepted (λ key store same. same))

  pub save_stays : (name : List ℕ) (cells : List Cell) (answer : Option Record) → IsAnswered maps opened (save_as_call opened name cells) answer old new → StandsThere maps opened old → StandsThere maps opened new
  save_stays name cells answer is =
      answered_stays maps opened (save_as_call opened name cells) answer old new is
      (call_keeps save_meaning (save_footprint opened) (by_schema (record_of opened.schema name cells)) is.service opened is.accepted (λ one store same. record { schema = same.schema; states = same.states }))

  pub remove_stays : (name : List ℕ) (cells : List Cell) (answer : Bool) → IsAnswered maps opened (remove_call opened name cells) answer old new → StandsThere maps opened old → StandsThere maps opened new
  remove_stays name cells answer is =
      answered_stays maps opened (remove_call opened name cells) answer old new is
      (call_keeps remove_meaning (remove_footprint opened) (by_schema (key_of opened.schema name cells)) is.service opened is.accepted (λ key store same. record { schema = same.schema; states = same.states }))

  pub aggregate_stays : (name : List ℕ) (group : List Cell) (answer : ℤ) → IsAnswered maps opened (aggregate_call opened name group) answer old new → StandsThere maps opened old → StandsThere maps opened new
  aggregate_stays name group answer is =
      answered_stays maps opened (aggregate_call opened name group) answer old new is
      (call_keeps (total_meaning group) (total_footprint opened group) (totalled_index opened.schema opened.states group (find_index opened.schema name)) is.service opened is.accepted (λ index store same. same))

  still : new ≡ old → StandsThere maps opened old → StandsThere maps opened new
  still same = subst (StandsThere maps opened) (sym same)

  pub execution_stays : (plan : AskedPlan) (answer : Reply) → IsExecution maps opened plan answer old new → StandsThere maps opened old → StandsThere maps opened new
  execution_stays plan answer (found rows is executed) there = read_stays maps opened executed.ran there
  execution_stays plan answer (other_schema is refused same) there = still same there
  execution_stays plan answer (unreadable is refused same) there = still same there

  pub query_stays : (query : declared.Query) (answer : Reply) → IsQueried maps opened query answer old new → StandsThere maps opened old → StandsThere maps opened new
  query_stays query answer (bad error is told same) there = still same there
  query_stays query answer (unserved is none told same) there = still same there
  query_stays query answer (planned_so plan is executed) there = execution_stays plan answer executed there
