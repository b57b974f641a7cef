-- What is so where a command stops with an error.
use Rattle.std.proofs.Common.{◌≡◌, ℕ, false, not, cond, List, [], ◌⊎◌, inl, refl, sym, ap, subst, Option, Some, None}
use Rattle.kv_core.specs.Range.{KeyRange}
use Rattle.kv_core.specs.Map.{Map}
use Rattle.kv_core.specs.Limits.{write_all_refusal}
use Rattle.kv_core.specs.declared.change.CommitRequest.{CommitRequest}
use Rattle.kv_core.specs.declared.change.Mutation.{Mutation}
use Rattle.kv_core.specs.declared.change.WriteError.{WriteError}
use Rattle.kv_core.specs.declared.change.WriteError.TheVariants as write
use Rattle.kv_core.specs.declared.snapshot.ReadError.{ReadError}
use Rattle.kv_core.specs.declared.snapshot.ReadError.TheVariants as read
use Rattle.txn.specs.Runs.{Ran}
use Rattle.txn.proofs.Running.{ran_because, ran_still}
use Rattle.schedule.specs.declared.refusal.Refusal.{Refusal}
use Rattle.schedule.specs.declared.refusal.Refusal.TheVariants.{AlreadyThere, NoStore, NotAggregate, NotReadable, WrongState, NotBuilt, OtherSchema, FutureVersion, TooOld, KeyOutside, KeyTooLarge, ValueTooLarge, TransactionTooLarge}
use Rattle.record_store.specs.declared.error.StoreError.{StoreError}
use Rattle.record_store.specs.declared.error.StoreError.TheVariants.{Memory, Read, Write, Corrupt, Refused}
use Rattle.record_store.specs.declared.error.StoreError.TheVariants as fault
use Rattle.record_store.specs.Store.{Serial, Store}
use Rattle.record_store.specs.Call.{IsOpenAs, Opened}
use Rattle.record_store.specs.Opening.{IsOpened, IsThereAs, opening_reach}
use Rattle.record_store.specs.Steps.{IsBeginning}
use Rattle.record_store.specs.Layout.{store_prefix}
use Rattle.record_store.proofs.Stopping.{all_begin, none_begin}
use Rattle.schedule.specs.declared.step.Command.{Command}
use Rattle.schedule.specs.declared.reply.Reply.{Reply}
use Rattle.schedule.specs.declared.reply.Reply.TheVariants as reply
use Rattle.schedule.specs.Serve.{IsReply, IsReplyOf, effect, serial_line}
use Rattle.schedule.specs.Serve as serve
use Rattle.schedule.specs.Past.{is_accepted, tells_change}
use Rattle.schedule.specs.Holds.{Stands}
use Rattle.schedule.specs.Reach.{opened_in, added_by, open_reach, own_reading, reach, writes, footprint_writes, written_with}
use Rattle.schedule.specs.Performed.{HasAdded, HasOpened, IsCommandSound, IsDamaged, IsLimit, IsLimited, IsReadRefusal}
use Rattle.schedule.specs.Performed.{IsReadRefusedAs, IsServed, TellsOfPairs}
use Rattle.schedule.specs.Query.{opened_as}
use Rattle.schedule.specs.Refusals.{of_schema, reply_of}
use Rattle.schedule.specs.Calls.{IsCommandRefused}
use Rattle.schedule.proofs.Reached.{all_added, begin_open, told_refusal}

-- what was opened, at the store's prefix
abbrev pub at : ℕ → Opened → Opened
at number opened = record opened { prefix = store_prefix number }

-- ---- refusals

-- the reply that an error is accepts nothing, and tells of no change
refusing : (refusal : Refusal) (answer : Reply) → ◌≡◌ {A = Option Reply} (Some (reply.Refused refusal)) (Some answer) → (is_accepted answer ≡ false) × (tells_change answer ≡ false)
refusing refusal answer is =
    let same : reply.Refused refusal ≡ answer = cc in
    subst (λ a. (is_accepted a ≡ false) × (tells_change a ≡ false)) same (refl, refl)

pub error_refuses : (error : StoreError) (answer : Reply) → reply_of error ≡ Some answer → (is_accepted answer ≡ false) × (tells_change answer ≡ false)
error_refuses Memory answer is = absurd (cc)
error_refuses (Read read.FutureVersion) answer is = refusing FutureVersion answer is
error_refuses (Read read.TooOld) answer is = refusing TooOld answer is
error_refuses (Read read.Memory) answer is = absurd (cc)
error_refuses (Write write.KeyOutside) answer is = refusing _ answer is
error_refuses (Write write.KeyTooLarge) answer is = refusing _ answer is
error_refuses (Write write.ValueTooLarge) answer is = refusing _ answer is
error_refuses (Write write.TransactionTooLarge) answer is = refusing _ answer is
error_refuses (Write write.Memory) answer is = absurd (cc)
error_refuses (Corrupt key) answer is =
    let same : reply.Corrupt key ≡ answer = cc in
    subst (λ a. (is_accepted a ≡ false) × (tells_change a ≡ false)) same (refl, refl)
error_refuses (Refused refusal) answer is = refusing (of_schema refusal) answer is
error_refuses fault.NoStore answer is = refusing NoStore answer is
error_refuses fault.AlreadyThere answer is = refusing AlreadyThere answer is
error_refuses fault.OtherSchema answer is = refusing OtherSchema answer is
error_refuses fault.NotAggregate answer is = refusing NotAggregate answer is
error_refuses fault.NotReadable answer is = refusing NotReadable answer is
error_refuses fault.WrongState answer is = refusing WrongState answer is
error_refuses fault.NotBuilt answer is = refusing NotBuilt answer is

-- what is there, by what was opened
pub opened_is : (number : ℕ) (opened : Opened) (serial : Serial) → opened.prefix ≡ store_prefix number → IsThereAs opened serial → opened_in number serial ≡ Some opened
opened_is number opened None here has = absurd has
opened_is number opened (Some store) here has = λ i. Some (record { prefix = sym here i; schema = has.schema i; states = has.states i })

-- what was opened is what each store is that was opened so
pub opened_same : (number : ℕ) (opened : Opened) (store : Store) → IsOpenAs (at number opened) store → at number opened ≡ opened_as (store_prefix number) store
opened_same number opened store same = λ i. record { prefix = store_prefix number; schema = sym same.schema i; states = sym same.states i }

-- where a command stopped with an error these ranges were added: the first ones where memory was wanting or a read was refused, and else all
abbrev pub HasStopped : StoreError → List KeyRange → List KeyRange → Type 0
HasStopped Memory all ranges = IsBeginning ranges all
HasStopped (Read reason) all ranges = IsBeginning ranges all
HasStopped error all ranges = ranges ≡ all

pub stopped_all : (error : StoreError) {all ranges : List KeyRange} → ranges ≡ all → HasStopped error all ranges
stopped_all Memory {ranges = ranges} is = subst (IsBeginning ranges) is (all_begin ranges)
stopped_all (Read reason) {ranges = ranges} is = subst (IsBeginning ranges) is (all_begin ranges)
stopped_all (Write reason) is = is
stopped_all (Corrupt key) is = is
stopped_all (Refused refusal) is = is
stopped_all fault.NoStore is = is
stopped_all fault.AlreadyThere is = is
stopped_all fault.OtherSchema is = is
stopped_all fault.NotAggregate is = is
stopped_all fault.NotReadable is = is
stopped_all fault.WrongState is = is
stopped_all fault.NotBuilt is = is

stopped_begin : (error : StoreError) {all ranges : List KeyRange} → HasStopped error all ranges → IsBeginning ranges all
stopped_begin Memory has = has
stopped_begin (Read reason) has = has
stopped_begin (Write reason) {ranges = ranges} has = subst (IsBeginning ranges) has (all_begin ranges)
stopped_begin (Corrupt key) {ranges = ranges} has = subst (IsBeginning ranges) has (all_begin ranges)
stopped_begin (Refused refusal) {ranges = ranges} has = subst (IsBeginning ranges) has (all_begin ranges)
stopped_begin fault.NoStore {ranges = ranges} has = subst (IsBeginning ranges) has (all_begin ranges)
stopped_begin fault.AlreadyThere {ranges = ranges} has = subst (IsBeginning ranges) has (all_begin ranges)
stopped_begin fault.OtherSchema {ranges = ranges} has = subst (IsBeginning ranges) has (all_begin ranges)
stopped_begin fault.NotAggregate {ranges = ranges} has = subst (IsBeginning ranges) has (all_begin ranges)
stopped_begin fault.NotReadable {ranges = ranges} has = subst (IsBeginning ranges) has (all_begin ranges)
stopped_begin fault.WrongState {ranges = ranges} has = subst (IsBeginning ranges) has (all_begin ranges)
stopped_begin fault.NotBuilt {ranges = ranges} has = subst (IsBeginning ranges) has (all_begin ranges)

stopped_added : (error : StoreError) (answer : Reply) (all ranges : List KeyRange) → reply_of error ≡ Some answer → HasStopped error all ranges → HasAdded answer all ranges
stopped_added Memory answer all ranges is has = absurd (cc)
stopped_added (Read read.FutureVersion) answer all ranges is has = let same : reply.Refused FutureVersion ≡ answer = cc in subst (λ a. HasAdded a all ranges) same has
stopped_added (Read read.TooOld) answer all ranges is has = let same : reply.Refused TooOld ≡ answer = cc in subst (λ a. HasAdded a all ranges) same has
stopped_added (Read read.Memory) answer all ranges is has = absurd (cc)
stopped_added (Write reason) answer all ranges is has = all_added answer has
stopped_added (Corrupt key) answer all ranges is has = all_added answer has
stopped_added (Refused refusal) answer all ranges is has = all_added answer has
stopped_added fault.NoStore answer all ranges is has = all_added answer has
stopped_added fault.AlreadyThere answer all ranges is has = all_added answer has
stopped_added fault.OtherSchema answer all ranges is has = all_added answer has
stopped_added fault.NotAggregate answer all ranges is has = all_added answer has
stopped_added fault.NotReadable answer all ranges is has = all_added answer has
stopped_added fault.WrongState answer all ranges is has = all_added answer has
stopped_added fault.NotBuilt answer all ranges is has = all_added answer has

-- why the reply of an error is right at what is there
abbrev pub IsRight : ℕ → (KeyRange → ReadError → Type 0) → Command → List Mutation → StoreError → Map → Serial → Type 0
IsRight number refuses command before error m serial = (answer : Reply) → reply_of error ≡ Some answer → IsServed number m before serial command answer ⊎ IsReadRefusal refuses (reach number (opened_in number serial) command m) answer

-- what is so of a map, and of all that it holds, where a command stopped with an error
pub record IsStop (number : ℕ) (refuses : KeyRange → ReadError → Type 0) (opened : Option Opened) (command : Command) (before : List Mutation) (error : StoreError) (ranges : List KeyRange) (m : Map) : Type 0 where
  pub there : HasOpened number opened m
  pub reads : HasStopped error (added_by number opened command m) ranges
  pub told : (answer : Reply) → reply_of error ≡ Some answer → TellsOfPairs number opened command answer m
  pub held : (serial : Serial) → Stands number m serial → IsRight number refuses command before error m serial × HasStopped error (added_by number (opened_in number serial) command m) ranges

-- REFUSED: reads, and then an error that is right at all that may be there
pub refused_by : (number : ℕ) {maps : ℕ → Map} {refuses : KeyRange → ℕ → ReadError → Type 0} {old new : CommitRequest} (command : Command) (opened : Option Opened) (error : StoreError) (ranges : List KeyRange) →
    Ran maps ranges old new [] (IsStop number (λ range. refuses range old.read_version) opened command old.mutations error ranges) → IsCommandRefused number maps refuses command error old new
refused_by number {refuses = refuses} {old = old} {new = new} command opened error ranges ran = record {
  stopped = record {
    opened = opened;
    added = ranges;
    ran = ran_because ran (λ m stop. record { there = stop.there; reads = stopped_begin error stop.reads; held = λ serial stands. stopped_begin error (stop.held serial stands).1 });
  };
  replied = λ answer is.
      let no_effect = error_refuses error answer is in record {
        opened = opened;
        added = ranges;
        written = [];
        changes = ap not (sym no_effect.1);
        ran =
            ran_because ran (λ m stop. (
              record { there = stop.there; reads = stopped_added error answer (added_by number opened command m) ranges is stop.reads; told = stop.told answer is },
              λ serial stands. record {
                right = (stop.held serial stands).0 answer is;
                wrote = ap (λ b. cond b (writes number m serial command) []) (sym no_effect.0);
                holds = subst (λ b. Stands number m (cond b (effect serial command) serial)) (sym no_effect.0) stands;
                reads = stopped_added error answer (added_by number (opened_in number serial) command m) ranges is (stop.held serial stands).1;
              },
            ));
      };
}

-- MEMORY: want of memory is no reply
pub stop_memory : (number : ℕ) (refuses : KeyRange → ReadError → Type 0) (opened : Option Opened) (command : Command) (before : List Mutation) (ranges : List KeyRange) (m : Map) → HasOpened number opened m → IsBeginning ranges (added_by number opened command m) →
    ((serial : Serial) → Stands number m serial → IsBeginning ranges (added_by number (opened_in number serial) command m)) → IsStop number refuses opened command before Memory ranges m
stop_memory number refuses opened command before ranges m has begin held = record { there = has; reads = begin; told = λ answer is. absurd (cc); held = λ serial stands. (λ answer is. absurd (cc), held serial stands) }

-- it was wanting before anything was read
pub refused_memory : (number : ℕ) {maps : ℕ → Map} {refuses : KeyRange → ℕ → ReadError → Type 0} {old : CommitRequest} (command : Command) → IsCommandRefused number maps refuses command Memory old old
refused_memory number {refuses = refuses} {old = old} command =
    refused_by number command None Memory [] (ran_still refl (λ m.
    stop_memory number (λ range. refuses range old.read_version) None command old.mutations [] m tt (none_begin (added_by number None command m)) (λ serial stands. none_begin (added_by number (opened_in number serial) command m))))

-- it was wanting behind the opening
pub memory_opened : (number : ℕ) {maps : ℕ → Map} {refuses : KeyRange → ℕ → ReadError → Type 0} {old mid : CommitRequest} (opened : Opened) (command : Command) → open_reach number command ≡ opening_reach (store_prefix number) → IsOpened maps (at number opened) old mid → IsCommandRefused number maps refuses command Memory old mid
memory_opened number {refuses = refuses} {old = old} opened command opens is =
    refused_by number command None Memory (opening_reach (store_prefix number)) (ran_because is.ran (λ m has.
    stop_memory number (λ range. refuses range old.read_version) None command old.mutations (opening_reach (store_prefix number)) m tt
    (begin_open number command ((own_reading None command).added m) opens (all_begin (opening_reach (store_prefix number))))
    (λ serial stands. begin_open number command (((own_reading (opened_in number serial) command).added m)) opens (all_begin (opening_reach (store_prefix number))))))

-- a refused read within the reach
pub read_right : (refuses : KeyRange → ReadError → Type 0) (within : List KeyRange) (error : ReadError) (answer : Reply) → reply_of (Read error) ≡ Some answer → IsReadRefusedAs refuses within error → IsReadRefusal refuses within answer
read_right refuses within error answer is says = record { error = error; told = is; refused = says }

-- such a reply tells nothing of what was read
pub told_read : (number : ℕ) (opened : Option Opened) (command : Command) (error : ReadError) (answer : Reply) (m : Map) → reply_of (Read error) ≡ Some answer → TellsOfPairs number opened command answer m
told_read number opened command read.FutureVersion answer m is = let same : reply.Refused FutureVersion ≡ answer = cc in subst (λ a. TellsOfPairs number opened command a m) same tt
told_read number opened command read.TooOld answer m is = let same : reply.Refused TooOld ≡ answer = cc in subst (λ a. TellsOfPairs number opened command a m) same tt
told_read number opened command read.Memory answer m is = absurd (cc)

-- the reply that a damaged pair is
pub told_damage : (number : ℕ) (opened : Option Opened) (command : Command) (key : List ℕ) (answer : Reply) (m : Map) → reply_of (Corrupt key) ≡ Some answer → IsDamaged number opened command key m → TellsOfPairs number opened command answer m
told_damage number opened command key answer m is damaged = let same : reply.Corrupt key ≡ answer = cc in subst (λ a. TellsOfPairs number opened command a m) same damaged

-- the reply that a refusal is
pub told_refused : (number : ℕ) (opened : Option Opened) (command : Command) (refusal : Refusal) (answer : Reply) (m : Map) → ◌≡◌ {A = Option Reply} (Some (reply.Refused refusal)) (Some answer) → IsCommandSound number opened command (reply.Refused refusal) m → TellsOfPairs number opened command answer m
told_refused number opened command refusal answer m is sound = let same : reply.Refused refusal ≡ answer = cc in subst (λ a. TellsOfPairs number opened command a m) same (told_refusal number opened command refusal m sound)

-- the reply that a limit is
pub told_limit : (number : ℕ) (opened : Option Opened) (command : Command) (error : WriteError) (answer : Reply) (m : Map) → reply_of (Write error) ≡ Some answer → ((refusal : Refusal) → (refusal ≡ AlreadyThere → ⊥) → IsCommandSound number opened command (reply.Refused refusal) m) → TellsOfPairs number opened command answer m
told_limit number opened command write.KeyOutside answer m is sound = let same : reply.Refused KeyOutside ≡ answer = cc in subst (λ a. TellsOfPairs number opened command a m) same (sound KeyOutside (λ none. absurd (cc)))
told_limit number opened command write.KeyTooLarge answer m is sound = let same : reply.Refused KeyTooLarge ≡ answer = cc in subst (λ a. TellsOfPairs number opened command a m) same (sound KeyTooLarge (λ none. absurd (cc)))
told_limit number opened command write.ValueTooLarge answer m is sound = let same : reply.Refused ValueTooLarge ≡ answer = cc in subst (λ a. TellsOfPairs number opened command a m) same (sound ValueTooLarge (λ none. absurd (cc)))
told_limit number opened command write.TransactionTooLarge answer m is sound = let same : reply.Refused TransactionTooLarge ≡ answer = cc in subst (λ a. TellsOfPairs number opened command a m) same (sound TransactionTooLarge (λ none. absurd (cc)))
told_limit number opened command write.Memory answer m is sound = absurd (cc)

-- a reply by which the command writes nothing
pub served_idle : (number : ℕ) (m : Map) (before : List Mutation) (serial : Serial) (command : Command) (answer : Reply) → writes number m serial command ≡ [] → IsReply serial command answer → IsServed number m before serial command answer
served_idle number m before serial command answer none is = subst (λ ms. IsLimited (write_all_refusal before ms) serial command answer) (sym none) is

-- a refusal of the command's own, where it writes nothing
pub own_right : (number : ℕ) (refuses : KeyRange → ReadError → Type 0) (command : Command) (before : List Mutation) (error : StoreError) (refusal : Refusal) (m : Map) (serial : Serial) → reply_of error ≡ Some (reply.Refused refusal) → IsReply serial command (reply.Refused refusal) →
    writes number m serial command ≡ [] → IsRight number refuses command before error m serial
own_right number refuses command before error refusal m serial replied is none =
    λ answer same. let that : reply.Refused refusal ≡ answer = cc in inl (subst (IsServed number m before serial command) that (served_idle number m before serial command (reply.Refused refusal) none is))

-- a refusal of the command by this error
pub refused_right : (number : ℕ) (refuses : KeyRange → ReadError → Type 0) (command : Command) (before : List Mutation) (error : StoreError) (m : Map) (serial : Serial) → serial_line serial command ≡ serve.Refuses (reply_of error) → IsRight number refuses command before error m serial
refused_right number refuses command before error m serial is =
    λ answer same. inl (served_idle number m before serial command answer (ap (λ l. written_with l (footprint_writes number m serial command)) is) (subst (λ l. IsReplyOf l answer) (sym is) same))

-- a limit is the reply that it is
limit_is : (error : WriteError) (answer : Reply) → reply_of (Write error) ≡ Some answer → IsLimit error answer
limit_is write.KeyOutside answer is = let same : reply.Refused _ ≡ answer = cc in sym same
limit_is write.KeyTooLarge answer is = let same : reply.Refused _ ≡ answer = cc in sym same
limit_is write.ValueTooLarge answer is = let same : reply.Refused _ ≡ answer = cc in sym same
limit_is write.TransactionTooLarge answer is = let same : reply.Refused _ ≡ answer = cc in sym same
limit_is write.Memory answer is = absurd (cc)

-- a limit that what the command writes meets
pub limit_right : (number : ℕ) (refuses : KeyRange → ReadError → Type 0) (command : Command) (before : List Mutation) (error : WriteError) (m : Map) (serial : Serial) → write_all_refusal before (writes number m serial command) ≡ Some error →
    IsRight number refuses command before (Write error) m serial
limit_right number refuses command before error m serial meets = λ answer is. inl (subst (λ o. IsLimited o serial command answer) (sym meets) (limit_is error answer is))
