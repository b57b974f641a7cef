-- What a command establishes that was performed on a transaction in the store with a number, whatever map the snapshot
-- turns out to have.
use Rattle.std.specs.Prelude.{◌≡◌, ◌⊎◌, ℕ, zero, Bool, true, false, List, [], Option, Some}
use Rattle.std.specs.Prelude.{None, Result, Ok, Err, IsTrue, length, not, ◌==◌, if◌then◌else◌}
use Rattle.std.specs.FinMap.{get}
use Rattle.kv_core.specs.Range.{KeyRange, contains, covers}
use Rattle.kv_core.specs.Map.{Map, after_all}
use Rattle.kv_core.specs.Limits.{write_all_refusal}
use Rattle.kv_core.specs.declared.change.CommitRequest.{CommitRequest}
use Rattle.kv_core.specs.declared.change.Mutation.{Mutation}
use Rattle.kv_core.specs.declared.change.WriteError.{WriteError}
use Rattle.kv_core.specs.declared.change.WriteError.TheVariants as limits
use Rattle.kv_core.specs.declared.snapshot.ReadError.{ReadError}
use Rattle.txn.specs.Runs.{Ran}
use Rattle.metadata.specs.declared.refusal.Refusal.{Refusal}
use Rattle.schedule.specs.Refusals.{read_reply}
use Rattle.schedule.specs.declared.refusal.Refusal.TheVariants.{AlreadyThere, FutureVersion, TooOld, KeyOutside}
use Rattle.schedule.specs.declared.refusal.Refusal.TheVariants.{KeyTooLarge, ValueTooLarge, TransactionTooLarge}
use Rattle.metadata.specs.Asked.{schema_asked}
use Rattle.metadata.specs.Schema.{Schema}
use Rattle.schedule.specs.declared.step.Command.{Command}
use Rattle.schedule.specs.declared.reply.Reply.{Reply}
use Rattle.schedule.specs.declared.step.Command.TheVariants.{Build, Create}
use Rattle.schedule.specs.declared.reply.Reply.TheVariants.{Refused, Corrupt, Stopped}
use Rattle.record_store.specs.Call.{IsDamagedAt, Opened}
use Rattle.record_store.specs.Call as call
use Rattle.record_store.specs.Store.{Serial}
use Rattle.record_store.specs.Form.{IsFirstBad, IsOpeningPair, read_in}
use Rattle.record_store.specs.Layout.{schema_key, store_prefix}
use Rattle.record_store.specs.Opening.{HasSchema, opening_reach}
use Rattle.record_store.specs.Steps.{IsBeginning}
use Rattle.schedule.specs.Serve.{IsReply, effect}
use Rattle.schedule.specs.Past.{is_accepted, tells_change}
use Rattle.schedule.specs.Holds.{Stands}
use Rattle.schedule.specs.Reach.{added_by, opened_in, own_damage, own_reading, reach, writes}

-- the reply that a write limit is
abbrev pub IsLimit : WriteError → Reply → Type 0
IsLimit limits.KeyOutside answer = answer ≡ Refused KeyOutside
IsLimit limits.KeyTooLarge answer = answer ≡ Refused KeyTooLarge
IsLimit limits.ValueTooLarge answer = answer ≡ Refused ValueTooLarge
IsLimit limits.TransactionTooLarge answer = answer ≡ Refused TransactionTooLarge
IsLimit limits.Memory answer = ⊥

-- the reply is the serial store's, unless the command's writes meet a limit
abbrev pub IsLimited : Option WriteError → Serial → Command → Reply → Type 0
IsLimited None serial command answer = IsReply serial command answer
IsLimited (Some error) serial command answer = IsLimit error answer

-- the reply is the one that the serial store gives to the command in a transaction that sees this map, and wrote these
-- mutations before
abbrev pub IsServed : ℕ → Map → List Mutation → Serial → Command → Reply → Type 0
IsServed number m before serial command answer =
    IsLimited (write_all_refusal before (writes number m serial command)) serial command answer

-- a read of a range, all of whose keys are such, is refused so
pub record IsReadRefusedAmong (refuses : KeyRange → ReadError → Type 0) (Is : List ℕ → Type 0) (error : ReadError) :
    Type 0 where
  pub range : KeyRange
  pub inside : (key : List ℕ) → IsTrue (contains range key) → Is key
  pub refused : refuses range error

-- the reply is that of such a refused read
pub record IsRefusalAmong (refuses : KeyRange → ReadError → Type 0) (Is : List ℕ → Type 0) (answer : Reply) :
    Type 0 where
  pub error : ReadError
  pub told : read_reply error ≡ Some answer
  pub refused : IsReadRefusedAmong refuses Is error

-- Private: so for the keys of some ranges
abbrev pub IsReadRefusedAs : (KeyRange → ReadError → Type 0) → List KeyRange → ReadError → Type 0
IsReadRefusedAs refuses within error = IsReadRefusedAmong refuses (λ key. IsTrue (covers within key)) error

-- so for the keys of the reach
abbrev pub IsReadRefusal : (KeyRange → ReadError → Type 0) → List KeyRange → Reply → Type 0
IsReadRefusal refuses within answer = IsRefusalAmong refuses (λ key. IsTrue (covers within key)) answer

-- the reply tells that not all was read: a read was refused, or memory ran out
abbrev pub is_unread : Reply → Bool
is_unread (Refused FutureVersion) = true
is_unread (Refused TooOld) = true
is_unread Stopped = true
is_unread answer = false

-- the ranges that were added are all of these, or the first ones where not all was read
abbrev pub HasAddedSo : Bool → List KeyRange → List KeyRange → Type 0
HasAddedSo true all added = IsBeginning added all
HasAddedSo false all added = added ≡ all

-- so they are with this reply
abbrev pub HasAdded : Reply → List KeyRange → List KeyRange → Type 0
HasAdded answer all added = HasAddedSo (is_unread answer) all added

-- a command has this reply to what is there, which the map seen before it holds; what it wrote is what the command
-- writes there, and leads to a map that holds what is there after it; and these are the ranges that it reads there
pub record IsPerformedAt (number : ℕ) (refuses : KeyRange → ReadError → Type 0) (command : Command) (answer : Reply)
    (before written : List Mutation) (added : List KeyRange) (m : Map) (serial : Serial) : Type 0 where
  pub right :
      IsServed number m before serial command answer
      ⊎ IsReadRefusal refuses (reach number (opened_in number serial) command m) answer
  pub wrote : written ≡ (if is_accepted answer then writes number m serial command else [])
  pub holds : Stands number (after_all written m) (if is_accepted answer then effect serial command else serial)
  pub reads : HasAdded answer (added_by number (opened_in number serial) command m) added

-- ---- the same over a map that may be damaged

-- the map has what was opened, as far as a store was
abbrev pub HasOpened : ℕ → Option Opened → Map → Type 0
HasOpened number None m = Unit {0}
HasOpened number (Some opened) m = (opened.prefix ≡ store_prefix number) × HasSchema opened m

-- a store may be made where no pair stands at the schema's key
abbrev pub IsMade : ℕ → Reply → Map → Type 0
IsMade number (Refused AlreadyThere) m = get m (schema_key (store_prefix number)) ≡ None → ⊥
IsMade number answer m = get m (schema_key (store_prefix number)) ≡ None

abbrev pub IsMadeOf : ℕ → Result Schema Refusal → Reply → Map → Type 0
IsMadeOf number (Ok schema) answer m = IsMade number answer m
IsMadeOf number (Err refusal) answer m = Unit {0}

-- all pairs that the command read of the map are of the written form, and its plan met no damage; where no store was
-- opened, no pair stands where a schema does
abbrev pub IsCommandSound : ℕ → Option Opened → Command → Reply → Map → Type 0
IsCommandSound number (Some opened) command answer m =
    call.IsSound opened (own_reading (Some opened) command) m
    × (own_damage (Some opened) command m ≡ None)
IsCommandSound number None (Create request) answer m = IsMadeOf number (schema_asked request) answer m
IsCommandSound number None (Build name zero) answer m = Unit {0}
IsCommandSound number None command answer m = get m (schema_key (store_prefix number)) ≡ None

-- the first pair read that isn't of the written form has this key: one that opening the store reads, where a pair
-- stands at the schema's key, or after it one of the command's own, or the first damaged one that its plan met
abbrev pub IsDamaged : ℕ → Option Opened → Command → List ℕ → Map → Type 0
IsDamaged number None command key m =
    let prefix = store_prefix number in
    (get m (schema_key prefix) ≡ None → ⊥)
    × IsFirstBad (IsOpeningPair prefix m) (read_in m (opening_reach prefix)) key
IsDamaged number (Some opened) command key m =
    IsDamagedAt opened (own_reading (Some opened) command) key m
    ⊎ (own_damage (Some opened) command m ≡ Some key)

-- the pairs are sound, unless not all was read
abbrev pub IsSoundSo : ℕ → Bool → Option Opened → Command → Reply → Map → Type 0
IsSoundSo number true opened command answer m = Unit {0}
IsSoundSo number false opened command answer m = IsCommandSound number opened command answer m

-- what the reply tells of the pairs that were read
abbrev pub TellsOfPairs : ℕ → Option Opened → Command → Reply → Map → Type 0
TellsOfPairs number opened command (Corrupt key) m = IsDamaged number opened command key m
TellsOfPairs number opened command answer m = IsSoundSo number (is_unread answer) opened command answer m

-- by what was opened, which the map has, the command read just these ranges of it, and the reply tells of damage only
-- where it is
pub record IsReadAs (number : ℕ) (opened : Option Opened) (command : Command) (answer : Reply) (added : List KeyRange)
    (m : Map) : Type 0 where
  pub there : HasOpened number opened m
  pub reads : HasAdded answer (added_by number opened command m) added
  pub told : TellsOfPairs number opened command answer m

-- a command was performed: over every map that agrees with what was read, what was read is as the reply says, and it
-- was so for all that this map holds; and it wrote something exactly where the command with this reply changes
-- something
pub record IsPerformed (number : ℕ) (maps : ℕ → Map) (refuses : KeyRange → ReadError → Type 0) (command : Command)
    (answer : Reply) (old new : CommitRequest) : Type 0 where
  pub opened : Option Opened
  pub added : List KeyRange
  pub written : List Mutation
  pub changes : (length written == 0) ≡ not (tells_change answer)
  pub ran : Ran maps added old new written (λ m. IsReadAs number opened command answer added m
      × ((serial : Serial) → Stands number m serial →
      IsPerformedAt number refuses command answer old.mutations written added m serial))

-- by what was opened, which the map has, the command read the first ones of its ranges, and so it did for all that this
-- map holds
pub record IsPartlyRead (number : ℕ) (opened : Option Opened) (command : Command) (added : List KeyRange) (m : Map) :
    Type 0 where
  pub there : HasOpened number opened m
  pub reads : IsBeginning added (added_by number opened command m)
  pub held :
      (serial : Serial) → Stands number m serial →
      IsBeginning added (added_by number (opened_in number serial) command m)

-- a command stopped for want of memory: it wrote nothing, and read the first ones of its ranges; a transaction can go
-- on from there
pub record IsCommandStopped (number : ℕ) (maps : ℕ → Map) (command : Command) (old new : CommitRequest) :
    Type 0 where
  pub opened : Option Opened
  pub added : List KeyRange
  pub ran : Ran maps added old new [] (IsPartlyRead number opened command added)
