-- Whatever a command reads and writes lies under the prefix of its store.
use Rattle.std.proofs.Common.{◌≡◌, ℕ, zero, suc, true, false, inl, inr, List, [], ◌∷◌, ◌++◌, sym, Some, None, Result, Ok, Err}
use Rattle.tuple_codec.specs.Subspace.{BeginsWith}
use Rattle.kv_core.specs.Range.{contains, covers, point}
use Rattle.cluster_core.proofs.Ownership.{point_key}
use Rattle.metadata.specs.declared.index.IndexDefinition.{IndexDefinition}
use Rattle.metadata.specs.declared.index.State.{State}
use Rattle.metadata.specs.declared.refusal.Refusal.{Refusal}
use Rattle.metadata.specs.Asked.{schema_asked}
use Rattle.metadata.specs.Layout.{place, place_of_states}
use Rattle.metadata.specs.Schema.{Schema}
use Rattle.index_maint.proofs.Places.{begins_before}
use Rattle.record_store.specs.Layout.{schema_key, states_range, store_prefix}
use Rattle.record_store.specs.Opening.{opening_reach}
use Rattle.record_store.specs.Store.{Serial, Store}
use Rattle.record_store.proofs.Held.{under}
use Rattle.schedule.specs.declared.step.Command.{Command}
use Rattle.schedule.specs.declared.step.Command.TheVariants as commands
use Rattle.schedule.specs.declared.step.Command.TheVariants.{Create, «Type», Save, Load, Remove, Query, Plan, Execute, Index, Drop, Disable, WriteOnly, Readable, Build, State as AskState, Aggregate}
use Rattle.schedule.specs.Contract.{attempted}
use Rattle.schedule.specs.Keys.{IsOfBuilt, IsOfEntries, IsOfIndexes, IsOfRecords, MayReadIn, MayReadKey, MayReadScanning, MayWriteEmptying, MayWriteIn, MayWriteKey, MayWriteMarking}
use Rattle.schedule.specs.Past.{Attempt}
use Rattle.schedule.specs.Reach.{make_reach, open_reach}
use Rattle.schedule.specs.Right.{MayHaveRead, MayHaveWritten}
use Rattle.schedule.proofs.Written.{or_cases}

module _ (prefix key : List ℕ) where
  abbrev Within : Type 0
  Within = BeginsWith prefix key

  -- a key that is a place under the prefix, or begins with one
  itself : (rest : List ℕ) → key ≡ prefix ++ rest → Within
  itself rest is = (rest, is)

  of_records : (number : ℕ) → IsOfRecords prefix number key → Within
  of_records number of = begins_before prefix _ key of

  of_entries : (number : ℕ) → IsOfEntries prefix number key → Within
  of_entries number of = begins_before prefix _ key of

  of_built : (number : ℕ) → IsOfBuilt prefix number key → Within
  of_built number of = begins_before prefix _ key of

  of_indexes : {store : Store} {Such : IndexDefinition → Type 0} {In : State → Type 0} {Of : ℕ → List ℕ → Type 0} → ((number : ℕ) → Of number key → Within) → IsOfIndexes store Such In Of key → Within
  of_indexes so of = so of.index.number of.of

  marking : (number : ℕ) → MayWriteMarking prefix number key → Within
  marking number (inl state) = itself _ state
  marking number (inr of) = of_built number of

  emptying : (number : ℕ) → MayWriteEmptying prefix number key → Within
  emptying number (inl may) = marking number may
  emptying number (inr of) = of_entries number of

  scanning : {store : Store} {Such : IndexDefinition → Type 0} (number : ℕ) → MayReadScanning prefix store number Such key → Within
  scanning number (inl of) = of_records number of
  scanning number (inr of) = of_indexes of_entries of

  -- ---- written

  written_in : (store : Store) (command : Command) → MayWriteIn prefix store command key → Within
  written_in store (Create request) may = absurd may
  written_in store («Type» request) may = itself _ may
  written_in store (commands.Field name field) may = itself _ may
  written_in store (Save name cells) (r, is, inl own) = itself _ own
  written_in store (Save name cells) (r, is, inr of) = of_indexes of_entries of
  written_in store (Load name cells) may = absurd may
  written_in store (Remove name cells) (k, is, inl own) = itself _ own
  written_in store (Remove name cells) (k, is, inr of) = of_indexes of_entries of
  written_in store (Query query) may = absurd may
  written_in store (Plan query) may = absurd may
  written_in store (Execute plan) may = absurd may
  written_in store (Index request) (inl schema) = itself _ schema
  written_in store (Index request) (inr state) = itself _ state.2
  written_in store (Drop name) (inl schema) = itself _ schema
  written_in store (Drop name) (inr (index, is, may)) = emptying index.number may
  written_in store (Disable name) (index, is, may) = emptying index.number may
  written_in store (WriteOnly name) (index, is, may) = emptying index.number may
  written_in store (Readable name) (index, is, may) = marking index.number may
  written_in store (Build name limit) (index, is, inl of) = of_entries index.number of
  written_in store (Build name limit) (index, is, inr of) = of_built index.number of
  written_in store (AskState name) may = absurd may
  written_in store (Aggregate name group) may = absurd may

  -- ---- read

  read_in : (store : Store) (command : Command) → MayReadIn prefix store command key → Within
  read_in store (Create request) may = absurd may
  read_in store («Type» request) may = absurd may
  read_in store (commands.Field name field) may = absurd may
  read_in store (Save name cells) (r, is, inl own) = itself _ own
  read_in store (Save name cells) (r, is, inr of) = of_indexes of_built of
  read_in store (Load name cells) (k, is, own) = itself _ own
  read_in store (Remove name cells) (k, is, inl own) = itself _ own
  read_in store (Remove name cells) (k, is, inr of) = of_indexes of_built of
  read_in store (Query query) (t, is, may) = scanning t.number may
  read_in store (Plan query) may = absurd may
  read_in store (Execute plan) (t, is, may) = scanning t.number may
  read_in store (Index request) (index, is, of) = of_records index.type_number of
  read_in store (Drop name) may = absurd may
  read_in store (Disable name) may = absurd may
  read_in store (WriteOnly name) may = absurd may
  read_in store (Readable name) (index, is, of) = of_built index.number of
  read_in store (Build name limit) (index, is, inl of) = of_built index.number of
  read_in store (Build name limit) (index, is, inr of) = of_records index.type_number of
  read_in store (AskState name) may = absurd may
  read_in store (Aggregate name group) (index, is, own) = begins_before prefix _ key (_, own)

  opening_within : covers (opening_reach prefix) key ≡ true → Within
  opening_within is = elim (or_cases (contains (point (schema_key prefix)) key) (covers (states_range prefix ∷ []) key) is) [
    | inl here ↦ itself _ (sym (point_key (schema_key prefix) key here))
    | inr later ↦ elim (or_cases (contains (states_range prefix) key) false later) [
      | inl inside ↦ begins_before prefix _ key (under (place prefix place_of_states) (0 ∷ []) (255 ∷ []) key inside)
      | inr bad ↦ absurd (cc)
    ]
  ]

module _ (number : ℕ) (key : List ℕ) where
  abbrev OfStore : Type 0
  OfStore = BeginsWith (store_prefix number) key

  make_within : (o : Result Schema Refusal) → covers (make_reach number o) key ≡ true → OfStore
  make_within (Ok schema) is = opening_within (store_prefix number) key is
  make_within (Err refusal) is = absurd (cc)

  open_within : (command : Command) → covers (open_reach number command) key ≡ true → OfStore
  open_within (Create request) is = make_within (schema_asked request) is
  open_within (Build name zero) is = absurd (cc)
  open_within (Build name (suc more)) is = opening_within (store_prefix number) key is
  open_within («Type» request) is = opening_within (store_prefix number) key is
  open_within (commands.Field name field) is = opening_within (store_prefix number) key is
  open_within (Save name cells) is = opening_within (store_prefix number) key is
  open_within (Load name cells) is = opening_within (store_prefix number) key is
  open_within (Remove name cells) is = opening_within (store_prefix number) key is
  open_within (Query query) is = opening_within (store_prefix number) key is
  open_within (Plan query) is = opening_within (store_prefix number) key is
  open_within (Execute plan) is = opening_within (store_prefix number) key is
  open_within (Index request) is = opening_within (store_prefix number) key is
  open_within (Drop name) is = opening_within (store_prefix number) key is
  open_within (Disable name) is = opening_within (store_prefix number) key is
  open_within (WriteOnly name) is = opening_within (store_prefix number) key is
  open_within (Readable name) is = opening_within (store_prefix number) key is
  open_within (AskState name) is = opening_within (store_prefix number) key is
  open_within (Aggregate name group) is = opening_within (store_prefix number) key is

  write_within : (serial : Serial) (command : Command) → MayWriteKey number serial command key → OfStore
  write_within (Some store) command may = written_in (store_prefix number) key store command may
  write_within None (Create request) may = (_, may)
  write_within None («Type» request) may = absurd may
  write_within None (commands.Field name field) may = absurd may
  write_within None (Save name cells) may = absurd may
  write_within None (Load name cells) may = absurd may
  write_within None (Remove name cells) may = absurd may
  write_within None (Query query) may = absurd may
  write_within None (Plan query) may = absurd may
  write_within None (Execute plan) may = absurd may
  write_within None (Index request) may = absurd may
  write_within None (Drop name) may = absurd may
  write_within None (Disable name) may = absurd may
  write_within None (WriteOnly name) may = absurd may
  write_within None (Readable name) may = absurd may
  write_within None (Build name limit) may = absurd may
  write_within None (AskState name) may = absurd may
  write_within None (Aggregate name group) may = absurd may

  key_within : (serial : Serial) (command : Command) → MayReadKey number serial command key → OfStore
  key_within serial command (inl opens) = open_within command opens
  key_within None command (inr there) = absurd there
  key_within (Some store) command (inr there) = read_in (store_prefix number) key store command there

  -- so do those of attempts
  pub written_within : (serial : Serial) (attempts : List Attempt) → MayHaveWritten number serial attempts key → OfStore
  written_within serial [] may = absurd may
  written_within serial (attempt ∷ attempts) (inl own) = write_within serial attempt.command own.1
  written_within serial (attempt ∷ attempts) (inr later) = written_within (attempted serial attempt) attempts later

  pub read_within : (serial : Serial) (attempts : List Attempt) → MayHaveRead number serial attempts key → OfStore
  read_within serial [] may = absurd may
  read_within serial (attempt ∷ attempts) (inl own) = key_within serial attempt.command own
  read_within serial (attempt ∷ attempts) (inr later) = read_within (attempted serial attempt) attempts later
