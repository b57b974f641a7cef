-- Commands that only look write nothing, so that the changes among commands write what all of them do.
use Rattle.std.proofs.Common.{◌≡◌, ℕ, List, [], ◌∷◌, ◌++◌, Option, Some, None, Result, Ok, Err, refl, sym, ap, ◌∙◌}
use Rattle.std.specs.List.{cons_option, filter_map}
use Rattle.kv_core.specs.Map.{Map, after_all}
use Rattle.kv_core.specs.declared.change.Mutation.{Mutation}
use Rattle.metadata.specs.declared.cells.Cell.{Cell}
use Rattle.metadata.specs.declared.index.IndexDefinition.{IndexDefinition}
use Rattle.metadata.specs.Record.{key_of}
use Rattle.metadata.specs.Schema.{find_index}
use Rattle.tuple_codec.specs.Item.{Item}
use Rattle.record_store.specs.Store.{Serial, Store}
use Rattle.record_store.specs.declared.error.StoreError.{StoreError}
use Rattle.record_store.specs.Calls.{load_footprint, total_footprint}
use Rattle.record_store.specs.Layout.{store_prefix}
use Rattle.record_store.specs.Meaning.{by_schema, totalled_index}
use Rattle.schedule.specs.declared.step.Command.{Command}
use Rattle.schedule.specs.declared.step.Command.TheVariants.{Create, «Type», Field, Save, Load, Remove, Query, Plan, Execute, Index, Drop, Disable, WriteOnly, Readable, Build, State, Aggregate}
use Rattle.schedule.specs.Exact.{commands_written}
use Rattle.schedule.specs.Query.{opened_as}
use Rattle.schedule.specs.Reach.{footprint_on, footprint_writes, writes, written_with}
use Rattle.schedule.specs.Serve.{Executes, Line, Plans, Queries, Refuses, Replies, effect, serial_line}
use Rattle.command_log.specs.declared.change.Change.{Change}
use Rattle.command_log.specs.declared.change.Change.TheVariants as changes
use Rattle.replay.specs.Commands.{change_of, command_of, commands_of}
use Rattle.replay.specs.Laws.{changes_among}
use Rattle.replay.proofs.Logs.{leaves}

nothing_loaded : (number : ℕ) (m : Map) (store : Store) (asked : Result (List Item) StoreError) → (footprint_on (load_footprint (opened_as (store_prefix number) store)) asked).writes m store ≡ []
nothing_loaded number m store (Ok key) = refl
nothing_loaded number m store (Err error) = refl

nothing_totalled : (number : ℕ) (m : Map) (store : Store) (group : List Cell) (asked : Result IndexDefinition StoreError) → (footprint_on (total_footprint (opened_as (store_prefix number) store) group) asked).writes m store ≡ []
nothing_totalled number m store group (Ok index) = refl
nothing_totalled number m store group (Err error) = refl

-- whatever the line is, nothing is written with it where the footprint writes nothing
with_nothing : (line : Line) (mutations : List Mutation) → mutations ≡ [] → written_with line mutations ≡ []
with_nothing (Refuses refusal) mutations is = refl
with_nothing (Replies told after) mutations is = is
with_nothing (Queries store query) mutations is = refl
with_nothing (Plans store query) mutations is = refl
with_nothing (Executes store plan) mutations is = refl

writes_none : (number : ℕ) (m : Map) (serial : Serial) (command : Command) → change_of command ≡ None → writes number m serial command ≡ []
writes_none number m None (Load name cells) none = refl
writes_none number m None (Query query) none = refl
writes_none number m None (Plan query) none = refl
writes_none number m None (Execute plan) none = refl
writes_none number m None (State name) none = refl
writes_none number m None (Aggregate name group) none = refl
writes_none number m (Some store) (Load name cells) none = with_nothing (serial_line (Some store) (Load name cells)) (footprint_writes number m (Some store) (Load name cells)) (nothing_loaded number m store (by_schema (key_of store.schema name cells)))
writes_none number m (Some store) (Query query) none = refl
writes_none number m (Some store) (Plan query) none = refl
writes_none number m (Some store) (Execute plan) none = refl
writes_none number m (Some store) (State name) none = with_nothing (serial_line (Some store) (State name)) (footprint_writes number m (Some store) (State name)) refl
writes_none number m (Some store) (Aggregate name group) none = with_nothing (serial_line (Some store) (Aggregate name group)) (footprint_writes number m (Some store) (Aggregate name group)) (nothing_totalled number m store group (totalled_index store.schema (opened_as (store_prefix number) store).states group (find_index store.schema name)))
writes_none number m serial (Create request) none = absurd (cc)
writes_none number m serial («Type» request) none = absurd (cc)
writes_none number m serial (Field name field) none = absurd (cc)
writes_none number m serial (Save name cells) none = absurd (cc)
writes_none number m serial (Remove name cells) none = absurd (cc)
writes_none number m serial (Index request) none = absurd (cc)
writes_none number m serial (Drop name) none = absurd (cc)
writes_none number m serial (Disable name) none = absurd (cc)
writes_none number m serial (WriteOnly name) none = absurd (cc)
writes_none number m serial (Readable name) none = absurd (cc)
writes_none number m serial (Build name limit) none = absurd (cc)

-- the change that a command is, is the command
change_back : (command : Command) (change : Change) → change_of command ≡ Some change → command_of change ≡ command
change_back (Create request) change is = let same : changes.Create request ≡ change = cc in ap command_of (sym same)
change_back («Type» request) change is = let same : changes.«Type» request ≡ change = cc in ap command_of (sym same)
change_back (Field name field) change is = let same : changes.Field name field ≡ change = cc in ap command_of (sym same)
change_back (Save name cells) change is = let same : changes.Save name cells ≡ change = cc in ap command_of (sym same)
change_back (Remove name cells) change is = let same : changes.Remove name cells ≡ change = cc in ap command_of (sym same)
change_back (Index request) change is = let same : changes.Index request ≡ change = cc in ap command_of (sym same)
change_back (Drop name) change is = let same : changes.Drop name ≡ change = cc in ap command_of (sym same)
change_back (Disable name) change is = let same : changes.Disable name ≡ change = cc in ap command_of (sym same)
change_back (WriteOnly name) change is = let same : changes.WriteOnly name ≡ change = cc in ap command_of (sym same)
change_back (Readable name) change is = let same : changes.Readable name ≡ change = cc in ap command_of (sym same)
change_back (Build name limit) change is = let same : changes.Build name limit ≡ change = cc in ap command_of (sym same)
change_back (Load name cells) change is = absurd (cc)
change_back (Query query) change is = absurd (cc)
change_back (Plan query) change is = absurd (cc)
change_back (Execute plan) change is = absurd (cc)
change_back (State name) change is = absurd (cc)
change_back (Aggregate name group) change is = absurd (cc)

-- so it is with commands that may write, among them
pub written_suffice : (number : ℕ) (m : Map) (serial : Serial) (commands : List Command) → commands_written number m serial (changes_among commands) ≡ commands_written number m serial commands
written_suffice number m serial [] = refl
written_suffice number m serial (command ∷ commands) =
    by (change_of command) refl (written_suffice number (after_all (writes number m serial command) m) (effect serial command) commands) (written_suffice number m serial commands)
  where
    among : Option Change → List Command
    among found = commands_of (cons_option found (filter_map change_of commands))

    by : (found : Option Change) → change_of command ≡ found →
        commands_written number (after_all (writes number m serial command) m) (effect serial command) (changes_among commands) ≡ commands_written number (after_all (writes number m serial command) m) (effect serial command) commands →
        commands_written number m serial (changes_among commands) ≡ commands_written number m serial commands →
        commands_written number m serial (changes_among (command ∷ commands)) ≡ commands_written number m serial (command ∷ commands)
    by (Some change) is behind here =
        ap (λ f. commands_written number m serial (among f)) is
        ∙ ap (λ c. commands_written number m serial (c ∷ changes_among commands)) (change_back command change is)
        ∙ ap (λ ms. writes number m serial command ++ ms) behind
    by None is behind here =
        ap (λ f. commands_written number m serial (among f)) is
        ∙ here
        ∙ sym (ap (λ ms. ms ++ commands_written number (after_all ms m) (effect serial command) commands) (writes_none number m serial command is) ∙ ap (λ s. commands_written number m s commands) (leaves serial command is))
