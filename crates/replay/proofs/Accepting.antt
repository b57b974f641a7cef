-- Whether a change is accepted is decided by what is there.
use Rattle.std.proofs.Common.{◌≡◌, ℕ, zero, suc, Bool, true, false, List, Option, Some, None, Result, Ok, Err, refl, sym, ap, ◌∙◌}
use Rattle.std.proofs.lemmas.Bool.{true≢false}
use Rattle.kv_core.specs.Map.{Map}
use Rattle.kv_core.specs.Limits.{write_all_refusal}
use Rattle.kv_core.specs.declared.change.Mutation.{Mutation}
use Rattle.kv_core.specs.declared.change.WriteError.{WriteError}
use Rattle.kv_core.specs.declared.change.WriteError.TheVariants as limits
use Rattle.metadata.specs.Schema.{Schema, find_index}
use Rattle.metadata.specs.declared.refusal.Refusal.{Refusal}
use Rattle.metadata.specs.Asked.{schema_asked}
use Rattle.metadata.specs.declared.index.IndexDefinition.{IndexDefinition}
use Rattle.metadata.specs.declared.index.State.TheVariants as state
use Rattle.metadata.specs.Change.{add_field, add_type}
use Rattle.metadata.specs.IndexChange.{new_index}
use Rattle.metadata.specs.Record.{key_of, record_of}
use Rattle.online_builder.specs.Stepping.{step_meaning}
use Rattle.record_store.specs.Store.{Serial, Store, listed_states}
use Rattle.record_store.specs.Meaning.{Meaning, by_schema, drop_meaning, field_meaning, index_meaning, index_number, mark_meaning, readable_meaning, remove_meaning, save_meaning, type_meaning, write_only_named}
use Rattle.record_store.specs.declared.error.StoreError.{StoreError}
use Rattle.schedule.specs.declared.reply.Reply.{Reply}
use Rattle.schedule.specs.declared.reply.Reply.TheVariants as reply
use Rattle.schedule.specs.Past.{is_accepted}
use Rattle.schedule.specs.Serve.{Line, Refuses, Replies, Queries, Plans, Executes, IsReplyOf, answering, calling, creating, done, reply_to_build, reply_to_remove, reply_to_save, serial_line}
use Rattle.schedule.specs.Performed.{IsLimit, IsLimited, IsServed}
use Rattle.schedule.specs.Reach.{writes}
use Rattle.command_log.specs.declared.change.Change.{Change}
use Rattle.command_log.specs.declared.change.Change.TheVariants.{Create, «Type», Field, Index, Save, Remove, Drop, Disable, WriteOnly, Readable, Build}
use Rattle.replay.specs.Commands.{command_of}

-- the line has one reply
abbrev is_told : Line → Bool
is_told (Refuses refusal) = true
is_told (Replies told after) = true
is_told other = false

told_answering : {A : Type 0} (store : Store) (told : A → Reply) (meaning : Meaning A) (result : Result A StoreError) → is_told (answering store told meaning result) ≡ true
told_answering store told meaning (Ok answer) = refl
told_answering store told meaning (Err error) = refl

told_calling : {K A : Type 0} (store : Store) (told : A → Reply) (meaning : K → Meaning A) (asked : Result K StoreError) → is_told (calling store told meaning asked) ≡ true
told_calling store told meaning (Ok value) = told_answering store told (meaning value) ((meaning value).answer store)
told_calling store told meaning (Err error) = refl

told_creating : (serial : Serial) (made : Result Schema Refusal) → is_told (creating serial made) ≡ true
told_creating serial (Err refusal) = refl
told_creating None (Ok schema) = refl
told_creating (Some store) (Ok schema) = refl

-- so it is with a change
told_change : (serial : Serial) (change : Change) → is_told (serial_line serial (command_of change)) ≡ true
told_change serial (Create request) = told_creating serial (schema_asked request)
told_change serial (Build name zero) = refl
told_change None («Type» request) = refl
told_change None (Field name field) = refl
told_change None (Index request) = refl
told_change None (Save name cells) = refl
told_change None (Remove name cells) = refl
told_change None (Drop name) = refl
told_change None (Disable name) = refl
told_change None (WriteOnly name) = refl
told_change None (Readable name) = refl
told_change None (Build name (suc more)) = refl
told_change (Some store) («Type» request) = told_calling store done type_meaning (by_schema (add_type store.schema request))
told_change (Some store) (Field name field) = told_calling store done field_meaning (by_schema (add_field store.schema name field))
told_change (Some store) (Index request) = told_calling store reply.Indexed index_meaning (by_schema (new_index store.schema request))
told_change (Some store) (Save name cells) = told_calling store reply_to_save save_meaning (by_schema (record_of store.schema name cells))
told_change (Some store) (Remove name cells) = told_calling store reply_to_remove remove_meaning (by_schema (key_of store.schema name cells))
told_change (Some store) (Drop name) = told_calling store done drop_meaning (by_schema (index_number (find_index store.schema name)))
told_change (Some store) (Disable name) = told_calling store done (mark_meaning state.Disabled) (by_schema (index_number (find_index store.schema name)))
told_change (Some store) (WriteOnly name) = told_calling store done (mark_meaning state.WriteOnly) (by_schema (index_number (find_index store.schema name)))
told_change (Some store) (Readable name) = told_calling store done (λ (index : IndexDefinition). readable_meaning index.number) (write_only_named store.schema (listed_states store) name)
told_change (Some store) (Build name (suc more)) = told_calling store reply_to_build (step_meaning (suc more)) (write_only_named store.schema (listed_states store) name)

some_same : (a b : Reply) → Some a ≡ Some b → a ≡ b
some_same a b is = cc

one_reply : (line : Line) (a b : Reply) → is_told line ≡ true → IsReplyOf line a → IsReplyOf line b → a ≡ b
one_reply (Refuses refusal) a b told is_a is_b = some_same a b (sym is_a ∙ is_b)
one_reply (Replies told_so after) a b told is_a is_b = is_a ∙ sym is_b
one_reply (Queries store query) a b told is_a is_b = absurd (true≢false (sym told))
one_reply (Plans store query) a b told is_a is_b = absurd (true≢false (sym told))
one_reply (Executes store plan) a b told is_a is_b = absurd (true≢false (sym told))

-- a limit accepts nothing
limit_refuses : (error : WriteError) (answer : Reply) → IsLimit error answer → is_accepted answer ≡ false
limit_refuses limits.KeyOutside answer is = ap is_accepted is
limit_refuses limits.KeyTooLarge answer is = ap is_accepted is
limit_refuses limits.ValueTooLarge answer is = ap is_accepted is
limit_refuses limits.TransactionTooLarge answer is = ap is_accepted is
limit_refuses limits.Memory answer is = absurd is

-- of two replies that a change may have over what is there both accept it, or neither does
pub same_acceptance : (number : ℕ) (m : Map) (before : List Mutation) (serial : Serial) (change : Change) (a b : Reply) → IsServed number m before serial (command_of change) a → IsServed number m before serial (command_of change) b → is_accepted a ≡ is_accepted b
same_acceptance number m before serial change a b is_a is_b = by_limit (write_all_refusal before (writes number m serial (command_of change))) is_a is_b
  where
    by_limit : (limit : Option WriteError) → IsLimited limit serial (command_of change) a → IsLimited limit serial (command_of change) b → is_accepted a ≡ is_accepted b
    by_limit None meant_a meant_b = ap is_accepted (one_reply (serial_line serial (command_of change)) a b (told_change serial change) meant_a meant_b)
    by_limit (Some error) limit_a limit_b = limit_refuses error a limit_a ∙ sym (limit_refuses error b limit_b)
