-- What making a store comes to.
use Rattle.std.proofs.Common.{◌≡◌, ℕ, List, [], ◌++◌, append-nil, refl, sym, ap, subst, ◌∙◌, inl, inr, Option, Some, None, Ok, Err}
use Rattle.std.specs.FinMap.{get}
use Rattle.kv_core.specs.Range.{KeyRange}
use Rattle.kv_core.specs.Map.{Map, after_all}
use Rattle.kv_core.specs.Limits.{write_all_refusal}
use Rattle.kv_core.specs.declared.change.CommitRequest.{CommitRequest}
use Rattle.kv_core.specs.declared.snapshot.ReadError.{ReadError}
use Rattle.txn.proofs.Running.{ran_still, ran_because}
use Rattle.metadata.specs.declared.refusal.MetadataError.{MetadataError}
use Rattle.metadata.specs.declared.refusal.MetadataError.TheVariants as meta
use Rattle.metadata.specs.declared.refusal.Refusal.{Refusal as SchemaRefusal}
use Rattle.schedule.specs.declared.refusal.Refusal.{Refusal}
use Rattle.schedule.specs.Refusals.{of_schema, reply_of}
use Rattle.schedule.specs.declared.refusal.Refusal.TheVariants.{AlreadyThere, KeyOutside, KeyTooLarge, ValueTooLarge, TransactionTooLarge}
use Rattle.kv_core.specs.declared.change.WriteError.{WriteError}
use Rattle.kv_core.specs.declared.change.WriteError.TheVariants as write
use Rattle.metadata.specs.Answers.{IsRefusedAs}
use Rattle.metadata.specs.Asked.{SchemaRequest, schema_asked}
use Rattle.metadata.specs.Schema.{Schema}
use Rattle.record_store.specs.declared.error.StoreError.{StoreError}
use Rattle.record_store.specs.declared.error.StoreError.TheVariants.{Memory, Read, Write, Corrupt, Refused}
use Rattle.record_store.specs.declared.error.StoreError.TheVariants as fault
use Rattle.record_store.specs.Store.{Store, Serial, created}
use Rattle.record_store.specs.Holds.{Holds}
use Rattle.record_store.specs.Call.{Opened}
use Rattle.record_store.specs.Calls.{schema_writes}
use Rattle.record_store.specs.Opening.{IsCreateFailure, IsCreated, IsUncreated, opening_reach}
use Rattle.record_store.specs.Steps.{IsBeginning, of_metadata}
use Rattle.record_store.specs.Layout.{schema_key, store_prefix}
use Rattle.schedule.specs.declared.reply.Reply.{Reply}
use Rattle.schedule.specs.declared.step.Command.TheVariants.{Create}
use Rattle.schedule.specs.declared.reply.Reply.TheVariants as reply
use Rattle.schedule.specs.Serve.{IsReply, IsReplyOf, creating, left_by}
use Rattle.schedule.specs.Holds.{Stands}
use Rattle.schedule.specs.Reach.{opened_in, added_by, make_reach, open_reach, reach, schema_written, writes, footprint_writes, written_with}
use Rattle.schedule.specs.Performed.{IsCommandSound, IsLimited, IsMade, IsMadeOf, IsPerformed, IsPerformedAt, TellsOfPairs}
use Rattle.schedule.specs.Calls.{IsCommandRefused}
use Rattle.schedule.proofs.Reached.{begin_open, next_within, opening_asked}
use Rattle.schedule.proofs.Stops.{IsRight, IsStop, limit_right, own_right, read_right, refused_by, refused_memory, stop_memory, told_read, told_refused}

-- the place of a new store of this schema
abbrev fresh_at : ℕ → Schema → Opened
fresh_at number schema = record { prefix = store_prefix number; schema = schema; states = [] }

-- REQUEST: no schema is made, and nothing was read
refusal_replies : (number : ℕ) (request : SchemaRequest) (m : Map) (serial : Serial) (refusal : SchemaRefusal) → schema_asked request ≡ Err refusal → IsReply serial (Create request) (reply.Refused (of_schema refusal)) × (writes number m serial (Create request) ≡ [])
refusal_replies number request m serial refusal is = (
  subst (λ o. IsReplyOf (creating serial o) (reply.Refused (of_schema refusal))) (sym is) refl,
  ap (λ o. written_with (creating serial o) (footprint_writes number m serial (Create request))) is,
)

pub refused_request : (number : ℕ) {maps : ℕ → Map} {refuses : KeyRange → ℕ → ReadError → Type 0} {old : CommitRequest} (request : SchemaRequest) (error : MetadataError) → IsRefusedAs error (schema_asked request) → IsCommandRefused number maps refuses (Create request) (of_metadata error) old old
refused_request number request meta.Memory is = refused_memory number (Create request)
refused_request number {refuses = refuses} {old = old} request (meta.Refused refusal) is =
    refused_by number (Create request) None (Refused refusal) [] (ran_still refl (λ m. record {
      there = tt;
      reads = reads_nothing;
      told = λ answer same. told_refused number None (Create request) (of_schema refusal) answer m same (subst (λ o. IsMadeOf number o (reply.Refused (of_schema refusal)) m) (sym is) tt);
      held = λ serial stands.
          let says = refusal_replies number request m serial refusal is in
          (own_right number (λ range. refuses range old.read_version) (Create request) old.mutations (Refused refusal) (of_schema refusal) m serial refl says.0 says.1, reads_nothing ∙ same_added m serial);
    }))
  where
    reads_nothing : [] ≡ make_reach number (schema_asked request) ++ []
    reads_nothing = sym (ap (λ o. make_reach number o ++ []) is)

    same_added : (m : Map) (serial : Serial) → make_reach number (schema_asked request) ++ [] ≡ added_by number (opened_in number serial) (Create request) m
    same_added m None = refl
    same_added m (Some store) = refl

-- what is asked for where the schema is made
opens : (number : ℕ) (request : SchemaRequest) (schema : Schema) → schema_asked request ≡ Ok schema → open_reach number (Create request) ≡ opening_reach (store_prefix number)
opens number request schema is = ap (make_reach number) is

-- what is added at what is there
added_there : (number : ℕ) (request : SchemaRequest) (m : Map) (serial : Serial) → open_reach number (Create request) ++ [] ≡ added_by number (opened_in number serial) (Create request) m
added_there number request m None = refl
added_there number request m (Some store) = refl

-- what is written where there is no store
writes_none : (number : ℕ) (request : SchemaRequest) (schema : Schema) (m : Map) → schema_asked request ≡ Ok schema → writes number m None (Create request) ≡ schema_writes (store_prefix number) schema
writes_none number request schema m is = ap (λ o. written_with (creating None o) (schema_written number o)) is

-- NOT MADE
uncreated_at : (number : ℕ) {maps : ℕ → Map} {refuses : KeyRange → ℕ → ReadError → Type 0} {old new : CommitRequest} (request : SchemaRequest) (schema : Schema) (error : StoreError) → schema_asked request ≡ Ok schema →
    IsUncreated maps refuses (fresh_at number schema) error old new → IsCommandRefused number maps refuses (Create request) error old new
uncreated_at number {refuses = refuses} {old = old} request schema error made is = refused_by number (Create request) None error is.added (ran_because is.ran (λ m says. stop error is.added m says))
  where
    refused : KeyRange → ReadError → Type 0
    refused range = refuses range old.read_version

    opened : open_reach number (Create request) ≡ opening_reach (store_prefix number)
    opened = opens number request schema made

    all : (ranges : List KeyRange) → ranges ≡ opening_reach (store_prefix number) → ranges ≡ open_reach number (Create request) ++ []
    all ranges same = same ∙ sym opened ∙ sym (append-nil (open_reach number (Create request)))

    sound : (m : Map) (refusal : Refusal) → IsMade number (reply.Refused refusal) m → IsCommandSound number None (Create request) (reply.Refused refusal) m
    sound m refusal is_made = subst (λ o. IsMadeOf number o (reply.Refused refusal) m) (sym made) is_made

    limited : (m : Map) → get m (schema_key (store_prefix number)) ≡ None → (error : WriteError) (answer : Reply) → reply_of (Write error) ≡ Some answer → TellsOfPairs number None (Create request) answer m
    limited m none write.KeyOutside answer same = told_refused number None (Create request) KeyOutside answer m same (sound m KeyOutside none)
    limited m none write.KeyTooLarge answer same = told_refused number None (Create request) KeyTooLarge answer m same (sound m KeyTooLarge none)
    limited m none write.ValueTooLarge answer same = told_refused number None (Create request) ValueTooLarge answer m same (sound m ValueTooLarge none)
    limited m none write.TransactionTooLarge answer same = told_refused number None (Create request) TransactionTooLarge answer m same (sound m TransactionTooLarge none)
    limited m none write.Memory answer same = absurd (cc)

    right : (error : StoreError) (ranges : List KeyRange) (m : Map) → IsCreateFailure refused (fresh_at number schema) error old.mutations ranges m → (serial : Serial) → Stands number m serial → IsRight number refused (Create request) old.mutations error m serial
    right Memory ranges m says serial stands = λ answer same. absurd (cc)
    right (Read reason) ranges m says serial stands =
        λ answer same. inr (read_right refused (reach number (opened_in number serial) (Create request) m) reason answer same
        (next_within refused (opening_reach (store_prefix number)) ranges (reach number (opened_in number serial) (Create request) m) reason (opening_asked number (opened_in number serial) (Create request) m opened) says.1))
    right (Corrupt key) ranges m says serial stands = absurd says
    right (Refused refusal) ranges m says serial stands = absurd says
    right fault.NoStore ranges m says serial stands = absurd says
    right fault.OtherSchema ranges m says serial stands = absurd says
    right fault.NotAggregate ranges m says serial stands = absurd says
    right fault.NotReadable ranges m says serial stands = absurd says
    right fault.WrongState ranges m says serial stands = absurd says
    right fault.NotBuilt ranges m says serial stands = absurd says
    right fault.AlreadyThere ranges m says None stands = absurd (says.2 None stands refl)
    right fault.AlreadyThere ranges m says (Some store) stands =
        own_right number refused (Create request) old.mutations fault.AlreadyThere AlreadyThere m (Some store) refl (subst (λ o. IsReplyOf (creating (Some store) o) (reply.Refused AlreadyThere)) (sym made) refl)
        (ap (λ o. written_with (creating (Some store) o) (footprint_writes number m (Some store) (Create request))) made)
    right (Write reason) ranges m says None stands =
        limit_right number refused (Create request) old.mutations reason m None (ap (write_all_refusal old.mutations) (writes_none number request schema m made) ∙ says.2)
    right (Write reason) ranges m says (Some store) stands = let none : ◌≡◌ {A = Option Store} (Some store) None = says.3 (Some store) stands in absurd (cc)

    stop : (error : StoreError) (ranges : List KeyRange) (m : Map) → IsCreateFailure refused (fresh_at number schema) error old.mutations ranges m → IsStop number refused None (Create request) old.mutations error ranges m
    stop Memory ranges m says = stop_memory number refused None (Create request) old.mutations ranges m tt (begin_open number (Create request) [] opened says) (λ serial stands. subst (IsBeginning ranges) (added_there number request m serial) (begin_open number (Create request) [] opened says))
    stop (Read reason) ranges m says = record {
      there = tt;
      reads = begin_open number (Create request) [] opened says.0;
      told = λ answer same. told_read number None (Create request) reason answer m same;
      held = λ serial stands. (right (Read reason) ranges m says serial stands, subst (IsBeginning ranges) (added_there number request m serial) (begin_open number (Create request) [] opened says.0));
    }
    stop (Corrupt key) ranges m says = absurd says
    stop (Refused refusal) ranges m says = absurd says
    stop fault.NoStore ranges m says = absurd says
    stop fault.OtherSchema ranges m says = absurd says
    stop fault.NotAggregate ranges m says = absurd says
    stop fault.NotReadable ranges m says = absurd says
    stop fault.WrongState ranges m says = absurd says
    stop fault.NotBuilt ranges m says = absurd says
    stop fault.AlreadyThere ranges m says = record {
      there = tt;
      reads = all ranges says.0;
      told = λ answer same. told_refused number None (Create request) AlreadyThere answer m same (sound m AlreadyThere says.1);
      held = λ serial stands. (right fault.AlreadyThere ranges m says serial stands, all ranges says.0 ∙ added_there number request m serial);
    }
    stop (Write reason) ranges m says = record {
      there = tt;
      reads = all ranges says.0;
      told = λ answer same. limited m says.1 reason answer same;
      held = λ serial stands. (right (Write reason) ranges m says serial stands, all ranges says.0 ∙ added_there number request m serial);
    }

pub uncreated : (number : ℕ) {maps : ℕ → Map} {refuses : KeyRange → ℕ → ReadError → Type 0} {old new : CommitRequest} (request : SchemaRequest) (prefix : List ℕ) (schema : Schema) (error : StoreError) → prefix ≡ store_prefix number → schema_asked request ≡ Ok schema →
    IsUncreated maps refuses (record { prefix = prefix; schema = schema; states = [] }) error old new → IsCommandRefused number maps refuses (Create request) error old new
uncreated number {maps = maps} {refuses = refuses} {old = old} {new = new} request prefix schema error here made is =
    uncreated_at number request schema error made (subst (λ p. IsUncreated maps refuses (record { prefix = p; schema = schema; states = [] }) error old new) here is)

-- MADE
created_at : (number : ℕ) {maps : ℕ → Map} {refuses : KeyRange → ReadError → Type 0} {old new : CommitRequest} (request : SchemaRequest) (schema : Schema) → schema_asked request ≡ Ok schema → IsCreated maps (fresh_at number schema) old new → IsPerformed number maps refuses (Create request) reply.Done old new
created_at number {refuses = refuses} {old = old} request schema made is = record {
  opened = None;
  added = opening_reach (store_prefix number);
  written = schema_writes (store_prefix number) schema;
  changes = refl;
  ran = ran_because is.ran (λ m fact. (
    record { there = tt; reads = all; told = subst (λ o. IsMadeOf number o reply.Done m) (sym made) fact.0 },
    λ serial stands. right m serial stands (fact.1 serial stands),
  ));
}
  where
    all : opening_reach (store_prefix number) ≡ open_reach number (Create request) ++ []
    all = sym (opens number request schema made) ∙ sym (append-nil (open_reach number (Create request)))

    right : (m : Map) (serial : Serial) → Stands number m serial → (serial ≡ None) × Holds (store_prefix number) (after_all (schema_writes (store_prefix number) schema) m) (Some (created schema)) →
        IsPerformedAt number refuses (Create request) reply.Done old.mutations (schema_writes (store_prefix number) schema) (opening_reach (store_prefix number)) m serial
    right m (Some store) stands known = let none : ◌≡◌ {A = Option Store} (Some store) None = known.0 in absurd (cc)
    right m None stands known = record {
      right = inl (subst (λ o. IsLimited o None (Create request) reply.Done) (sym is.allowed ∙ ap (write_all_refusal old.mutations) (sym (writes_none number request schema m made))) (subst (λ o. IsReplyOf (creating None o) reply.Done) (sym made) refl));
      wrote = sym (writes_none number request schema m made);
      holds = subst (Stands number (after_all (schema_writes (store_prefix number) schema) m)) (sym (ap (λ o. left_by None (creating None o)) made)) known.1;
      reads = all ∙ added_there number request m None;
    }

pub created_now : (number : ℕ) {maps : ℕ → Map} {refuses : KeyRange → ReadError → Type 0} {old new : CommitRequest} (request : SchemaRequest) (opened : Opened) (schema : Schema) → opened.prefix ≡ store_prefix number → opened.schema ≡ schema → opened.states ≡ [] →
    schema_asked request ≡ Ok schema → IsCreated maps opened old new → IsPerformed number maps refuses (Create request) reply.Done old new
created_now number {maps = maps} {old = old} {new = new} request opened schema here same none made is =
    created_at number request schema made (subst (λ o. IsCreated maps o old new) (λ i. record { prefix = here i; schema = same i; states = none i }) is)
