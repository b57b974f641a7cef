-- What the calls on records come to, one by one.
use Rattle.std.proofs.Common.{◌≡◌, ℕ, Bool, true, false, cond, ◌==◌, List, [], ◌∷◌, ◌++◌, refl, sym, ap, subst, ◌∙◌, Option, Some, None, Ok, Err, Result, length, arith, is_some}
use Rattle.std.specs.List.{AllByRecursion, find, flat_map}
use Rattle.std.specs.Prelude.{suc}
use Rattle.tuple_codec.specs.Item.{Item, IsTuple}
use Rattle.kv_core.specs.Range.{point}
use Rattle.kv_core.specs.Map.{Map, after_all}
use Rattle.kv_core.specs.declared.change.CommitRequest.{CommitRequest}
use Rattle.kv_core.specs.declared.change.Mutation.{Mutation}
use Rattle.txn.proofs.Running.{ran_still}
use Rattle.metadata.specs.declared.definition.TypeDefinition.{TypeDefinition}
use Rattle.metadata.specs.declared.definition.TypeRequest.{TypeRequest}
use Rattle.metadata.specs.declared.refusal.Refusal.{Refusal}
use Rattle.metadata.specs.declared.definition.Field.{Field}
use Rattle.metadata.specs.Change.{add_field, add_type, with_field, with_type, type_refusal, type_asked}
use Rattle.metadata.specs.Lawful.{IsLawfulSchema}
use Rattle.metadata.specs.Record.{Record, primary_key, record_in}
use Rattle.metadata.specs.Records.{IsStorable, of_type, record_at}
use Rattle.metadata.specs.Schema.{Schema, find_type}
use Rattle.record_store.specs.Store.{Store, extended, removed, saved, widened}
use Rattle.record_store.specs.Holds.{Holds, IsOfSchema}
use Rattle.record_store.specs.Call.{AtStore, IsOpenAs, Opened, call_on, service_of, whole}
use Rattle.record_store.specs.declared.error.StoreError.TheVariants.{OtherSchema}
use Rattle.record_store.specs.Calls.{load_footprint, records_footprint, remove_footprint, save_call, save_footprint, schema_writes, type_footprint}
use Rattle.record_store.specs.Meaning.{field_meaning, is_own, load_meaning, records_meaning, remove_meaning, save_meaning, type_meaning}
use Rattle.record_store.proofs.Answered.{IsServed}
use Rattle.record_store.proofs.Changed.{extended_holds}
use Rattle.record_store.proofs.Widened.{field_is, widened_holds}
use Rattle.record_store.proofs.IndexedRecords.{removed_holds_all, saved_holds_all}
use Rattle.record_store.specs.IndexWrites.{index_writes, one_index_writes, remove_writes, save_writes}
use Rattle.index_maint.specs.Built.{position_of}
use Rattle.record_store.specs.Reading.{asked_built}
use Rattle.record_store.proofs.Followed.{all_want}
use Rattle.std.proofs.lemmas.Bool.{eqb-true, false_from_ne_true}
use Rattle.kv_core.specs.declared.change.Mutation.TheVariants.{Set, ClearRange}
use Rattle.std.specs.Str.{bytes_eq}
use Rattle.record_store.proofs.RecordPairs.{own_type}
use Rattle.metadata.specs.declared.refusal.Refusal.TheVariants.{UnknownType}
use Rattle.record_store.specs.Steps.{DidRead}
use Rattle.record_store.specs.Form.{IsWritten}
use Rattle.record_store.specs.Layout.{record_key, record_value}

-- ---- one record

-- LOAD: it answers the record that is there
pub load_served : (opened : Opened) (key : List Item) (found : Option Record) (m : Map) (store : Store) → Holds opened.prefix m (Some store) → found ≡ record_at key store.records →
    IsServed opened (service_of load_meaning (load_footprint opened) key) found [] m store
load_served opened key found m store holds is = record { answers = ap Ok (sym is); wrote = refl; holds = holds }

-- a list that begins with something isn't empty
pub filled : {X : Type 0} (x : X) (xs : List X) → (length (x ∷ xs) == 0) ≡ false
filled x xs = false_from_ne_true (length (x ∷ xs) == 0) (λ is. let none : suc (length xs) ≡ 0 = eqb-true (length (x ∷ xs)) 0 is in omega (arith, none))

-- what a save writes, by what it read
pub save_list : (opened : Opened) (new : Record) (old : Option Record) (list : List Mutation) (store : Store) → IsOpenAs opened store → old ≡ record_at (primary_key new) store.records →
    list ≡ (Set (record_key opened.prefix (primary_key new)) (record_value new.cells) ∷ [])
    ++ flat_map (λ index. one_index_writes opened new.definition.number (asked_built opened new.definition.number (position_of (primary_key new)) store index) old (Some new) index) opened.schema.indexes →
    list ≡ save_writes opened.prefix store new
save_list opened new old list store same is wrote =
    wrote
    ∙ ap (λ ms. Set (record_key opened.prefix (primary_key new)) (record_value new.cells) ∷ ms)
    (all_want opened store same (primary_key new) new.definition.number old (Some new) ∙ ap (λ o. index_writes opened.prefix store new.definition.number (primary_key new) o (Some new)) is)

-- SAVE: the record stands in its place
pub save_served : (opened : Opened) (new : Record) (old : Option Record) (list : List Mutation) → IsOfSchema opened.schema new → IsStorable new →
    (m : Map) (store : Store) → Holds opened.prefix m (Some store) → IsOpenAs opened store → old ≡ record_at (primary_key new) store.records → list ≡ save_writes opened.prefix store new →
    IsServed opened (service_of save_meaning (save_footprint opened) new) old list m store
save_served opened new old list typed can m store holds same is writes = record {
  answers = ap Ok (sym is);
  wrote = writes;
  holds = subst (λ ms. Holds opened.prefix (after_all ms m) (Some (saved store new))) (sym writes) (saved_holds_all opened.prefix m store new (subst (λ s. IsOfSchema s new) (sym same.schema) typed) can holds);
}

pub remove_list : (opened : Opened) (key : List Item) (number : ℕ) (old : Record) (list : List Mutation) (store : Store) → IsOpenAs opened store → old.definition.number ≡ number →
    list ≡ (ClearRange (point (record_key opened.prefix key)) ∷ [])
    ++ flat_map (λ index. one_index_writes opened number (asked_built opened number (position_of key) store index) (Some old) None index) opened.schema.indexes →
    list ≡ remove_writes opened.prefix store key (Some old)
remove_list opened key number old list store same is wrote =
    wrote
    ∙ ap (λ ms. ClearRange (point (record_key opened.prefix key)) ∷ ms)
    (all_want opened store same key number (Some old) None ∙ ap (λ n. index_writes opened.prefix store n key (Some old) None) (sym is))

-- REMOVE: the record is gone
pub remove_served : (opened : Opened) (key : List Item) (old : Option Record) (was_there : Bool) (list : List Mutation) → was_there ≡ is_some old → IsTuple key →
    (m : Map) (store : Store) → Holds opened.prefix m (Some store) → old ≡ record_at key store.records → list ≡ remove_writes opened.prefix store key old →
    IsServed opened (service_of remove_meaning (remove_footprint opened) key) was_there list m store
remove_served opened key old was_there list there tuple m store holds is wrote =
    let writes = wrote ∙ ap (remove_writes opened.prefix store key) is in
    record {
      answers = ap Ok (sym (there ∙ ap is_some is));
      wrote = writes;
      holds = subst (λ ms. Holds opened.prefix (after_all ms m) (Some (removed store key))) (sym writes) (removed_holds_all opened.prefix m store key tuple holds);
    }

-- a record of the schema's own type is accepted
pub save_accepted : (opened : Opened) (r : Record) → is_own (find_type opened.schema r.definition.name) r ≡ true → save_call opened r ≡ Ok (service_of save_meaning (save_footprint opened) r)
save_accepted opened r own = ap (λ b. call_on save_meaning (save_footprint opened) (cond b (Ok r) (Err OtherSchema))) own

-- ---- a type more

-- a type that is found is found where one more stands behind
still_found : (types : List TypeDefinition) (last type : TypeDefinition) (name : List ℕ) → find (λ (t : TypeDefinition). bytes_eq t.name name) types ≡ Some type →
    find (λ (t : TypeDefinition). bytes_eq t.name name) (types ++ last ∷ []) ≡ Some type
still_found [] last type name is = absurd (cc)
still_found (t ∷ types) last type name is = by_test (bytes_eq t.name name) is (still_found types last type name)
  where
    by_test : (b : Bool) → cond b (Some t) (find (λ (t : TypeDefinition). bytes_eq t.name name) types) ≡ Some type →
        (find (λ (t : TypeDefinition). bytes_eq t.name name) types ≡ Some type → find (λ (t : TypeDefinition). bytes_eq t.name name) (types ++ last ∷ []) ≡ Some type) →
        cond b (Some t) (find (λ (t : TypeDefinition). bytes_eq t.name name) (types ++ last ∷ [])) ≡ Some type
    by_test true some go = some
    by_test false some go = go some

-- records of a schema are of the schema with a type more
still_typed : (schema next : Schema) (request : TypeRequest) (r : Record) → IsLawfulSchema schema → add_type schema request ≡ Ok next → IsOfSchema schema r → IsOfSchema next r
still_typed schema next request r lawful added typed =
    let own = own_type schema r lawful typed in
    let is : next ≡ with_type schema request = made (type_refusal schema request) added in
    let found : find_type next r.definition.name ≡ Some r.definition =
    ap (λ s. find_type s r.definition.name) is ∙ still_found schema.types (type_asked schema request) r.definition r.definition.name own.2 in
    ap (λ t. elim t [ None ↦ Err UnknownType | Some one ↦ record_in one r.cells ]) found ∙ own.1
  where
    made : (o : Option Refusal) → ◌≡◌ {A = Result Schema Refusal} (elim o [ None ↦ Ok (with_type schema request) | Some refusal ↦ Err refusal ]) (Ok next) → next ≡ with_type schema request
    made None same = cc
    made (Some refusal) same = absurd (cc)

all_typed : (schema next : Schema) (request : TypeRequest) (records : List Record) → IsLawfulSchema schema → add_type schema request ≡ Ok next → AllByRecursion (IsOfSchema schema) records → AllByRecursion (IsOfSchema next) records
all_typed schema next request [] lawful added typed = tt
all_typed schema next request (r ∷ records) lawful added typed = (still_typed schema next request r lawful added typed.0, all_typed schema next request records lawful added typed.1)

-- a type more leaves the indexes
pub same_indexes : (schema next : Schema) (request : TypeRequest) → add_type schema request ≡ Ok next → next.indexes ≡ schema.indexes
same_indexes schema next request added = made (type_refusal schema request) added
  where
    made : (o : Option Refusal) → ◌≡◌ {A = Result Schema Refusal} (elim o [ None ↦ Ok (with_type schema request) | Some refusal ↦ Err refusal ]) (Ok next) → next.indexes ≡ schema.indexes
    made None same = let is : with_type schema request ≡ next = cc in ap (λ (s : Schema). s.indexes) (sym is)
    made (Some refusal) same = absurd (cc)

pub type_served : (opened : Opened) (next : Schema) (request : TypeRequest) (list : List Mutation) → list ≡ schema_writes opened.prefix next → IsLawfulSchema next → add_type opened.schema request ≡ Ok next →
    (m : Map) (store : Store) → Holds opened.prefix m (Some store) → IsOpenAs opened store → IsServed opened (service_of type_meaning (type_footprint opened) next) next list m store
type_served opened next request list wrote lawful added m store holds same = record {
  answers = refl;
  wrote = wrote;
  holds =
      subst (λ ms. Holds opened.prefix (after_all ms m) (Some (extended store next))) (sym wrote)
      (extended_holds opened.prefix m store next (same_indexes store.schema next request (ap (λ s. add_type s request) same.schema ∙ added)) lawful (all_typed store.schema next request store.records holds.lawful.schema (ap (λ s. add_type s request) same.schema ∙ added) holds.lawful.typed) holds);
}

pub field_served : (opened : Opened) (next : Schema) (name : List ℕ) (field : Field) (list : List Mutation) → list ≡ schema_writes opened.prefix next → IsLawfulSchema next → add_field opened.schema name field ≡ Ok next →
    (m : Map) (store : Store) → Holds opened.prefix m (Some store) → IsOpenAs opened store → IsServed opened (service_of field_meaning (type_footprint opened) next) next list m store
field_served opened next name field list wrote lawful added m store holds same =
    let is : with_field store.schema name field ≡ next = field_is store.schema next name field (ap (λ s. add_field s name field) same.schema ∙ added) in record {
      answers = refl;
      wrote = wrote;
      holds =
          subst (λ ms. Holds opened.prefix (after_all ms m) (Some (widened store next))) (sym wrote)
          (subst (λ s. Holds opened.prefix (after_all (schema_writes opened.prefix s) m) (Some (widened store s))) is
          (widened_holds opened.prefix m store name field (subst IsLawfulSchema (sym is) lawful) holds));
    }

-- a call that reads nothing
pub nothing_read : (maps : ℕ → Map) (opened : Opened) {old : CommitRequest} → DidRead maps [] old old (λ m.
    ([] ≡ (whole []).added m) × (AllByRecursion (IsWritten opened.prefix opened.schema) [] × AtStore opened m (λ store. Unit {0})))
nothing_read maps opened = ran_still refl (λ m. (refl, (tt, λ store holds same. tt)))

-- ---- saves and scans, by their parts

pub records_served : (opened : Opened) (number : ℕ) (rows : List Record) (m : Map) (store : Store) → Holds opened.prefix m (Some store) → rows ≡ of_type number store.records → IsServed opened (service_of records_meaning (records_footprint opened) number) rows [] m store
records_served opened number rows m store holds is = record { answers = ap Ok (sym is); wrote = refl; holds = holds }
