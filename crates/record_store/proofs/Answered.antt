-- What calls on an open store come to, from what their reads and their writes establish.
use Rattle.std.proofs.Common.{◌≡◌, ◌⊎◌, inl, inr, ℕ, Bool, true, false, not, cond, ◌==◌, List, [], ◌∷◌, refl, sym, ap, subst, ◌∙◌, Option, Some, None, Ok, Err, Result, append-nil, length}
use Rattle.std.specs.Prelude.{IsNone}
use Rattle.std.specs.List.{find}
use Rattle.std.specs.Str.{bytes_eq}
use Rattle.std.proofs.lemmas.Slice.Eq.{bytes_eq-Decides}
use Rattle.kv_core.specs.Range.{KeyRange}
use Rattle.kv_core.specs.Map.{Map, after_all}
use Rattle.kv_core.specs.Limits.{write_all_refusal}
use Rattle.kv_core.specs.declared.change.CommitRequest.{CommitRequest}
use Rattle.kv_core.specs.declared.change.Mutation.{Mutation}
use Rattle.kv_core.specs.declared.change.WriteError.{WriteError}
use Rattle.kv_core.specs.declared.change.WriteError.TheVariants as write
use Rattle.kv_core.specs.declared.snapshot.ReadError.{ReadError}
use Rattle.txn.specs.Reads.{with_mutations}
use Rattle.kv_core.specs.Read.{NeverRefuses}
use Rattle.txn.proofs.Running.{ran_added, ran_because, ran_still, ran_then, ran_write}
use Rattle.metadata.specs.declared.cells.Cell.{Cell}
use Rattle.metadata.specs.declared.definition.TypeDefinition.{TypeDefinition}
use Rattle.metadata.specs.declared.refusal.MetadataError.{MetadataError}
use Rattle.metadata.specs.declared.refusal.MetadataError.TheVariants as meta
use Rattle.metadata.specs.declared.refusal.Refusal.{Refusal}
use Rattle.metadata.specs.declared.refusal.Refusal.TheVariants.{UnknownType}
use Rattle.metadata.specs.Answers.{IsRefusedAs}
use Rattle.metadata.specs.Record.{Record, key_in, key_of, record_in}
use Rattle.metadata.specs.Schema.{Schema, find_type}
use Rattle.metadata.proofs.SameTypes.{same_type-Decides}
use Rattle.record_store.specs.declared.error.StoreError.{StoreError}
use Rattle.record_store.specs.declared.error.StoreError.TheVariants.{Memory, Read, Write, Corrupt, Refused, NoStore, AlreadyThere, OtherSchema, NotAggregate, NotReadable, WrongState, NotBuilt}
use Rattle.record_store.specs.Store.{Store}
use Rattle.record_store.specs.Holds.{Holds, IsOfSchema}
use Rattle.record_store.specs.Call.{AtStore, Call, IsAnswered, IsFailure, IsOpenAs, IsRefused, IsUndone, IsSound, IsUnread, Opened, Service, Footprint, IsAccepted, call_on}
use Rattle.record_store.specs.Meaning.{Meaning, by_schema, is_own}
use Rattle.record_store.specs.Reading.{HasNotFound}
use Rattle.record_store.specs.Steps.{DidRead, IsBeginning, no_memory, of_metadata, of_write}
use Rattle.record_store.proofs.Stopping.{all_begin, none_begin}
use Rattle.record_store.proofs.Creating.{is_none, of_limit}

-- ---- names and keys

-- a type that is found by a name is found by its own
pub found_own : (schema : Schema) (name : List ℕ) (type : TypeDefinition) → find_type schema name ≡ Some type → find_type schema type.name ≡ Some type
found_own schema name type found = subst (λ n. find_type schema n ≡ Some type) (sym (named schema.types found)) found
  where
    named : (types : List TypeDefinition) → find (λ (one : TypeDefinition). bytes_eq one.name name) types ≡ Some type → type.name ≡ name
    named [] is = cc
    named (one ∷ types) is = by_test (bytes_eq one.name name) refl is (named types)
      where
        by_test : (b : Bool) → bytes_eq one.name name ≡ b → cond b (Some one) (find (λ (t : TypeDefinition). bytes_eq t.name name) types) ≡ Some type →
            (find (λ (t : TypeDefinition). bytes_eq t.name name) types ≡ Some type → type.name ≡ name) → type.name ≡ name
        by_test true has some go = let same : one ≡ type = cc in ap (λ (t : TypeDefinition). t.name) (sym same) ∙ (bytes_eq-Decides one.name name).0 has
        by_test false has some go = go some

-- the primary key that key cells give, of a type that is found, or of none
pub key_in_type : (schema : Schema) (name : List ℕ) (cells : List Cell) (type : TypeDefinition) → find_type schema name ≡ Some type → key_of schema name cells ≡ key_in type cells
key_in_type schema name cells type found = ap (λ o. elim o [ None ↦ Err UnknownType | Some one ↦ key_in one cells ]) found

pub key_of_none : (schema : Schema) (name : List ℕ) (cells : List Cell) → find_type schema name ≡ None → key_of schema name cells ≡ Err UnknownType
key_of_none schema name cells none = ap (λ o. elim o [ None ↦ Err UnknownType | Some one ↦ key_in one cells ]) none

-- a record of the schema's own type: its type is found by its name
pub own_found : (schema : Schema) (r : Record) → is_own (find_type schema r.definition.name) r ≡ true → find_type schema r.definition.name ≡ Some r.definition
own_found schema r is = by_type (find_type schema r.definition.name) refl is
  where
    by_type : (o : Option TypeDefinition) → find_type schema r.definition.name ≡ o → is_own o r ≡ true → o ≡ Some r.definition
    by_type None none made = absurd (cc)
    by_type (Some type) some made = ap Some ((same_type-Decides type r.definition).0 made)

-- it is a record of the schema
pub own_typed : (schema : Schema) (r : Record) → is_own (find_type schema r.definition.name) r ≡ true → record_in r.definition r.cells ≡ Ok r → IsOfSchema schema r
own_typed schema r is made = ap (λ t. elim t [ None ↦ Err UnknownType | Some one ↦ record_in one r.cells ]) (own_found schema r is) ∙ made

-- ---- calls

-- the call on what the schema accepts, or that has its refusal
abbrev pub done_with : {K A : Type 0} → (K → Meaning A) → (K → Footprint) → Result K Refusal → Call A
done_with meaning footprint outcome = call_on meaning footprint (by_schema outcome)

-- what is so at a store once the call is done, but for the limits
pub record IsServed {A : Type 0} (opened : Opened) (service : Service A) (answer : A) (list : List Mutation) (m : Map) (store : Store) : Type 0 where
  pub answers : service.meaning.answer store ≡ Ok answer
  pub wrote : list ≡ service.footprint.writes m store
  pub holds : Holds opened.prefix (after_all list m) (Some (service.meaning.after store))

-- ANYWAY: a call is refused so whatever reads may be refused, where it is so and none may
pub refused_anyway : {A : Type 0} (maps : ℕ → Map) (refuses : KeyRange → ℕ → ReadError → Type 0) (opened : Opened) (call : Call A) (error : StoreError) (old new : CommitRequest) →
    IsRefused maps NeverRefuses opened call error old new → IsRefused maps refuses opened call error old new
refused_anyway maps refuses opened (Err refusal) error old new is = is
refused_anyway maps refuses opened (Ok service) error old new is = record { added = is.added; ran = ran_because is.ran (λ m says. by_error error is.added m says) }
  where
    by_error : (e : StoreError) (ranges : List KeyRange) (m : Map) → IsFailure (λ range. NeverRefuses range old.read_version) opened service e old.mutations ranges m →
        IsFailure (λ range. refuses range old.read_version) opened service e old.mutations ranges m
    by_error Memory ranges m says = says
    by_error (Read error) ranges m says = absurd says.1.refused
    by_error (Write error) ranges m says = says
    by_error (Corrupt key) ranges m says = says
    by_error (Refused refusal) ranges m says = says
    by_error NoStore ranges m says = says
    by_error AlreadyThere ranges m says = says
    by_error OtherSchema ranges m says = says
    by_error NotAggregate ranges m says = says
    by_error NotReadable ranges m says = says
    by_error WrongState ranges m says = says
    by_error NotBuilt ranges m says = says

module _ {A : Type 0} (maps : ℕ → Map) (refuses : KeyRange → ℕ → ReadError → Type 0) (opened : Opened) where
  -- OWN REFUSAL: the call's own, before it read anything
  pub refused_own : {K : Type 0} {old new : CommitRequest} (meaning : K → Meaning A) (footprint : K → Footprint) (outcome : Result K Refusal) (error : MetadataError) → IsRefusedAs error outcome → new ≡ old →
      IsRefused maps refuses opened (done_with meaning footprint outcome) (of_metadata error) old new
  refused_own meaning footprint (Ok value) meta.Memory is same = record { added = []; ran = ran_still same (λ m. none_begin ((footprint value).reading.added m)) }
  refused_own meaning footprint (Ok value) (meta.Refused refusal) is same = absurd (cc)
  refused_own meaning footprint (Err refusal) meta.Memory is same = (inl refl, same)
  refused_own meaning footprint (Err refusal) (meta.Refused other) is same = (inr (let one : refusal ≡ other = cc in ap Refused (sym one)), same)

  -- UNREAD: its reads weren't answered
  failure_of : (refused : KeyRange → ReadError → Type 0) (service : Service A) (error : StoreError) (before : List Mutation) (added : List KeyRange) (m : Map) → IsUnread refused opened service.footprint.reading error added m → IsFailure refused opened service error before added m
  failure_of refused service Memory before added m says = says
  failure_of refused service (Read error) before added m says = says
  failure_of refused service (Corrupt key) before added m says = says
  failure_of refused service (Write error) before added m says = absurd says
  failure_of refused service (Refused refusal) before added m says = absurd says
  failure_of refused service NoStore before added m says = absurd says
  failure_of refused service AlreadyThere before added m says = absurd says
  failure_of refused service OtherSchema before added m says = absurd says
  failure_of refused service NotAggregate before added m says = absurd says
  failure_of refused service NotReadable before added m says = absurd says
  failure_of refused service WrongState before added m says = absurd says
  failure_of refused service NotBuilt before added m says = absurd says

  pub refused_unread : {old new : CommitRequest} (call : Call A) (service : Service A) (error : StoreError) → call ≡ Ok service → HasNotFound maps refuses opened service.footprint.reading error old new →
      IsRefused maps refuses opened call error old new
  refused_unread {old = old} {new = new} call service error accepted unread =
      subst (λ c. IsRefused maps refuses opened c error old new) (sym accepted)
      (record { added = unread.added; ran = ran_because unread.ran (λ m says. failure_of (λ range. refuses range old.read_version) service error old.mutations unread.added m says) })

  -- MEMORY: it was wanting after the reads
  pub refused_memory : {added : List KeyRange} {old new : CommitRequest} {F : Map → Type 0} (call : Call A) (service : Service A) → call ≡ Ok service → DidRead maps added old new (λ m. (added ≡ service.footprint.reading.added m) × F m) →
      IsRefused maps refuses opened call Memory old new
  refused_memory {added = added} {old = old} {new = new} call service accepted ran =
      subst (λ c. IsRefused maps refuses opened c Memory old new) (sym accepted)
      (record { added = added; ran = ran_because ran (λ m says. subst (IsBeginning added) says.0 (all_begin added)) })

  -- MEMORY: it was wanting before anything was read
  pub memory_still : {old new : CommitRequest} (call : Call A) → new ≡ old → IsRefused maps refuses opened call no_memory old new
  memory_still (Err refusal) same = (inl refl, same)
  memory_still (Ok service) same = record { added = []; ran = ran_still same (λ m. none_begin (service.footprint.reading.added m)) }

  -- LIMIT: what the call writes was refused
  pub refused_limit : {added : List KeyRange} {old mid new : CommitRequest} {F : Map → Store → Type 0} (call : Call A) (service : Service A) (list : List Mutation) (error : WriteError) → call ≡ Ok service →
      DidRead maps added old mid (λ m. (added ≡ service.footprint.reading.added m) × (IsSound opened service.footprint.reading m × AtStore opened m (F m))) → ((m : Map) (store : Store) → Holds opened.prefix m (Some store) → IsOpenAs opened store → F m store → IsAccepted service store × (list ≡ service.footprint.writes m store)) → new ≡ mid →
      (error ≡ write.Memory) ⊎ (write_all_refusal mid.mutations list ≡ Some error) → IsRefused maps refuses opened call (of_write error) old new
  refused_limit {added = added} {old = old} {mid = mid} {new = new} {F = F} call service list error accepted ran wrote same says =
      subst (λ c. IsRefused maps refuses opened c (of_write error) old new) (sym accepted)
      (subst (λ n. IsUndone maps refuses opened service (of_write error) old n) (sym same) (record {
        added = added;
        ran =
            ran_because ran
            (λ m found. of_limit (λ e. IsFailure (λ range. refuses range old.read_version) opened service e old.mutations added m) error says (subst (IsBeginning added) found.0 (all_begin added)) (λ e is. (found.0, found.1.0, limit e m found.1.1 is)));
      }))
    where
      limit : (e : WriteError) (m : Map) → AtStore opened m (F m) → write_all_refusal mid.mutations list ≡ Some e → AtStore opened m (λ store. IsAccepted service store × (write_all_refusal old.mutations (service.footprint.writes m store) ≡ Some e))
      limit e m found is store holds schema = (
        (wrote m store holds schema (found store holds schema)).0,
        ap (λ ms. write_all_refusal ms (service.footprint.writes m store)) (sym (ran.wrote ∙ append-nil old.mutations))
            ∙ ap (write_all_refusal mid.mutations) (sym ((wrote m store holds schema (found store holds schema)).1)) ∙ is,
      )

  -- ANSWERED: reads, and then writes that no limit refuses
  pub answered : {added : List KeyRange} {old mid new : CommitRequest} {F : Map → Store → Type 0} (call : Call A) (service : Service A) (answer : A) (list : List Mutation) → call ≡ Ok service → (length list == 0) ≡ not (service.meaning.changes answer) →
      DidRead maps added old mid (λ m. (added ≡ service.footprint.reading.added m) × (IsSound opened service.footprint.reading m × AtStore opened m (F m))) →
      new ≡ with_mutations list mid → IsNone (write_all_refusal mid.mutations list) →
      ((m : Map) (store : Store) → Holds opened.prefix m (Some store) → IsOpenAs opened store → F m store → IsServed opened service answer list m store) → IsAnswered maps opened call answer old new
  answered {added = added} {old = old} {mid = mid} call service answer list accepted changes ran is allowed serves = record {
    service = service;
    accepted = accepted;
    added = added;
    written = list;
    changes = changes;
    ran =
        ran_added (append-nil added)
        (ran_then ran (ran_write {Fact = λ m. Unit {0}} list is (λ m. tt {0}))
        (λ m found empty. (
          found.0,
          found.1.0,
          λ store holds schema.
              let served = serves m store holds schema (found.1.1 store holds schema) in record {
                answers = served.answers;
                wrote = served.wrote;
                allowed = ap (λ ms. write_all_refusal ms list) (sym (ran.wrote ∙ append-nil old.mutations)) ∙ is_none (write_all_refusal mid.mutations list) allowed;
                holds = served.holds;
              },
        )));
  }

  -- ANSWERED: reads alone
  pub answered_reading : {added : List KeyRange} {old new : CommitRequest} {F : Map → Store → Type 0} (call : Call A) (service : Service A) (answer : A) → call ≡ Ok service → true ≡ not (service.meaning.changes answer) →
      DidRead maps added old new (λ m. (added ≡ service.footprint.reading.added m) × (IsSound opened service.footprint.reading m × AtStore opened m (F m))) →
      ((m : Map) (store : Store) → Holds opened.prefix m (Some store) → IsOpenAs opened store → F m store → IsServed opened service answer [] m store) → IsAnswered maps opened call answer old new
  answered_reading {added = added} {old = old} call service answer accepted changes ran serves = record {
    service = service;
    accepted = accepted;
    added = added;
    written = [];
    changes = changes;
    ran = ran_because ran (λ m found. (
      found.0,
      found.1.0,
      λ store holds schema.
          let served = serves m store holds schema (found.1.1 store holds schema) in record { answers = served.answers; wrote = served.wrote; allowed = refl; holds = served.holds },
    ));
  }

-- what reads all of some ranges adds just these
pub as_added : {maps : ℕ → Map} {added : List KeyRange} {old new : CommitRequest} {F : Map → Type 0} → DidRead maps added old new F → DidRead maps added old new (λ m. (added ≡ added) × F m)
as_added ran = ran_because ran (λ m found. (refl, found))
