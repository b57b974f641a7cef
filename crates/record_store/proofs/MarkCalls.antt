-- What marking an index with another state comes to.
use Rattle.std.proofs.Common.{◌≡◌, ◌⊎◌, inl, inr, ℕ, Bool, true, false, cond, ◌==◌, List, [], ◌∷◌, length, refl, sym, ap, subst, ◌∙◌, Option, Some, None, Ok, Err}
use Rattle.std.specs.Prelude.{IsNone}
use Rattle.kv_core.specs.Range.{KeyRange}
use Rattle.kv_core.specs.Map.{Map, after_all}
use Rattle.kv_core.specs.Limits.{write_all_refusal}
use Rattle.kv_core.specs.declared.change.CommitRequest.{CommitRequest}
use Rattle.kv_core.specs.declared.change.Mutation.{Mutation}
use Rattle.kv_core.specs.declared.change.WriteError.{WriteError}
use Rattle.kv_core.specs.declared.change.WriteError.TheVariants as write
use Rattle.kv_core.specs.declared.snapshot.ReadError.{ReadError}
use Rattle.txn.specs.Reads.{with_mutations}
use Rattle.txn.proofs.Running.{ran_because}
use Rattle.range_set.specs.declared.error.RangeSetError.{RangeSetError}
use Rattle.range_set.specs.declared.error.RangeSetError.TheVariants as set
use Rattle.range_set.specs.Calls.{all_ranges}
use Rattle.range_set.specs.Calls as reads
use Rattle.range_set.specs.Gaps.{is_whole}
use Rattle.range_set.specs.Stored.{HasSet}
use Rattle.metadata.specs.declared.index.IndexDefinition.{IndexDefinition}
use Rattle.metadata.specs.declared.index.State.{State}
use Rattle.metadata.specs.declared.index.State.TheVariants.{Readable, WriteOnly, Disabled}
use Rattle.metadata.specs.Schema.{Schema, find_index}
use Rattle.record_store.specs.declared.error.StoreError.{StoreError}
use Rattle.record_store.specs.declared.error.StoreError.TheVariants.{Memory, NotBuilt}
use Rattle.record_store.specs.Store.{Store, built_of, created, listed_by, listed_states, marked, altered_at, state_in, state_of}
use Rattle.record_store.specs.Layout.{built_place, built_range}
use Rattle.record_store.specs.Holds.{HasPositions, Holds, has_number}
use Rattle.record_store.specs.Call.{AtStore, Call, IsAnswered, IsOpenAs, IsRefused, IsSound, IsUnread, Opened, Reading, Service, all_built, call_on, service_of}
use Rattle.record_store.specs.Calls.{mark_footprint, readable_call, readable_footprint}
use Rattle.record_store.specs.Meaning.{in_write_only, index_number, mark_meaning, readable_meaning, write_only_found, write_only_named}
use Rattle.record_store.specs.IndexWrites.{marked_writes, readable_writes}
use Rattle.record_store.specs.Reading.{HasNotFound}
use Rattle.record_store.specs.Steps.{DidRead, IsBeginning, IsNextRefused, of_set, of_write}
use Rattle.record_store.proofs.Answered.{IsServed, answered, refused_limit, refused_memory, refused_unread}
use Rattle.record_store.proofs.IndexCalls.{named_there}
use Rattle.record_store.proofs.IndexChanges.{marked_holds}
use Rattle.record_store.proofs.Kept.{set_held}
use Rattle.record_store.proofs.Listed.{not_readable, of_number, opened_marks, state_told}
use Rattle.record_store.proofs.Marked.{readable_holds}
use Rattle.record_store.proofs.Stopping.{all_begin, none_begin}

-- ---- names

-- a write-only index that is found by its name is there, and is write-only
pub found_write_only : (opened : Opened) (name : List ℕ) (index : IndexDefinition) → write_only_named opened.schema opened.states name ≡ Ok index → (find_index opened.schema name ≡ Some index) × (state_in opened.states index.number ≡ WriteOnly)
found_write_only opened name index is = by_name (find_index opened.schema name) is
  where
    by_state : (state : State) (one : IndexDefinition) → in_write_only state one ≡ Ok index → (one ≡ index) × (state ≡ WriteOnly)
    by_state Readable one found = absurd (cc)
    by_state WriteOnly one found = let same : one ≡ index = cc in (same, refl)
    by_state Disabled one found = absurd (cc)

    by_name : (o : Option IndexDefinition) → write_only_found opened.states o ≡ Ok index → (o ≡ Some index) × (state_in opened.states index.number ≡ WriteOnly)
    by_name None found = absurd (cc)
    by_name (Some one) found = let both = by_state (state_in opened.states one.number) one found in (ap Some both.0, ap (λ (i : IndexDefinition). state_in opened.states i.number) (sym both.0) ∙ both.1)

pub number_named : (opened : Opened) (name : List ℕ) (index : IndexDefinition) → write_only_named opened.schema opened.states name ≡ Ok index → index_number (find_index opened.schema name) ≡ Ok index.number
number_named opened name index is = ap index_number (found_write_only opened name index is).0

-- ---- marks

-- what a write-only index is marked readable by: whether every position of it is built
ready : (number : ℕ) (store : Store) → is_whole (built_of store number) ≡ true → (readable_meaning number).answer store ≡ Ok (listed_states (marked store number Readable))
ready number store whole = ap (λ b. cond b (Ok (listed_states (marked store number Readable))) (Err NotBuilt)) whole

unready : (number : ℕ) (store : Store) → is_whole (built_of store number) ≡ false → (readable_meaning number).answer store ≡ Err NotBuilt
unready number store none = ap (λ b. cond b (Ok (listed_states (marked store number Readable))) (Err NotBuilt)) none

-- MARK: the index has its state, and nothing of it is kept
pub mark_served : (opened : Opened) (number : ℕ) (state : State) (states : List (ℕ × State)) (list : List Mutation) → (state ≡ Readable → ⊥) → list ≡ marked_writes state opened.prefix number →
    states ≡ listed_by opened.schema.indexes (altered_at number state (state_in opened.states)) → has_number opened.schema.indexes number ≡ true → (m : Map) (store : Store) → Holds opened.prefix m (Some store) → IsOpenAs opened store →
    IsServed opened (service_of (mark_meaning state) (mark_footprint state opened) number) states list m store
mark_served opened number state states list other wrote is there m store holds same = record {
  answers = ap Ok (sym (is ∙ opened_marks opened store number state same));
  wrote = wrote;
  holds =
      subst (λ ms. Holds opened.prefix (after_all ms m) (Some (marked store number state))) (sym wrote)
      (marked_holds opened.prefix m store number (ap (λ (s : Schema). has_number s.indexes number) same.schema ∙ there) holds state (not_readable state other));
}

-- ---- built positions

module _ (opened : Opened) (number : ℕ) (there : has_number opened.schema.indexes number ≡ true) (building : state_in opened.states number ≡ WriteOnly) where
  abbrev place : List ℕ
  place = built_place opened.prefix number

  abbrev reading : Reading
  reading = all_built opened.prefix number

  -- the state is that of each store that was opened so
  pub store_building : (store : Store) → IsOpenAs opened store → state_of store number ≡ WriteOnly
  store_building store same = state_told opened store number same (ap (λ (s : Schema). has_number s.indexes number) same.schema ∙ there) ∙ building

  -- SET: a store that is there has the built positions as a set
  pub set_there : (m : Map) (store : Store) → Holds opened.prefix m (Some store) → IsOpenAs opened store → HasSet place (built_of store number) m
  set_there m store holds same =
      let (index, is, has) = of_number (λ i. HasPositions opened.prefix i.number m (store.status i.number)) number store.schema.indexes (ap (λ (s : Schema). has_number s.indexes number) same.schema ∙ there) holds.ranges in
      set_held opened.prefix number m (store.status number) (store_building store same) (subst (λ n. HasPositions opened.prefix n m (store.status n)) is has)

  -- READ: all of it was read
  pub set_read : {maps : ℕ → Map} {old new : CommitRequest} (Answer : List KeyRange → Type 0) → (found : reads.IsSetAnswered maps place (all_ranges place) old new Answer) →
      DidRead maps (found.added ∷ []) old new (λ m. (found.added ∷ [] ≡ reading.added m) × (IsSound opened reading m × AtStore opened m (λ store. Answer (built_of store number))))
  set_read Answer found = ran_because found.ran (λ m is. (ap (λ r. r ∷ []) is.0, ((is.1, tt), λ store holds same. is.2 (built_of store number) (set_there m store holds same))))

  -- UNREAD: it wasn't
  pub set_unread : {maps : ℕ → Map} {refuses : KeyRange → ℕ → ReadError → Type 0} {old new : CommitRequest} (error : RangeSetError) → reads.IsSetRefused maps refuses place (all_ranges place) error old new →
      HasNotFound maps refuses opened reading (of_set error) old new
  set_unread {refuses = refuses} {old = old} error unread = record { added = unread.added; ran = ran_because unread.ran (λ m says. by_error error unread.added m says) }
    where
      by_error : (e : RangeSetError) (added : List KeyRange) (m : Map) → reads.IsSetUnread (λ range. refuses range old.read_version) place (all_ranges place) e added m → IsUnread (λ range. refuses range old.read_version) opened reading (of_set e) added m
      by_error set.Memory added m (inl none) = subst (λ rs. IsBeginning rs (reading.added m)) (sym none) (none_begin (reading.added m))
      by_error set.Memory added m (inr all) = subst (λ rs. IsBeginning rs (reading.added m)) (sym all) (all_begin (reading.added m))
      by_error (set.Read e) added m says = (
        subst (λ rs. IsBeginning rs (reading.added m)) (sym says.0) (none_begin (reading.added m)),
        subst (λ rs. IsNextRefused (λ range. refuses range old.read_version) (reading.asked m) rs e) (sym says.0) (record { range = built_range opened.prefix number; rest = []; next = refl; refused = says.1 }),
      )
      by_error (set.Corrupt key) added m says = (says.0, inl says.1, λ store holds same. says.2 (built_of store number) (set_there m store holds same))

  -- READABLE: where every position is built the index is readable
  pub readable_served : (states : List (ℕ × State)) (list : List Mutation) → list ≡ readable_writes opened.prefix number → states ≡ listed_by opened.schema.indexes (altered_at number Readable (state_in opened.states)) →
      (m : Map) (store : Store) → Holds opened.prefix m (Some store) → IsOpenAs opened store → is_whole (built_of store number) ≡ true → IsServed opened (service_of readable_meaning (readable_footprint opened) number) states list m store
  readable_served states list wrote is m store holds same whole = record {
    answers = ready number store whole ∙ ap Ok (sym (is ∙ opened_marks opened store number Readable same));
    wrote = wrote;
    holds =
        subst (λ ms. Holds opened.prefix (after_all ms m) (Some (marked store number Readable))) (sym wrote)
        (readable_holds opened.prefix m store number (ap (λ (s : Schema). has_number s.indexes number) same.schema ∙ there) holds (store_building store same) whole);
  }

-- REFUSED: the store that is there is refused by what was read
pub refused_unbuilt : {A : Type 0} (maps : ℕ → Map) (refuses : KeyRange → ℕ → ReadError → Type 0) {added : List KeyRange} {old new : CommitRequest} (opened : Opened) (call : Call A) (service : Service A) (some : Store) → call ≡ Ok service →
    service.meaning.answer some ≡ Err NotBuilt →
    DidRead maps added old new (λ m. (added ≡ service.footprint.reading.added m) × (IsSound opened service.footprint.reading m × AtStore opened m (λ store. service.meaning.answer store ≡ Err NotBuilt))) →
    IsRefused maps refuses opened call NotBuilt old new
refused_unbuilt maps refuses {added = added} {old = old} {new = new} opened call service some accepted unbuilt ran =
    subst (λ c. IsRefused maps refuses opened c NotBuilt old new) (sym accepted)
    (record { added = added; ran = ran_because ran (λ m found. ((some, unbuilt), found.0, found.1.0, found.1.1)) })

-- ---- the call that marks an index readable

-- OWN REFUSAL: there is no such index, or it isn't write-only
pub readable_refused : (maps : ℕ → Map) (refuses : KeyRange → ℕ → ReadError → Type 0) {old new : CommitRequest} (opened : Opened) (name : List ℕ) (error : StoreError) → write_only_named opened.schema opened.states name ≡ Err error → new ≡ old →
    IsRefused maps refuses opened (readable_call opened name) error old new
readable_refused maps refuses {old = old} {new = new} opened name error is same =
    subst (λ o. IsRefused maps refuses opened (call_on (λ (index : IndexDefinition). readable_meaning index.number) (λ (index : IndexDefinition). readable_footprint opened index.number) o) error old new) (sym is) (inr refl, same)

module _ (maps : ℕ → Map) (refuses : KeyRange → ℕ → ReadError → Type 0) (opened : Opened) (name : List ℕ) (index : IndexDefinition) (named : write_only_named opened.schema opened.states name ≡ Ok index) where
  accepted : readable_call opened name ≡ Ok (service_of readable_meaning (readable_footprint opened) index.number)
  accepted = ap (call_on (λ (one : IndexDefinition). readable_meaning one.number) (λ (one : IndexDefinition). readable_footprint opened one.number)) named

  known : has_number opened.schema.indexes index.number ≡ true
  known = named_there opened.schema name index.number (number_named opened name index named)

  marking : state_in opened.states index.number ≡ WriteOnly
  marking = (found_write_only opened name index named).1

  -- UNREAD: the built ranges weren't read
  pub readable_unread : {old new : CommitRequest} (at : List ℕ) (error : RangeSetError) → at ≡ built_place opened.prefix index.number → reads.IsSetRefused maps refuses at (all_ranges at) error old new →
      IsRefused maps refuses opened (readable_call opened name) (of_set error) old new
  readable_unread {old = old} {new = new} at error is unread =
      refused_unread maps refuses opened (readable_call opened name) (service_of readable_meaning (readable_footprint opened) index.number) (of_set error) accepted
      (set_unread opened index.number known marking error (subst (λ p. reads.IsSetRefused maps refuses p (all_ranges p) error old new) is unread))

  module _ {old mid : CommitRequest} (at : List ℕ) (whole : Bool) (is : at ≡ built_place opened.prefix index.number) (found : reads.IsSetAnswered maps at (all_ranges at) old mid (λ set. whole ≡ is_whole set)) where
    there : reads.IsSetAnswered maps (built_place opened.prefix index.number) (all_ranges (built_place opened.prefix index.number)) old mid (λ set. whole ≡ is_whole set)
    there = subst (λ p. reads.IsSetAnswered maps p (all_ranges p) old mid (λ set. whole ≡ is_whole set)) is found

    was_read : DidRead maps (there.added ∷ []) old mid (λ m. (there.added ∷ [] ≡ (all_built opened.prefix index.number).added m)
        × (IsSound opened (all_built opened.prefix index.number) m × AtStore opened m (λ store. whole ≡ is_whole (built_of store index.number))))
    was_read = set_read opened index.number known marking (λ set. whole ≡ is_whole set) there

    -- NOT BUILT: not every position is built
    pub readable_unbuilt : whole ≡ false → IsRefused maps refuses opened (readable_call opened name) NotBuilt old mid
    readable_unbuilt none =
        refused_unbuilt maps refuses opened (readable_call opened name) (service_of readable_meaning (readable_footprint opened) index.number) (created opened.schema) accepted refl
        (ran_because was_read (λ m told. (told.0, (told.1.0, λ store holds same. unready index.number store (sym (told.1.1 store holds same) ∙ none)))))

    -- MEMORY: it was wanting after the read
    pub readable_memory : IsRefused maps refuses opened (readable_call opened name) Memory old mid
    readable_memory = refused_memory maps refuses opened (readable_call opened name) (service_of readable_meaning (readable_footprint opened) index.number) accepted was_read

    module _ (list : List Mutation) (wrote : list ≡ readable_writes opened.prefix index.number) (all : whole ≡ true) where
      -- LIMIT: what is to be written was refused
      pub readable_limited : {new : CommitRequest} (error : WriteError) → new ≡ mid → (error ≡ write.Memory) ⊎ (write_all_refusal mid.mutations list ≡ Some error) → IsRefused maps refuses opened (readable_call opened name) (of_write error) old new
      readable_limited error same says =
          refused_limit maps refuses opened (readable_call opened name) (service_of readable_meaning (readable_footprint opened) index.number) list error accepted was_read
          (λ m store holds alike told. (record { answer = _; is = ready index.number store (sym told ∙ all) }, wrote)) same says

      -- ANSWERED: the index is readable
      pub readable_answered : {new : CommitRequest} (states : List (ℕ × State)) → states ≡ listed_by opened.schema.indexes (altered_at index.number Readable (state_in opened.states)) → new ≡ with_mutations list mid → IsNone (write_all_refusal mid.mutations list) →
          IsAnswered maps opened (readable_call opened name) states old new
      readable_answered states left made allowed =
          answered maps refuses opened (readable_call opened name) (service_of readable_meaning (readable_footprint opened) index.number) states list accepted (ap (λ ms. length ms == 0) wrote) was_read made allowed
          (λ m store holds alike told. readable_served opened index.number known marking states list wrote left m store holds alike (sym told ∙ all))
