-- What reading the total of a group comes to.
use Rattle.std.proofs.Common.{◌≡◌, inl, inr, ℕ, ◌%◌, ◌^◌, suc, Bool, true, false, cond, ℤ, List, [], ◌∷◌, Option, Some, None, Ok, refl, sym, ap, subst, ◌∙◌, arith, length, unwrap_or, pos}
use Rattle.std.specs.Prelude.{All, bytes_eq}
use Rattle.std.specs.List.{AllByRecursion, Contains, filter, find, sum_by}
use Rattle.std.specs.FinMap.{get}
use Rattle.std.proofs.lemmas.Bool.{and_parts}
use Rattle.tuple_codec.specs.Item.{bytes, int}
use Rattle.tuple_codec.specs.Spelling.{spelling}
use Rattle.tuple_codec.specs.Subspace.{BeginsWith}
use Rattle.kv_core.specs.Addition.{number_of}
use Rattle.kv_core.specs.Range.{KeyRange, point}
use Rattle.kv_core.specs.Map.{Map, Agree}
use Rattle.kv_core.specs.declared.change.CommitRequest.{CommitRequest}
use Rattle.kv_core.proofs.Sums.{length-bytes_of}
use Rattle.kv_core.specs.declared.snapshot.ReadError.{ReadError}
use Rattle.txn.specs.Reads.{has_read, seen}
use Rattle.txn.proofs.Running.{ran_added, ran_read}
use Rattle.metadata.specs.declared.cells.Cell.{Cell}
use Rattle.metadata.specs.declared.definition.Field.{Field}
use Rattle.metadata.specs.declared.definition.TypeDefinition.{TypeDefinition}
use Rattle.metadata.specs.declared.index.IndexDefinition.{IndexDefinition}
use Rattle.metadata.specs.declared.index.IndexKind.{IndexKind}
use Rattle.metadata.specs.declared.index.IndexKind.TheVariants.{Value, Count, Sum}
use Rattle.metadata.specs.declared.index.State.{State}
use Rattle.metadata.specs.declared.index.State.TheVariants.{Readable, WriteOnly, Disabled}
use Rattle.metadata.specs.Cell.{IsCell, items_of}
use Rattle.metadata.specs.Group.{fits_field, fits_group, fits_places}
use Rattle.metadata.specs.Record.{primary_key}
use Rattle.metadata.specs.Records.{of_type}
use Rattle.metadata.specs.Schema.{Schema, find_index, kind_at, type_at}
use Rattle.index_maint.specs.Kept.{HasDefined, HasKept}
use Rattle.index_maint.specs.Totals.{IsGroup, IsTotal, as_signed, count_share, group_key, group_of, same_group, sum_share}
use Rattle.index_maint.proofs.TotalParts.{number_of-total}
use Rattle.record_store.specs.declared.error.StoreError.{StoreError}
use Rattle.record_store.specs.declared.error.StoreError.TheVariants.{Memory, Read, Write, Corrupt, Refused, NoStore, AlreadyThere, OtherSchema, NotAggregate, NotReadable, WrongState, NotBuilt}
use Rattle.record_store.specs.Store.{Store, built_of, state_in, state_of}
use Rattle.record_store.specs.Layout.{built_place, record_key}
use Rattle.index_maint.proofs.Places.{entries_elsewhere}
use Rattle.record_store.specs.Holds.{Holds}
use Rattle.record_store.specs.Form.{IsFirstBad, IsWritten, read_in}
use Rattle.record_store.specs.Call.{IsOpenAs, IsUnread, Opened, call_on, service_of, whole}
use Rattle.record_store.specs.Calls.{aggregate_call, total_footprint}
use Rattle.record_store.specs.Meaning.{total_meaning, total_of, total_refusal, totalled_index, unless}
use Rattle.record_store.specs.Reading.{HasNotFound, IsNoTotal, IsTotalFound, IsTotalRead, IsTotalled}
use Rattle.record_store.specs.Steps.{DidRead}
use Rattle.record_store.proofs.Answered.{IsServed}
use Rattle.record_store.proofs.Kept.{itself, not_entry}
use Rattle.record_store.proofs.Listed.{of_contained, state_told_there}
use Rattle.record_store.proofs.OneRecord.{read_at}
use Rattle.record_store.proofs.Stopping.{all_begin}

-- ---- indexes and groups

-- an index that is found by its name is there
pub found_contained : (name : List ℕ) (indexes : List IndexDefinition) (index : IndexDefinition) → find (λ (one : IndexDefinition). bytes_eq one.name name) indexes ≡ Some index → Contains indexes index
found_contained name [] index is = cc
found_contained name (one ∷ indexes) index is = by_test (bytes_eq one.name name) is (found_contained name indexes index)
  where
    by_test : (b : Bool) → cond b (Some one) (find (λ (i : IndexDefinition). bytes_eq i.name name) indexes) ≡ Some index →
        (find (λ (i : IndexDefinition). bytes_eq i.name name) indexes ≡ Some index → Contains indexes index) → Contains (one ∷ indexes) index
    by_test true some go = let same : one ≡ index = cc in (0, omega arith, same)
    by_test false some go = let rest = go some in (suc rest.0, omega (arith, rest.1), rest.2)

-- cells that fit the index's columns are a group of it
same_length : (fields : List Field) (places : List ℕ) (cells : List Cell) → fits_places fields places cells ≡ true → length cells ≡ length places
same_length fields [] [] fit = refl
same_length fields [] (cell ∷ cells) fit = cc
same_length fields (place ∷ places) [] fit = cc
same_length fields (place ∷ places) (cell ∷ cells) fit =
    ap suc (same_length fields places cells (and_parts (fits_field (kind_at fields place) cell) (fits_places fields places cells) fit).1)

pub group_fits : (schema : Schema) (index : IndexDefinition) (group : List Cell) → fits_group schema index group ≡ true → All IsCell group → IsGroup index group
group_fits schema index group fit cells = record { cells = cells; columns = by_type (type_at schema.types index.type_number) refl fit }
  where
    by_type : (o : Option TypeDefinition) → type_at schema.types index.type_number ≡ o → fits_group schema index group ≡ true → length group ≡ length index.columns
    by_type None none fit = cc
    by_type (Some type) some fit = let placed : fits_places type.fields index.columns group ≡ true = cc in same_length type.fields index.columns group placed

-- what refuses no total of an index
pub refuses_none : (kind : IndexKind) (fit : Bool) (state : State) → total_refusal kind fit state ≡ None → (kind ≡ Value → ⊥) × (fit ≡ true) × (state ≡ Readable)
refuses_none Value fit state none = cc
refuses_none Count false state none = cc
refuses_none Count true Readable none = ((λ is. cc), refl, refl)
refuses_none Count true WriteOnly none = cc
refuses_none Count true Disabled none = cc
refuses_none Sum false state none = cc
refuses_none Sum true Readable none = ((λ is. cc), refl, refl)
refuses_none Sum true WriteOnly none = cc
refuses_none Sum true Disabled none = cc

pub totalled : (opened : Opened) (name : List ℕ) (index : IndexDefinition) (group : List Cell) → find_index opened.schema name ≡ Some index →
    total_refusal index.kind (fits_group opened.schema index group) (state_in opened.states index.number) ≡ None → IsTotalled opened index
totalled opened name index group found none =
    let parts = refuses_none index.kind (fits_group opened.schema index group) (state_in opened.states index.number) none in
    record { there = found_contained name opened.schema.indexes index found; kind = parts.0; readable = parts.2 }

-- ---- one total

-- what was found is the number of its bytes
found_is : (value : Option (List ℕ)) (total : ℤ) → IsTotalFound value total → total ≡ as_signed (number_of (unwrap_or value []))
found_is None total found = found
found_is (Some value) total found = found.1

module _ (opened : Opened) (index : IndexDefinition) (group : List Cell) (known : IsTotalled opened index) (fits : IsGroup index group) where
  abbrev key : List ℕ
  key = group_key opened.prefix index.number group

  -- a store that is there has the index's totals
  had : (m : Map) (store : Store) → Holds opened.prefix m (Some store) → IsOpenAs opened store → HasDefined index.kind opened.prefix index store.records m
  had m store holds same =
      let there = subst (λ (s : Schema). Contains s.indexes index) (sym same.schema) known.there in
      subst (λ s. HasKept s opened.prefix index (built_of store index.number) store.records m) (state_told_there opened store index same known.there ∙ known.readable)
      (of_contained (λ (i : IndexDefinition). HasKept (state_of store i.number) opened.prefix i (built_of store i.number) store.records m) store.schema.indexes index there.0 there.1 there.2 holds.entries)

  -- so that of the group stands at its key
  abbrev StandsThere : Map → Store → Type 0
  StandsThere m store = (n : ℕ) × IsTotal (get m key) (n % 2 ^ 64) × (total_of index.kind index group store.records ≡ as_signed (n % 2 ^ 64))

  stands : (m : Map) (store : Store) → Holds opened.prefix m (Some store) → IsOpenAs opened store → StandsThere m store
  stands m store holds same = by_kind index.kind known.kind (had m store holds same)
    where
      by_kind : (kind : IndexKind) → (kind ≡ Value → ⊥) → HasDefined kind opened.prefix index store.records m →
          (n : ℕ) × IsTotal (get m key) (n % 2 ^ 64) × (total_of kind index group store.records ≡ as_signed (n % 2 ^ 64))
      by_kind Value other has = absurd (other refl)
      by_kind Count other has =
          (sum_by (count_share index) (filter (λ r. same_group group (group_of index r)) (of_type index.type_number store.records)), has.totals group fits.cells, refl)
      by_kind Sum other has =
          (sum_by (sum_share index) (filter (λ r. same_group group (group_of index r)) (of_type index.type_number store.records)), has.totals group fits.cells, refl)

  -- READ: the total that was found
  form : (m : Map) (value : Option (List ℕ)) (total : ℤ) → get m key ≡ value → IsTotalFound value total → AllByRecursion (IsWritten opened.prefix opened.schema) (read_in m (point key ∷ []))
  form m None total is found = subst (AllByRecursion (IsWritten opened.prefix opened.schema)) (sym (read_at m key None is)) tt
  form m (Some value) total is found =
      subst (AllByRecursion (IsWritten opened.prefix opened.schema)) (sym (read_at m key (Some value) is))
      (inr (inl (record { index = index; there = known.there; group = group; fits = fits; key = refl; bytes = found.0 })), tt)

  total_there : (m : Map) (value : Option (List ℕ)) (total : ℤ) → get m key ≡ value → IsTotalFound value total → IsTotalRead opened index group total m
  total_there m value total is found = (
    form m value total is found,
    λ store holds same.
        let there = stands m store holds same in
        found_is value total found ∙ ap as_signed (number_of-total value there.0 (subst (λ v. IsTotal v (there.0 % 2 ^ 64)) is there.1)) ∙ sym there.2,
  )

  -- UNREAD: what was found is no total
  unread_there : (refuses : KeyRange → ReadError → Type 0) (m : Map) (value : Option (List ℕ)) (error : StoreError) → get m key ≡ value → IsNoTotal key value error →
      IsUnread refuses opened (whole (point key ∷ [])) error (point key ∷ []) m
  unread_there refuses m value Memory is says = all_begin (point key ∷ [])
  unread_there refuses m None (Read error) is says = absurd says
  unread_there refuses m None (Write error) is says = absurd says
  unread_there refuses m None (Refused refusal) is says = absurd says
  unread_there refuses m None NoStore is says = absurd says
  unread_there refuses m None AlreadyThere is says = absurd says
  unread_there refuses m None OtherSchema is says = absurd says
  unread_there refuses m None NotAggregate is says = absurd says
  unread_there refuses m None NotReadable is says = absurd says
  unread_there refuses m None WrongState is says = absurd says
  unread_there refuses m None NotBuilt is says = absurd says
  unread_there refuses m None (Corrupt at) is says = absurd says
  unread_there refuses m (Some value) (Read error) is says = absurd says
  unread_there refuses m (Some value) (Write error) is says = absurd says
  unread_there refuses m (Some value) (Refused refusal) is says = absurd says
  unread_there refuses m (Some value) NoStore is says = absurd says
  unread_there refuses m (Some value) AlreadyThere is says = absurd says
  unread_there refuses m (Some value) OtherSchema is says = absurd says
  unread_there refuses m (Some value) NotAggregate is says = absurd says
  unread_there refuses m (Some value) NotReadable is says = absurd says
  unread_there refuses m (Some value) WrongState is says = absurd says
  unread_there refuses m (Some value) NotBuilt is says = absurd says
  unread_there refuses m (Some value) (Corrupt at) is says = (refl, bad, λ store holds same. none store (stands m store holds same))
    where
      none : (store : Store) → StandsThere m store → ⊥
      none store there =
          let bytes : IsTotal (Some value) (there.0 % 2 ^ 64) = subst (λ v. IsTotal v (there.0 % 2 ^ 64)) is there.1 in
          says.1 (ap length bytes ∙ length-bytes_of 8 (there.0 % 2 ^ 64))

      malformed : IsWritten opened.prefix opened.schema (key, value) → ⊥
      malformed (inl pair) =
          let same : key ≡ record_key opened.prefix (primary_key pair.stored) = pair.key in
          not_entry opened.prefix index.number 1 (primary_key pair.stored) key refl
          (subst (λ k. BeginsWith (record_key opened.prefix (primary_key pair.stored)) k) (sym same) (itself (record_key opened.prefix (primary_key pair.stored))))
          (spelling (items_of group), refl)
      malformed (inr (inl pair)) = says.1 pair.bytes
      malformed (inr (inr one)) =
          let begins = subst (BeginsWith (built_place opened.prefix one.index.number)) (sym (ap (λ (p : List ℕ × List ℕ). p.0) one.is)) (spelling (bytes one.range.begin ∷ []), refl) in
          entries_elsewhere opened.prefix key index.number 6 (int (pos one.index.number) ∷ []) (omega arith) (λ is. absurd (omega (arith, is))) (spelling (items_of group), refl) begins

      bad : IsFirstBad (IsWritten opened.prefix opened.schema) (read_in m (point key ∷ [])) at
      bad = record { before = []; bad = (key, value); behind = []; split = read_at m key (Some value) is; good = tt; malformed = malformed; at = says.0 }

  -- TOTAL: a total was read, or wasn't
  pub total_read : {maps : ℕ → Map} {old new : CommitRequest} (k : List ℕ) (value : Option (List ℕ)) (total : ℤ) → k ≡ key →
      new ≡ has_read (point k) old → ((m : Map) → Agree new.reads (maps old.read_version) m → value ≡ get (seen old m) k) → IsTotalFound value total →
      DidRead maps (point key ∷ []) old new (IsTotalRead opened index group total)
  total_read {old = old} k value total is read answer found =
      ran_added (ap (λ at. point at ∷ []) is)
      (ran_read (point k) read (λ m agree. total_there (seen old m) value total (sym (answer m agree ∙ ap (get (seen old m)) is)) found))

  pub total_unread : {maps : ℕ → Map} {refuses : KeyRange → ℕ → ReadError → Type 0} {old new : CommitRequest} (k : List ℕ) (value : Option (List ℕ)) (error : StoreError) → k ≡ key →
      new ≡ has_read (point k) old → ((m : Map) → Agree new.reads (maps old.read_version) m → value ≡ get (seen old m) k) → IsNoTotal k value error →
      HasNotFound maps refuses opened (whole (point key ∷ [])) error old new
  total_unread {refuses = refuses} {old = old} k value error is read answer says = record {
    added = point key ∷ [];
    ran =
        ran_added (ap (λ at. point at ∷ []) is)
        (ran_read (point k) read (λ m agree. unread_there (λ range. refuses range old.read_version) (seen old m) value error (sym (answer m agree ∙ ap (get (seen old m)) is))
        (subst (λ j. IsNoTotal j value error) is says)));
  }

-- ---- the call

-- where nothing refuses the total, it is read
pub total_accepted : (opened : Opened) (name : List ℕ) (index : IndexDefinition) (group : List Cell) → find_index opened.schema name ≡ Some index →
    total_refusal index.kind (fits_group opened.schema index group) (state_in opened.states index.number) ≡ None → aggregate_call opened name group ≡ Ok (service_of (total_meaning group) (total_footprint opened group) index)
total_accepted opened name index group found none =
    ap (λ o. call_on (total_meaning group) (total_footprint opened group) (totalled_index opened.schema opened.states group o)) found
    ∙ ap (λ o. call_on (total_meaning group) (total_footprint opened group) (unless o index)) none

-- AGGREGATE: it answers the total that is there
pub total_served : (opened : Opened) (index : IndexDefinition) (group : List Cell) (total : ℤ) (m : Map) (store : Store) → Holds opened.prefix m (Some store) →
    total ≡ total_of index.kind index group store.records → IsServed opened (service_of (total_meaning group) (total_footprint opened group) index) total [] m store
total_served opened index group total m store holds is = record { answers = ap Ok (sym is); wrote = refl; holds = holds }
