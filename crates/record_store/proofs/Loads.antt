-- What a load comes to, from what its parts establish.
use Rattle.std.proofs.Common.{◌≡◌, ℕ, List, [], ◌∷◌, Option, Some, None, Ok, refl, ap, subst, ◌∙◌}
use Rattle.std.specs.FinMap.{get}
use Rattle.std.specs.Option.{option_map}
use Rattle.tuple_codec.specs.Item.{Item, IsTuple}
use Rattle.tuple_codec.specs.Spelling.{spelling}
use Rattle.kv_core.specs.Map.{Map}
use Rattle.kv_core.specs.Range.{KeyRange, point}
use Rattle.kv_core.specs.declared.change.CommitRequest.{CommitRequest}
use Rattle.kv_core.specs.declared.snapshot.ReadError.{ReadError}
use Rattle.kv_core.specs.Read.{NeverRefuses}
use Rattle.metadata.specs.declared.cells.Cell.{Cell}
use Rattle.metadata.specs.declared.definition.TypeDefinition.{TypeDefinition}
use Rattle.metadata.specs.Lawful.{IsLawfulSchema}
use Rattle.metadata.specs.Record.{Record, key_in, key_items}
use Rattle.metadata.specs.Schema.{find_type}
use Rattle.metadata.proofs.StoredOnce.{of_cells}
use Rattle.record_store.specs.declared.error.StoreError.{StoreError}
use Rattle.record_store.specs.Call.{IsAnswered, IsRefused, Opened, service_of}
use Rattle.record_store.specs.Calls.{load_call, load_footprint}
use Rattle.record_store.specs.Layout.{packed_in, record_key}
use Rattle.record_store.specs.Meaning.{load_meaning}
use Rattle.record_store.specs.Reading.{HasNotFound, HasNotRead, IsFound, IsKeyOf, IsNotFound}
use Rattle.record_store.specs.Steps.{DidRead}
use Rattle.record_store.proofs.Answered.{answered_reading, as_added, done_with, key_in_type, refused_unread}
use Rattle.record_store.proofs.Keys.{packed_is}
use Rattle.record_store.proofs.OneRecord.{key_not_read, key_read, read_unread, record_read, record_unread}
use Rattle.record_store.proofs.RecordCalls.{load_served}

-- the cells of records of a type that are made of cells
pub same_cells : (type : TypeDefinition) (cells : Option (List Cell)) → cells ≡ option_map (λ (r : Record). r.cells) (option_map (of_cells type) cells)
same_cells type None = refl
same_cells type (Some cells) = refl

module _ (opened : Opened) (name : List ℕ) (cells : List Cell) (type : TypeDefinition) (lawful : IsLawfulSchema opened.schema) (found_type : find_type opened.schema name ≡ Some type)
    (own_type : find_type opened.schema type.name ≡ Some type) (made : key_in type cells ≡ Ok (key_items type.number cells)) (tuple : IsTuple (key_items type.number cells)) (at : List ℕ)
    (is_at : at ≡ record_key opened.prefix (key_items type.number cells)) where
  abbrev pk : List Item
  pk = key_items type.number cells

  its_key : IsKeyOf type pk
  its_key = record { cells = cells; is = refl; tuple = tuple }

  abbrev key : List ℕ
  key = record_key opened.prefix pk

  packed : packed_in opened.prefix at ≡ spelling pk
  packed = ap (packed_in opened.prefix) is_at ∙ packed_is opened.prefix pk

  accepted : load_call opened name cells ≡ Ok (service_of load_meaning (load_footprint opened) pk)
  accepted = ap (done_with load_meaning (load_footprint opened)) (key_in_type opened.schema name cells type found_type ∙ made)

  unread : {maps : ℕ → Map} {refuses : KeyRange → ℕ → ReadError → Type 0} {old new : CommitRequest} (error : StoreError) → HasNotFound maps refuses opened (load_footprint opened pk).reading error old new →
      IsRefused maps refuses opened (load_call opened name cells) error old new
  unread {maps = maps} {refuses = refuses} error is = refused_unread maps refuses opened (load_call opened name cells) (service_of load_meaning (load_footprint opened) pk) error accepted is

  -- KEY: its read isn't answered
  pub load_key_refused : {maps : ℕ → Map} {refuses : KeyRange → ℕ → ReadError → Type 0} {old new : CommitRequest} (error : StoreError) → HasNotRead maps refuses (point at ∷ []) error old new →
      IsRefused maps refuses opened (load_call opened name cells) error old new
  load_key_refused error is = unread error (read_unread opened (point key ∷ []) error (key_not_read at key error is_at is))

  -- RECORD: the pair found stands for none
  pub load_record_refused : {maps : ℕ → Map} (refuses : KeyRange → ℕ → ReadError → Type 0) {old new : CommitRequest} (value : Option (List ℕ)) (error : StoreError) → DidRead maps (point at ∷ []) old new (λ m. value ≡ get m at) →
      IsNotFound type (packed_in opened.prefix at) at value error → IsRefused maps refuses opened (load_call opened name cells) error old new
  load_record_refused refuses value error ran says =
      unread error
      (record_unread opened type pk lawful own_type its_key value error (key_read at key value is_at ran)
      (subst (λ k. IsNotFound type (spelling pk) k value error) is_at (subst (λ p. IsNotFound type p at value error) packed says)))

  -- LOADED
  pub load_answered : {maps : ℕ → Map} {old new : CommitRequest} (value : Option (List ℕ)) (found : Option Record) → DidRead maps (point at ∷ []) old new (λ m. value ≡ get m at) → IsFound type (packed_in opened.prefix at) value found →
      IsAnswered maps opened (load_call opened name cells) found old new
  load_answered {maps = maps} value found ran stands =
      answered_reading maps NeverRefuses opened (load_call opened name cells) (service_of load_meaning (load_footprint opened) pk) found accepted refl
      (as_added (record_read opened type pk lawful own_type its_key value found (key_read at key value is_at ran) (subst (λ p. IsFound type p value found) packed stands)))
      (λ m store holds same is. load_served opened pk found m store holds is)
