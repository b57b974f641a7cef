-- A map that holds a store holds it with a field appended to one of its types, once the new schema is put.
use Rattle.std.proofs.Common.{◌≡◌, ◌+◌, ◌-◌, ◌≤◌, ◌==◌, ℕ, zero, suc, Bool, true, false, not, cond, ◌&&◌, List, [], ◌∷◌, ◌++◌, append-nil, append_assoc, length, map, Option, Some, None, Ok, Err, Result, refl, sym, ap, subst, ◌∙◌, arith, IsTrue, pos}
use Rattle.std.specs.Prelude.{nat_le, nat_lt, replicate}
use Rattle.std.specs.List.{AllByRecursion, list_any}
use Rattle.std.specs.FinMap.{get}
use Rattle.std.specs.Ordering.{is_lt}
use Rattle.std.specs.Str.{bytes_eq}
use Rattle.std.proofs.lemmas.Bool.{and_parts, true≢false}
use Rattle.std.proofs.lemmas.List.{length-append, map-append, replicate-append-replicate}
use Rattle.std.proofs.lemmas.List.Elements.{All-append, All-replicate}
use Rattle.tuple_codec.specs.Item.{Item, IsTuple, int}
use Rattle.tuple_codec.specs.Order.{tuple_cmp}
use Rattle.tuple_codec.specs.Subspace.{subspace_key}
use Rattle.kv_core.specs.Map.{Map, after}
use Rattle.kv_core.specs.declared.change.Mutation.TheVariants.{Set}
use Rattle.metadata.specs.declared.cells.Cell.{Cell}
use Rattle.metadata.specs.declared.cells.Cell.TheVariants.{Null}
use Rattle.metadata.specs.declared.cells.Kind.{Kind}
use Rattle.metadata.specs.declared.definition.Field.{Field}
use Rattle.metadata.specs.declared.definition.TypeDefinition.{TypeDefinition}
use Rattle.metadata.specs.declared.index.IndexDefinition.{IndexDefinition}
use Rattle.metadata.specs.declared.refusal.Refusal.{Refusal}
use Rattle.metadata.specs.declared.refusal.Refusal.TheVariants.{UnknownType}
use Rattle.metadata.specs.Cell.{IsCell, all_fit, cell_at, cells_at, fits, is_null}
use Rattle.metadata.specs.Change.{add_field, appended, appended_at, field_refusal, with_field}
use Rattle.metadata.specs.Lawful.{IsLawfulSchema}
use Rattle.metadata.specs.Record.{Record, key_items, primary_key, record_in}
use Rattle.metadata.specs.Records.{AreOrdered, IsStorable}
use Rattle.metadata.specs.Schema.{Schema, field_kinds, type_at}
use Rattle.metadata.specs.Stored.{filled}
use Rattle.metadata.specs.Written.{schema_bytes}
use Rattle.index_maint.specs.KeptLaws.{AreAlike, AreAllAlike}
use Rattle.index_maint.proofs.AlikeRecords.{kept_of_alike}
use Rattle.record_store.specs.Store.{Store, Status, built_by, grown, grown_as, state_by, widened}
use Rattle.record_store.specs.Layout.{place, record_key, schema_key}
use Rattle.record_store.specs.Holds.{HasRecord, Holds, IsNoRecord, IsOfSchema}
use Rattle.record_store.proofs.Filling.{made_length}
use Rattle.record_store.proofs.Kept.{HasIndex, each_kept, kept_indexes, kept_ranges, other_place, set_leaves, set_there}
use Rattle.record_store.proofs.NamedTypes.{typed_named}
use Rattle.record_store.proofs.RecordPairs.{own_type}

-- ---- a type

-- the type is the other one, perhaps with fields appended
record Grows (old new : TypeDefinition) : Type 0 where
  more : List Field
  number : new.number ≡ old.number
  key : new.key ≡ old.key
  first : new.first_fields ≡ old.first_fields
  fields : new.fields ≡ old.fields ++ more

-- the type of a number after a field is appended to one
type_grows : (name : List ℕ) (field : Field) (number : ℕ) (types : List TypeDefinition) (type : TypeDefinition) → type_at types number ≡ Some type →
    (new : TypeDefinition) × (type_at (appended_at name field types) number ≡ Some new) × Grows type new
type_grows name field number [] type found = absurd (cc)
type_grows name field number (t ∷ types) type found = by_name (bytes_eq t.name name) (t.number == number) refl found (type_grows name field number types type)
  where
    later : List TypeDefinition
    later = appended_at name field types

    same : (t : TypeDefinition) → Grows t t
    same t = record { more = []; number = refl; key = refl; first = refl; fields = sym (append-nil t.fields) }

    by_name : (b c : Bool) → (t.number == number) ≡ c → cond c (Some t) (type_at types number) ≡ Some type →
        (type_at types number ≡ Some type → (new : TypeDefinition) × (type_at later number ≡ Some new) × Grows type new) →
        (new : TypeDefinition) × (type_at (cond b (appended t field ∷ types) (t ∷ later)) number ≡ Some new) × Grows type new
    by_name true true is some go =
        let one : t ≡ type = cc in (
          appended t field,
          ap (λ c. cond c (Some (appended t field)) (type_at types number)) is,
          subst (λ x. Grows x (appended t field)) one (record { more = field ∷ []; number = refl; key = refl; first = refl; fields = refl }),
        )
    by_name true false is some go = (type, ap (λ c. cond c (Some (appended t field)) (type_at types number)) is ∙ some, same type)
    by_name false true is some go = let one : t ≡ type = cc in (t, ap (λ c. cond c (Some t) (type_at later number)) is, subst (λ x. Grows x t) one (same t))
    by_name false false is some go = let rest = go some in (rest.0, ap (λ c. cond c (Some t) (type_at later number)) is ∙ rest.1, rest.2)

-- the schema with a field is that of the call
pub field_is : (schema next : Schema) (name : List ℕ) (field : Field) → add_field schema name field ≡ Ok next → with_field schema name field ≡ next
field_is schema next name field added = by_refusal (field_refusal schema name field) added
  where
    by_refusal : (why : Option Refusal) → ◌≡◌ {A = Result Schema Refusal} (elim why [ None ↦ Ok (with_field schema name field) | Some refusal ↦ Err refusal ]) (Ok next) → with_field schema name field ≡ next
    by_refusal None made = let same : with_field schema name field ≡ next = cc in same
    by_refusal (Some refusal) made = absurd (cc)

-- ---- cells

null_at : (count place : ℕ) → cell_at (replicate count Null) place ≡ Null
null_at zero place = refl
null_at (suc count) zero = refl
null_at (suc count) (suc place) = null_at count place

-- nulls behind the cells are as nothing
nulls_behind : (cells : List Cell) (count place : ℕ) → cell_at (cells ++ replicate count Null) place ≡ cell_at cells place
nulls_behind [] count place = null_at count place
nulls_behind (cell ∷ cells) count zero = refl
nulls_behind (cell ∷ cells) count (suc place) = nulls_behind cells count place

cells_behind : (cells : List Cell) (count : ℕ) (places : List ℕ) → cells_at (cells ++ replicate count Null) places ≡ cells_at cells places
cells_behind cells count [] = refl
cells_behind cells count (place ∷ places) = λ i. nulls_behind cells count place i ∷ cells_behind cells count places i

nulls_fit : (fields : List Field) → all_fit (map (λ (f : Field). f.kind) fields) (replicate (length fields) Null) ≡ true
nulls_fit [] = refl
nulls_fit (field ∷ fields) = nulls_fit fields

more_fit : (kinds : List Kind) (cells : List Cell) (fields : List Field) → all_fit kinds cells ≡ true → all_fit (kinds ++ map (λ (f : Field). f.kind) fields) (cells ++ replicate (length fields) Null) ≡ true
more_fit [] [] fields fit = nulls_fit fields
more_fit [] (cell ∷ cells) fields fit = absurd (true≢false (sym fit))
more_fit (kind ∷ kinds) [] fields fit = absurd (true≢false (sym fit))
more_fit (kind ∷ kinds) (cell ∷ cells) fields fit =
    let parts = and_parts (fits kind cell) (all_fit kinds cells) fit in λ i. parts.0 i && more_fit kinds cells fields parts.1 i

-- what a record that is made passes
passes : (type : TypeDefinition) (cells : List Cell) (r : Record) → record_in type cells ≡ Ok r → (all_fit (field_kinds type) cells ≡ true) × (list_any is_null (cells_at cells type.key) ≡ false)
passes type cells r made = by_fit (all_fit (field_kinds type) cells) refl made
  where
    by_null : (b : Bool) → all_fit (field_kinds type) cells ≡ true → list_any is_null (cells_at cells type.key) ≡ b → record_in type cells ≡ Ok r → (all_fit (field_kinds type) cells ≡ true) × (list_any is_null (cells_at cells type.key) ≡ false)
    by_null true fit null is = absurd (cc)
    by_null false fit null is = (fit, null)

    by_fit : (b : Bool) → all_fit (field_kinds type) cells ≡ b → record_in type cells ≡ Ok r → (all_fit (field_kinds type) cells ≡ true) × (list_any is_null (cells_at cells type.key) ≡ false)
    by_fit true fit is = by_null (list_any is_null (cells_at cells type.key)) fit refl is
    by_fit false fit is = absurd (cc)

made_of : (type : TypeDefinition) (cells : List Cell) → all_fit (field_kinds type) cells ≡ true → list_any is_null (cells_at cells type.key) ≡ false → record_in type cells ≡ Ok (record { definition = type; cells = cells })
made_of type cells fit null = cc

-- ---- a record

module _ (old new : TypeDefinition) (grows : Grows old new) (r : Record) (its : r.definition ≡ old) (made : record_in old r.cells ≡ Ok r) where
  count : length r.cells ≡ length old.fields
  count = made_length old r made

  wanting : length new.fields - length r.cells ≡ length grows.more
  wanting = let longer = ap length grows.fields in let sum = length-append old.fields grows.more in omega (arith, count, longer, sum)

  abbrev all_cells : List Cell
  all_cells = r.cells ++ replicate (length new.fields - length r.cells) Null

  cells_are : all_cells ≡ r.cells ++ replicate (length grows.more) Null
  cells_are = ap (λ n. r.cells ++ replicate n Null) wanting

  same_key : primary_key (grown_as new r) ≡ primary_key r
  same_key =
      (λ i. key_items (grows.number i) (cells_at all_cells (grows.key i))) ∙ ap (key_items old.number) (cells_behind r.cells (length new.fields - length r.cells) old.key)
      ∙ ap (λ (d : TypeDefinition). key_items d.number (cells_at r.cells d.key)) (sym its)

  alike : AreAlike r (grown_as new r)
  alike = record {
    number = ap (λ (d : TypeDefinition). d.number) its ∙ sym grows.number;
    cells = λ place. sym (nulls_behind r.cells (length new.fields - length r.cells) place);
    key = sym same_key;
  }

  new_made : record_in new all_cells ≡ Ok (grown_as new r)
  new_made =
      let parts = passes old r.cells r made in
      made_of new all_cells
      ((λ i. all_fit (map (λ (f : Field). f.kind) (grows.fields i)) (cells_are i)) ∙ ap (λ ks. all_fit ks (r.cells ++ replicate (length grows.more) Null)) (map-append (λ (f : Field). f.kind) old.fields grows.more)
      ∙ more_fit (field_kinds old) r.cells grows.more parts.0)
      ((λ i. list_any is_null (cells_at all_cells (grows.key i))) ∙ ap (list_any is_null) (cells_behind r.cells (length new.fields - length r.cells) old.key) ∙ parts.1)

  storable : IsStorable r → IsStorable (grown_as new r)
  storable can = record {
    key = subst IsTuple (sym same_key) can.key;
    cells = All-append IsCell r.cells (replicate (length new.fields - length r.cells) Null) can.cells (All-replicate IsCell (length new.fields - length r.cells) Null tt);
  }

  -- the same first cells fill it
  fills : (stored : List Cell) → filled old stored ≡ Some r.cells → filled new stored ≡ Some all_cells
  fills stored is = by_test (nat_le old.first_fields (length stored)) refl is
    where
      more : stored ++ replicate (length old.fields - length stored) Null ≡ r.cells → stored ++ replicate (length new.fields - length stored) Null ≡ all_cells
      more first =
          let sum = length-append stored (replicate (length old.fields - length stored) Null) in
          let all = ap length first in
          let low : length stored ≤ length old.fields = omega (arith, sum, all, count) in
          let longer = ap length grows.fields in
          let both = length-append old.fields grows.more in
          let sums : length new.fields - length stored ≡ length old.fields - length stored + length grows.more = omega (arith, low, longer, both) in
          ap (λ n. stored ++ replicate n Null) sums ∙ ap (λ l. stored ++ l) (sym (replicate-append-replicate (length old.fields - length stored) (length grows.more) Null))
          ∙ sym (append_assoc stored (replicate (length old.fields - length stored) Null) (replicate (length grows.more) Null)) ∙ ap (λ l. l ++ replicate (length grows.more) Null) first ∙ sym cells_are

      by_test : (b : Bool) → nat_le old.first_fields (length stored) ≡ b → ◌≡◌ {A = Option (List Cell)} (cond b (Some (stored ++ replicate (length old.fields - length stored) Null)) None) (Some r.cells) → filled new stored ≡ Some all_cells
      by_test false few is = absurd (cc)
      by_test true enough is =
          let first : stored ++ replicate (length old.fields - length stored) Null ≡ r.cells = cc in
          ap (λ b. cond b (Some (stored ++ replicate (length new.fields - length stored) Null)) None) (ap (λ n. nat_le n (length stored)) grows.first ∙ enough) ∙ ap Some (more first)

-- ---- the records

-- what stands of a record and of the same one in the schema with a field more
record Grown (next : Schema) (prefix : List ℕ) (m : Map) (r s : Record) : Type 0 where
  alike : AreAlike r s
  typed : IsOfSchema next s
  storable : IsStorable s
  has : HasRecord prefix m s

-- so it does of all records
record AllGrown (next : Schema) (prefix : List ℕ) (m : Map) (records : List Record) : Type 0 where
  alike : AreAllAlike records (map (grown next) records)
  typed : AllByRecursion (IsOfSchema next) (map (grown next) records)
  storable : AllByRecursion IsStorable (map (grown next) records)
  has : AllByRecursion (HasRecord prefix m) (map (grown next) records)

module _ (schema : Schema) (name : List ℕ) (field : Field) (lawful : IsLawfulSchema schema) (made : IsLawfulSchema (with_field schema name field)) where
  abbrev next : Schema
  next = with_field schema name field

  one_grown : (prefix : List ℕ) (m : Map) (r : Record) → IsOfSchema schema r → IsStorable r → HasRecord prefix m r → Grown next prefix m r (grown next r)
  one_grown prefix m r typed can has =
      let own = own_type schema r lawful typed in
      let new = type_grows name field r.definition.number schema.types r.definition own.0 in
      subst (Grown next prefix m r) (ap (λ (o : Option TypeDefinition). elim o [ Some type ↦ grown_as type r | None ↦ r ]) (sym new.1)) (record {
        alike = alike r.definition new.0 new.2 r refl own.1;
        typed = ap (λ (t : Option TypeDefinition). elim t [ None ↦ Err UnknownType | Some one ↦ record_in one (grown_as new.0 r).cells ]) (typed_named next new.0 made (ap (type_at next.types) (new.2.number) ∙ new.1)) ∙ new_made r.definition new.0 new.2 r refl own.1;
        storable = storable r.definition new.0 new.2 r refl own.1 can;
        has = record {
          stored = has.stored;
          has = ap (λ key. get m (record_key prefix key)) (same_key r.definition new.0 new.2 r refl own.1) ∙ has.has;
          fills = fills r.definition new.0 new.2 r refl own.1 has.stored has.fills;
        };
      })

  all_grown : (prefix : List ℕ) (m : Map) (records : List Record) → AllByRecursion (IsOfSchema schema) records → AllByRecursion IsStorable records → AllByRecursion (HasRecord prefix m) records → AllGrown next prefix m records
  all_grown prefix m [] typed can has = record { alike = tt; typed = tt; storable = tt; has = tt }
  all_grown prefix m (r ∷ records) typed can has =
      let one = one_grown prefix m r typed.0 can.0 has.0 in
      let rest = all_grown prefix m records typed.1 can.1 has.1 in
      record { alike = (one.alike, rest.alike); typed = (one.typed, rest.typed); storable = (one.storable, rest.storable); has = (one.has, rest.has) }

-- records that are alike are in the same order, and have the same keys
below_alike : (r s : Record) (records others : List Record) → AreAlike r s → AreAllAlike records others → AllByRecursion (λ later. IsTrue (is_lt (tuple_cmp (primary_key r) (primary_key later)))) records →
    AllByRecursion (λ later. IsTrue (is_lt (tuple_cmp (primary_key s) (primary_key later)))) others
below_alike r s [] [] one all below = tt
below_alike r s [] (o ∷ others) one all below = absurd all
below_alike r s (later ∷ records) [] one all below = absurd all
below_alike r s (later ∷ records) (o ∷ others) one all below = (
  (λ i. is_lt (tuple_cmp (sym one.key i) (sym all.0.key i))) ∙ below.0,
  below_alike r s records others one all.1 below.1,
)

ordered_alike : (records others : List Record) → AreAllAlike records others → AreOrdered records → AreOrdered others
ordered_alike [] [] all ordered = tt
ordered_alike [] (s ∷ others) all ordered = absurd all
ordered_alike (r ∷ records) [] all ordered = absurd all
ordered_alike (r ∷ records) (s ∷ others) all ordered = (below_alike r s records others all.0 all.1 ordered.0, ordered_alike records others all.1 ordered.1)

none_alike : (prefix : List ℕ) (at : List ℕ) (records others : List Record) → AreAllAlike records others → IsNoRecord prefix others at → IsNoRecord prefix records at
none_alike prefix at [] [] all none = tt
none_alike prefix at [] (s ∷ others) all none = absurd all
none_alike prefix at (r ∷ records) [] all none = absurd all
none_alike prefix at (r ∷ records) (s ∷ others) all none = ((λ same. none.0 (same ∙ ap (record_key prefix) all.0.key)), none_alike prefix at records others all.1 none.1)

-- ---- the store

module _ (prefix : List ℕ) (m : Map) (store : Store) (name : List ℕ) (field : Field) (made : IsLawfulSchema (with_field store.schema name field)) (holds : Holds prefix m (Some store)) where
  abbrev schema : Schema
  schema = with_field store.schema name field

  abbrev then : Map
  then = after (Set (schema_key prefix) (schema_bytes schema)) m

  leaves : (n : ℕ) (ns : List Item) (bytes : List ℕ) → (nat_lt 0 7 && (nat_lt n 7 && not (n == 0))) ≡ true → get then (subspace_key prefix (int (pos n) ∷ ns) ++ bytes) ≡ get m (subspace_key prefix (int (pos n) ∷ ns) ++ bytes)
  leaves n ns bytes differ =
      set_leaves m (schema_key prefix) (schema_bytes schema) (subspace_key prefix (int (pos n) ∷ ns) ++ bytes) (other_place prefix 0 [] n ns (subspace_key prefix (int (pos n) ∷ ns) ++ bytes) differ (bytes, refl))

  all : AllGrown schema prefix then store.records
  all =
      all_grown store.schema name field holds.lawful.schema made prefix then store.records holds.lawful.typed holds.lawful.storable
      (each_kept prefix store.records m then (λ bytes. leaves 1 [] bytes refl) holds.records.each)

  -- the indexes over the records are those over the ones with a field more
  indexes_grown : (status : ℕ → Status) (indexes : List IndexDefinition) → AllByRecursion (λ index. HasIndex prefix store.records then index (status index.number)) indexes →
      AllByRecursion (λ index. HasIndex prefix (map (grown schema) store.records) then index (status index.number)) indexes
  indexes_grown status [] has = tt
  indexes_grown status (index ∷ indexes) has = (
    kept_of_alike (state_by (status index.number)) prefix index (built_by (status index.number)) store.records (map (grown schema) store.records) then all.alike has.0,
    indexes_grown status indexes has.1,
  )

  -- FIELD: with the new schema's pair put, the map holds the store with the field
  pub widened_holds : Holds prefix (after (Set (schema_key prefix) (schema_bytes (with_field store.schema name field))) m) (Some (widened store (with_field store.schema name field)))
  widened_holds = record {
    lawful = record { schema = made; typed = all.typed; ordered = ordered_alike store.records (map (grown schema) store.records) all.alike holds.lawful.ordered; storable = all.storable };
    schema = set_there m (schema_key prefix) (schema_bytes schema);
    records = record {
      each = all.has;
      no_others = λ bytes none. leaves 1 [] bytes refl ∙ holds.records.no_others bytes (none_alike prefix (place prefix 1 ++ bytes) store.records (map (grown schema) store.records) all.alike none);
    };
    entries = indexes_grown store.status store.schema.indexes (kept_indexes prefix store.records store.status m then store.schema.indexes (λ number bytes. leaves 2 (int (pos number) ∷ []) bytes refl) holds.entries);
    states = λ bytes. leaves 5 [] bytes refl ∙ holds.states bytes;
    ranges = kept_ranges prefix store.status m then store.schema.indexes (λ number bytes. leaves 6 (int (pos number) ∷ []) bytes refl) holds.ranges;
    nothing_else = λ at under elsewhere.
        set_leaves m (schema_key prefix) (schema_bytes schema) at elsewhere.schema
        ∙ holds.nothing_else at under (record { schema = elsewhere.schema; records = elsewhere.records; entries = elsewhere.entries; states = elsewhere.states; ranges = elsewhere.ranges });
  }
