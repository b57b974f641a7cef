-- A map that holds a store is exact for the records and the entries of a type.
use Rattle.std.specs.Prelude.{◌≡◌, Ok, ℕ, ◌<◌, ◌^◌, ◌==◌, List, [], ◌∷◌, ◌++◌, map, unwrap_or, Some, IsTrue, Any, Contains, nat_eq, pos}
use Rattle.std.specs.List.{starts_with}
use Rattle.std.specs.FinMap.{entries, get-entries}
use Rattle.std.specs.FinMap.Entries.{find}
use Rattle.std.proofs.Common.{ap, refl, sym, ◌∙◌, subst, append_assoc}
use Rattle.std.specs.declared.cmp.Ordering.TheVariants.{Less}
use Rattle.std.proofs.lemmas.Bool.{eqb-true, eq-eqb}
use Rattle.std.proofs.lemmas.Option.{same_Some}
use Rattle.tuple_codec.specs.Item.{int}
use Rattle.tuple_codec.specs.Spelling.{item_spelling, outer, spelling}
use Rattle.tuple_codec.specs.Subspace.{BeginsWith}
use Rattle.kv_core.specs.Bytes.{key_cmp}
use Rattle.kv_core.specs.Range.{KeyRange}
use Rattle.kv_core.specs.Map.{Map}
use Rattle.kv_core.proofs.Stored.{sorted_entries}
use Rattle.metadata.specs.declared.definition.TypeDefinition.{TypeDefinition}
use Rattle.metadata.specs.declared.index.IndexDefinition.{IndexDefinition}
use Rattle.metadata.specs.declared.index.IndexKind.TheVariants.{Value}
use Rattle.metadata.specs.declared.index.State.{State}
use Rattle.metadata.specs.declared.index.State.TheVariants.{Readable}
use Rattle.metadata.specs.Cell.{items_of}
use Rattle.metadata.specs.Entries.{entry_items, entry_of, index_entries as entries_in}
use Rattle.metadata.specs.Layout.{Pair, entries_prefix, entry_pair, entry_pairs, place, record_key, records_prefix}
use Rattle.metadata.specs.Record.{Record, key_cells, primary_key, record_in}
use Rattle.metadata.specs.Records.{IsStorable, of_type}
use Rattle.metadata.specs.Stored.{IsTypeOf, filled}
use Rattle.metadata.proofs.StoredApart.{number_small}
use Rattle.index_maint.specs.Changes.{HasEntries}
use Rattle.index_maint.proofs.Places.{begins_before, parts_apart}
use Rattle.index_maint.specs.Kept.{HasDefined, HasKept}
use Rattle.record_store.specs.Holds.{HasRecord, Holds, HoldsStore, IsOfSchema}
use Rattle.record_store.specs.Store.{Store, built_of, state_of}
use Rattle.record_store.proofs.Held.{pair_with, pairs_held, rising, value_in}
use Rattle.record_store.proofs.Keys.{record_key_is}
use Rattle.record_store.proofs.RecordPairs.{one_type, own_type}
use Rattle.planner.specs.Exact.{AreThose, IsExact, IsOf, own_pair}
use Rattle.planner.specs.Layout.{stored_record}
use Rattle.planner.proofs.ReadBack.{records_back}
use Rattle.planner.proofs.CodecLaws.{begins_so, so_begins}
use Rattle.planner.proofs.Lists.{Pairwise, contains_member, member_at, member_contained}
use Rattle.planner.proofs.Residual.{Member, each_member, member_where}
use Rattle.planner.proofs.Rows.{member_of_where}
use Rattle.planner.proofs.Sound.{find_member, rising as rises_from}
use Rattle.plan_exec.specs.Scannable.{IsScannable}
use Rattle.plan_exec.proofs.Pairs.{all_these, in_order, just_these, member_map, member_of_map}

joined : (p a b k : List ℕ) → p ++ (a ++ (b ++ k)) ≡ (p ++ (a ++ (b ++ []))) ++ k
joined p a b k = ap (λ w. p ++ w) (ap (λ w. a ++ w) (sym (append_assoc b [] k)) ∙ sym (append_assoc a (b ++ []) k)) ∙ sym (append_assoc p (a ++ (b ++ [])) k)

module _ (prefix : List ℕ) (m : Map) (store : Store) (holds : HoldsStore prefix m store) (t : TypeDefinition) (its : IsTypeOf store.schema t) where
  abbrev its_records : List Record
  its_records = of_type t.number store.records

  abbrev record_pairs : List Pair
  record_pairs = map (pair_with prefix (value_in prefix m)) store.records

  small : t.number < 2 ^ 64
  small = number_small store.schema t holds.lawful.schema its

  -- a record of the store is of a type of its schema
  typed : (r : Record) → Member r store.records → IsTypeOf store.schema r.definition × (record_in r.definition r.cells ≡ Ok r)
  typed r k = let own = own_type store.schema r holds.lawful.schema (each_member (IsOfSchema store.schema) holds.lawful.typed k) in (own.0, own.1)

  -- a record of the type is one of the store's, of this definition
  own : (r : Record) → Member r its_records → Member r store.records × (r.definition ≡ t)
  own r k =
      let w = member_of_where (λ (x : Record). x.definition.number == t.number) r store.records k in
      (w.0, one_type store.schema r.definition t (typed r w.0).0 its (eqb-true r.definition.number t.number w.1))

  is_of : (r : Record) → Contains its_records r → IsOf t r
  is_of r c =
      let o = own r (member_contained r its_records c) in
      record {
        made = subst (λ d. record_in d r.cells ≡ Ok r) o.1 (typed r o.0).1;
        are_stored = (each_member IsStorable holds.lawful.storable o.0).cells;
      }

  -- a record's key begins with that of its type
  key_begins : (r : Record) → BeginsWith (records_prefix prefix r.definition.number) (record_key prefix (primary_key r))
  key_begins r = (spelling (items_of (key_cells r)), joined prefix (item_spelling outer (int (pos 1))) (item_spelling outer (int (pos r.definition.number))) (spelling (items_of (key_cells r))))

  behind_place : (n : ℕ) (k : List ℕ) → BeginsWith (records_prefix prefix n) k → BeginsWith (place prefix 1) k
  behind_place n k b = begins_before (place prefix 1) (spelling (int (pos n) ∷ [])) k (subst (λ w. BeginsWith w k) (sym (record_key_is prefix (int (pos n) ∷ []))) b)

  pairs_rise : Pairwise (λ p q. key_cmp p.0 q.0 ≡ Less) record_pairs
  pairs_rise = rises_from record_pairs (sorted_entries record_pairs (rising prefix (value_in prefix m) store.records holds.lawful.storable holds.lawful.ordered))

  one_each : (p : Pair) → Member p record_pairs → (q : Pair) → Member q record_pairs → q.0 ≡ p.0 → q ≡ p
  one_each p k q l same =
      let a = find_member record_pairs pairs_rise p k in
      let b = find_member record_pairs pairs_rise q l in
      λ i. (same i, same_Some q.1 p.1 (sym b ∙ ap (λ x. find key_cmp x record_pairs) same ∙ a) i)

  -- a map has among its pairs what stands at a record's key
  own_is : (r : Record) → pair_with prefix (value_in prefix m) r ≡ own_pair prefix (entries m) r
  own_is r i = (record_key prefix (primary_key r), unwrap_or (get-entries m (record_key prefix (primary_key r)) i) [])

  -- and it stands for the record
  stored : (r : Record) → Contains its_records r → stored_record prefix t (own_pair prefix (entries m) r) ≡ Some r
  stored r c =
      let o = own r (member_contained r its_records c) in
      let of = is_of r c in
      let has = each_member (HasRecord prefix m) holds.records.each o.0 in
      (records_back prefix t (own_pair prefix (entries m) r) r).1 (record {
        key = refl;
        stored = record {
          made = of.made;
          cells = of.are_stored;
          has_key = refl;
          stored = has.stored;
          fills = subst (λ d. filled d has.stored ≡ Some r.cells) o.1 has.fills;
          has_value = ap (λ found. unwrap_or found []) (sym (get-entries m (record_key prefix (primary_key r))) ∙ has.has);
        };
      })

  records_are : AreThose (records_prefix prefix t.number) (own_pair prefix (entries m)) its_records (entries m)
  records_are p = (forth, back)
    where
      forth : Contains (entries m) p × IsTrue (starts_with nat_eq p.0 (records_prefix prefix t.number)) → Any (λ r. p ≡ own_pair prefix (entries m) r) its_records
      forth (c, s) =
          let b = so_begins (records_prefix prefix t.number) p.0 s in
          let k = just_these m (place prefix 1) record_pairs (pairs_held prefix m store holds) p (behind_place t.number p.0 b) (member_contained p (entries m) c) in
          let w = member_of_map (pair_with prefix (value_in prefix m)) store.records p k in
          let same = parts_apart prefix p.0 (int (pos 1)) w.0.definition.number t.number [] [] (number_small store.schema w.0.definition holds.lawful.schema (typed w.0 w.1).0) small
          (subst (λ x. BeginsWith (records_prefix prefix w.0.definition.number) x) (ap (λ x. x.0) (sym w.2)) (key_begins w.0)) b in
          let c2 = contains_member w.0 its_records (member_where (λ (x : Record). x.definition.number == t.number) w.0 store.records w.1 (eq-eqb w.0.definition.number t.number same)) in
          (c2.0, w.0, c2.1, c2.2, w.2 ∙ own_is w.0)

      back : Any (λ r. p ≡ own_pair prefix (entries m) r) its_records → Contains (entries m) p × IsTrue (starts_with nat_eq p.0 (records_prefix prefix t.number))
      back a =
          let r : Record = a.1 in
          let k : Member r its_records = member_at a.1 its_records a.0 a.2 a.3 in
          let o = own r k in
          let b : BeginsWith (records_prefix prefix t.number) p.0 = subst (λ x. BeginsWith (records_prefix prefix t.number) x) (ap (λ x. x.0) (sym a.4)) (subst (λ d. BeginsWith (records_prefix prefix d.number) (record_key prefix (primary_key r))) o.1 (key_begins r)) in
          let there_is : Member p record_pairs = subst (λ x. Member x record_pairs) (own_is r ∙ sym a.4) (member_map (pair_with prefix (value_in prefix m)) store.records r o.0) in
          let in_map = all_these m (place prefix 1) record_pairs (pairs_held prefix m store holds) p (behind_place t.number p.0 b) there_is (one_each p there_is) in
          (contains_member p (entries m) in_map, begins_so (records_prefix prefix t.number) p.0 b)

  readable_has : (s : State) (i : IndexDefinition) (built : List KeyRange) → i.kind ≡ Value → s ≡ Readable → HasKept s prefix i built store.records m → HasEntries prefix i store.records m
  readable_has s i built value same h = subst (λ kind. HasDefined kind prefix i store.records m) value (subst (λ state. HasKept state prefix i built store.records m) same h)

  entries_are : (i : IndexDefinition) → IsScannable store t i → AreThose (entries_prefix prefix i.number) (λ r. entry_pair prefix i.number (entry_of i r)) its_records (entries m)
  entries_are i scan p = (forth, back)
    where
      has : HasEntries prefix i store.records m
      has = readable_has (state_of store i.number) i (built_of store i.number) scan.value scan.readable
          (each_member (λ j. HasKept (state_of store j.number) prefix j (built_of store j.number) store.records m) holds.entries (member_contained i store.schema.indexes scan.there))

      its_pairs : List Pair
      its_pairs = entry_pairs prefix i store.records

      same_records : of_type i.type_number store.records ≡ its_records
      same_records = ap (λ n. of_type n store.records) scan.over

      no_value : (q : Pair) → Member q its_pairs → q.1 ≡ []
      no_value q k = ap (λ x. x.1) (member_of_map (entry_pair prefix i.number) (entries_in i store.records) q k).2

      forth : Contains (entries m) p × IsTrue (starts_with nat_eq p.0 (entries_prefix prefix i.number)) → Any (λ r. p ≡ entry_pair prefix i.number (entry_of i r)) its_records
      forth (c, s) =
          let k = just_these m (entries_prefix prefix i.number) its_pairs has p (so_begins (entries_prefix prefix i.number) p.0 s) (member_contained p (entries m) c) in
          let w = member_of_map (entry_pair prefix i.number) (entries_in i store.records) p k in
          let v = member_of_map (entry_of i) (of_type i.type_number store.records) w.0 w.1 in
          let c2 = contains_member v.0 its_records (subst (λ rs. Member v.0 rs) same_records v.1) in
          (c2.0, v.0, c2.1, c2.2, w.2 ∙ ap (entry_pair prefix i.number) v.2)

      back : Any (λ r. p ≡ entry_pair prefix i.number (entry_of i r)) its_records → Contains (entries m) p × IsTrue (starts_with nat_eq p.0 (entries_prefix prefix i.number))
      back a =
          let r : Record = a.1 in
          let k : Member r (of_type i.type_number store.records) = subst (λ rs. Member r rs) (sym same_records) (member_at a.1 its_records a.0 a.2 a.3) in
          let b : BeginsWith (entries_prefix prefix i.number) p.0 = (spelling (entry_items (entry_of i r)), ap (λ x. x.0) a.4) in
          let there_is : Member p its_pairs =
          subst (λ x. Member x its_pairs) (sym a.4) (member_map (entry_pair prefix i.number) (entries_in i store.records) (entry_of i r) (member_map (entry_of i) (of_type i.type_number store.records) r k)) in
          let in_map = all_these m (entries_prefix prefix i.number) its_pairs has p b there_is (λ q l same j. (same j, (no_value q l ∙ sym (no_value p there_is)) j)) in
          (contains_member p (entries m) in_map, begins_so (entries_prefix prefix i.number) p.0 b)

-- EXACT: a map that holds a store is exact for a type of its schema and for readable indexes over it
pub exactly : (prefix : List ℕ) (m : Map) (store : Store) (t : TypeDefinition) (indexes : List IndexDefinition) → Holds prefix m (Some store) → IsTypeOf store.schema t →
    ((i : IndexDefinition) → Contains indexes i → IsScannable store t i) → IsExact prefix (entries m) t indexes (of_type t.number store.records)
exactly prefix m store t indexes holds its scan = record {
  in_order = in_order m;
  of_type = is_of prefix m store holds t its;
  records_are = records_are prefix m store holds t its;
  stored = stored prefix m store holds t its;
  entries_are = λ i c. entries_are prefix m store holds t its i (scan i c);
}
