-- Lists of records in order: what is there after one is put in its place or taken out.
use Rattle.std.proofs.Common.{◌≡◌, ℕ, Bool, true, false, cond, List, [], ◌∷◌, refl, sym, ap, ◌∙◌, IsTrue}
use Rattle.std.proofs.lemmas.Cmp.{nat_list_cmp_total}
use Rattle.std.specs.declared.cmp.Ordering.{Ordering}
use Rattle.std.specs.declared.cmp.Ordering.TheVariants.{Less, Equal, Greater}
use Rattle.std.specs.List.{filter, AllByRecursion}
use Rattle.std.specs.Ordering.{is_lt, is_eq, ordering_reverse}
use Rattle.tuple_codec.specs.Order.{tuple_cmp}
use Rattle.kv_core.specs.Bytes.{key_cmp}
use Rattle.kv_core.proofs.Order.{lt_le_trans, le_from_lt, tied_keys}
use Rattle.metadata.specs.Record.{Record, primary_key}
use Rattle.metadata.specs.Records.{IsStorable, AreOrdered, placed, with_record}
use Rattle.tuple_codec.specs.Spelling.{spelling}
use Rattle.tuple_codec.proofs.TupleOrder.{tuple_order}

-- the pack of a record's primary key
abbrev pub id : Record → List ℕ
id r = spelling (primary_key r)

pub id_order : (r s : Record) → IsStorable r → IsStorable s → key_cmp (id r) (id s) ≡ tuple_cmp (primary_key r) (primary_key s)
id_order r s h k = tuple_order (primary_key r) (primary_key s) h.key.items k.key.items

-- what is before a record is before each that it is before
pub all_behind : (low high : Record) (records : List Record) → IsStorable low → IsStorable high → AllByRecursion IsStorable records →
    is_lt (tuple_cmp (primary_key low) (primary_key high)) ≡ true →
    AllByRecursion (λ later. IsTrue (is_lt (tuple_cmp (primary_key high) (primary_key later)))) records →
    AllByRecursion (λ later. IsTrue (is_lt (tuple_cmp (primary_key low) (primary_key later)))) records
all_behind low high [] l h storable less all = tt
all_behind low high (r ∷ records) l h storable less all = (
  ap is_lt (sym (id_order low r l storable.0))
      ∙ lt_le_trans (id low) (id high) (id r) (ap is_lt (id_order low high l h) ∙ less) (le_from_lt (id high) (id r) (ap is_lt (id_order high r h storable.0) ∙ all.0)),
  all_behind low high records l h storable.1 less all.1,
)

-- what holds of the new record and of each holds of each after it is put in its place
pub all_with_record : (P : Record → Type 0) (new : Record) (records : List Record) → P new → AllByRecursion P records → AllByRecursion P (with_record new records)
all_with_record P new [] p all = (p, tt)
all_with_record P new (old ∷ records) p all = by_order (tuple_cmp (primary_key new) (primary_key old)) (all_with_record P new records p all.1)
  where
    by_order : (o : Ordering) → AllByRecursion P (with_record new records) → AllByRecursion P (placed o (new ∷ old ∷ records) (new ∷ records) (old ∷ with_record new records))
    by_order Less rest = (p, all)
    by_order Equal rest = (p, all.1)
    by_order Greater rest = (all.0, rest)

-- records with the same key are before the same
pub same_before : (new old : Record) (records : List Record) → IsStorable new → IsStorable old → AllByRecursion IsStorable records → id new ≡ id old →
    AllByRecursion (λ later. IsTrue (is_lt (tuple_cmp (primary_key old) (primary_key later)))) records →
    AllByRecursion (λ later. IsTrue (is_lt (tuple_cmp (primary_key new) (primary_key later)))) records
same_before new old [] n o storable same all = tt
same_before new old (r ∷ records) n o storable same all = (
  ap is_lt (sym (id_order new r n storable.0) ∙ ap (λ k. key_cmp k (id r)) same ∙ id_order old r o storable.0) ∙ all.0,
  same_before new old records n o storable.1 same all.1,
)

-- ORDER: a record put in its place keeps the order
pub ordered-with_record : (new : Record) (records : List Record) → IsStorable new → AllByRecursion IsStorable records → AreOrdered records → AreOrdered (with_record new records)
ordered-with_record new [] n storable ordered = (tt, tt)
ordered-with_record new (old ∷ records) n storable ordered =
    by_order (tuple_cmp (primary_key new) (primary_key old)) refl (ordered-with_record new records n storable.1 ordered.1)
  where
    by_order : (o : Ordering) → tuple_cmp (primary_key new) (primary_key old) ≡ o → AreOrdered (with_record new records) → AreOrdered (placed o (new ∷ old ∷ records) (new ∷ records) (old ∷ with_record new records))
    by_order Less is rest = ((ap is_lt is, all_behind new old records n storable.0 storable.1 (ap is_lt is) ordered.0), ordered)
    by_order Equal is rest = (same_before new old records n storable.0 storable.1 (tied_keys (id new) (id old) (ap is_eq (id_order new old n storable.0 ∙ is))) ordered.0, ordered.1)
    by_order Greater is rest = (
      all_with_record (λ later. IsTrue (is_lt (tuple_cmp (primary_key old) (primary_key later)))) new records
          (ap is_lt (sym (id_order old new storable.0 n) ∙ nat_list_cmp_total.antisymm (id old) (id new) ∙ ap ordering_reverse (id_order new old n storable.0 ∙ is))) ordered.0,
      rest,
    )

-- what holds of each holds of each that a filter keeps
pub all_filter : (P : Record → Type 0) (p : Record → Bool) (records : List Record) → AllByRecursion P records → AllByRecursion P (filter p records)
all_filter P p [] all = tt
all_filter P p (r ∷ records) all = by_test (p r) (all_filter P p records all.1)
  where
    by_test : (b : Bool) → AllByRecursion P (filter p records) → AllByRecursion P (cond b (r ∷ filter p records) (filter p records))
    by_test true rest = (all.0, rest)
    by_test false rest = rest

pub ordered-filter : (p : Record → Bool) (records : List Record) → AreOrdered records → AreOrdered (filter p records)
ordered-filter p [] ordered = tt
ordered-filter p (r ∷ records) ordered = by_test (p r) (ordered-filter p records ordered.1)
  where
    by_test : (b : Bool) → AreOrdered (filter p records) → AreOrdered (cond b (r ∷ filter p records) (filter p records))
    by_test true rest = (all_filter (λ later. IsTrue (is_lt (tuple_cmp (primary_key r) (primary_key later)))) p records ordered.0, rest)
    by_test false rest = rest
