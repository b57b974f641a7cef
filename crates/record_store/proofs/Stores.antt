-- Many stores in one map: no key is under two of them, and what is held under a prefix depends on the keys there alone.
use Rattle.std.proofs.Common.{◌≡◌, ◌<◌, ◌≤◌, ◌+◌, ◌^◌, ℕ, zero, suc, true, arith, refl, List, [], ◌∷◌, ◌++◌, sym, ap, ◌∙◌, Some, None, append_assoc, pos}
use Rattle.std.specs.Prelude.{nat_le}
use Rattle.std.specs.FinMap.{get}
use Rattle.std.specs.Ordering.{is_lt}
use Rattle.std.proofs.lemmas.Bool.{and_parts, leb-true}
use Rattle.tuple_codec.specs.Item.{int}
use Rattle.std.specs.Int.{bytes_high_first}
use Rattle.tuple_codec.specs.Spelling.{byte_count, int_spelling, spelling}
use Rattle.tuple_codec.specs.Subspace.{BeginsWith}
use Rattle.tuple_codec.proofs.ByteOrder.{cmp_less}
use Rattle.tuple_codec.proofs.IntOrder.{byte_count_is}
use Rattle.kv_core.specs.Bytes.{end_of_keys, key_lt}
use Rattle.kv_core.specs.Map.{Map}
use Rattle.index_maint.proofs.Places.{places_apart}
use Rattle.record_store.specs.Holds.{Holds}
use Rattle.record_store.specs.Layout.{first_prefix, is_store_number, store_prefix}
use Rattle.record_store.specs.Store.{Serial}
use Rattle.record_store.proofs.Kept.{kept_indexes, kept_ranges, kept_records}

low : (number : ℕ) → is_store_number number ≡ true → number < 2 ^ 64
low number is = let most = leb-true number 65_535 (and_parts (nat_le 1 number) (nat_le number 65_535) is).1 in omega (arith, most)

pub apart : (m n : ℕ) (key : List ℕ) → is_store_number m ≡ true → is_store_number n ≡ true → BeginsWith (store_prefix m) key → BeginsWith (store_prefix n) key → m ≡ n
apart m n key one other first second = places_apart [] key m n [] [] (low m one) (low n other) first second

-- a number's pack is below the end of the keys
pub prefix_below : (number : ℕ) → is_store_number number ≡ true → key_lt (store_prefix number) end_of_keys ≡ true
unfolding int_spelling
prefix_below zero is = refl
prefix_below (suc n) is =
    let few : byte_count (suc n) ≤ 8 = (byte_count_is (suc n) (low (suc n) is)).1 in
    ap is_lt (cmp_less (0x14 + byte_count (suc n)) 255 (bytes_high_first (byte_count (suc n)) (suc n) ++ []) [] (omega (arith, few)))

-- the bytes of the first one
pub first_spelled : store_prefix 1 ≡ first_prefix
unfolding int_spelling byte_count
first_spelled = refl

module _ (prefix : List ℕ) (m n : Map) (same : (bytes : List ℕ) → get n (prefix ++ bytes) ≡ get m (prefix ++ bytes)) where
  -- so it is at the keys of a place
  inside : (begin bytes : List ℕ) → get n ((prefix ++ begin) ++ bytes) ≡ get m ((prefix ++ begin) ++ bytes)
  inside begin bytes = ap (get n) (append_assoc prefix begin bytes) ∙ same (begin ++ bytes) ∙ ap (get m) (sym (append_assoc prefix begin bytes))

  pub held_within : (serial : Serial) → Holds prefix m serial → Holds prefix n serial
  held_within None holds = λ bytes. same bytes ∙ holds bytes
  held_within (Some store) holds = record {
    lawful = holds.lawful;
    schema = same (spelling (int (pos 0) ∷ [])) ∙ holds.schema;
    records = kept_records prefix store.records m n (inside (spelling (int (pos 1) ∷ []))) holds.records;
    entries = kept_indexes prefix store.records store.status m n store.schema.indexes (λ number. inside (spelling (int (pos 2) ∷ int (pos number) ∷ []))) holds.entries;
    states = λ bytes. inside (spelling (int (pos 5) ∷ [])) bytes ∙ holds.states bytes;
    ranges = kept_ranges prefix store.status m n store.schema.indexes (λ number. inside (spelling (int (pos 6) ∷ int (pos number) ∷ []))) holds.ranges;
    nothing_else = λ key under elsewhere. ap (get n) under.1 ∙ same under.0 ∙ ap (get m) (sym under.1) ∙ holds.nothing_else key under elsewhere;
  }
