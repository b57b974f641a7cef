-- The pairs of what a log comes to are all of it: no key of a store lies past the end of the keys.
use Rattle.std.proofs.Common.{◌≡◌, ◌<◌, ◌≤◌, ◌+◌, ◌^◌, ℕ, zero, suc, Bool, true, false, cond, None, arith, refl, List, [], ◌∷◌, ◌++◌, sym, ap, subst, ◌∙◌}
use Rattle.std.specs.Prelude.{nat_le, not, ◌&&◌}
use Rattle.std.specs.FinMap.{from_entries, get, get-entries, get-from_entries, retain_keys, same_map, slice_cmp-IsAntisymmetric, nat_cmp-IsAntisymmetric}
use Rattle.std.specs.Int.{bytes_high_first}
use Rattle.std.specs.Ordering.{is_lt}
use Rattle.std.proofs.lemmas.Bool.{and_parts, leb-true, true≢false}
use Rattle.std.proofs.lemmas.Cmp.{nat_list_cmp_total}
use Rattle.kv_core.specs.Bytes.{end_of_keys, key_cmp, key_lt}
use Rattle.kv_core.specs.Map.{Map}
use Rattle.kv_core.specs.Range.{contains}
use Rattle.kv_core.proofs.Changes.{get-kept}
use Rattle.tuple_codec.specs.Spelling.{byte_count, int_spelling}
use Rattle.tuple_codec.proofs.ByteOrder.{cmp_less}
use Rattle.tuple_codec.proofs.IntOrder.{byte_count_is}
use Rattle.record_store.specs.Layout.{is_store_number, store_prefix}
use Rattle.schedule.specs.Holds.{NothingElse}
use Rattle.replay.specs.Laws.{PairsSuffice}
use Rattle.replay.specs.Pairs.{all_pairs, every_key}

low : (number : ℕ) → is_store_number number ≡ true → number < 2 ^ 64
low number is = let most = leb-true number 65_535 (and_parts (nat_le 1 number) (nat_le number 65_535) is).1 in omega (arith, most)

-- what begins with a store's prefix is below the end of the keys
store_below : (number : ℕ) (bytes : List ℕ) → is_store_number number ≡ true → key_lt (store_prefix number ++ bytes) end_of_keys ≡ true
unfolding int_spelling
store_below zero bytes is = refl
store_below (suc n) bytes is =
    let few : byte_count (suc n) ≤ 8 = (byte_count_is (suc n) (low (suc n) is)).1 in
    ap is_lt (cmp_less (0x14 + byte_count (suc n)) 255 ((bytes_high_first (byte_count (suc n)) (suc n) ++ []) ++ bytes) [] (omega (arith, few)))

not_below_nothing : (xs : List ℕ) → key_lt xs [] ≡ false
not_below_nothing [] = refl
not_below_nothing (x ∷ xs) = refl

every_below : (key : List ℕ) → contains every_key key ≡ key_lt key end_of_keys
every_below key = ap (λ b. not b && key_lt key end_of_keys) (not_below_nothing key)

-- a key that isn't below it has no value
none_above : (m : Map) → NothingElse m → (key : List ℕ) → contains every_key key ≡ false → get m key ≡ None
none_above m nothing key outside = nothing key (λ number lawful under.
    true≢false (sym (store_below number under.0 lawful) ∙ ap (λ k. key_lt k end_of_keys) (sym under.1) ∙ sym (every_below key) ∙ outside))

pub whole_map : (m : Map) → NothingElse m → from_entries (all_pairs m) ≡ m
whole_map m nothing = same_map nat_list_cmp_total (slice_cmp-IsAntisymmetric nat_cmp-IsAntisymmetric) (from_entries (all_pairs m)) m (λ key.
    get-from_entries nat_list_cmp_total (all_pairs m) key ∙ sym (get-entries (retain_keys m (contains every_key)) key) ∙ get-kept m (contains every_key) key ∙ by_test key (contains every_key key) refl)
  where
    by_test : (key : List ℕ) (b : Bool) → contains every_key key ≡ b → cond b (get m key) None ≡ get m key
    by_test key true is = refl
    by_test key false is = sym (none_above m nothing key is)

pub pairs_suffice : PairsSuffice
pairs_suffice entries image is = whole_map image.map is.holds.nothing_else
