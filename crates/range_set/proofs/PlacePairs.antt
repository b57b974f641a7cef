-- The pairs of the ranges that a map has under a place: their keys rise, and each pair tells its range.
use Rattle.std.proofs.Common.{◌≡◌, ℕ, true, false, List, [], ◌∷◌, ◌++◌, map, refl, sym, ap, subst, ◌∙◌, IsTrue}
use Rattle.std.specs.FinMap.{get, nat_cmp-IsAntisymmetric}
use Rattle.std.specs.List.{AllByRecursion}
use Rattle.std.specs.List.Sorted.{IsStrictlySortedBy}
use Rattle.std.specs.Map.{keys_of}
use Rattle.std.specs.Ordering.{is_eq, is_lt, nat_cmp, ordering_then}
use Rattle.std.specs.declared.cmp.Ordering.{Ordering}
use Rattle.std.specs.declared.cmp.Ordering.TheVariants.{Less, Equal, Greater}
use Rattle.std.proofs.lemmas.Bool.{and_parts, not-true}
use Rattle.std.proofs.lemmas.Cmp.{nat_list_cmp_total, tied_itself}
use Rattle.tuple_codec.specs.Item.{AreBytes, bytes}
use Rattle.tuple_codec.specs.Spelling.{spelling}
use Rattle.tuple_codec.proofs.Prefixes.{cmp_behind}
use Rattle.tuple_codec.proofs.TupleOrder.{tuple_order}
use Rattle.kv_core.specs.Bytes.{key_cmp, key_le, key_lt}
use Rattle.kv_core.specs.Map.{Map, pairs_in}
use Rattle.kv_core.specs.Range.{KeyRange, contains}
use Rattle.kv_core.proofs.Changes.{pairs_in-same}
use Rattle.kv_core.proofs.Order.{lt_le_trans, tied_keys}
use Rattle.kv_core.proofs.Stored.{stored}
use Rattle.range_set.specs.Stored.{AreStored, HasRanges, IsStoredRange, range_key, range_pair, ranges_map}

-- ---- keys under a place

-- what lies between two byte strings that begin alike begins so too
between : (p a b k : List ℕ) → key_lt k (p ++ a) ≡ false → key_lt k (p ++ b) ≡ true → (rest : List ℕ) × (k ≡ p ++ rest)
between [] a b k low high = (k, refl)
between (x ∷ p) a b [] low high = cc
between (x ∷ p) a b (y ∷ k) low high = by_order (nat_cmp y x) refl low high (between p a b k)
  where
    by_order : (o : Ordering) → nat_cmp y x ≡ o → is_lt (ordering_then o (key_cmp k (p ++ a))) ≡ false → is_lt (ordering_then o (key_cmp k (p ++ b))) ≡ true →
        (key_lt k (p ++ a) ≡ false → key_lt k (p ++ b) ≡ true → (rest : List ℕ) × (k ≡ p ++ rest)) → (rest : List ℕ) × (y ∷ k ≡ x ∷ (p ++ rest))
    by_order Less is low high go = cc
    by_order Equal is low high go = let tail = go low high in (tail.0, (λ i. nat_cmp-IsAntisymmetric y x is i ∷ tail.1 i))
    by_order Greater is low high go = cc

pub under : (p a b : List ℕ) (k : List ℕ) → contains (record { begin = p ++ a; end = p ++ b }) k ≡ true → (rest : List ℕ) × (k ≡ p ++ rest)
under p a b k h =
    let parts = and_parts (key_le (p ++ a) k) (key_lt k (p ++ b)) h in
    between p a b k (not-true (key_lt k (p ++ a)) parts.0) parts.1

-- PAIRS: in a range of keys that begin so a map has the pairs of its ranges there
pub place_pairs : (place : List ℕ) (ranges : List KeyRange) (m : Map) (a b : List ℕ) → HasRanges place ranges m →
    pairs_in m (record { begin = place ++ a; end = place ++ b })
    ≡ pairs_in (stored (map (range_pair place) ranges)) (record { begin = place ++ a; end = place ++ b })
place_pairs place ranges m a b has =
    let range : KeyRange = record { begin = place ++ a; end = place ++ b } in
    pairs_in-same m (stored (map (range_pair place) ranges)) range
    (λ q h. let at = under place a b q h in subst (λ k. get m k ≡ get (ranges_map place ranges) k) (sym at.1) (has at.0))

-- ---- the order of the keys of ranges

then_equal : (o : Ordering) → ordering_then o Equal ≡ o
then_equal Less = refl
then_equal Equal = refl
then_equal Greater = refl

pub key_order : (place : List ℕ) (a b : List ℕ) → AreBytes a → AreBytes b → key_cmp (range_key place a) (range_key place b) ≡ key_cmp a b
key_order place a b h k =
    cmp_behind place (spelling (bytes a ∷ [])) (spelling (bytes b ∷ []))
    ∙ tuple_order (bytes a ∷ []) (bytes b ∷ []) (h, tt) (k, tt) ∙ then_equal (key_cmp a b)

-- the keys rise
less_of : (o : Ordering) → is_lt o ≡ true → o ≡ Less
less_of Less h = refl
less_of Equal h = cc
less_of Greater h = cc

above : (place : List ℕ) (range : KeyRange) (ranges : List KeyRange) → IsStoredRange range → AreStored ranges → AllByRecursion (λ later. IsTrue (key_le range.end later.begin)) ranges →
    AllByRecursion (λ k. key_cmp (range_key place range.begin) k ≡ Less) (keys_of (map (range_pair place) ranges))
above place range [] is stored_so all = tt
above place range (later ∷ ranges) is stored_so all = (
  key_order place range.begin later.begin is.begin stored_so.0.begin ∙ less_of (key_cmp range.begin later.begin) (lt_le_trans range.begin range.end later.begin is.some all.0),
  above place range ranges is stored_so.2 all.1,
)

pub keys_rise : (place : List ℕ) (ranges : List KeyRange) → AreStored ranges → IsStrictlySortedBy key_cmp (keys_of (map (range_pair place) ranges))
unfolding IsStrictlySortedBy
keys_rise place [] stored_so = tt
keys_rise place (range ∷ ranges) stored_so = (above place range ranges stored_so.0 stored_so.2 stored_so.1, keys_rise place ranges stored_so.2)

-- a pair tells its range
pub one_range : (place : List ℕ) (a b : KeyRange) → IsStoredRange a → IsStoredRange b → range_pair place a ≡ range_pair place b → a ≡ b
one_range place a b h k same =
    let keys : range_key place a.begin ≡ range_key place b.begin = ap (λ (p : List ℕ × List ℕ). p.0) same in
    let begins : a.begin ≡ b.begin =
    tied_keys a.begin b.begin (ap is_eq (sym (key_order place a.begin b.begin h.begin k.begin) ∙ ap (key_cmp (range_key place a.begin)) (sym keys)
    ∙ tied_itself nat_list_cmp_total (range_key place a.begin))) in
    (λ i. record { begin = begins i; end = ap (λ (p : List ℕ × List ℕ). p.1) same i })
