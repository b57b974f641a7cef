-- The keys of a set come before the end of the keys, where its place does: so what is read is a range of keys.
use Rattle.std.proofs.Common.{◌≡◌, ℕ, Bool, true, false, not, ◌&&◌, List, [], ◌∷◌, ◌++◌, append_assoc, refl, sym, ap, ◌∙◌}
use Rattle.std.specs.Ordering.{is_lt, nat_cmp, ordering_then}
use Rattle.std.specs.declared.cmp.Ordering.{Ordering}
use Rattle.std.specs.declared.cmp.Ordering.TheVariants.{Less, Equal, Greater}
use Rattle.std.proofs.lemmas.Bool.{true≢false}
use Rattle.tuple_codec.specs.Item.{bytes}
use Rattle.tuple_codec.specs.Spelling.{spelling}
use Rattle.tuple_codec.proofs.Prefixes.{cmp_behind}
use Rattle.kv_core.specs.Bytes.{end_of_keys, key_cmp, key_le, key_lt, next_key}
use Rattle.kv_core.specs.Range.{is_key_range}
use Rattle.kv_core.proofs.Order.{le_from_lt}
use Rattle.kv_core.proofs.Pairs.{next_least}
use Rattle.range_set.specs.Stored.{range_key, upto_range, whole_range}

-- a key that has bytes is one with anything behind it
below_more : (b : ℕ) (p q : List ℕ) → key_lt (b ∷ p) end_of_keys ≡ true → key_lt ((b ∷ p) ++ q) end_of_keys ≡ true
below_more b p q low = by_order (nat_cmp b 255) p low
  where
    not_below_nothing : (xs : List ℕ) → is_lt (key_cmp xs []) ≡ true → ⊥
    not_below_nothing [] h = cc
    not_below_nothing (x ∷ xs) h = cc

    by_order : (o : Ordering) (rest : List ℕ) → is_lt (ordering_then o (key_cmp rest [])) ≡ true → is_lt (ordering_then o (key_cmp (rest ++ q) [])) ≡ true
    by_order Less rest h = refl
    by_order Equal rest h = absurd (not_below_nothing rest h)
    by_order Greater rest h = cc

-- KEY: so does the key of each range
pub key_below : (place begin : List ℕ) → key_lt place end_of_keys ≡ true → key_lt (range_key place begin) end_of_keys ≡ true
key_below [] begin low = refl
key_below (b ∷ place) begin low = below_more b place (spelling (bytes begin ∷ [])) low

end_upto : (place : List ℕ) → key_lt place end_of_keys ≡ true → key_le (place ++ 255 ∷ []) end_of_keys ≡ true
end_upto [] low = refl
end_upto (b ∷ place) low = le_from_lt ((b ∷ place) ++ 255 ∷ []) end_of_keys (below_more b place (255 ∷ []) low)

-- WHOLE: the range of all ranges of a set
whole_is_range : (place : List ℕ) → key_lt place end_of_keys ≡ true → is_key_range (whole_range place) ≡ true
whole_is_range place low = λ i. not (is_lt (cmp_behind place (255 ∷ []) (0 ∷ []) i)) && end_upto place low i

pub no_whole : (place begin end : List ℕ) → key_lt place end_of_keys ≡ true → begin ≡ place ++ 0 ∷ [] → end ≡ place ++ 255 ∷ [] → is_key_range (record { begin = begin; end = end }) ≡ false → ⊥
no_whole place begin end low first last none = true≢false (sym (whole_is_range place low) ∙ (λ i. is_key_range (record { begin = sym first i; end = sym last i })) ∙ none)

-- UPTO: the range of those that begin at a position or before it
upto_is_range : (place position : List ℕ) → key_lt place end_of_keys ≡ true → is_key_range (upto_range place position) ≡ true
upto_is_range place position low =
    λ i. begins i && not (next_least (range_key place position) end_of_keys (key_below place position low) i)
  where
    begins : key_le (place ++ 0 ∷ []) (next_key (range_key place position)) ≡ true
    begins =
        ap (λ k. key_le (place ++ 0 ∷ []) k) (append_assoc place (spelling (bytes position ∷ [])) (0 ∷ []))
        ∙ ap (λ o. not (is_lt o)) (cmp_behind place (spelling (bytes position ∷ []) ++ 0 ∷ []) (0 ∷ []))

pub no_upto : (place position begin end : List ℕ) → key_lt place end_of_keys ≡ true → begin ≡ place ++ 0 ∷ [] → end ≡ next_key (range_key place position) → is_key_range (record { begin = begin; end = end }) ≡ false → ⊥
no_upto place position begin end low first last none = true≢false (sym (upto_is_range place position low) ∙ (λ i. is_key_range (record { begin = sym first i; end = sym last i })) ∙ none)

-- BETWEEN: a range of positions
pub no_between : (begin end first last : List ℕ) (b : Bool) → b ≡ key_lt begin end → b ≡ true → key_le end end_of_keys ≡ true → first ≡ begin → last ≡ end → is_key_range (record { begin = first; end = last }) ≡ false → ⊥
no_between begin end first last b is some upto same_first same_last none =
    true≢false (sym (λ i. le_from_lt begin end (sym is ∙ some) i && upto i) ∙ (λ i. is_key_range (record { begin = sym same_first i; end = sym same_last i })) ∙ none)
