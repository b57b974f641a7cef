-- The keys of entries, and those of built ranges, come before the end of the keys, where the store's prefix does.
use Rattle.std.proofs.Common.{◌≡◌, ℕ, true, List, [], ◌∷◌, ◌++◌, append-nil, append_assoc, refl, sym, ap, ◌∙◌, pos}
use Rattle.std.specs.Ordering.{is_lt, nat_cmp, ordering_then}
use Rattle.std.specs.declared.cmp.Ordering.{Ordering}
use Rattle.std.specs.declared.cmp.Ordering.TheVariants.{Less, Equal, Greater}
use Rattle.tuple_codec.specs.Spelling.{byte_count, int_spelling}
use Rattle.kv_core.specs.Bytes.{end_of_keys, key_cmp, key_lt}
use Rattle.index_maint.specs.Layout.{built_place, entries_prefix}

-- a key is one with anything behind it that is one
below_behind : (p q : List ℕ) → key_lt p end_of_keys ≡ true → key_lt q end_of_keys ≡ true → key_lt (p ++ q) end_of_keys ≡ true
below_behind [] q low high = high
below_behind (b ∷ p) q low high = by_order (nat_cmp b 255) p low
  where
    not_below_nothing : (xs : List ℕ) → is_lt (key_cmp xs []) ≡ true → ⊥
    not_below_nothing [] h = cc
    not_below_nothing (x ∷ xs) h = cc

    by_order : (o : Ordering) (rest : List ℕ) → is_lt (ordering_then o (key_cmp rest [])) ≡ true → is_lt (ordering_then o (key_cmp (rest ++ q) [])) ≡ true
    by_order Less rest h = refl
    by_order Equal rest h = absurd (not_below_nothing rest h)
    by_order Greater rest h = cc

-- what stands behind the store's prefix begins with the number 2
number_below : (bytes : List ℕ) → key_lt (int_spelling (pos 2) ++ bytes) end_of_keys ≡ true
unfolding byte_count int_spelling
number_below bytes = refl

pub made_below : (prefix : List ℕ) (number : ℕ) (a b first second third made : List ℕ) → key_lt prefix end_of_keys ≡ true →
    first ≡ entries_prefix prefix number → second ≡ first ++ a → third ≡ second ++ b → made ≡ third → key_lt made end_of_keys ≡ true
made_below prefix number a b first second third made low is then last same =
    let more = int_spelling (pos number) ++ [] in
    ap (λ k. key_lt k end_of_keys)
    (same ∙ last ∙ ap (λ k. k ++ b) (then ∙ ap (λ k. k ++ a) is) ∙ append_assoc (entries_prefix prefix number) a b
    ∙ append_assoc prefix (int_spelling (pos 2) ++ more) (a ++ b) ∙ ap (λ k. prefix ++ k) (append_assoc (int_spelling (pos 2)) more (a ++ b)))
    ∙ below_behind prefix (int_spelling (pos 2) ++ (more ++ (a ++ b))) low (number_below (more ++ (a ++ b)))

-- so does what stands behind the number 6
built_below : (bytes : List ℕ) → key_lt (int_spelling (pos 6) ++ bytes) end_of_keys ≡ true
unfolding byte_count int_spelling
built_below bytes = refl

pub place_below : (prefix : List ℕ) (number : ℕ) (made : List ℕ) → key_lt prefix end_of_keys ≡ true → made ≡ built_place prefix number → key_lt made end_of_keys ≡ true
place_below prefix number made low is =
    ap (λ k. key_lt k end_of_keys) is
    ∙ below_behind prefix (int_spelling (pos 6) ++ (int_spelling (pos number) ++ [])) low (built_below (int_spelling (pos number) ++ []))

-- two packs that were appended behind the prefix, one after another
pub two_behind : (prefix start first second one two three : List ℕ) → start ≡ [] → one ≡ start ++ prefix → two ≡ one ++ first → three ≡ two ++ second → three ≡ prefix ++ (first ++ (second ++ []))
two_behind prefix start first second one two three empty is then last =
    last ∙ ap (λ k. k ++ second) (then ∙ ap (λ k. k ++ first) (is ∙ ap (λ k. k ++ prefix) empty)) ∙ append_assoc prefix first second
    ∙ ap (λ k. prefix ++ (first ++ k)) (sym (append-nil second))
