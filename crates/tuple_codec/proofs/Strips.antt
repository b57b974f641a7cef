-- What stands behind a pack.
use Rattle.std.specs.Prelude.{◌≡◌, ℕ, ◌+◌, ◌-◌, ◌<◌, ◌≤◌, List, [], ◌∷◌, ◌++◌, length, take, drop, Option, Some, None, MatchOption}
use Rattle.std.specs.Borrow.{Bor}
use Rattle.std.specs.Int.{bytes_high_first}
use Rattle.std.proofs.Common.{get_or, sym, ap, ◌∙◌, append_assoc}
use Rattle.std.proofs.lemmas.Grind.{flat_map-append}
use Rattle.std.proofs.lemmas.List.{append_cancel_left, take_all, take-append-drop, drop_more}
use Rattle.tuple_codec.specs.Spelling.{closed, escape, escaped}
use Rattle.tuple_codec.specs.Subspace.{BeginsWith}
use Rattle.tuple_codec.proofs.Writes.{low_word}

-- What an answer says of bytes: these bytes do not stand first, or what stands behind them.
abbrev pub IsBehind : Option (Bor (List ℕ)) → List ℕ → List ℕ → Type 0
IsBehind r front key = MatchOption r (BeginsWith front key → ⊥) (λ x. key ≡ front ++ x.now)

-- behind a byte and more
pub first_behind : (b : ℕ) (more key rest : List ℕ) (r : Option (Bor (List ℕ))) → key ≡ b ∷ rest → IsBehind r more rest → IsBehind r (b ∷ more) key
first_behind b more key rest None is none = λ p. none (p.0, (let same : b ∷ rest ≡ b ∷ (more ++ p.0) = sym is ∙ p.1 in cc))
first_behind b more key rest (Some x) is e = is ∙ ap (λ s. b ∷ s) e

-- ---- a string

module _ (code : ℕ) (s key rest : List ℕ) where
  -- a byte of the string is not the next
  pub stops : (i b : ℕ) → i < length s → b ≡ get_or s i 0 → key ≡ code ∷ (escaped (take i s) ++ rest) → (BeginsWith (escape b) rest → ⊥) → BeginsWith (code ∷ closed s) key → ⊥
  stops i b within is so_far none (left, e) =
      let front : List ℕ = code ∷ escaped (take i s) in
      let tail : List ℕ = escaped (drop (i + 1) s) in
      let cut : s ≡ take i s ++ b ∷ drop (i + 1) s = sym (take-append-drop i s) ∙ ap (λ t. take i s ++ t) (drop_more s i 0 within ∙ ap (λ c. c ∷ drop (i + 1) s) (sym is)) in
      let pieces : escaped s ≡ escaped (take i s) ++ (escape b ++ tail) = ap escaped cut ∙ flat_map-append escape (take i s) (b ∷ drop (i + 1) s) in
      let behind : (escaped s ++ 0 ∷ []) ++ left ≡ escaped (take i s) ++ (escape b ++ (tail ++ 0 ∷ left)) =
      append_assoc (escaped s) (0 ∷ []) left ∙ ap (λ t. t ++ 0 ∷ left) pieces ∙ append_assoc (escaped (take i s)) (escape b ++ tail) (0 ∷ left)
      ∙ ap (λ t. escaped (take i s) ++ t) (append_assoc (escape b) tail (0 ∷ left)) in
      none (tail ++ 0 ∷ left, append_cancel_left front rest (escape b ++ (tail ++ 0 ∷ left)) (sym so_far ∙ e ∙ ap (λ t. code ∷ t) behind))

  ends : (r : Option (Bor (List ℕ))) → key ≡ code ∷ (escaped s ++ rest) → IsBehind r (0 ∷ []) rest → IsBehind r (code ∷ closed s) key
  ends None is none = λ p. none (p.0, append_cancel_left (code ∷ escaped s) rest (0 ∷ p.0) (sym is ∙ p.1 ∙ ap (λ t. code ∷ t) (append_assoc (escaped s) (0 ∷ []) p.0)))
  ends (Some x) is e = is ∙ ap (λ t. code ∷ (escaped s ++ t)) e ∙ ap (λ t. code ∷ t) (sym (append_assoc (escaped s) (0 ∷ []) x.now))

  -- all of the string was there
  pub closes : (i : ℕ) (r : Option (Bor (List ℕ))) → length s ≤ i → key ≡ code ∷ (escaped (take i s) ++ rest) → IsBehind r (0 ∷ []) rest → IsBehind r (code ∷ closed s) key
  closes i r end so_far behind = ends r (so_far ∙ ap (λ t. code ∷ (escaped t ++ rest)) (take_all i s end)) behind

-- ---- a number

pub low_bytes : (k n : ℕ) (word given : List ℕ) → k ≤ 8 → word ≡ bytes_high_first 8 n → given ≡ take (8 - (8 - k)) (drop (8 - k) word) → given ≡ bytes_high_first k n
low_bytes k n word given fits is e = e ∙ ap (λ w. take (8 - (8 - k)) (drop (8 - k) w)) is ∙ low_word k n fits
