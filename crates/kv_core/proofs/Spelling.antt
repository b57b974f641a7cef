-- Runs of bytes compared as the numbers that they spell, the first byte the most significant.
use Rattle.std.proofs.Common.{◌≡◌, ℕ, zero, suc, ◌+◌, ◌*◌, ◌<◌, ◌≤◌, true, false, List, [], ◌∷◌, length, take, drop, refl, sym, ap, ◌∙◌, arith}
use Rattle.std.proofs.lemmas.Bool.{true≢false}
use Rattle.std.proofs.lemmas.List.{get_or-drop, drop-drop, length-drop, length-take-le, take_all}
use Rattle.std.specs.Cmp.{nat_cmp_is, ranks}
use Rattle.std.specs.List.{slice_index}
use Rattle.std.specs.Ordering.{is_ne, nat_cmp, ordering_then, MatchOrdering}
use Rattle.std.specs.declared.cmp.Ordering.{Ordering}
use Rattle.std.specs.declared.cmp.Ordering.TheVariants.{Less, Equal, Greater}
use Rattle.std.specs.Slice.Scan.{big_endian}
use Rattle.kv_core.specs.Bytes.{key_cmp}

abbrev pub AreBytes : List ℕ → Type 0
AreBytes xs = (k : ℕ) → slice_index xs k < 256

pub less : (x y : ℕ) → x < y → nat_cmp x y ≡ Less
less x y l = sym (nat_cmp_is x y Less l)

pub level : (x : ℕ) → nat_cmp x x ≡ Equal
level x = sym (nat_cmp_is x x Equal refl)

pub greater : (x y : ℕ) → y < x → nat_cmp x y ≡ Greater
greater x y l = sym (nat_cmp_is x y Greater l)

-- what spells more at first spells more with as many bytes behind it
rises : (a b : ℕ) (us vs : List ℕ) → length us ≡ length vs → AreBytes us → a < b → big_endian a us < big_endian b vs
rises a b [] [] e h l = l
rises a b [] (v ∷ vs) e h l = absurd (omega (arith, e))
rises a b (u ∷ us) [] e h l = absurd (omega (arith, e))
rises a b (u ∷ us) (v ∷ vs) e h l =
    let small : u < 256 = h 0 in
    rises (a * 256 + u) (b * 256 + v) us vs (omega (arith, e)) (λ k. h (suc k)) (omega arith)

-- as many bytes compare as the numbers that they spell
by_number : (a : ℕ) (us vs : List ℕ) → length us ≡ length vs → AreBytes us → AreBytes vs → key_cmp us vs ≡ nat_cmp (big_endian a us) (big_endian a vs)
by_number a [] [] e g h = sym (level a)
by_number a [] (v ∷ vs) e g h = absurd (omega (arith, e))
by_number a (u ∷ us) [] e g h = absurd (omega (arith, e))
by_number a (u ∷ us) (v ∷ vs) e g h =
    by (by_number (a * 256 + u) us vs same (λ k. g (suc k)) (λ k. h (suc k))) (nat_cmp u v) refl (ranks u v)
  where
    same : length us ≡ length vs
    same = omega (arith, e)

    by : key_cmp us vs ≡ nat_cmp (big_endian (a * 256 + u) us) (big_endian (a * 256 + u) vs)
        → (r : Ordering) → nat_cmp u v ≡ r → MatchOrdering r (u < v) (u ≡ v) (v < u)
        → key_cmp (u ∷ us) (v ∷ vs) ≡ nat_cmp (big_endian (a * 256 + u) us) (big_endian (a * 256 + v) vs)
    by rest Less is l =
        let under : u < v = l in
        ap (λ r. ordering_then r (key_cmp us vs)) is ∙ sym (less _ _ (rises (a * 256 + u) (a * 256 + v) us vs same (λ k. g (suc k)) (omega arith)))
    by rest Greater is l =
        let over : v < u = l in
        ap (λ r. ordering_then r (key_cmp us vs)) is ∙ sym (greater _ _ (rises (a * 256 + v) (a * 256 + u) vs us (sym same) (λ k. h (suc k)) (omega arith)))
    by rest Equal is l =
        let tie : u ≡ v = l in
        ap (λ r. ordering_then r (key_cmp us vs)) is ∙ rest ∙ ap (λ z. nat_cmp (big_endian (a * 256 + u) us) (big_endian (a * 256 + z) vs)) tie

first_bytes : (n : ℕ) (xs : List ℕ) → AreBytes xs → AreBytes (take n xs)
first_bytes zero xs h k = omega arith
first_bytes (suc n) [] h k = omega arith
first_bytes (suc n) (x ∷ xs) h zero = h 0
first_bytes (suc n) (x ∷ xs) h (suc k) = first_bytes n xs (λ j. h (suc j)) k

-- the number that so many bytes from a place on spell
abbrev pub word : ℕ → List ℕ → ℕ → ℕ
word width xs at = big_endian 0 (take width (drop at xs))

words_by_number : (width : ℕ) (own other : List ℕ) (at : ℕ) → at + width ≤ length own → at + width ≤ length other → AreBytes own → AreBytes other
    → key_cmp (take width (drop at own)) (take width (drop at other)) ≡ nat_cmp (word width own at) (word width other at)
words_by_number width own other at p q g h =
    by_number 0 (take width (drop at own)) (take width (drop at other)) (all own p ∙ sym (all other q)) (first_bytes width (drop at own) (later own g)) (first_bytes width (drop at other) (later other h))
  where
    all : (xs : List ℕ) → at + width ≤ length xs → length (take width (drop at xs)) ≡ width
    all xs l = length-take-le width (drop at xs) (omega (arith, l, length-drop at xs))

    later : (xs : List ℕ) → AreBytes xs → AreBytes (drop at xs)
    later xs small k = omega (arith, get_or-drop at xs k 0, small (at + k))

-- ---- parts of two runs, one behind another

pub then_first : (r o : Ordering) → is_ne r ≡ true → ordering_then r o ≡ r
then_first Less o e = refl
then_first Equal o e = absurd (true≢false (sym e))
then_first Greater o e = refl

pub then_assoc : (r o s : Ordering) → ordering_then r (ordering_then o s) ≡ ordering_then (ordering_then r o) s
then_assoc Less o s = refl
then_assoc Equal o s = refl
then_assoc Greater o s = refl

-- the first ones decide, and else those behind them do
parts : (n : ℕ) (us vs : List ℕ) → n ≤ length us → n ≤ length vs → key_cmp us vs ≡ ordering_then (key_cmp (take n us) (take n vs)) (key_cmp (drop n us) (drop n vs))
parts zero us vs p q = refl
parts (suc n) [] vs p q = absurd (omega (arith, p))
parts (suc n) (u ∷ us) [] p q = absurd (omega (arith, q))
parts (suc n) (u ∷ us) (v ∷ vs) p q =
    ap (ordering_then (nat_cmp u v)) (parts n us vs (omega (arith, p)) (omega (arith, q)))
    ∙ then_assoc (nat_cmp u v) (key_cmp (take n us) (take n vs)) (key_cmp (drop n us) (drop n vs))

level_order : (r : Ordering) → is_ne r ≡ false → r ≡ Equal
level_order Less e = absurd (true≢false e)
level_order Equal e = refl
level_order Greater e = absurd (true≢false e)

module _ (width : ℕ) (own other : List ℕ) (at : ℕ) (order : Ordering) (p : at + width ≤ length own) (q : at + width ≤ length other) (g : AreBytes own) (h : AreBytes other)
    (is : order ≡ nat_cmp (word width own at) (word width other at)) (before : key_cmp own other ≡ key_cmp (drop at own) (drop at other)) where
  told : order ≡ key_cmp (take width (drop at own)) (take width (drop at other))
  told = is ∙ sym (words_by_number width own other at p q g h)

  split : key_cmp own other ≡ ordering_then (key_cmp (take width (drop at own)) (take width (drop at other))) (key_cmp (drop (at + width) own) (drop (at + width) other))
  split =
      before ∙ parts width (drop at own) (drop at other) (omega (arith, p, length-drop at own)) (omega (arith, q, length-drop at other))
      ∙ (λ i. ordering_then (key_cmp (take width (drop at own)) (take width (drop at other))) (key_cmp (drop-drop width at own i) (drop-drop width at other i)))

  -- words that differ decide
  pub word_decides : is_ne order ≡ true → order ≡ key_cmp own other
  word_decides e = sym (split ∙ ap (λ r. ordering_then r (key_cmp (drop (at + width) own) (drop (at + width) other))) (sym told) ∙ then_first order _ e)

  -- and equal ones leave it to what comes behind them
  pub word_passes : is_ne order ≡ false → key_cmp own other ≡ key_cmp (drop (at + width) own) (drop (at + width) other)
  word_passes e = split ∙ ap (λ r. ordering_then r (key_cmp (drop (at + width) own) (drop (at + width) other))) (sym told ∙ level_order order e)

  -- the last ones decide in any case
  pub word_is_last : length own ≡ at + width → length other ≡ at + width → order ≡ key_cmp own other
  word_is_last l k = told ∙ (λ i. key_cmp (take_all width (drop at own) (omega (arith, l, length-drop at own)) i) (take_all width (drop at other) (omega (arith, k, length-drop at other)) i)) ∙ sym before

-- numbers that differ, or not
pub ne_is_ne : (x y : ℕ) → (x ≡ y → ⊥) → is_ne (nat_cmp x y) ≡ true
ne_is_ne x y differ = by (nat_cmp x y) (ranks x y)
  where
    by : (r : Ordering) → MatchOrdering r (x < y) (x ≡ y) (y < x) → is_ne r ≡ true
    by Less l = refl
    by Equal e = absurd (differ e)
    by Greater l = refl

pub eq_isnt_ne : (x y : ℕ) → x ≡ y → is_ne (nat_cmp x y) ≡ false
eq_isnt_ne x y e = ap is_ne (ap (nat_cmp x) (sym e) ∙ level x)
