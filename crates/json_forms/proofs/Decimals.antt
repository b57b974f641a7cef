-- Whole numbers of tuples in decimal digits.
use Rattle.std.proofs.Common.{◌≡◌, ℕ, zero, suc, ◌<◌, ◌^◌, ◌==◌, Bool, true, false, List, [], ◌∷◌, length, drop, slice_index, get_or, ℤ, pos, negsuc, neg_ℤ, Option, Some, None, option_map, Result, Ok, Err, SomeIff, FitsSigned, refl, sym, ap, ◌∙◌, arith, true≢false}
use Rattle.std.proofs.lemmas.Bool.Decides.{nat_tests}
use Rattle.std.proofs.lemmas.Str.Parse.{IsNumeralModel, numerals_by_value, tells_all_ascii_digits, parse_signed_minus, parse_signed_plain}
use Rattle.std.proofs.lemmas.Fmt.{decimal_nonempty, digits_decimal, digits_value-decimal}
use Rattle.std.specs.Fmt.{decimal, signed_decimal}
use Rattle.std.specs.Int.{w128}
use Rattle.std.specs.Str.{all_ascii_digits}
use Rattle.std.specs.Str.Parse.{digits_value, ParsesSigned}
use Rattle.tuple_codec.specs.Item.{magnitude}
use Rattle.json_forms.specs.TupleJson.{decimal_in, int_in}

own : IsNumeralModel (λ ds. all_ascii_digits ds ≡ true) (digits_value 10)
own = numerals_by_value _ tells_all_ascii_digits

-- the number of digits that are tested
number_is : (ds : List ℕ) → 0 < length ds → all_ascii_digits ds ≡ true → digits_value 10 ds < 2 ^ 64 → decimal_in ds ≡ Some (digits_value 10 ds)
number_is ds some digits small = rw digits (grind (arith, nat_tests))

-- digits that write too large a number, or no digits
number_is_none : (ds : List ℕ) → ((all_ascii_digits ds ≡ true) × (0 < length ds) × (digits_value 10 ds < 2 ^ 64) → ⊥) → decimal_in ds ≡ None
number_is_none ds none = by (all_ascii_digits ds) refl
  where
    by : (t : Bool) → all_ascii_digits ds ≡ t → decimal_in ds ≡ None
    by false e = rw e (grind (arith, nat_tests))
    by true e = rw e (grind (arith, nat_tests, none))

magnitude_below : (n : ℕ) → magnitude (neg_ℤ (pos n)) ≡ n
magnitude_below zero = refl
magnitude_below (suc n) = refl

-- the number of a sign and digits, where it is one of a tuple
answered : (f : ℕ → ℤ) → ((n : ℕ) → magnitude (f n) ≡ n) → (ds : List ℕ) (z : ℤ) (r : Option ℤ) → all_ascii_digits ds ≡ true → 0 < length ds → z ≡ f (digits_value 10 ds)
    → SomeIff r (magnitude z < 2 ^ 64) z → r ≡ option_map f (decimal_in ds)
answered f same ds z None digits some e h = sym (ap (option_map f) (number_is_none ds (λ k. h (omega (arith, k.2, ap magnitude e, same (digits_value 10 ds))))))
answered f same ds z (Some x) digits some e h =
    ap Some (h.1 ∙ e) ∙ sym (ap (option_map f) (number_is ds some digits (omega (arith, h.0, ap magnitude e, same (digits_value 10 ds)))))

is_code : (word : List ℕ) (c : ℕ) → (slice_index word 0 == c) ≡ true → get_or word 0 0 ≡ c
is_code word c e = grind (arith, nat_tests)

is_no_code : (word : List ℕ) (c : ℕ) → (slice_index word 0 == c) ≡ false → get_or word 0 0 ≡ c → ⊥
is_no_code word c e = grind (arith, nat_tests)

-- what a text without a plus is parsed to, as a whole number of a tuple
pub int_parsed : {E : Type 0} (word : List ℕ) (z : ℤ) (r : Option ℤ) (found : Result ℤ E) → found ≡ Ok z → (slice_index word 0 == 43) ≡ false → ParsesSigned w128 10 word found → SomeIff r (magnitude z < 2 ^ 64) z → r ≡ int_in word
int_parsed word z r found is plus h some = by (slice_index word 0 == 45) refl
  where
    by : (t : Bool) → (slice_index word 0 == 45) ≡ t → r ≡ int_in word
    by true e = let k = rw is at (parse_signed_minus own w128 word found h (is_code word 45 e)) in rw e (answered (λ n. neg_ℤ (pos n)) magnitude_below (drop 1 word) z r k.0.0 k.0.1 k.1 some)
    by false e = let k = rw is at (parse_signed_plain own w128 word found h (is_no_code word 43 plus) (is_no_code word 45 e)) in rw e (answered pos (λ n. refl) word z r k.0.0 k.0.1 k.1 some)

-- a text that isn't parsed is no whole number
pub int_not_parsed : {E : Type 0} (word : List ℕ) (error : E) (found : Result ℤ E) → found ≡ Err error → (slice_index word 0 == 43) ≡ false → ParsesSigned w128 10 word found → int_in word ≡ None
int_not_parsed word error found is plus h = by (slice_index word 0 == 45) refl
  where
    by : (t : Bool) → (slice_index word 0 == 45) ≡ t → int_in word ≡ None
    by true e = let k = rw is at (parse_signed_minus own w128 word found h (is_code word 45 e)) in rw (e, number_is_none (drop 1 word) (λ x. k (x.0, x.1, omega (arith, x.2))))
    by false e = let k = rw is at (parse_signed_plain own w128 word found h (is_no_code word 43 plus) (is_no_code word 45 e)) in rw (e, number_is_none word (λ x. k (x.0, x.1, omega (arith, x.2))))

plus_none : (ds : List ℕ) → int_in (43 ∷ ds) ≡ None
plus_none ds = ap (option_map pos) (number_is_none (43 ∷ ds) (λ k. true≢false (sym k.0)))

-- a plus isn't written before a number
pub plus_is_no_int : (word : List ℕ) → (slice_index word 0 == 43) ≡ true → int_in word ≡ None
plus_is_no_int [] e = refl
plus_is_no_int (d ∷ ds) e = let is : d ≡ 43 = is_code (d ∷ ds) 43 e in rw is (plus_none ds)

written : (f : ℕ → ℤ) (n : ℕ) → n < 2 ^ 64 → option_map f (decimal_in (decimal n)) ≡ Some (f n)
written f n small =
    let value : digits_value 10 (decimal n) ≡ n = digits_value-decimal own n small in
    ap (option_map f) (number_is (decimal n) (decimal_nonempty n small) (digits_decimal own n small) (omega (arith, value))) ∙ ap (λ m. Some (f m)) value

no_minus : (ds : List ℕ) → all_ascii_digits ds ≡ true → get_or ds 0 0 ≡ 45 → ⊥
no_minus [] p e = omega arith
no_minus (d ∷ ds) p e = let is : d ≡ 45 = e in true≢false (sym (rw is at p))

-- what is written of a whole number is read as it
pub int_written : (z : ℤ) → magnitude z < 2 ^ 64 → int_in (signed_decimal z) ≡ Some z
int_written (pos n) small = by (slice_index (decimal n) 0 == 45) refl
  where
    by : (t : Bool) → (slice_index (decimal n) 0 == 45) ≡ t → int_in (decimal n) ≡ Some (pos n)
    by true e = absurd (no_minus (decimal n) (digits_decimal own n small) (is_code (decimal n) 45 e))
    by false e = rw e (written pos n small)
int_written (negsuc n) small = written (λ m. neg_ℤ (pos m)) (suc n) small

-- a whole number of a tuple is one of 128 bits
pub fits_wide : (z : ℤ) → magnitude z < 2 ^ 64 → FitsSigned w128 z
fits_wide (pos n) small = record { sfits = omega arith }
fits_wide (negsuc n) small = record { sfits = omega arith }
