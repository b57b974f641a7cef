-- What a crash leaves of a block that is written over zeros, with zeros behind it: all of it, or an end.
use Rattle.std.proofs.Common.{◌≡◌, ◌⊎◌, ◌==◌, ◌||◌, inl, inr, ℕ, zero, suc, ◌+◌, ◌-◌, ◌*◌, ◌<◌, ◌≤◌, ◌^◌, true, List, [], ◌∷◌, ◌++◌, length, take, drop, refl, sym, ◌∙◌, ap, ap₂, subst, arith, w64, length-append}
use Rattle.std.proofs.lemmas.List.{take_at, take-take, drop_at, drop-drop, drop-append-le, take-append-drop}
use Rattle.std.proofs.lemmas.Bool.{cases_eq, cases_Bool, cases_lt, cond-false, ne_eqb, and_from, and_parts, eq-eqb, eqb-true, or_left, or_right}
use Rattle.std.proofs.lemmas.Nat.{from_be_bytes-to_be_bytes_8}
use Rattle.std.specs.Int.{to_be_bytes}
use Rattle.std.specs.Prelude.{⊤}
use Rattle.sha2.specs.Sha256.{sha256}
use Rattle.journal.specs.Device.{IsMixed}
use Rattle.journal.specs.Form.{zeros, complement, nonzeros, packed, counts, header, blocks}
use Rattle.journal.specs.Block.{said_number, mirrors, mirrored, counts_fit, counts_torn, most_said, may_be_torn, tested, what_begins}
use Rattle.journal.specs.declared.block.First.TheVariants.{End}
use Rattle.journal.proofs.Headers.{length-sha256, length-header, length-blocks, nonzeros_cons, nonzeros_fit, nonzeros-append, header_split, take_counts, take_mirror, drop_mirror, said_length-counts, said_count-counts}
use Rattle.journal.proofs.Firsts.{IsMissing, torn, closed, end_is, tested_torn, fits_by, torn_by, drop_of_take, said_number-take}
use Rattle.journal.proofs.Bounds.{may_from, nonzeros_split}

-- the found bytes are the written ones, with zeros in the place of some
abbrev pub IsPartOf : List ℕ → List ℕ → Type 0
IsPartOf [] [] = ⊤
IsPartOf [] (here ∷ found) = ⊥
IsPartOf (byte ∷ written) [] = ⊥
IsPartOf (byte ∷ written) (here ∷ found) = ((here ≡ 0) ⊎ (here ≡ byte)) × IsPartOf written found

pub from_mixed : (room : ℕ) (written new : List ℕ) → length written ≤ room → IsMixed (zeros room) written new → IsPartOf written (take (length written) new)
from_mixed room [] new fits mixed = tt
from_mixed zero (byte ∷ written) new fits mixed = absurd (omega arith)
from_mixed (suc room) (byte ∷ written) [] fits mixed = absurd mixed
from_mixed (suc room) (byte ∷ written) (here ∷ new) fits mixed = (mixed.0, from_mixed room written new (omega arith) mixed.1)

part_length : (written found : List ℕ) → IsPartOf written found → length found ≡ length written
part_length [] [] part = refl
part_length [] (here ∷ found) part = absurd part
part_length (byte ∷ written) [] part = absurd part
part_length (byte ∷ written) (here ∷ found) part = omega (arith, part_length written found part.1)

part_take : (k : ℕ) (written found : List ℕ) → IsPartOf written found → IsPartOf (take k written) (take k found)
part_take zero written found part = tt
part_take (suc k) [] [] part = tt
part_take (suc k) [] (here ∷ found) part = absurd part
part_take (suc k) (byte ∷ written) [] part = absurd part
part_take (suc k) (byte ∷ written) (here ∷ found) part = (part.0, part_take k written found part.1)

part_drop : (k : ℕ) (written found : List ℕ) → IsPartOf written found → IsPartOf (drop k written) (drop k found)
part_drop zero written found part = part
part_drop (suc k) [] [] part = tt
part_drop (suc k) [] (here ∷ found) part = absurd part
part_drop (suc k) (byte ∷ written) [] part = absurd part
part_drop (suc k) (byte ∷ written) (here ∷ found) part = part_drop k written found part.1

-- ---- bytes that aren't zero

one_nonzero : (byte here : ℕ) → (here ≡ 0) ⊎ (here ≡ byte) → nonzeros (here ∷ []) ≤ nonzeros (byte ∷ [])
one_nonzero byte here (inl none) = subst (λ (b : ℕ). nonzeros (b ∷ []) ≤ nonzeros (byte ∷ [])) (sym none) (omega arith)
one_nonzero byte here (inr same) = subst (λ (b : ℕ). nonzeros (b ∷ []) ≤ nonzeros (byte ∷ [])) (sym same) (omega arith)

nonzero_one : (byte : ℕ) → (byte ≡ 0) ⊎ (nonzeros (byte ∷ []) ≡ 1)
nonzero_one byte = elim (cases_eq byte 0) [
  | inl is ↦ inl is
  | inr not ↦ inr (ap (λ (n : ℕ). n + 0) (cond-false _ 0 1 (ne_eqb byte 0 not)))
]

one_is : (byte here : ℕ) → (here ≡ 0) ⊎ (here ≡ byte) → nonzeros (byte ∷ []) ≤ nonzeros (here ∷ []) → here ≡ byte
one_is byte here (inr same) enough = same
one_is byte here (inl none) enough = elim (nonzero_one byte) [
  | inl zero_too ↦ none ∙ sym zero_too
  | inr one ↦ let no : nonzeros (here ∷ []) ≡ 0 = ap (λ (b : ℕ). nonzeros (b ∷ [])) none in absurd (omega (arith, one, no, enough))
]

part_fewer : (written found : List ℕ) → IsPartOf written found → nonzeros found ≤ nonzeros written
part_fewer [] [] part = omega arith
part_fewer [] (here ∷ found) part = absurd part
part_fewer (byte ∷ written) [] part = absurd part
part_fewer (byte ∷ written) (here ∷ found) part =
    omega (arith, nonzeros_cons byte written, nonzeros_cons here found, one_nonzero byte here part.0, part_fewer written found part.1)

-- as many as were written are all
part_all : (written found : List ℕ) → IsPartOf written found → nonzeros written ≤ nonzeros found → found ≡ written
part_all [] [] part enough = refl
part_all [] (here ∷ found) part enough = absurd part
part_all (byte ∷ written) [] part enough = absurd part
part_all (byte ∷ written) (here ∷ found) part enough =
    let fewer = part_fewer written found part.1 in
    let first = one_nonzero byte here part.0 in
    let here_is : here ≡ byte = one_is byte here part.0 (omega (arith, enough, nonzeros_cons byte written, nonzeros_cons here found, fewer)) in
    ap₂ (λ (b : ℕ) (l : List ℕ). b ∷ l) here_is (part_all written found part.1 (omega (arith, enough, nonzeros_cons byte written, nonzeros_cons here found, first)))

-- ---- bytes and their complement

pair_torn : (byte here there : ℕ) → (here ≡ 0) ⊎ (here ≡ byte) → (there ≡ 0) ⊎ (there ≡ 255 - byte) → ((there == 255 - here) || (here == 0 || there == 0)) ≡ true
pair_torn byte here there (inl none) b = or_right _ _ (or_left _ _ (eq-eqb here 0 none))
pair_torn byte here there (inr same) (inl none) = or_right _ _ (or_right _ _ (eq-eqb there 0 none))
pair_torn byte here there (inr same) (inr also) = or_left _ _ (eq-eqb there (255 - here) (omega (arith, same, also)))

part_mirrored : (bytes left right : List ℕ) → IsPartOf bytes left → IsPartOf (complement bytes) right → mirrored left right ≡ true
part_mirrored [] [] [] a b = refl
part_mirrored [] [] (there ∷ right) a b = absurd b
part_mirrored [] (here ∷ left) right a b = absurd a
part_mirrored (byte ∷ bytes) [] right a b = absurd a
part_mirrored (byte ∷ bytes) (here ∷ left) [] a b = absurd b
part_mirrored (byte ∷ bytes) (here ∷ left) (there ∷ right) a b =
    and_from _ _ (pair_torn byte here there a.0 b.0) (part_mirrored bytes left right a.1 b.1)

pair_same : (byte here there : ℕ) → (here ≡ 0) ⊎ (here ≡ byte) → (there ≡ 0) ⊎ (there ≡ 255 - byte) → there ≡ 255 - here → (here ≡ byte) × (there ≡ 255 - byte)
pair_same byte here there (inr same) (inr also) fits = (same, also)
pair_same byte here there (inl none) (inr also) fits = (omega (arith, none, also, fits), also)
pair_same byte here there (inr same) (inl none) fits = (same, omega (arith, same, none, fits))
pair_same byte here there (inl none) (inl also) fits = absurd (omega (arith, none, also, fits))

part_mirrors : (bytes left right : List ℕ) → IsPartOf bytes left → IsPartOf (complement bytes) right → mirrors left right ≡ true → (left ≡ bytes) × (right ≡ complement bytes)
part_mirrors [] [] [] a b fit = (refl, refl)
part_mirrors [] [] (there ∷ right) a b fit = absurd b
part_mirrors [] (here ∷ left) right a b fit = absurd a
part_mirrors (byte ∷ bytes) [] right a b fit = absurd a
part_mirrors (byte ∷ bytes) (here ∷ left) [] a b fit = absurd b
part_mirrors (byte ∷ bytes) (here ∷ left) (there ∷ right) a b fit =
    let parts = and_parts _ (mirrors left right) fit in
    let pair = pair_same byte here there a.0 b.0 (eqb-true there (255 - here) parts.0) in
    let rest = part_mirrors bytes left right a.1 b.1 parts.1 in
    (ap₂ (λ (x : ℕ) (l : List ℕ). x ∷ l) pair.0 rest.0, ap₂ (λ (x : ℕ) (l : List ℕ). x ∷ l) pair.1 rest.1)

-- ---- numbers and their complement

pub length_word : (body : List ℕ) → take 8 (complement (counts body)) ≡ complement (to_be_bytes w64 (length body))
unfolding counts
length_word body = refl

pub count_word : (body : List ℕ) → drop 8 (complement (counts body)) ≡ complement (to_be_bytes w64 (nonzeros (sha256 body ++ body)))
unfolding counts
count_word body = refl

pair_bound : (byte here : ℕ) → byte < 256 → (here ≡ 0) ⊎ (here ≡ 255 - byte) → here + byte ≤ 255
pair_bound byte here small (inl none) = omega arith
pair_bound byte here small (inr same) = omega arith

eight_bound : (a b c d e f g h s t u v w x y z n : ℕ) → a + s ≤ 255 → b + t ≤ 255 → c + u ≤ 255 → d + v ≤ 255 → e + w ≤ 255 → f + x ≤ 255 → g + y ≤ 255 → h + z ≤ 255
    → s * 72057594037927936 + t * 281474976710656 + u * 1099511627776 + v * 4294967296 + w * 16777216 + x * 65536 + y * 256 + z ≡ n
    → a * 72057594037927936 + b * 281474976710656 + c * 1099511627776 + d * 4294967296 + e * 16777216 + f * 65536 + g * 256 + h + n ≤ 2 ^ 64 - 1
eight_bound a b c d e f g h s t u v w x y z n one two three four five six seven eight is = omega arith

-- what is left of a number's complement, and the number
part_bound : (n : ℕ) (found : List ℕ) → n < 2 ^ 64 → IsPartOf (complement (to_be_bytes w64 n)) found → said_number found + n ≤ 2 ^ 64 - 1
unfolding said_number
part_bound n [] small part = absurd part
part_bound n (a ∷ []) small part = absurd part.1
part_bound n (a ∷ b ∷ []) small part = absurd part.1.1
part_bound n (a ∷ b ∷ c ∷ []) small part = absurd part.1.1.1
part_bound n (a ∷ b ∷ c ∷ d ∷ []) small part = absurd part.1.1.1.1
part_bound n (a ∷ b ∷ c ∷ d ∷ e ∷ []) small part = absurd part.1.1.1.1.1
part_bound n (a ∷ b ∷ c ∷ d ∷ e ∷ f ∷ []) small part = absurd part.1.1.1.1.1.1
part_bound n (a ∷ b ∷ c ∷ d ∷ e ∷ f ∷ g ∷ []) small part = absurd part.1.1.1.1.1.1.1
part_bound n (a ∷ b ∷ c ∷ d ∷ e ∷ f ∷ g ∷ h ∷ i ∷ more) small part = absurd part.1.1.1.1.1.1.1.1
part_bound n (a ∷ b ∷ c ∷ d ∷ e ∷ f ∷ g ∷ h ∷ []) small part =
    eight_bound a b c d e f g h _ _ _ _ _ _ _ _ n
    (pair_bound _ a (omega arith) part.0)
    (pair_bound _ b (omega arith) part.1.0)
    (pair_bound _ c (omega arith) part.1.1.0)
    (pair_bound _ d (omega arith) part.1.1.1.0)
    (pair_bound _ e (omega arith) part.1.1.1.1.0)
    (pair_bound _ f (omega arith) part.1.1.1.1.1.0)
    (pair_bound _ g (omega arith) part.1.1.1.1.1.1.0)
    (pair_bound _ h (omega arith) part.1.1.1.1.1.1.1.0)
    (from_be_bytes-to_be_bytes_8 n small)

-- ---- a block

module _ (body c rest : List ℕ) (small : 65 + length body < 2 ^ 64) (part : IsPartOf (header body ++ body) c) where
  len : length c ≡ 64 + length body
  len = omega (arith, part_length (header body ++ body) c part, length-append (header body) body, length-header body)

  left_half : IsPartOf (counts body) (take 16 c)
  left_half = subst (λ (l : List ℕ). IsPartOf l (take 16 c)) (take_counts body body) (part_take 16 (header body ++ body) c part)

  right_half : IsPartOf (complement (counts body)) (take 16 (drop 16 c))
  right_half =
      subst (λ (l : List ℕ). IsPartOf l (take 16 (drop 16 c))) (take_mirror body body) (part_take 16 (drop 16 (header body ++ body)) (drop 16 c) (part_drop 16 (header body ++ body) c part))

  tail : IsPartOf (sha256 body ++ body) (drop 32 c)
  tail = subst (λ (l : List ℕ). IsPartOf l (drop 32 c)) (drop_mirror body body) (part_drop 32 (header body ++ body) c part)

  front : take (length c) (c ++ rest) ≡ c
  front = take_at c rest (length c) refl

  fit_here : counts_fit (c ++ rest) ≡ counts_fit c
  fit_here = sym (fits_by (length c) (c ++ rest) (omega (arith, len))) ∙ ap counts_fit front

  torn_here : counts_torn (c ++ rest) ≡ counts_torn c
  torn_here = sym (torn_by (length c) (c ++ rest) (omega (arith, len))) ∙ ap counts_torn front

  said_here : said_number (c ++ rest) ≡ said_number c
  said_here = sym (said_number-take (length c) (c ++ rest) (omega (arith, len))) ∙ ap said_number front

  is_torn : counts_torn c ≡ true
  unfolding counts_torn
  is_torn = part_mirrored (counts body) (take 16 c) (take 16 (drop 16 c)) left_half right_half

  halves_same : counts_fit c ≡ true → (take 16 c ≡ counts body) × (take 16 (drop 16 c) ≡ complement (counts body))
  unfolding counts_fit
  halves_same fit = part_mirrors (counts body) (take 16 c) (take 16 (drop 16 c)) left_half right_half fit

  module _ (fit : counts_fit c ≡ true) where
    split : c ≡ counts body ++ (complement (counts body) ++ drop 32 c)
    split =
        sym (take-append-drop 16 c)
        ∙ ap₂ (λ (a b : List ℕ). a ++ b) (let h = halves_same fit in h.0)
        (sym (take-append-drop 16 (drop 16 c)) ∙ ap₂ (λ (a b : List ℕ). a ++ b) (let h = halves_same fit in h.1) (drop-drop 16 16 c))

    said_len : said_number c ≡ length body
    said_len = ap said_number split ∙ said_length-counts body (complement (counts body) ++ drop 32 c) (omega (arith, small))

    said_count : said_number (drop 8 c) ≡ nonzeros (sha256 body ++ body)
    said_count = ap (λ (l : List ℕ). said_number (drop 8 l)) split ∙ said_count-counts body (complement (counts body) ++ drop 32 c) (omega (arith, small))

    all_is : nonzeros (sha256 body ++ body) ≤ nonzeros (drop 32 c) → c ≡ header body ++ body
    all_is enough =
        split
        ∙ ap (λ (l : List ℕ). counts body ++ (complement (counts body) ++ l)) (part_all (sha256 body ++ body) (drop 32 c) tail enough)
        ∙ sym (header_split body body)

    few_missing : nonzeros (drop 32 c) < nonzeros (sha256 body ++ body) → IsMissing (c ++ rest)
    few_missing fewer = λ fits enough.
        let said : said_number (c ++ rest) ≡ length body = said_here ∙ said_len in
        let block : take (65 + said_number (c ++ rest)) (1 ∷ c ++ rest) ≡ 1 ∷ c = take_at (1 ∷ c) rest (65 + said_number (c ++ rest)) (omega (arith, said, len)) in
        ap tested block ∙ tested_torn (1 ∷ c) (omega (arith, fewer, said_count))

    decided : (c ≡ header body ++ body) ⊎ IsMissing (c ++ rest)
    decided = elim (cases_lt (nonzeros (drop 32 c)) (nonzeros (sha256 body ++ body))) [
      | inl fewer ↦ inr (few_missing fewer)
      | inr enough ↦ inl (all_is enough)
    ]

  -- what was written is there, or some of it is missing
  missing_or : (c ≡ header body ++ body) ⊎ IsMissing (c ++ rest)
  missing_or = elim (cases_Bool (counts_fit c)) [
    | inl fit ↦ decided fit
    | inr unfit ↦ inr (λ fits enough. absurd (cc (fit_here, unfit, fits)))
  ]

  -- the number of a half of which a part is left, and the most that was written
  said_half : (i : ℕ) → i + 8 ≤ 32 → said_number (drop i (c ++ rest)) ≡ said_number (take 8 (drop i c))
  said_half i within =
      let front : take (length c - i) (drop i (c ++ rest)) ≡ drop i c = sym (drop_of_take i (length c) (c ++ rest)) ∙ ap (λ (l : List ℕ). drop i l) front in
      sym (said_number-take (length c - i) (drop i (c ++ rest)) (omega (arith, within, len)))
      ∙ ap said_number front
      ∙ sym (said_number-take 8 (drop i c) (omega arith))

  length_half : IsPartOf (complement (to_be_bytes w64 (length body))) (take 8 (drop 16 c))
  length_half =
      subst (λ (l : List ℕ). IsPartOf l (take 8 (drop 16 c))) (length_word body)
      (subst (λ (l : List ℕ). IsPartOf (take 8 (complement (counts body))) l) (take-take 8 16 (drop 16 c) (omega arith)) (part_take 8 (complement (counts body)) (take 16 (drop 16 c)) right_half))

  count_half : IsPartOf (complement (to_be_bytes w64 (nonzeros (sha256 body ++ body)))) (take 8 (drop 24 c))
  count_half =
      let there : drop 8 (take 16 (drop 16 c)) ≡ take 8 (drop 24 c) = drop_of_take 8 16 (drop 16 c) ∙ ap (λ (l : List ℕ). take 8 l) (drop-drop 8 16 c) in
      subst (λ (l : List ℕ). IsPartOf l (take 8 (drop 24 c))) (count_word body)
      (subst (λ (l : List ℕ). IsPartOf (drop 8 (complement (counts body))) l) there (part_drop 8 (complement (counts body)) (take 16 (drop 16 c)) right_half))

  module _ (nothing : nonzeros rest ≡ 0) where
    most_length : length body ≤ most_said (drop 16 (c ++ rest))
    most_length = omega (arith, said_half 16 (omega arith), part_bound (length body) (take 8 (drop 16 c)) (omega (arith, small)) length_half)

    counted : nonzeros (sha256 body ++ body) ≤ most_said (drop 24 (c ++ rest))
    counted =
        let fits : nonzeros (sha256 body ++ body) < 2 ^ 64 = omega (arith, small, nonzeros_fit (sha256 body ++ body), length-append (sha256 body) body, length-sha256 body) in
        omega (arith, said_half 24 (omega arith), part_bound (nonzeros (sha256 body ++ body)) (take 8 (drop 24 c)) fits count_half)

    fewer : nonzeros (drop 32 (c ++ rest)) ≤ most_said (drop 24 (c ++ rest))
    fewer =
        omega (arith, counted, nothing, part_fewer (sha256 body ++ body) (drop 32 c) tail, ap nonzeros (drop-append-le 32 c rest (omega (arith, len))), nonzeros-append (drop 32 c) rest)

    none_behind : nonzeros (drop (64 + most_said (drop 16 (c ++ rest))) (c ++ rest)) ≡ 0
    none_behind =
        let most = 64 + most_said (drop 16 (c ++ rest)) in
        let far : most ≡ length c + (most - length c) = omega (arith, most_length, len) in
        let same : drop most (c ++ rest) ≡ drop (most - length c) rest =
        ap (λ (k : ℕ). drop k (c ++ rest)) far ∙ sym (drop-drop (most - length c) (length c) (c ++ rest)) ∙ ap (λ (l : List ℕ). drop (most - length c) l) (drop_at c rest (length c) refl) in
        ap nonzeros same ∙ omega (arith, nothing, nonzeros_split (most - length c) rest)

    may_be : may_be_torn (c ++ rest) ≡ true
    may_be = may_from (c ++ rest) (record { counts = torn_here ∙ is_torn; fewer = fewer; nothing = none_behind })

pub torn_block : (batch : List (List ℕ)) (c rest : List ℕ) → length (blocks batch) < 2 ^ 64 → nonzeros rest ≡ 0 → IsPartOf (blocks batch) c → (c ≡ blocks batch) ⊎ (what_begins (c ++ rest) ≡ End)
torn_block batch [] rest small nothing part = absurd part
torn_block batch (gate ∷ c) rest small nothing part = gates part.0
  where
    size : 65 + length (packed batch) < 2 ^ 64
    size = omega (arith, small, length-blocks batch)

    opened : gate ≡ 1 → (gate ∷ c ≡ blocks batch) ⊎ (what_begins (gate ∷ c ++ rest) ≡ End)
    opened is_open = elim (missing_or (packed batch) c rest size part.1) [
      | inl whole ↦ inl (ap₂ (λ (g : ℕ) (l : List ℕ). g ∷ l) is_open whole)
      | inr missing ↦ inr (subst (λ (g : ℕ). what_begins (g ∷ c ++ rest) ≡ End) (sym is_open) (end_is _ (torn (c ++ rest) missing (may_be (packed batch) c rest size part.1 nothing))))
    ]

    gates : (gate ≡ 0) ⊎ (gate ≡ 1) → (gate ∷ c ≡ blocks batch) ⊎ (what_begins (gate ∷ c ++ rest) ≡ End)
    gates (inl shut) = inr (subst (λ (g : ℕ). what_begins (g ∷ c ++ rest) ≡ End) (sym shut) (end_is _ (closed (c ++ rest))))
    gates (inr is_open) = opened is_open
