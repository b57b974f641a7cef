-- What the header of a batch says, whatever stands behind it.
use Rattle.std.proofs.Common.{◌≡◌, inl, inr, ℕ, zero, suc, ◌+◌, ◌-◌, ◌*◌, ◌<◌, ◌≤◌, ◌^◌, true, List, [], ◌∷◌, ◌++◌, length, take, drop, refl, sym, ◌∙◌, ap, ap₂, arith, append_assoc, length-append, w32, w64, slice_index, le-ltb}
use Rattle.std.proofs.lemmas.List.{take_at, drop_at, drop-drop, length-map}
use Rattle.std.proofs.lemmas.Bool.{cases_eq, cond-true, cond-false, eq-eqb, ne_eqb, and_from}
use Rattle.std.proofs.lemmas.Nat.{from_be_bytes-to_be_bytes_8}
use Rattle.std.specs.Int.{to_be_bytes, from_be_bytes}
use Rattle.sha2.specs.Sha256.{sha256, digest_bytes}
use Rattle.journal.specs.Form.{complement, nonzeros, packed_entry, packed, counts, header, blocks}
use Rattle.journal.specs.Block.{said_number, mirrors, counts_fit, first_entries, entries_packed}

length-digest_bytes : (h : List ℕ) (n : ℕ) → length (digest_bytes h n) ≡ n * 4
unfolding digest_bytes
length-digest_bytes h zero = refl
length-digest_bytes h (suc n) =
    let last : length (to_be_bytes w32 (slice_index h n)) ≡ 4 = refl in
    omega (arith, length-digest_bytes h n, last, length-append (digest_bytes h n) (to_be_bytes w32 (slice_index h n)))

pub length-sha256 : (m : List ℕ) → length (sha256 m) ≡ 32
unfolding sha256
length-sha256 m = length-digest_bytes _ 8

length-word : (n : ℕ) → length (to_be_bytes w64 n) ≡ 8
length-word n = refl

pub length-complement : (bytes : List ℕ) → length (complement bytes) ≡ length bytes
length-complement bytes = length-map bytes (λ b. 255 - b)

pub length-counts : (bytes : List ℕ) → length (counts bytes) ≡ 16
unfolding counts
length-counts bytes =
    let len = to_be_bytes w64 (length bytes) in
    let count = to_be_bytes w64 (nonzeros (sha256 bytes ++ bytes)) in
    omega (arith, length-append len count, length-word (length bytes), length-word (nonzeros (sha256 bytes ++ bytes)))

pub length-header : (bytes : List ℕ) → length (header bytes) ≡ 64
unfolding header
length-header bytes =
    omega (arith, length-append (counts bytes ++ complement (counts bytes)) (sha256 bytes), length-append (counts bytes) (complement (counts bytes)), length-counts bytes, length-complement (counts bytes), length-sha256 bytes)

pub length-blocks : (batch : List (List ℕ)) → length (blocks batch) ≡ 65 + length (packed batch)
length-blocks batch = omega (arith, length-append (header (packed batch)) (packed batch), length-header (packed batch))

-- ---- bytes that aren't zero

some_is : (byte : ℕ) → nonzeros (byte ∷ []) ≤ 1
some_is byte = elim (cases_eq byte 0) [
  | inl is ↦ let none : nonzeros (byte ∷ []) ≡ 0 = ap (λ (n : ℕ). n + 0) (cond-true _ 0 1 (eq-eqb byte 0 is)) in omega (arith, none)
  | inr not ↦ let one : nonzeros (byte ∷ []) ≡ 1 = ap (λ (n : ℕ). n + 0) (cond-false _ 0 1 (ne_eqb byte 0 not)) in omega (arith, one)
]

pub nonzeros_cons : (byte : ℕ) (bytes : List ℕ) → nonzeros (byte ∷ bytes) ≡ nonzeros (byte ∷ []) + nonzeros bytes
nonzeros_cons byte bytes = omega arith

pub nonzeros-append : (xs ys : List ℕ) → nonzeros (xs ++ ys) ≡ nonzeros xs + nonzeros ys
nonzeros-append [] ys = omega arith
nonzeros-append (x ∷ xs) ys = omega (arith, nonzeros_cons x (xs ++ ys), nonzeros_cons x xs, nonzeros-append xs ys)

pub nonzeros_fit : (bytes : List ℕ) → nonzeros bytes ≤ length bytes
nonzeros_fit [] = omega arith
nonzeros_fit (byte ∷ bytes) = omega (arith, nonzeros_cons byte bytes, some_is byte, nonzeros_fit bytes)

-- ---- what the header says

mirrors-complement : (bytes : List ℕ) → mirrors bytes (complement bytes) ≡ true
mirrors-complement [] = refl
mirrors-complement (byte ∷ bytes) = and_from _ _ (eq-eqb (255 - byte) (255 - byte) refl) (mirrors-complement bytes)

-- the counts, what mirrors them, and anything behind
behind_counts : (word mirror more rest : List ℕ) → word ++ mirror ++ more ++ rest ≡ word ++ (mirror ++ (more ++ rest))
behind_counts word mirror more rest = append_assoc (word ++ mirror) more rest ∙ append_assoc word mirror (more ++ rest)

pub header_split : (bytes rest : List ℕ) → header bytes ++ rest ≡ counts bytes ++ (complement (counts bytes) ++ (sha256 bytes ++ rest))
unfolding header
header_split bytes rest = behind_counts (counts bytes) (complement (counts bytes)) (sha256 bytes) rest

pub take_counts : (bytes rest : List ℕ) → take 16 (header bytes ++ rest) ≡ counts bytes
take_counts bytes rest =
    ap (λ (l : List ℕ). take 16 l) (header_split bytes rest) ∙ take_at (counts bytes) (complement (counts bytes) ++ (sha256 bytes ++ rest)) 16 (length-counts bytes)

drop_counts : (bytes rest : List ℕ) → drop 16 (header bytes ++ rest) ≡ complement (counts bytes) ++ (sha256 bytes ++ rest)
drop_counts bytes rest =
    ap (λ (l : List ℕ). drop 16 l) (header_split bytes rest) ∙ drop_at (counts bytes) (complement (counts bytes) ++ (sha256 bytes ++ rest)) 16 (length-counts bytes)

pub take_mirror : (bytes rest : List ℕ) → take 16 (drop 16 (header bytes ++ rest)) ≡ complement (counts bytes)
take_mirror bytes rest =
    ap (λ (l : List ℕ). take 16 l) (drop_counts bytes rest) ∙ take_at (complement (counts bytes)) (sha256 bytes ++ rest) 16 (length-complement (counts bytes) ∙ length-counts bytes)

pub drop_mirror : (bytes rest : List ℕ) → drop 32 (header bytes ++ rest) ≡ sha256 bytes ++ rest
drop_mirror bytes rest =
    sym (drop-drop 16 16 (header bytes ++ rest))
    ∙ ap (λ (l : List ℕ). drop 16 l) (drop_counts bytes rest)
    ∙ drop_at (complement (counts bytes)) (sha256 bytes ++ rest) 16 (length-complement (counts bytes) ∙ length-counts bytes)

pub fits-header : (bytes rest : List ℕ) → counts_fit (header bytes ++ rest) ≡ true
unfolding counts_fit
fits-header bytes rest = ap₂ (λ (a b : List ℕ). mirrors a b) (take_counts bytes rest) (take_mirror bytes rest) ∙ mirrors-complement (counts bytes)

pub said_number-word : (n : ℕ) (rest : List ℕ) → n < 2 ^ 64 → said_number (to_be_bytes w64 n ++ rest) ≡ n
unfolding said_number
said_number-word n rest small =
    ap (λ (l : List ℕ). from_be_bytes w64 l) (take_at (to_be_bytes w64 n) rest 8 (length-word n)) ∙ from_be_bytes-to_be_bytes_8 n small

-- the two numbers of the counts, whatever stands behind them
pub said_length-counts : (bytes rest : List ℕ) → length bytes < 2 ^ 64 → said_number (counts bytes ++ rest) ≡ length bytes
unfolding counts
said_length-counts bytes rest small =
    let len = to_be_bytes w64 (length bytes) in
    let count = to_be_bytes w64 (nonzeros (sha256 bytes ++ bytes)) in
    ap said_number (append_assoc len count rest) ∙ said_number-word (length bytes) (count ++ rest) small

pub said_count-counts : (bytes rest : List ℕ) → 32 + length bytes < 2 ^ 64 → said_number (drop 8 (counts bytes ++ rest)) ≡ nonzeros (sha256 bytes ++ bytes)
unfolding counts
said_count-counts bytes rest small =
    let len = to_be_bytes w64 (length bytes) in
    let count = to_be_bytes w64 (nonzeros (sha256 bytes ++ bytes)) in
    let fits : nonzeros (sha256 bytes ++ bytes) < 2 ^ 64 = omega (arith, small, nonzeros_fit (sha256 bytes ++ bytes), length-append (sha256 bytes) bytes, length-sha256 bytes) in
    ap (λ (l : List ℕ). said_number (drop 8 l)) (append_assoc len count rest)
    ∙ ap said_number (drop_at len (count ++ rest) 8 (length-word (length bytes)))
    ∙ said_number-word (nonzeros (sha256 bytes ++ bytes)) rest fits

pub said_length-header : (bytes rest : List ℕ) → length bytes < 2 ^ 64 → said_number (header bytes ++ rest) ≡ length bytes
said_length-header bytes rest small =
    ap said_number (header_split bytes rest) ∙ said_length-counts bytes (complement (counts bytes) ++ (sha256 bytes ++ rest)) small

-- ---- entries

pub unpack-packed : (batch : List (List ℕ)) (most : ℕ) → length (packed batch) ≤ most → length (packed batch) < 2 ^ 64 → first_entries most (packed batch) ≡ batch
unpack-packed [] zero fits small = refl
unpack-packed [] (suc most) fits small = refl
unpack-packed (entry ∷ batch) zero fits small =
    absurd (omega (arith, length-append (packed_entry entry) (packed batch), length-append (to_be_bytes w64 (length entry)) entry, length-word (length entry), fits))
unpack-packed (entry ∷ batch) (suc most) fits small =
    cond-false _ _ _ (le-ltb _ _ enough)
    ∙ ap₂ (λ (e : List ℕ) (es : List (List ℕ)). e ∷ es) front (ap (λ (l : List ℕ). first_entries most l) back ∙ unpack-packed batch most (omega (arith, long, fits)) (omega (arith, long, small)))
  where
    word : List ℕ
    word = to_be_bytes w64 (length entry)

    rest : List ℕ
    rest = packed batch

    bytes : List ℕ
    bytes = packed_entry entry ++ rest

    long : length bytes ≡ 8 + length entry + length rest
    long = omega (arith, length-append (packed_entry entry) rest, length-append word entry, length-word (length entry), length-append entry rest)

    enough : 8 ≤ length bytes
    enough = omega (arith, long)

    split : bytes ≡ word ++ (entry ++ rest)
    split = append_assoc word entry rest

    said : said_number bytes ≡ length entry
    said = ap said_number split ∙ said_number-word (length entry) (entry ++ rest) (omega (arith, long, small))

    front : take (said_number bytes) (drop 8 bytes) ≡ entry
    front = ap₂ (λ (n : ℕ) (l : List ℕ). take n l) said (ap (λ (l : List ℕ). drop 8 l) split ∙ drop_at word (entry ++ rest) 8 (length-word (length entry))) ∙ take_at entry rest (length entry) refl

    back : drop (8 + said_number bytes) bytes ≡ rest
    back =
        ap (λ (n : ℕ). drop (8 + n) bytes) said ∙ drop_at (packed_entry entry) rest (8 + length entry) (omega (arith, length-append word entry, length-word (length entry)))

pub unpacked-packed : (batch : List (List ℕ)) → length (packed batch) < 2 ^ 64 → entries_packed (packed batch) ≡ batch
unfolding entries_packed
unpacked-packed batch small = unpack-packed batch (length (packed batch)) (omega arith) small
