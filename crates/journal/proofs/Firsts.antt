-- What bytes begin with.
use Rattle.std.proofs.Common.{◌≡◌, ◌≢◌, ◌⊎◌, inl, inr, ℕ, zero, suc, ◌+◌, ◌-◌, ◌<◌, ◌≤◌, ◌^◌, true, false, List, [], ◌∷◌, ◌++◌, length, take, drop, refl, sym, ◌∙◌, ap, ap₂, subst, arith, w64, append_assoc, length-append, bytes_eq, nat_eq, le-ltb, lt-ltb}
use Rattle.std.proofs.lemmas.List.{take_at, drop_at, take_all, take-take, take-append-drop, length-take-le}
use Rattle.std.proofs.lemmas.Bool.{cases_eq, cases_Bool, cond-true, cond-false, cases_lt, eq-eqb, ne_eqb, le-leb, lt-leb, and_from, and_parts, and_left, and_right, or_left, or_right, or_from}
use Rattle.std.proofs.lemmas.Slice.Eq.{bytes_eq-Decides}
use Rattle.std.specs.Int.{from_be_bytes}
use Rattle.std.specs.Prelude.{if◌then◌else◌, ◌==◌}
use Rattle.sha2.specs.Sha256.{sha256}
use Rattle.journal.specs.Form.{nonzeros, packed, counts, complement, header, blocks}
use Rattle.journal.specs.Block.{said_number, mirrors, mirrored, counts_fit, counts_torn, may_be_torn, behind_gate, head_says, entries_packed, tested, part_said, or_part, block_said, what_begins}
use Rattle.journal.specs.declared.block.First.{First}
use Rattle.journal.specs.declared.block.First.TheVariants.{End, Whole, Damaged}
use Rattle.journal.specs.declared.block.Head.{Head}
use Rattle.journal.specs.declared.block.Head.TheVariants.{Closed, Part, Room, Other}
use Rattle.journal.proofs.Headers.{length-header, length-blocks, said_length-header, said_count-counts, header_split, drop_mirror, fits-header, unpacked-packed}

-- some bytes of the block behind an open gate are missing
abbrev pub IsMissing : List ℕ → Type 0
IsMissing bytes = counts_fit bytes ≡ true → 64 + said_number bytes ≤ length bytes → tested (take (65 + said_number bytes) (1 ∷ bytes)) ≡ End

-- bytes that end a file: none, a closed gate, a gate that is the last byte, or a block of which a crash left a part
pub data IsEnd : List ℕ → Type 0 where
  none : IsEnd []
  closed : (bytes : List ℕ) → IsEnd (0 ∷ bytes)
  last : (gate : ℕ) → IsEnd (gate ∷ [])
  torn : (bytes : List ℕ) → IsMissing bytes → may_be_torn bytes ≡ true → IsEnd (1 ∷ bytes)

pub said_shut : (gate : ℕ) (bytes : List ℕ) → (gate ≡ 0) ⊎ (length bytes ≡ 0) → head_says (gate ∷ bytes) ≡ Closed
said_shut gate bytes (inl shut) = cond-true _ _ _ (or_left _ _ (eq-eqb gate 0 shut))
said_shut gate bytes (inr few) = cond-true _ _ _ (or_right (nat_eq gate 0) _ (eq-eqb (length bytes) 0 few))

not_shut : (gate : ℕ) (bytes : List ℕ) → gate ≢ 0 → 0 < length bytes → head_says (gate ∷ bytes) ≡ (if gate == 1 then behind_gate bytes else Other)
not_shut gate bytes ajar some = cond-false _ _ _ (or_from _ _ (ne_eqb gate 0 ajar) (ne_eqb (length bytes) 0 (λ none. absurd (omega (arith, none, some)))))

pub said_open : (gate : ℕ) (bytes : List ℕ) → gate ≡ 1 → 0 < length bytes → head_says (gate ∷ bytes) ≡ behind_gate bytes
said_open gate bytes is_open some = not_shut gate bytes (λ shut. absurd (omega (arith, shut, is_open))) some ∙ cond-true _ _ _ (eq-eqb gate 1 is_open)

pub said_other : (gate : ℕ) (bytes : List ℕ) → gate ≢ 0 → gate ≢ 1 → 0 < length bytes → head_says (gate ∷ bytes) ≡ Other
said_other gate bytes ajar strange some = not_shut gate bytes ajar some ∙ cond-false _ _ _ (ne_eqb gate 1 strange)

pub said_room : (bytes : List ℕ) → counts_fit bytes ≡ true → 64 + said_number bytes ≤ length bytes → behind_gate bytes ≡ Room (said_number bytes)
said_room bytes fit enough = cond-true _ _ _ (and_from _ _ fit (le-leb _ _ enough))

pub said_unfit : (bytes : List ℕ) → counts_fit bytes ≡ false → behind_gate bytes ≡ Part
said_unfit bytes unfit = cond-false _ _ _ (and_left _ _ unfit)

pub said_short : (bytes : List ℕ) → length bytes < 64 + said_number bytes → behind_gate bytes ≡ Part
said_short bytes less = cond-false _ _ _ (and_right (counts_fit bytes) _ (lt-leb _ _ less))

-- all of a block may be there, or a part is missing
data Behind (bytes : List ℕ) : Type 0 where
  room : counts_fit bytes ≡ true → 64 + said_number bytes ≤ length bytes → Behind bytes
  part : behind_gate bytes ≡ Part → IsMissing bytes → Behind bytes

behind_is : (bytes : List ℕ) → Behind bytes
behind_is bytes = elim (cases_Bool (counts_fit bytes)) [
  | inl fit ↦ elim (cases_lt (length bytes) (64 + said_number bytes)) [
    | inl less ↦ part (said_short bytes less) (λ fits enough. absurd (omega (arith, less, enough)))
    | inr enough ↦ room fit enough
  ]
  | inr unfit ↦ part (said_unfit bytes unfit) (λ fits enough. absurd (cc (unfit, fits)))
]

gate_room : (gate : ℕ) (bytes : List ℕ) (n : ℕ) → 0 < length bytes → head_says (gate ∷ bytes) ≡ Room n → 64 + n ≤ length bytes
gate_room gate bytes n some is = elim (cases_eq gate 1) [
  | inl is_open ↦ of_behind (behind_is bytes) (sym (said_open gate bytes is_open some) ∙ is)
  | inr strange ↦ elim (cases_eq gate 0) [
    | inl shut ↦ let end = said_shut gate bytes (inl shut) in absurd (cc (end, is))
    | inr ajar ↦ let other = said_other gate bytes ajar strange some in absurd (cc (other, is))
  ]
]
  where
    of_behind : Behind bytes → behind_gate bytes ≡ Room n → 64 + n ≤ length bytes
    of_behind (room fit enough) said = let r = said_room bytes fit enough in let same : said_number bytes ≡ n = let w = sym r ∙ said in cc w in omega (arith, enough, same)
    of_behind (part lost missing) said = absurd (cc (lost, said))

-- room for the batch of which the length is said
pub has_room : (bytes : List ℕ) (n : ℕ) → head_says bytes ≡ Room n → 65 + n ≤ length bytes
has_room [] n is = let end : head_says [] ≡ Closed = refl in absurd (cc (end, is))
has_room (gate ∷ []) n is = let end = said_shut gate [] (inr refl) in absurd (cc (end, is))
has_room (gate ∷ byte ∷ bytes) n is = omega (arith, gate_room gate (byte ∷ bytes) n (omega arith) is)

pub first_is : (bytes : List ℕ) (s : Head) → head_says bytes ≡ s → what_begins bytes ≡ block_said bytes s
unfolding what_begins
first_is bytes s is = ap (λ (x : Head). block_said bytes x) is

first_room : (bytes : List ℕ) → counts_fit bytes ≡ true → 64 + said_number bytes ≤ length bytes → what_begins (1 ∷ bytes) ≡ or_part bytes (tested (take (65 + said_number bytes) (1 ∷ bytes)))
first_room bytes fit enough = first_is (1 ∷ bytes) (Room (said_number bytes)) (said_open 1 bytes refl (omega (arith, enough)) ∙ said_room bytes fit enough)

first_part : (bytes : List ℕ) → 0 < length bytes → behind_gate bytes ≡ Part → what_begins (1 ∷ bytes) ≡ part_said bytes
first_part bytes some is = first_is (1 ∷ bytes) Part (said_open 1 bytes refl some ∙ is)

first_last : (gate : ℕ) → what_begins (gate ∷ []) ≡ End
first_last gate = first_is (gate ∷ []) Closed (said_shut gate [] (inr refl))

pub part_torn : (bytes : List ℕ) → may_be_torn bytes ≡ true → part_said bytes ≡ End
part_torn bytes may = cond-true (may_be_torn bytes) _ _ may

pub part_damaged : (bytes : List ℕ) → may_be_torn bytes ≡ false → part_said bytes ≡ Damaged
part_damaged bytes other = cond-false (may_be_torn bytes) _ _ other

end_torn : (bytes : List ℕ) → 0 < length bytes → IsMissing bytes → may_be_torn bytes ≡ true → Behind bytes → what_begins (1 ∷ bytes) ≡ End
end_torn bytes some missing may (room fit enough) = first_room bytes fit enough ∙ ap (λ (f : First (List (List ℕ))). or_part bytes f) (missing fit enough) ∙ part_torn bytes may
end_torn bytes some missing may (part is so) = first_part bytes some is ∙ part_torn bytes may

pub end_is : (bytes : List ℕ) → IsEnd bytes → what_begins bytes ≡ End
end_is _ none = first_is [] Closed refl
end_is _ (closed bytes) = first_is (0 ∷ bytes) Closed (said_shut 0 bytes (inl refl))
end_is _ (last gate) = first_last gate
end_is _ (torn [] missing may) = first_last 1
end_is _ (torn (byte ∷ bytes) missing may) = end_torn (byte ∷ bytes) (omega arith) missing may (behind_is (byte ∷ bytes))

-- ---- blocks under test

pub tested_torn : (bytes : List ℕ) → nonzeros (drop 33 bytes) < said_number (drop 9 bytes) → tested bytes ≡ End
unfolding tested
tested_torn bytes fewer = cond-true _ _ _ (lt-ltb _ _ fewer)

pub tested_same : (bytes : List ℕ) (batch : List (List ℕ)) → said_number (drop 9 bytes) ≤ nonzeros (drop 33 bytes) → entries_packed (drop 65 bytes) ≡ batch → bytes ≡ blocks batch → tested bytes ≡ Whole batch
unfolding tested
tested_same bytes batch enough entries same =
    cond-false _ _ _ (le-ltb _ _ enough)
    ∙ cond-true _ _ _ ((bytes_eq-Decides bytes (blocks (entries_packed (drop 65 bytes)))).1 (same ∙ ap blocks (sym entries)))
    ∙ ap (λ (e : List (List ℕ)). Whole e) entries

pub tested_other : (bytes : List ℕ) → said_number (drop 9 bytes) ≤ nonzeros (drop 33 bytes) → bytes_eq bytes (blocks (entries_packed (drop 65 bytes))) ≡ false → tested bytes ≡ Damaged
unfolding tested
tested_other bytes enough other = cond-false _ _ _ (le-ltb _ _ enough) ∙ cond-false _ _ _ other

pub tested_by : (bytes : List ℕ) (entries : List (List ℕ)) → said_number (drop 9 bytes) ≤ nonzeros (drop 33 bytes) → entries_packed (drop 65 bytes) ≡ entries
    → tested bytes ≡ (if bytes_eq bytes (blocks entries) then Whole entries else Damaged)
unfolding tested
tested_by bytes entries enough are =
    cond-false _ _ _ (le-ltb _ _ enough) ∙ ap (λ (es : List (List ℕ)). if bytes_eq bytes (blocks es) then Whole es else Damaged) are

tested_whole : (bytes : List ℕ) (batch : List (List ℕ)) → tested bytes ≡ Whole batch → bytes ≡ blocks batch
tested_whole bytes batch whole = elim (cases_lt (nonzeros (drop 33 bytes)) (said_number (drop 9 bytes))) [
  | inl fewer ↦ let end = tested_torn bytes fewer in absurd (cc (end, whole))
  | inr enough ↦ elim (cases_Bool (bytes_eq bytes (blocks (entries_packed (drop 65 bytes))))) [
    | inl same ↦
        let is : bytes ≡ blocks (entries_packed (drop 65 bytes)) = (bytes_eq-Decides bytes (blocks (entries_packed (drop 65 bytes)))).0 same in
        let found = tested_same bytes (entries_packed (drop 65 bytes)) enough refl is in
        let entries : entries_packed (drop 65 bytes) ≡ batch = let w = sym found ∙ whole in cc w in
        is ∙ ap blocks entries
    | inr other ↦ let damaged = tested_other bytes enough other in absurd (cc (damaged, whole))
  ]
]

pub tested_blocks : (batch : List (List ℕ)) → length (blocks batch) < 2 ^ 64 → tested (blocks batch) ≡ Whole batch
tested_blocks batch small =
    let body = packed batch in
    let size : 65 + length body < 2 ^ 64 = omega (arith, small, length-blocks batch) in
    let behind : drop 32 (header body ++ body) ≡ sha256 body ++ body = drop_mirror body body in
    let count : said_number (drop 8 (header body ++ body)) ≡ nonzeros (sha256 body ++ body) =
    ap (λ (l : List ℕ). said_number (drop 8 l)) (header_split body body) ∙ said_count-counts body (complement (counts body) ++ (sha256 body ++ body)) (omega (arith, size)) in
    let all : drop 64 (header body ++ body) ≡ body = drop_at (header body) body 64 (length-header body) in
    tested_same (blocks batch) batch (omega (arith, count, ap nonzeros behind)) (ap entries_packed all ∙ unpacked-packed batch (omega (arith, size))) refl

pub first_block : (batch : List (List ℕ)) (rest : List ℕ) → length (blocks batch) < 2 ^ 64 → what_begins (blocks batch ++ rest) ≡ Whole batch
first_block batch rest small =
    let body = packed batch in
    let bytes = header body ++ (body ++ rest) in
    let same : blocks batch ++ rest ≡ 1 ∷ bytes = ap (λ (l : List ℕ). 1 ∷ l) (append_assoc (header body) body rest) in
    let said : said_number bytes ≡ length body = said_length-header body (body ++ rest) (omega (arith, small, length-blocks batch)) in
    let long = length-append (header body) (body ++ rest) in
    let enough : 64 + said_number bytes ≤ length bytes = omega (arith, said, length-header body, long, length-append body rest) in
    let size : length (blocks batch) ≡ 65 + said_number bytes = omega (arith, said, length-blocks batch) in
    let front : take (65 + said_number bytes) (1 ∷ bytes) ≡ blocks batch =
    ap (λ (l : List ℕ). take (65 + said_number bytes) l) (sym same) ∙ take_at (blocks batch) rest (65 + said_number bytes) size in
    ap what_begins same
    ∙ first_room bytes (fits-header body (body ++ rest)) enough
    ∙ ap (λ (f : First (List (List ℕ))). or_part bytes f) (ap tested front ∙ tested_blocks batch small)

-- ---- ends

-- what ends a block of which some may be missing
missing_part : (bytes : List ℕ) (f : First (List (List ℕ))) → or_part bytes f ≡ End → (f ≡ End) × (part_said bytes ≡ End)
missing_part bytes End is = (refl, is)
missing_part bytes (Whole batch) is = absurd (cc is)
missing_part bytes Damaged is = absurd (cc is)

may_from : (bytes : List ℕ) → part_said bytes ≡ End → may_be_torn bytes ≡ true
may_from bytes is = elim (cases_Bool (may_be_torn bytes)) [
  | inl may ↦ may
  | inr other ↦ let is_damaged = part_damaged bytes other in absurd (cc (is_damaged, is))
]

open_end : (bytes : List ℕ) → 0 < length bytes → Behind bytes → what_begins (1 ∷ bytes) ≡ End → IsEnd (1 ∷ bytes)
open_end bytes some (room fit enough) ends =
    let parts = missing_part bytes (tested (take (65 + said_number bytes) (1 ∷ bytes))) (sym (first_room bytes fit enough) ∙ ends) in
    torn bytes (λ fits so. parts.0) (may_from bytes parts.1)
open_end bytes some (part is missing) ends = torn bytes missing (may_from bytes (sym (first_part bytes some is) ∙ ends))

-- a gate with bytes behind it is closed, open, or another byte
gate_end : (gate : ℕ) (bytes : List ℕ) → 0 < length bytes → what_begins (gate ∷ bytes) ≡ End → IsEnd (gate ∷ bytes)
gate_end gate bytes some ends = elim (cases_eq gate 0) [
  | inl shut ↦ subst (λ (g : ℕ). IsEnd (g ∷ bytes)) (sym shut) (closed bytes)
  | inr ajar ↦ elim (cases_eq gate 1) [
    | inl is_open ↦ subst (λ (g : ℕ). IsEnd (g ∷ bytes)) (sym is_open) (open_end bytes some (behind_is bytes) (subst (λ (g : ℕ). what_begins (g ∷ bytes) ≡ End) is_open ends))
    | inr strange ↦ let damaged = first_is (gate ∷ bytes) Other (said_other gate bytes ajar strange some) in absurd (cc (damaged, ends))
  ]
]

-- what ends a file is one of the four
pub end_from : (bytes : List ℕ) → what_begins bytes ≡ End → IsEnd bytes
end_from [] is = none
end_from (gate ∷ []) is = last gate
end_from (gate ∷ byte ∷ bytes) is = gate_end gate (byte ∷ bytes) (omega arith) is

mirrors-take : (i j : ℕ) (xs ys : List ℕ) → mirrors xs ys ≡ true → mirrors (take i xs) (take j ys) ≡ true
mirrors-take zero j xs ys so = refl
mirrors-take (suc i) j [] ys so = refl
mirrors-take (suc i) zero (x ∷ xs) ys so = refl
mirrors-take (suc i) (suc j) (x ∷ xs) [] so = refl
mirrors-take (suc i) (suc j) (x ∷ xs) (y ∷ ys) so =
    let parts = and_parts (nat_eq y (255 - x)) (mirrors xs ys) so in and_from _ _ parts.0 (mirrors-take i j xs ys parts.1)

mirrored-take : (i j : ℕ) (xs ys : List ℕ) → mirrored xs ys ≡ true → mirrored (take i xs) (take j ys) ≡ true
mirrored-take zero j xs ys so = refl
mirrored-take (suc i) j [] ys so = refl
mirrored-take (suc i) zero (x ∷ xs) ys so = refl
mirrored-take (suc i) (suc j) (x ∷ xs) [] so = refl
mirrored-take (suc i) (suc j) (x ∷ xs) (y ∷ ys) so =
    let parts = and_parts _ (mirrored xs ys) so in and_from _ _ parts.0 (mirrored-take i j xs ys parts.1)

take_comm : (i j : ℕ) (xs : List ℕ) → take i (take j xs) ≡ take j (take i xs)
take_comm zero zero xs = refl
take_comm zero (suc j) xs = refl
take_comm (suc i) zero xs = refl
take_comm (suc i) (suc j) [] = refl
take_comm (suc i) (suc j) (x ∷ xs) = ap (λ (l : List ℕ). x ∷ l) (take_comm i j xs)

pub drop_of_take : (i j : ℕ) (xs : List ℕ) → drop i (take j xs) ≡ take (j - i) (drop i xs)
drop_of_take zero j xs = let same : j ≡ j - 0 = omega arith in ap (λ (k : ℕ). take k xs) same
drop_of_take (suc i) zero xs = let same : 0 ≡ 0 - suc i = omega arith in ap (λ (k : ℕ). take k (drop (suc i) xs)) same
drop_of_take (suc i) (suc j) [] = let same : take (suc j - suc i) [] ≡ [] = take_all (suc j - suc i) [] (omega arith) in sym same
drop_of_take (suc i) (suc j) (x ∷ xs) = let same : j - i ≡ suc j - suc i = omega arith in drop_of_take i j xs ∙ ap (λ (k : ℕ). take k (drop i xs)) same

-- the two halves that are compared, of the first k bytes
first_half : (k : ℕ) (bytes : List ℕ) → take 16 (take k bytes) ≡ take k (take 16 bytes)
first_half k bytes = take_comm 16 k bytes

second_half : (k : ℕ) (bytes : List ℕ) → take 16 (drop 16 (take k bytes)) ≡ take (k - 16) (take 16 (drop 16 bytes))
second_half k bytes = ap (λ (l : List ℕ). take 16 l) (drop_of_take 16 k bytes) ∙ take_comm 16 (k - 16) (drop 16 bytes)

fits-take : (k : ℕ) (bytes : List ℕ) → counts_fit bytes ≡ true → counts_fit (take k bytes) ≡ true
unfolding counts_fit
fits-take k bytes fit =
    ap₂ (λ (a b : List ℕ). mirrors a b) (first_half k bytes) (second_half k bytes) ∙ mirrors-take k (k - 16) (take 16 bytes) (take 16 (drop 16 bytes)) fit

pub torn-take : (k : ℕ) (bytes : List ℕ) → counts_torn bytes ≡ true → counts_torn (take k bytes) ≡ true
unfolding counts_torn
torn-take k bytes is_torn =
    ap₂ (λ (a b : List ℕ). mirrored a b) (first_half k bytes) (second_half k bytes) ∙ mirrored-take k (k - 16) (take 16 bytes) (take 16 (drop 16 bytes)) is_torn

-- the first 32 bytes and more decide
pub fits_by : (k : ℕ) (bytes : List ℕ) → 32 ≤ k → counts_fit (take k bytes) ≡ counts_fit bytes
unfolding counts_fit
fits_by k bytes enough =
    ap₂ (λ (a b : List ℕ). mirrors a b) (take-take 16 k bytes (omega arith)) (ap (λ (l : List ℕ). take 16 l) (drop_of_take 16 k bytes) ∙ take-take 16 (k - 16) (drop 16 bytes) (omega arith))

pub torn_by : (k : ℕ) (bytes : List ℕ) → 32 ≤ k → counts_torn (take k bytes) ≡ counts_torn bytes
unfolding counts_torn
torn_by k bytes enough =
    ap₂ (λ (a b : List ℕ). mirrored a b) (take-take 16 k bytes (omega arith)) (ap (λ (l : List ℕ). take 16 l) (drop_of_take 16 k bytes) ∙ take-take 16 (k - 16) (drop 16 bytes) (omega arith))

pub said_number-take : (k : ℕ) (bytes : List ℕ) → 8 ≤ k → said_number (take k bytes) ≡ said_number bytes
unfolding said_number
said_number-take k bytes enough = ap (λ (l : List ℕ). from_be_bytes w64 l) (take-take 8 k bytes enough)

-- ---- a whole block

whole_part : (bytes : List ℕ) (f : First (List (List ℕ))) (batch : List (List ℕ)) → or_part bytes f ≡ Whole batch → f ≡ Whole batch
whole_part bytes End batch is = absurd (not_part (cases_Bool (may_be_torn bytes)))
  where
    not_part : (may_be_torn bytes ≡ true) ⊎ (may_be_torn bytes ≡ false) → ⊥
    not_part (inl may) = let end = part_torn bytes may in absurd (cc (end, is))
    not_part (inr other) = let damaged = part_damaged bytes other in absurd (cc (damaged, is))
whole_part bytes (Whole found) batch is = is
whole_part bytes Damaged batch is = absurd (cc is)

open_whole : (bytes : List ℕ) (batch : List (List ℕ)) → 0 < length bytes → Behind bytes → what_begins (1 ∷ bytes) ≡ Whole batch → 1 ∷ bytes ≡ blocks batch ++ drop (length (blocks batch)) (1 ∷ bytes)
open_whole bytes batch some (room fit enough) whole =
    let n = 65 + said_number bytes in
    let found : tested (take n (1 ∷ bytes)) ≡ Whole batch = whole_part bytes (tested (take n (1 ∷ bytes))) batch (sym (first_room bytes fit enough) ∙ whole) in
    let same : take n (1 ∷ bytes) ≡ blocks batch = tested_whole (take n (1 ∷ bytes)) batch found in
    let len : n ≡ length (blocks batch) = sym (length-take-le n (1 ∷ bytes) (omega (arith, enough))) ∙ ap length same in
    sym (take-append-drop n (1 ∷ bytes)) ∙ ap₂ (λ (a b : List ℕ). a ++ b) same (ap (λ (k : ℕ). drop k (1 ∷ bytes)) len)
open_whole bytes batch some (part is missing) whole =
    let none = whole_part bytes End batch (sym (first_part bytes some is) ∙ whole) in absurd (cc none)

gate_whole : (gate : ℕ) (bytes : List ℕ) (batch : List (List ℕ)) → 0 < length bytes → what_begins (gate ∷ bytes) ≡ Whole batch → gate ∷ bytes ≡ blocks batch ++ drop (length (blocks batch)) (gate ∷ bytes)
gate_whole gate bytes batch some whole = elim (cases_eq gate 1) [
  | inl is_open ↦
      subst (λ (g : ℕ). g ∷ bytes ≡ blocks batch ++ drop (length (blocks batch)) (g ∷ bytes)) (sym is_open)
      (open_whole bytes batch some (behind_is bytes) (subst (λ (g : ℕ). what_begins (g ∷ bytes) ≡ Whole batch) is_open whole))
  | inr strange ↦ elim (cases_eq gate 0) [
    | inl shut ↦ let end = first_is (gate ∷ bytes) Closed (said_shut gate bytes (inl shut)) in absurd (cc (end, whole))
    | inr ajar ↦ let damaged = first_is (gate ∷ bytes) Other (said_other gate bytes ajar strange some) in absurd (cc (damaged, whole))
  ]
]

-- bytes that begin with a whole block begin with what is written of its batch
pub whole_is : (bytes : List ℕ) (batch : List (List ℕ)) → what_begins bytes ≡ Whole batch → bytes ≡ blocks batch ++ drop (length (blocks batch)) bytes
whole_is [] batch is = let end = first_is [] Closed refl in absurd (cc (end, is))
whole_is (gate ∷ []) batch is = let end = first_last gate in absurd (cc (end, is))
whole_is (gate ∷ byte ∷ bytes) batch is = gate_whole gate (byte ∷ bytes) batch (omega arith) is
