-- What a crash may have left of a block, up to the file's end: bounds of what isn't zero there.
use Rattle.std.proofs.Common.{◌≡◌, inl, inr, ℕ, zero, suc, ◌+◌, ◌-◌, ◌<◌, ◌≤◌, ◌^◌, true, false, List, [], ◌∷◌, length, take, drop, refl, sym, ◌∙◌, ap, subst, arith, length-take, eqb-true}
use Rattle.std.proofs.lemmas.List.{take_all, drop_all, take-take, take-append-drop}
use Rattle.std.proofs.lemmas.Bool.{cases_lt, eq-eqb, ne_eqb, le-leb, lt-leb, leb-true, and_from, and_parts, and_left, and_right}
use Rattle.std.specs.Prelude.{◌≢◌}
use Rattle.journal.specs.Form.{nonzeros, zeros}
use Rattle.journal.specs.Block.{said_number, counts_fit, counts_torn, most_said, may_be_torn, tested}
use Rattle.journal.proofs.Headers.{nonzeros-append}
use Rattle.journal.proofs.Firsts.{IsMissing, IsEnd, none, closed, last, torn, drop_of_take, torn-take, fits_by, said_number-take}

pub nonzeros_zeros : (n : ℕ) → nonzeros (zeros n) ≡ 0
nonzeros_zeros zero = refl
nonzeros_zeros (suc n) = omega (arith, nonzeros_zeros n)

pub nonzeros_split : (k : ℕ) (bytes : List ℕ) → nonzeros bytes ≡ nonzeros (take k bytes) + nonzeros (drop k bytes)
nonzeros_split k bytes = ap nonzeros (sym (take-append-drop k bytes)) ∙ nonzeros-append (take k bytes) (drop k bytes)

pub nonzeros_none : (k : ℕ) (bytes : List ℕ) → length bytes ≤ k → nonzeros (drop k bytes) ≡ 0
nonzeros_none k bytes few = ap nonzeros (drop_all k bytes few)

-- the three facts that `may_be_torn` tests
pub record MayBeTorn (bytes : List ℕ) : Type 0 where
  pub counts : counts_torn bytes ≡ true
  pub fewer : nonzeros (drop 32 bytes) ≤ most_said (drop 24 bytes)
  pub nothing : nonzeros (drop (64 + most_said (drop 16 bytes)) bytes) ≡ 0

pub may_parts : (bytes : List ℕ) → may_be_torn bytes ≡ true → MayBeTorn bytes
unfolding may_be_torn
may_parts bytes so =
    let one = and_parts (counts_torn bytes) _ so in
    let two = and_parts _ _ one.1 in
    record { counts = one.0; fewer = leb-true _ _ two.0; nothing = eqb-true _ 0 two.1 }

pub may_from : (bytes : List ℕ) → MayBeTorn bytes → may_be_torn bytes ≡ true
unfolding may_be_torn
may_from bytes m = and_from _ _ m.counts (and_from _ _ (le-leb _ _ m.fewer) (eq-eqb _ 0 m.nothing))

-- what refutes it
pub not_by_counts : (bytes : List ℕ) → counts_torn bytes ≡ false → may_be_torn bytes ≡ false
unfolding may_be_torn
not_by_counts bytes other = and_left _ _ other

pub not_by_more : (bytes : List ℕ) → most_said (drop 24 bytes) < nonzeros (drop 32 bytes) → may_be_torn bytes ≡ false
unfolding may_be_torn
not_by_more bytes more = and_right (counts_torn bytes) _ (and_left _ _ (lt-leb _ _ more))

pub not_by_rest : (bytes : List ℕ) → nonzeros (drop (64 + most_said (drop 16 bytes)) bytes) ≢ 0 → may_be_torn bytes ≡ false
unfolding may_be_torn
not_by_rest bytes some = and_right (counts_torn bytes) _ (and_right _ _ (ne_eqb _ 0 some))

-- where the bytes end within the counts
pub may_short : (bytes : List ℕ) → length bytes < 32 → counts_torn bytes ≡ true → may_be_torn bytes ≡ true
may_short bytes few counts = may_from bytes (record {
  counts = counts;
  fewer = omega (arith, nonzeros_none 32 bytes (omega arith));
  nothing = nonzeros_none (64 + most_said (drop 16 bytes)) bytes (omega arith);
})

-- ---- fronts

nonzeros_front : (i k : ℕ) (bytes : List ℕ) → nonzeros (drop i (take k bytes)) ≤ nonzeros (drop i bytes)
nonzeros_front i k bytes = omega (arith, ap nonzeros (drop_of_take i k bytes), nonzeros_split (k - i) (drop i bytes))

said_front : (i k : ℕ) (bytes : List ℕ) → i + 8 ≤ k → said_number (drop i (take k bytes)) ≡ said_number (drop i bytes)
said_front i k bytes enough = ap said_number (drop_of_take i k bytes) ∙ said_number-take (k - i) (drop i bytes) (omega arith)

pub most_front : (i k : ℕ) (bytes : List ℕ) → i + 8 ≤ k → most_said (drop i (take k bytes)) ≡ most_said (drop i bytes)
most_front i k bytes enough = ap (λ (n : ℕ). 2 ^ 64 - 1 - n) (said_front i k bytes enough)

front_torn : (k : ℕ) (bytes : List ℕ) → MayBeTorn bytes → 32 ≤ k → MayBeTorn (take k bytes)
front_torn k bytes m enough =
    let most = most_front 16 k bytes (omega arith) in
    record {
      counts = torn-take k bytes m.counts;
      fewer = omega (arith, m.fewer, nonzeros_front 32 k bytes, most_front 24 k bytes (omega arith));
      nothing =
          ap (λ (n : ℕ). nonzeros (drop (64 + n) (take k bytes))) most
          ∙ omega (arith, m.nothing, nonzeros_front (64 + most_said (drop 16 bytes)) k bytes);
    }

may_front : (k : ℕ) (bytes : List ℕ) → may_be_torn bytes ≡ true → may_be_torn (take k bytes) ≡ true
may_front k bytes may = elim (cases_lt k 32) [
  | inl few ↦ let m = may_parts bytes may in may_short (take k bytes) (omega (arith, few, length-take k bytes)) (torn-take k bytes m.counts)
  | inr enough ↦ may_from (take k bytes) (front_torn k bytes (may_parts bytes may) enough)
]

missing_front : (k : ℕ) (bytes : List ℕ) → IsMissing bytes → IsMissing (take k bytes)
missing_front k bytes missing fit enough =
    let long = length-take k bytes in
    let many : 64 ≤ k = omega (arith, enough, long) in
    let said : said_number (take k bytes) ≡ said_number bytes = said_number-take k bytes (omega (arith, many)) in
    let fits : counts_fit bytes ≡ true = sym (fits_by k bytes (omega (arith, many))) ∙ fit in
    let within : 65 + said_number bytes ≤ suc k = omega (arith, said, enough, long) in
    let same : take (65 + said_number (take k bytes)) (1 ∷ take k bytes) ≡ take (65 + said_number bytes) (1 ∷ bytes) =
    ap (λ (n : ℕ). take (65 + n) (1 ∷ take k bytes)) said ∙ take-take (65 + said_number bytes) (suc k) (1 ∷ bytes) within in
    ap tested same ∙ missing fits (omega (arith, said, enough, long))

-- the front of an end is an end
pub end_front : (k : ℕ) (bytes : List ℕ) → IsEnd bytes → IsEnd (take k bytes)
end_front zero bytes ends = none
end_front (suc k) _ none = none
end_front (suc k) _ (closed bytes) = closed (take k bytes)
end_front (suc k) _ (last gate) = subst (λ (l : List ℕ). IsEnd (gate ∷ l)) (sym (take_all k [] (omega arith))) (last gate)
end_front (suc k) _ (torn bytes missing may) = torn (take k bytes) (missing_front k bytes missing) (may_front k bytes may)
