-- A block of which bytes are others is no end where something stands behind it.
use Rattle.std.proofs.Common.{◌≡◌, ◌≢◌, ◌⊎◌, ⊎_elim, ℕ, ◌+◌, ◌-◌, ◌*◌, ◌<◌, ◌≤◌, ◌^◌, true, List, [], ◌∷◌, ◌++◌, length, take, drop, get_or, refl, sym, ◌∙◌, ap, arith, w64, length-append, length-drop}
use Rattle.std.proofs.lemmas.List.{take-take, take-append-le, drop_at, drop-drop, drop-append-le}
use Rattle.std.proofs.lemmas.Nat.{from_be_bytes-to_be_bytes_8}
use Rattle.std.specs.Int.{to_be_bytes}
use Rattle.sha2.specs.Sha256.{sha256}
use Rattle.journal.specs.Form.{complement, nonzeros, packed, header, blocks}
use Rattle.journal.specs.Block.{said_number, most_said, may_be_torn, what_begins}
use Rattle.journal.specs.declared.block.First.TheVariants.{End}
use Rattle.journal.proofs.Headers.{length-sha256, length-blocks, nonzeros_fit, nonzeros-append, take_mirror, drop_mirror}
use Rattle.journal.proofs.Firsts.{IsEnd, none, closed, last, torn, end_from, drop_of_take, said_number-take}
use Rattle.journal.proofs.Bounds.{MayBeTorn, may_parts}
use Rattle.journal.proofs.Mixtures.{length_word, count_word}

-- ---- numbers and their complement

eight_same : (a b c d e f g h n : ℕ) → a < 256 → b < 256 → c < 256 → d < 256 → e < 256 → f < 256 → g < 256 → h < 256
    → a * 72057594037927936 + b * 281474976710656 + c * 1099511627776 + d * 4294967296 + e * 16777216 + f * 65536 + g * 256 + h ≡ n
    → (255 - a) * 72057594037927936 + (255 - b) * 281474976710656 + (255 - c) * 1099511627776 + (255 - d) * 4294967296 + (255 - e) * 16777216 + (255 - f) * 65536 + (255 - g) * 256 + (255 - h) + n ≡ 2 ^ 64 - 1
eight_same a b c d e f g h n one two three four five six seven eight is = omega arith

said_complement : (n : ℕ) → n < 2 ^ 64 → said_number (complement (to_be_bytes w64 n)) + n ≡ 2 ^ 64 - 1
unfolding said_number
said_complement n small =
    eight_same _ _ _ _ _ _ _ _ n (omega arith) (omega arith) (omega arith) (omega arith) (omega arith) (omega arith) (omega arith) (omega arith)
    (from_be_bytes-to_be_bytes_8 n small)

most_complement : (n : ℕ) (bytes : List ℕ) → n < 2 ^ 64 → said_number bytes ≡ said_number (complement (to_be_bytes w64 n)) → most_said bytes ≡ n
most_complement n bytes small is = omega (arith, is, said_complement n small)

said_within : (i : ℕ) (c rest : List ℕ) → i + 8 ≤ length c → said_number (drop i (c ++ rest)) ≡ said_number (take 8 (drop i c))
said_within i c rest within =
    sym (said_number-take 8 (drop i (c ++ rest)) (omega arith))
    ∙ ap said_number (ap (λ (l : List ℕ). take 8 l) (drop-append-le i c rest (omega (arith, within))) ∙ take-append-le 8 (drop i c) rest (omega (arith, within, length-drop i c)))

-- ---- ends

-- what ends a file behind a gate that isn't closed may be torn
end_may : (bytes : List ℕ) → IsEnd bytes → get_or bytes 0 0 ≢ 0 → 2 ≤ length bytes → may_be_torn (drop 1 bytes) ≡ true
end_may _ none ajar long = absurd (omega (arith, long))
end_may _ (closed bytes) ajar long = absurd (ajar refl)
end_may _ (last gate) ajar long = absurd (omega (arith, long))
end_may _ (torn bytes missing may) ajar long = may

module _ (body c rest : List ℕ) (small : 65 + length body < 2 ^ 64) (len : length c ≡ 64 + length body) (some : nonzeros rest ≢ 0) (m : MayBeTorn (c ++ rest)) where
  length_half : take 8 (drop 16 (header body ++ body)) ≡ complement (to_be_bytes w64 (length body))
  length_half = sym (take-take 8 16 (drop 16 (header body ++ body)) (omega arith)) ∙ ap (λ (l : List ℕ). take 8 l) (take_mirror body body) ∙ length_word body

  count_half : take 8 (drop 24 (header body ++ body)) ≡ complement (to_be_bytes w64 (nonzeros (sha256 body ++ body)))
  count_half =
      ap (λ (l : List ℕ). take 8 l) (sym (drop-drop 8 16 (header body ++ body)))
      ∙ sym (drop_of_take 8 16 (drop 16 (header body ++ body)))
      ∙ ap (λ (l : List ℕ). drop 8 l) (take_mirror body body)
      ∙ count_word body

  -- where the complement of the length is there, it tells where the block ends
  by_length : take 8 (drop 16 c) ≡ take 8 (drop 16 (header body ++ body)) → ⊥
  by_length same =
      let most : most_said (drop 16 (c ++ rest)) ≡ length body =
      most_complement (length body) (drop 16 (c ++ rest)) (omega (arith, small)) (said_within 16 c rest (omega (arith, len)) ∙ ap said_number (same ∙ length_half)) in
      let behind : drop (64 + most_said (drop 16 (c ++ rest))) (c ++ rest) ≡ rest = drop_at c rest (64 + most_said (drop 16 (c ++ rest))) (omega (arith, most, len)) in
      some (ap nonzeros (sym behind) ∙ m.nothing)

  -- where all behind it is there, it tells how many bytes aren't zero
  by_count : drop 24 c ≡ drop 24 (header body ++ body) → ⊥
  by_count same =
      let fits : nonzeros (sha256 body ++ body) < 2 ^ 64 = omega (arith, small, nonzeros_fit (sha256 body ++ body), length-append (sha256 body) body, length-sha256 body) in
      let most : most_said (drop 24 (c ++ rest)) ≡ nonzeros (sha256 body ++ body) =
      most_complement (nonzeros (sha256 body ++ body)) (drop 24 (c ++ rest)) fits (said_within 24 c rest (omega (arith, len)) ∙ ap said_number (ap (λ (l : List ℕ). take 8 l) same ∙ count_half)) in
      let tail : drop 32 c ≡ sha256 body ++ body = sym (drop-drop 8 24 c) ∙ ap (λ (l : List ℕ). drop 8 l) same ∙ drop-drop 8 24 (header body ++ body) ∙ drop_mirror body body in
      let more : nonzeros (drop 32 (c ++ rest)) ≡ nonzeros (sha256 body ++ body) + nonzeros rest =
      ap nonzeros (drop-append-le 32 c rest (omega (arith, len)) ∙ ap (λ (l : List ℕ). l ++ rest) tail) ∙ nonzeros-append (sha256 body ++ body) rest in
      some (omega (arith, m.fewer, most, more))

pub no_end : (batch : List (List ℕ)) (changed rest : List ℕ) → length (blocks batch) < 2 ^ 64 → length changed ≡ length (blocks batch) → get_or changed 0 0 ≢ 0 → nonzeros rest ≢ 0
    → (take 8 (drop 17 changed) ≡ take 8 (drop 17 (blocks batch))) ⊎ (drop 25 changed ≡ drop 25 (blocks batch)) → what_begins (changed ++ rest) ≢ End
no_end batch [] rest small same ajar some there ends = absurd (omega (arith, same, length-blocks batch))
no_end batch (gate ∷ c) rest small same ajar some there ends =
    let body = packed batch in
    let len : length c ≡ 64 + length body = omega (arith, same, length-blocks batch) in
    let size : 65 + length body < 2 ^ 64 = omega (arith, small, length-blocks batch) in
    let may = end_may (gate ∷ c ++ rest) (end_from (gate ∷ c ++ rest) ends) ajar (omega (arith, len, length-append c rest)) in
    let m = may_parts (c ++ rest) may in
    ⊎_elim (by_length body c rest size len some m) (by_count body c rest size len some m) there
