-- How the bytes of a file are read and counted where some of a block are missing.
use Rattle.std.proofs.Common.{◌≡◌, inl, inr, ℕ, ◌+◌, ◌-◌, ◌≤◌, List, length, take, drop, min, sym, ◌∙◌, ap, arith, length-drop}
use Rattle.std.proofs.lemmas.Bool.{cases_lt}
use Rattle.std.proofs.lemmas.List.{drop-drop, take_rest}
use Rattle.journal.specs.Form.{nonzeros}
use Rattle.journal.specs.Block.{most_said}
use Rattle.journal.proofs.Headers.{nonzeros_fit}
use Rattle.journal.proofs.Firsts.{drop_of_take}
use Rattle.journal.proofs.Bounds.{nonzeros_split, nonzeros_none, most_front}

-- a piece more
module _ (file : List ℕ) (from at count n found : ℕ) (so_far : count + nonzeros (drop at file) ≡ nonzeros (drop from file)) (is : found ≡ nonzeros (take n (drop at file))) where
  pub piece_more : count + found + nonzeros (drop (at + n) file) ≡ nonzeros (drop from file)
  piece_more = omega (arith, so_far, is, nonzeros_split n (drop at file), ap nonzeros (drop-drop n at file))

  pub piece_fits : count + found ≤ length file
  piece_fits = omega (arith, piece_more, nonzeros_fit (drop from file), length-drop from file)

-- what stands behind the gate at a place
pub behind_at : (file head : List ℕ) (at : ℕ) → head ≡ take 65 (drop at file) → take (length head - 1) (drop 1 head) ≡ take 64 (drop (at + 1) file)
behind_at file head at is =
    take_rest head 1 ∙ ap (λ (l : List ℕ). drop 1 l) is ∙ drop_of_take 1 65 (drop at file) ∙ ap (λ (l : List ℕ). take 64 l) (drop-drop 1 at file)

module _ (file : List ℕ) (at : ℕ) where
  pub counted_there : nonzeros (drop (at + 33) file) ≡ nonzeros (drop 32 (drop (at + 1) file))
  counted_there =
      let same : at + 33 ≡ at + 1 + 32 = omega arith in
      ap nonzeros (ap (λ (k : ℕ). drop k file) same ∙ sym (drop-drop 32 (at + 1) file))

  -- what stands behind the block, if it is within the file
  pub rest_there : (most n : ℕ) → n ≡ min most (length file - at) → nonzeros (drop (at + 65 + n) file) ≡ nonzeros (drop (64 + most) (drop (at + 1) file))
  rest_there most n is = elim (cases_lt (length file - at) most) [
    | inl less ↦
        nonzeros_none (at + 65 + n) file (omega (arith, less, is))
        ∙ sym (nonzeros_none (64 + most) (drop (at + 1) file) (omega (arith, less, length-drop (at + 1) file)))
    | inr fits ↦
        let same : at + 65 + n ≡ at + 1 + (64 + most) = omega (arith, fits, is) in
        ap nonzeros (ap (λ (k : ℕ). drop k file) same ∙ sym (drop-drop (64 + most) (at + 1) file))
  ]

-- a bound that the head says
pub most_there : (bytes behind : List ℕ) (i : ℕ) → behind ≡ take 64 bytes → i + 8 ≤ 64 → most_said (take (length behind - i) (drop i behind)) ≡ most_said (drop i bytes)
most_there bytes behind i is within = ap most_said (take_rest behind i ∙ ap (λ (l : List ℕ). drop i l) is) ∙ most_front i 64 bytes within
