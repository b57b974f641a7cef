use Rattle.std.proofs.Common.{◌≡◌, ◌+◌, ◌<◌, ◌^◌, ◌++◌, [], ◌∷◌, List, ℕ, Vec, Global, All, length, map, take, get_or, subst, sym, ap, ap₂, ◌∙◌, append_assoc, arith}
use Rattle.std.proofs.lemmas.List.{map-append, map_more, take_more}
use Rattle.std.proofs.lemmas.List.Elements.{All-push}
use Rattle.journal.specs.Words.{bytes_of_each}
use Rattle.durable.specs.Heads.{written_pair}
use Rattle.durable.proofs.heads.push_pairs.Goals as goal

-- a pair more is written
more_written : (made : List (Vec ℕ Global)) (before : List (List ℕ)) (pairs : List (List ℕ × List ℕ)) (i : ℕ) (pair : List ℕ × List ℕ) (v : Vec ℕ Global) → i < length pairs → pair ≡ get_or pairs i pair → v.items ≡ written_pair pair →
    bytes_of_each made ≡ before ++ map written_pair (take i pairs) → bytes_of_each (made ++ v ∷ []) ≡ before ++ map written_pair (take (i + 1) pairs)
more_written made before pairs i pair v inside at is so_far =
    let first = map written_pair (take i pairs) in
    map-append (λ (v : Vec ℕ Global). v.items) made (v ∷ [])
    ∙ ap₂ (λ l b. l ++ b ∷ []) so_far is
    ∙ append_assoc before first (written_pair pair ∷ [])
    ∙ ap (λ l. before ++ l) (ap (λ p. first ++ written_pair p ∷ []) at ∙ sym (map_more written_pair pairs i pair inside))

more_small : (pairs : List (List ℕ × List ℕ)) (i : ℕ) (pair : List ℕ × List ℕ) → i < length pairs → pair ≡ get_or pairs i pair → length pair.0 < 2 ^ 64 → All (λ pair. length pair.0 < 2 ^ 64) (take i pairs) → All (λ pair. length pair.0 < 2 ^ 64) (take (i + 1) pairs)
more_small pairs i pair inside at small so_far =
    subst (All (λ pair. length pair.0 < 2 ^ 64)) (ap (λ p. take i pairs ++ p ∷ []) at ∙ sym (take_more pairs i pair inside)) (All-push (λ pair. length pair.0 < 2 ^ 64) (take i pairs) pair so_far small)

pub loop-pair-preserved : goal.loop-pair-preserved
loop-pair-preserved c =
    let pairs = c.args.pairs.now in
    let i = c.loop-pair.pair-index in
    let pair = c.pair-item.result in
    let v = c.in_ok-bytes_of_pair.field-0 in (
      ap bytes_of_each c.in_ok-push.ensures.items
          ∙ more_written c.loop-pair.made.items (bytes_of_each c.args.made.now.items) pairs i pair v (omega arith) c.pair-item.is
          (c.in_ok-bytes_of_pair.ensures.written ∙ ap₂ (λ k w. written_pair (k, w)) c.as_slice.ensures c.as_slice-in-loop-pair.ensures) c.loop-pair.invariant.0,
      more_small pairs i pair (omega arith) c.pair-item.is (subst (λ k. length k < 2 ^ 64) c.as_slice.ensures c.in_ok-bytes_of_pair.ensures.small) c.loop-pair.invariant.1,
    )
