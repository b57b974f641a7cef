use Rattle.std.proofs.Common.{◌≡◌, ◌+◌, ◌<◌, [], ◌∷◌, ℕ, List, length, take, get_or, ◌∙◌, ap, arith}
use Rattle.std.proofs.lemmas.List.{take_more}
use Rattle.std.proofs.lemmas.Bool.{cond-true, cond-false, eq-eqb, ne_eqb}
use Rattle.journal.specs.Form.{nonzeros}
use Rattle.journal.proofs.Headers.{nonzeros-append}
use Rattle.journal.proofs.block.count_nonzeros.Goals as goal
use Rattle.journal.proofs.block.count_nonzeros.Goals.{then-byte-ne0, else-byte-ne0}

-- one byte more
one_more : (bytes : List ℕ) (i : ℕ) → i < length bytes → nonzeros (take (i + 1) bytes) ≡ nonzeros (take i bytes) + nonzeros (get_or bytes i 0 ∷ [])
one_more bytes i inside = ap nonzeros (take_more bytes i 0 inside) ∙ nonzeros-append (take i bytes) (get_or bytes i 0 ∷ [])

some : (byte : ℕ) → (byte ≡ 0 → ⊥) → nonzeros (byte ∷ []) ≡ 1
some byte not = ap (λ (n : ℕ). n + 0) (cond-false _ 0 1 (ne_eqb byte 0 not))

none : (byte : ℕ) → byte ≡ 0 → nonzeros (byte ∷ []) ≡ 0
none byte is = ap (λ (n : ℕ). n + 0) (cond-true _ 0 1 (eq-eqb byte 0 is))

pub loop-byte-preserved : goal.loop-byte-preserved
loop-byte-preserved c =
    let byte = get_or c.args.bytes.now c.loop-byte.byte-index 0 in
    let more = one_more c.args.bytes.now c.loop-byte.byte-index c.loop-byte-test.true in
    let i = c.loop-byte.invariant in
    elim c.if-byte-ne0.branch [
      | then-byte-ne0 w ↦ record { so_far = omega (arith, w.count-is, i.so_far, more, some byte w.if-byte-ne0.true); few = omega (arith, w.count-is, i.few) }
      | else-byte-ne0 w ↦ record { so_far = omega (arith, w.count-is, i.so_far, more, none byte w.if-byte-ne0.false); few = omega (arith, w.count-is, i.few) }
    ]
