use Rattle.std.proofs.Common.{◌≡◌, ◌+◌, ◌-◌, ◌++◌, List, ℕ, length, refl, sym, ◌∙◌, ap, ap₂, arith, append_assoc}
use Rattle.std.proofs.lemmas.List.{map-append}
use Rattle.std.specs.Int.{w64, to_be_bytes}
use Rattle.sha2.specs.Sha256.{sha256}
use Rattle.journal.specs.Form.{nonzeros, complement, counts, header}
use Rattle.journal.proofs.Headers.{length-sha256, nonzeros_fit, nonzeros-append}
use Rattle.journal.proofs.block.push_header.Goals as goal

pub overflow_add-count_nonzeros : goal.overflow_add-count_nonzeros
overflow_add-count_nonzeros c =
    omega (arith, c.count_nonzeros.ensures, c.count_nonzeros-2.ensures, nonzeros_fit c.digest-digest.result, nonzeros_fit c.args.bytes.now, ap length c.digest-digest.ensures, length-sha256 c.args.bytes.now, c.requires)

-- five pieces, one after another
pushed : (old w v digest one two three four five : List ℕ) → one ≡ old ++ w → two ≡ one ++ v → three ≡ two ++ complement w → four ≡ three ++ complement v → five ≡ four ++ digest
    → five ≡ old ++ (w ++ v ++ complement (w ++ v) ++ digest)
pushed old w v digest one two three four five is1 is2 is3 is4 is5 =
    is5
    ∙ ap (λ (l : List ℕ). l ++ digest) (is4 ∙ ap (λ (l : List ℕ). l ++ complement v) (is3 ∙ ap (λ (l : List ℕ). l ++ complement w) (is2 ∙ ap (λ (l : List ℕ). l ++ v) is1 ∙ append_assoc old w v)) ∙ append_assoc (old ++ (w ++ v)) (complement w) (complement v))
    ∙ ap (λ (l : List ℕ). l ++ digest) (append_assoc old (w ++ v) (complement w ++ complement v) ∙ ap (λ (l : List ℕ). old ++ (w ++ v ++ l)) (sym (map-append (λ b. 255 - b) w v)))
    ∙ append_assoc old (w ++ v ++ complement (w ++ v)) digest

is_header : (bytes : List ℕ) → (to_be_bytes w64 (length bytes) ++ to_be_bytes w64 (nonzeros (sha256 bytes ++ bytes))) ++ complement (to_be_bytes w64 (length bytes) ++ to_be_bytes w64 (nonzeros (sha256 bytes ++ bytes))) ++ sha256 bytes ≡ header bytes
unfolding header counts
is_header bytes = refl

pub returns : goal.returns
returns c =
    let old = c.args.out.now.items in
    let bytes = c.args.bytes.now in
    let word = c.to_be_bytes-len.result in
    let count = c.to_be_bytes-count.result in
    let digest = c.digest-digest.result in
    let number : c.count_nonzeros.result + c.count_nonzeros-2.result ≡ nonzeros (sha256 bytes ++ bytes) =
    omega (arith, c.count_nonzeros.ensures, c.count_nonzeros-2.ensures, nonzeros-append (sha256 bytes) bytes, ap nonzeros c.digest-digest.ensures) in
    let count_is : count ≡ to_be_bytes w64 (nonzeros (sha256 bytes ++ bytes)) = c.to_be_bytes-count.ensures ∙ ap (λ (n : ℕ). to_be_bytes w64 n) number in
    pushed old word count digest _ _ _ _ _ c.in_ok-extend_from_slice.ensures.items c.in_ok-extend_from_slice-2.ensures.items c.in_ok-push_complement.ensures c.in_ok-push_complement-2.ensures c.in_ok-extend_from_slice-3.ensures.items
    ∙ ap₂ (λ (w d : List ℕ). old ++ (w ++ count ++ complement (w ++ count) ++ d)) c.to_be_bytes-len.ensures c.digest-digest.ensures
    ∙ ap (λ (v : List ℕ). old ++ (to_be_bytes w64 (length bytes) ++ v ++ complement (to_be_bytes w64 (length bytes) ++ v) ++ sha256 bytes)) count_is
    ∙ ap (λ (l : List ℕ). old ++ l) (is_header bytes)
