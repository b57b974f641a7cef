use Rattle.std.proofs.Common.{◌≡◌, ◌+◌, ◌-◌, ◌<◌, ◌≤◌, [], ◌∷◌, ◌++◌, List, ℕ, suc, Vec, Global, length, take, drop, min, sym, ◌∙◌, ap, subst, arith, append_assoc, append-nil, length-append, length-drop, rules}
use Rattle.std.proofs.lemmas.List.{map-append, take_rest}
use Rattle.journal.specs.Block.{said_number, first_entries, entries_packed}
use Rattle.journal.specs.Words.{bytes_of_each}
use Rattle.journal.proofs.Unpacking.{unpack_step, unpack_few}
use Rattle.journal.proofs.block.unpacked_entries.Goals as goal

starts : (bytes : List ℕ) (entries : List (Vec ℕ Global)) → entries ≡ [] → bytes_of_each entries ++ first_entries (length bytes - length entries) bytes ≡ entries_packed bytes
unfolding entries_packed
starts bytes entries none =
    let same : length bytes - 0 ≡ length bytes = omega arith in
    subst (λ (es : List (Vec ℕ Global)). bytes_of_each es ++ first_entries (length bytes - length es) bytes ≡ first_entries (length bytes) bytes) (sym none) (ap (λ (n : ℕ). first_entries n bytes) same)

pub loop-len-init : goal.loop-len-init
loop-len-init c = record {
  so_far = starts c.args.bytes.now c.new-entries.result.items c.new-entries.ensures.items;
  within = omega arith;
  few = omega (arith, ap length c.new-entries.ensures.items);
}

-- an entry more is read
one_more : (bytes : List ℕ) (at said part : ℕ) (entries new : List (Vec ℕ Global)) (entry : Vec ℕ Global) (whole : List (List ℕ)) → at + 8 ≤ length bytes → length entries ≤ at → said ≡ said_number (drop at bytes) → part ≡ min said (length bytes - (at + 8))
    → entry.items ≡ take part (drop (at + 8) bytes) → new ≡ entries ++ entry ∷ [] → bytes_of_each entries ++ first_entries (length bytes - length entries) (drop at bytes) ≡ whole
    → bytes_of_each new ++ first_entries (length bytes - length new) (drop (at + 8 + part) bytes) ≡ whole
one_more bytes at said part entries new entry whole far few is part_is entry_is push so_far =
    let more : length bytes - length entries ≡ suc (length bytes - length new) = omega (arith, far, few, ap length push, length-append entries (entry ∷ [])) in
    let step = unpack_step (length bytes - length new) at said part bytes far is part_is in
    ap (λ (es : List (Vec ℕ Global)). bytes_of_each es ++ first_entries (length bytes - length new) (drop (at + 8 + part) bytes)) push
    ∙ ap (λ (l : List (List ℕ)). l ++ first_entries (length bytes - length new) (drop (at + 8 + part) bytes)) (map-append (λ (v : Vec ℕ Global). v.items) entries (entry ∷ []))
    ∙ append_assoc (bytes_of_each entries) (entry.items ∷ []) (first_entries (length bytes - length new) (drop (at + 8 + part) bytes))
    ∙ ap (λ (e : List ℕ). bytes_of_each entries ++ e ∷ first_entries (length bytes - length new) (drop (at + 8 + part) bytes)) entry_is
    ∙ ap (λ (l : List (List ℕ)). bytes_of_each entries ++ l) (sym step ∙ ap (λ (n : ℕ). first_entries n (drop at bytes)) (sym more))
    ∙ so_far

pub loop-len-preserved : goal.loop-len-preserved
loop-len-preserved c =
    let bytes = c.args.bytes.now in
    let at = c.loop-len.at in
    let i = c.loop-len.invariant in
    let rest = take_rest bytes at in
    let far : at + 8 ≤ length bytes = omega (arith, c.in-Some.ensures.enough, ap length rest, length-drop at bytes, i.within) in
    let part : c.in_ok-to_vec.field-0.items ≡ take (at + 8 + c.min.result - (at + 8)) (drop (at + 8) bytes) = search rules in
    let same : at + 8 + c.min.result - (at + 8) ≡ c.min.result = omega arith in
    let is = part ∙ ap (λ (n : ℕ). take n (drop (at + 8) bytes)) same in
    let items = c.in_ok-push.ensures.items in
    record {
      so_far = one_more bytes at c.in-Some.len c.min.result c.loop-len.entries.items c.push.new.self.items c.in_ok-to_vec.field-0 (entries_packed bytes) far i.few (c.in-Some.ensures.said ∙ ap said_number rest) c.min.ensures is items i.so_far;
      within = omega (arith, c.min.ensures, far);
      few = omega (arith, ap length items, length-append c.loop-len.entries.items (c.in_ok-to_vec.field-0 ∷ []), i.few);
    }

pub returns : goal.returns
returns c =
    let bytes = c.args.bytes.now in
    let i = c.loop-len.invariant in
    let few : length (drop c.loop-len.at bytes) < 8 = omega (arith, c.in_default.ensures.said, ap length (take_rest bytes c.loop-len.at)) in
    sym (append-nil (bytes_of_each c.loop-len.entries.items))
    ∙ ap (λ (l : List (List ℕ)). bytes_of_each c.loop-len.entries.items ++ l) (sym (unpack_few (length bytes - length c.loop-len.entries.items) (drop c.loop-len.at bytes) few))
    ∙ i.so_far
