use Rattle.std.proofs.Common.{◌≡◌, ◌-◌, ◌≤◌, List, [], ◌∷◌, ℕ, Vec, Global, drop, take, min, length, ap, sym, ◌∙◌, arith}
use Rattle.std.specs.Option.{option_map}
use Rattle.std.proofs.lemmas.List.{drop-map, length-map, take_all}
use Rattle.std.proofs.lemmas.Result.{err_from_is_err_and}
use Rattle.journal.specs.Words.{bytes_of_each}
use Rattle.durable.proofs.Loading.{behind_loaded, behind_unreplayed, without_pairs}
use Rattle.durable.proofs.reopening.after_head.Goals as goal

-- all but the first
abbrev rest_of : List (Vec ℕ Global) → List (Vec ℕ Global)
rest_of vecs = take (length vecs - 1) (drop 1 vecs)

few_left : (vecs : List (Vec ℕ Global)) → length (drop 1 vecs) ≤ length vecs - 1
few_left [] = omega arith
few_left (vec ∷ vecs) = omega arith

bytes_of_rest : (vecs : List (Vec ℕ Global)) → bytes_of_each (rest_of vecs) ≡ drop 1 (bytes_of_each vecs)
bytes_of_rest vecs = ap bytes_of_each (take_all (length vecs - 1) (drop 1 vecs) (few_left vecs)) ∙ sym (drop-map (λ (v : Vec ℕ Global). v.items) 1 vecs)

-- the byte strings from the place on where the pairs end
bytes_after : (vecs back : List (Vec ℕ Global)) (count n : ℕ) → back ≡ drop n vecs → n ≡ min (length vecs) count → bytes_of_each back ≡ drop (min (length (bytes_of_each vecs)) count) (bytes_of_each vecs)
bytes_after vecs back count n is at =
    ap bytes_of_each is ∙ sym (drop-map (λ (v : Vec ℕ Global). v.items) n vecs)
    ∙ ap (λ m. drop m (bytes_of_each vecs)) (at ∙ ap (λ k. min k count) (sym (length-map vecs (λ (v : Vec ℕ Global). v.items))))

pub returns-in_default-2-clause-refused : goal.returns-in_default-2-clause-refused
returns-in_default-2-clause-refused c =
    let vecs = c.args.log.now in
    without_pairs (bytes_of_each vecs) (bytes_of_each (rest_of vecs)) c.args.head.now (bytes_of_rest vecs) c.requires
    (sym c.in_ok-pairs.ensures ∙ ap (option_map (λ v. v.items)) c.in_default-2.is)

pub returns-in_err-replay_on-clause-refused : goal.returns-in_err-replay_on-clause-refused
returns-in_err-replay_on-clause-refused c =
    let vecs = c.args.log.now in
    let p = err_from_is_err_and c.from_residual-in_err-replay_on.result c.from_residual-in_err-replay_on.ensures.1 in
    rw (p.1, p.2) (behind_unreplayed (bytes_of_each vecs) (bytes_of_each (rest_of vecs)) c.args.head.now (bytes_of_rest vecs) c.requires c.in-Some.pairs.items
    (sym c.in_ok-pairs.ensures ∙ ap (option_map (λ v. v.items)) c.in-Some.is) c.in_ok-image.image c.in_ok-image.ensures (bytes_of_each c.split_at.result.1.now)
    (bytes_after (rest_of vecs) c.split_at.result.1.now c.args.head.now.count c.min.result c.split_at.ensures.back c.min.ensures) c.in_err-replay_on.field-0.0 c.in_err-replay_on.ensures.refused)

pub returns-clause-loaded : goal.returns-clause-loaded
returns-clause-loaded c =
    let vecs = c.args.log.now in
    behind_loaded (bytes_of_each vecs) (bytes_of_each (rest_of vecs)) c.args.head.now (bytes_of_rest vecs) c.requires c.in-Some.pairs.items
    (sym c.in_ok-pairs.ensures ∙ ap (option_map (λ v. v.items)) c.in-Some.is) c.in_ok-image.image c.in_ok-image.ensures (bytes_of_each c.split_at.result.1.now)
    (bytes_after (rest_of vecs) c.split_at.result.1.now c.args.head.now.count c.min.result c.split_at.ensures.back c.min.ensures) c.in_ok-replay_on.field-0 c.in_ok-replay_on.ensures.replayed
