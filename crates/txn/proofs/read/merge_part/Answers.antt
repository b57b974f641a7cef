use Rattle.std.proofs.Common.{◌≡◌, ◌<◌, ◌≤◌, ◌&&◌, ◌∙◌, ◌⊎◌, sym, ap, subst, cond, nat_lt, true, false, Bool, List, ℕ, Some, None, inl, inr, refl, length}
use Rattle.std.proofs.lemmas.Bool.{and_parts, ltb-false, ltb-true}
use Rattle.kv_core.specs.Range.{has_keys}
use Rattle.kv_core.specs.Read.{last_key, read_of}
use Rattle.kv_core.proofs.Parts.{far}
use Rattle.txn.specs.Reading.{CoversTo, IsPlaceBehind, Tell}
use Rattle.txn.proofs.Rounds.{fewer_left, gives_round, left_round, tell_near}
use Rattle.txn.proofs.read.merge_part.Goals as goal

abbrev wanted : (c : goal.After-drop-place-2) → Bool
wanted c = nat_lt (length c.in_ok-pairs.pairs.items) c.args.limit && has_keys (far c.args.reverse c.in_ok-place.place c.args.range.now)

rest_is : (c : goal.After-drop-place-2) → c.still_wanted-rest.result ≡ cond (wanted c) (Some (far c.args.reverse c.in_ok-place.place c.args.range.now)) None
rest_is c =
    c.still_wanted-rest.ensures
    ∙ (λ i. cond (nat_lt (length (c.as_slice-2.ensures.value i)) c.args.limit && has_keys (c.in_ok-near.ensures.far i)) (Some (c.in_ok-near.ensures.far i)) None)

wanting : (c : goal.After-drop-place-2) → wanted c ≡ true → length c.in_ok-pairs.pairs.items < c.args.limit
wanting c h = ltb-true (length c.in_ok-pairs.pairs.items) c.args.limit (and_parts (nat_lt (length c.in_ok-pairs.pairs.items) c.args.limit) (has_keys (far c.args.reverse c.in_ok-place.place c.args.range.now)) h).0

done : (pairs : List (List ℕ × List ℕ)) (limit : ℕ) (keys : Bool) → (nat_lt (length pairs) limit && keys) ≡ false → (limit ≤ length pairs) ⊎ (keys ≡ false)
done pairs limit keys h = by (nat_lt (length pairs) limit) refl h
  where
    by : (t : Bool) → nat_lt (length pairs) limit ≡ t → (t && keys) ≡ false → (limit ≤ length pairs) ⊎ (keys ≡ false)
    by true e h = inr h
    by false e h = inl (ltb-false (length pairs) limit e)

pub returns-clause-left : goal.returns-clause-left
returns-clause-left c = λ base asked some full is.
    left_round c.args.reverse c.args.range.now c.in_ok-place.place c.args.limit c.in_ok-pairs.pairs.items c.still_wanted-rest.result (wanted c) (rest_is c) (wanting c) base
    (fewer_left c.args.reverse base c.args.range.now asked c.args.stored.items c.in_ok-place.place some full is
    (subst (λ ps. IsPlaceBehind c.args.reverse (last_key c.args.range.now.begin ps) c.in_ok-place.place) c.as_slice.ensures.value c.in_ok-place.ensures.behind))

pub returns-clause-gives : goal.returns-clause-gives
returns-clause-gives c = λ base m asked some full is under.
    let tell : Tell c.args.own.now.cleared c.args.stored.items base c.in_ok-near.near =
    subst (Tell c.args.own.now.cleared c.args.stored.items base) (sym c.in_ok-near.ensures.near)
    (tell_near c.args.reverse c.args.own.now.cleared base c.args.range.now asked c.args.stored.items c.in_ok-place.place some full is
    (subst (λ ps. CoversTo c.args.own.now.cleared c.args.reverse (last_key c.args.range.now.begin ps) c.in_ok-place.place) c.as_slice.ensures.value c.in_ok-place.ensures.covers)) in
    gives_round c.args.reverse c.args.range.now c.in_ok-place.place c.args.limit c.in_ok-pairs.pairs.items c.still_wanted-rest.result (wanted c) (rest_is c) (wanting c) m
    (c.in_ok-pairs.ensures base m under tell ∙ ap (λ r. read_of m r c.args.limit c.args.reverse) c.in_ok-near.ensures.near)
    (done c.in_ok-pairs.pairs.items c.args.limit (has_keys (far c.args.reverse c.in_ok-place.place c.args.range.now)))
