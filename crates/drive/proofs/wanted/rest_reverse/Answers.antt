use Rattle.std.proofs.Common.{◌≡◌, true, sym, ap, subst, ◌∙◌}
use Rattle.std.specs.Prelude.{IsTrue}
use Rattle.kv_core.specs.Bytes.{key_le, key_lt}
use Rattle.drive.specs.Wanted.{IsAllCovered, IsRemainder, IsUncoveredFrom}
use Rattle.drive.proofs.Resting.{covered_reverse, lawful_front, left_reverse, none_never, some_made}
use Rattle.drive.proofs.wanted.rest_reverse.Goals as goal

pub returns-then-not-is_before-clause-none : goal.returns-then-not-is_before-clause-none
returns-then-not-is_before-clause-none c =
    covered_reverse c.args.covered.now c.args.range.now c.in_ok-place.place
    (λ q from before. c.in_ok-place.ensures.covered q from (subst (λ e. IsTrue (key_lt q e)) (sym c.end.ensures) before))
    (ap (λ b. key_lt b c.in_ok-place.place) (sym c.begin.ensures.value) ∙ sym c.is_before.ensures ∙ c.if-not-is_before.true)

pub returns-clause-some : goal.returns-clause-some
returns-clause-some c =
    let below : key_lt c.in_ok-copy.field-0 c.in_ok-place.place ≡ true = ap (λ b. key_lt b c.in_ok-place.place) (c.in_ok-copy.ensures ∙ c.begin-2.ensures.value ∙ sym c.begin.ensures.value) ∙ sym c.is_before.ensures ∙ c.if-not-is_before.false in
    some_made c.new.result (record { begin = c.in_ok-copy.field-0; end = c.in_ok-place.place }) (IsUncoveredFrom c.args.covered.now true) c.new.ensures.some (below, c.in_ok-place.ensures.stops)

pub returns-clause-none : goal.returns-clause-none
returns-clause-none c =
    let below : key_lt c.args.range.now.begin c.in_ok-place.place ≡ true = ap (λ b. key_lt b c.in_ok-place.place) (sym c.begin.ensures.value) ∙ sym c.is_before.ensures ∙ c.if-not-is_before.false in
    none_never c.new.result (record { begin = c.in_ok-copy.field-0; end = c.in_ok-place.place }) (IsAllCovered c.args.covered.now c.args.range.now)
    (lawful_front c.args.range.now c.in_ok-copy.field-0 c.in_ok-place.place c.begin.ensures.lawful (c.in_ok-copy.ensures ∙ c.begin-2.ensures.value) below (subst (λ e. IsTrue (key_le c.in_ok-place.place e)) c.end.ensures c.in_ok-place.ensures.upto))
    c.new.ensures.none

pub returns-clause-left : goal.returns-clause-left
returns-clause-left c =
    some_made c.new.result (record { begin = c.in_ok-copy.field-0; end = c.in_ok-place.place }) (IsRemainder c.args.covered.now c.args.range.now) c.new.ensures.some
    (left_reverse c.args.covered.now c.args.range.now c.in_ok-copy.field-0 c.in_ok-place.place (c.in_ok-copy.ensures ∙ c.begin-2.ensures.value)
    (subst (λ e. IsTrue (key_le c.in_ok-place.place e)) c.end.ensures c.in_ok-place.ensures.upto)
    (λ q from before. c.in_ok-place.ensures.covered q from (subst (λ e. IsTrue (key_lt q e)) (sym c.end.ensures) before)))
