use Rattle.std.proofs.Common.{sym, ap, subst, ◌∙◌}
use Rattle.std.specs.Prelude.{IsTrue}
use Rattle.kv_core.specs.Bytes.{key_le, key_lt}
use Rattle.drive.specs.Wanted.{IsAllCovered, IsRemainder}
use Rattle.drive.proofs.Resting.{covered_forward, lawful_rest, left_forward, none_never, some_made}
use Rattle.drive.proofs.wanted.rest_forward.Goals as goal

pub returns-then-not-is_before-clause-none : goal.returns-then-not-is_before-clause-none
returns-then-not-is_before-clause-none c =
    covered_forward c.args.covered.now c.args.range.now c.in_ok-place.place
    (λ q from before. c.in_ok-place.ensures.covered q (subst (λ b. IsTrue (key_le b q)) (sym c.begin.ensures.value) from) before)
    (ap (key_lt c.in_ok-place.place) (sym c.end.ensures) ∙ sym c.is_before.ensures ∙ c.if-not-is_before.true)

pub returns-clause-none : goal.returns-clause-none
returns-clause-none c =
    none_never c.new.result (record { begin = c.in_ok-place.place; end = c.in_ok-copy.field-0 }) (IsAllCovered c.args.covered.now c.args.range.now)
    (lawful_rest c.args.range.now c.in_ok-place.place c.in_ok-copy.field-0 c.begin.ensures.lawful (c.in_ok-copy.ensures ∙ c.end-2.ensures) (ap (key_lt c.in_ok-place.place) (sym c.end.ensures) ∙ sym c.is_before.ensures ∙ c.if-not-is_before.false))
    c.new.ensures.none

pub returns-clause-left : goal.returns-clause-left
returns-clause-left c =
    some_made c.new.result (record { begin = c.in_ok-place.place; end = c.in_ok-copy.field-0 }) (IsRemainder c.args.covered.now c.args.range.now) c.new.ensures.some
    (left_forward c.args.covered.now c.args.range.now c.in_ok-place.place c.in_ok-copy.field-0 (c.in_ok-copy.ensures ∙ c.end-2.ensures)
    (subst (λ b. IsTrue (key_le b c.in_ok-place.place)) c.begin.ensures.value c.in_ok-place.ensures.from)
    (λ q from before. c.in_ok-place.ensures.covered q (subst (λ b. IsTrue (key_le b q)) (sym c.begin.ensures.value) from) before))
