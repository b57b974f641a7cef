use Rattle.std.proofs.Common.{◌≡◌, ◌∙◌, ℕ, ap, arith, nat_lt, sym}
use Rattle.std.proofs.lemmas.Bool.Decides.{nat_tests}
use Rattle.std.specs.Ordering.{is_lt, nat_cmp}
use Rattle.kv_core.specs.Bytes.{key_lt}
use Rattle.kv_core.proofs.Padded.{padded_differ, padded_same}
use Rattle.kv_core.proofs.short_bytes.ShortBytes.is_before.Goals as goal

-- the test of two numbers, and how they compare
below : (a b : ℕ) → nat_lt a b ≡ is_lt (nat_cmp a b)
below a b = grind (arith, nat_tests)

pub returns-in-Some : goal.returns-in-Some
returns-in-Some c =
    below c.in-Some.word c.in-Some.other
    ∙ ap is_lt
    (c.in-Some.ensures.order
    ∙ padded_differ c.self.inside.bytes c.other.inside.bytes c.self.inside.count c.other.inside.count (c.self.told ∙ sym c.other.told)
    (rw c.self.told c.self.invariant.0) (rw c.other.told c.other.invariant.0) c.self.invariant.1 c.other.invariant.1 c.in-Some.ensures.differ)
    ∙ (λ i. key_lt (c.self.view_is i) (c.other.view_is i))

pub returns-in-None : goal.returns-in-None
returns-in-None c =
    below c.self.inside.count c.other.inside.count
    ∙ ap is_lt
    (padded_same c.self.inside.bytes c.other.inside.bytes c.self.inside.count c.other.inside.count (c.self.told ∙ sym c.other.told)
    (rw c.self.told c.self.invariant.0) (rw c.other.told c.other.invariant.0) c.self.invariant.1 c.other.invariant.1 c.in-None.ensures.same)
    ∙ (λ i. key_lt (c.self.view_is i) (c.other.view_is i))
