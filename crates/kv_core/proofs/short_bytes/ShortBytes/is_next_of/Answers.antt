use Rattle.std.proofs.Common.{◌≡◌, ◌≢◌, ℕ, Bool, true, false, not, Option, None, Some, IfNone, IfSome, is_some, List, ◌∙◌, sym}
use Rattle.std.proofs.lemmas.Bool.{true≢false}
use Rattle.std.specs.Bool.{MatchBool}
use Rattle.kv_core.proofs.Padded.{padded_is_next}
use Rattle.kv_core.proofs.short_bytes.ShortBytes.is_next_of.Goals as goal

-- there is no pair where the runs are equal, and else one
alike : (pair : Option (ℕ × ℕ)) (none : Bool) (us vs : List ℕ) → is_some pair ≡ not none → IfNone pair (us ≡ vs) → IfSome pair (λ p. us ≢ vs) → MatchBool none (us ≡ vs) (us ≡ vs → ⊥)
alike None true us vs e same differ = same
alike None false us vs e same differ = absurd (true≢false (sym e))
alike (Some p) true us vs e same differ = absurd (true≢false e)
alike (Some p) false us vs e same differ = differ

pub returns-then-self-other : goal.returns-then-self-other
returns-then-self-other c =
    rw (sym c.self.view_is, sym c.other.view_is)
    (padded_is_next c.self.inside.bytes c.other.inside.bytes c.self.inside.count c.other.inside.count c.is_none.result (c.self.told ∙ sym c.other.told)
    (rw c.self.told c.self.invariant.0) c.self.invariant.1 c.other.invariant.1 c.if-self-other.true
    (alike c.first_differing.result c.is_none.result c.self.inside.bytes c.other.inside.bytes c.is_none.ensures c.first_differing.ensures.same c.first_differing.ensures.differ))
