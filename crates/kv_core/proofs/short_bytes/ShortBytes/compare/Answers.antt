use Rattle.std.proofs.Common.{◌∙◌, sym}
use Rattle.kv_core.specs.Bytes.{key_cmp}
use Rattle.kv_core.proofs.Padded.{padded_differ, padded_same}
use Rattle.kv_core.proofs.short_bytes.ShortBytes.compare.Goals as goal

pub returns-in-Some : goal.returns-in-Some
returns-in-Some c =
    c.cmp.ensures
    ∙ c.in-Some.ensures.order
    ∙ padded_differ c.self.inside.bytes c.other.inside.bytes c.self.inside.count c.other.inside.count (c.self.told ∙ sym c.other.told)
    (rw c.self.told c.self.invariant.0) (rw c.other.told c.other.invariant.0) c.self.invariant.1 c.other.invariant.1 c.in-Some.ensures.differ
    ∙ (λ i. key_cmp (c.self.view_is i) (c.other.view_is i))

pub returns-in-None : goal.returns-in-None
returns-in-None c =
    c.cmp-in-None.ensures
    ∙ padded_same c.self.inside.bytes c.other.inside.bytes c.self.inside.count c.other.inside.count (c.self.told ∙ sym c.other.told)
    (rw c.self.told c.self.invariant.0) (rw c.other.told c.other.invariant.0) c.self.invariant.1 c.other.invariant.1 c.in-None.ensures.same
    ∙ (λ i. key_cmp (c.self.view_is i) (c.other.view_is i))
