use Rattle.std.proofs.Common.{ap, subst, List, refl}
use mathlib.Core.List.{IsPrefix}
use Rattle.runtime.specs.declared.log_entry.Entry.{Entry}
use Rattle.runtime.proofs.Beginnings.{by_length}
use Rattle.runtime.proofs.log_prefix.LogPrefix.begins.Goals as goal

pub returns : goal.returns
returns c =
    let both = c.learn.new.self.log in
    let this : IsPrefix c.self.inside.seen.log both = subst (λ (l : List Entry). IsPrefix l both) (ap (λ s. s.log) c.again-both.ensures) c.learn.ensures.2 in
    rw (← c.self.view_is, ← c.other.view_is) (by_length c.self.inside.seen.log c.other.inside.seen.log both c.self.inside.count c.other.inside.count this c.learn.ensures.3 c.self.invariant.0 c.other.invariant.0 _ refl)
