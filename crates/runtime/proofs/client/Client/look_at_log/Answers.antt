use Rattle.std.proofs.Common.{◌≡◌, false, subst}
use Rattle.std.specs.Prelude.{MatchOption}
use Rattle.runtime.specs.History.{Name}
use Rattle.runtime.specs.Keeping.{IsSafe}
use Rattle.runtime.proofs.client.Client.look_at_log.Goals as goal

pub returns-clause-kept : goal.returns-clause-kept
returns-clause-kept g c =
    let e = g.E.End in
    rw (← c.self.view_is)
    (subst (λ (n : Name). MatchOption c.look_there.result (n.kept ≡ false) (λ seen. (seen.1.name ≡ n) × IsSafe e.may_leave e.is_log n.origin seen.1.log seen.0.value)) c.self.invariant.2 c.look_there.ensures.seen)
