use Rattle.std.proofs.Common.{rules, ◌≡◌, true}
use Rattle.runtime.specs.History.{log_prefix}
use Rattle.runtime.specs.Keeping.{IsSafe, is_kept}
use Rattle.runtime.proofs.Kept.{safe_shown}
use Rattle.runtime.proofs.locked_state.LockedState.look.Goals as goal

pub returns : goal.returns
returns g c =
    let e = g.E.End in
    let o = c.self.inside in
    let kept : is_kept o.keeping ≡ true = search rules in
    let safe : IsSafe e.may_leave e.is_log o.state.name.origin o.state.published o.end = safe_shown e.may_leave e.is_log e.has o.keeping o.state o.waiting.items o.end g.met.E.End.leaves c.self.invariant kept in
    let shown : c.prefix.result ≡ log_prefix o.state.name o.state.published = c.prefix.ensures in
    rw (← c.self.view_is, c.of.ensures) (shown, safe)
