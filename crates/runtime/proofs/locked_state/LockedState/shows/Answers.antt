use Rattle.std.proofs.Common.{◌≡◌, true, sym, subst}
use mathlib.Core.List.{IsPrefix}
use Rattle.runtime.specs.History.{Prefix, log_prefix}
use Rattle.runtime.specs.Keeping.{IsSafe, LockedView}
use Rattle.runtime.proofs.Kept.{safe_if, safe_seen}
use Rattle.runtime.proofs.locked_state.LockedState.shows.Goals as goal

pub returns-clause-safe : goal.returns-clause-safe
returns-clause-safe g c =
    let e = g.E.End in
    let o = c.self.inside in
    let log : Prefix = c.args.log.now in
    let named : log.name ≡ o.state.name = subst (λ (v : LockedView g.row.E.Denot). log.name ≡ v.state.name) (sym c.self.view_is) c.requires in
    let seen : c.prefix.result ≡ log_prefix o.state.name o.state.published = c.prefix.ensures in
    rw (← c.self.view_is)
    (safe_if e.may_leave e.is_log c.begins-2.result (IsPrefix log.log c.prefix.result.log) (IsPrefix c.prefix.result.log log.log) (o.state.name.kept ≡ true → IsSafe e.may_leave e.is_log log.name.origin log.log o.end) c.begins-2.ensures
    (λ upto kept. safe_seen e.may_leave e.is_log e.has o.keeping o.state o.waiting.items o.end log g.met.E.End.leaves c.self.invariant named (subst (λ (p : Prefix). IsPrefix log.log p.log) seen upto) kept))
