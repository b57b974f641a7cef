use Rattle.std.proofs.Common.{◌≡◌, ap}
use Rattle.runtime.specs.CommitLocks.{taken_by}
use Rattle.runtime.specs.Keeping.{LockedView}
use Rattle.runtime.specs.Outcomes.{next_entry}
use Rattle.runtime.proofs.Returning.{others_stay, returns_by}
use Rattle.runtime.proofs.critical_section.handed_in.Goals as goal

pub put-requires-clause-numbers : goal.put-requires-clause-numbers
put-requires-clause-numbers g c =
    let before = c.take-owned.result.state.last in
    let after = c.hand_in-owned.result.0.state.last in
    let me : c.take-owned.new.key.me.0 ≡ taken_by c.take-owned.result c.args.key.now.me.0 = ap (λ m. m.0) c.take-owned.ensures.key.1 in
    returns_by (λ (o : LockedView g.row.E.Denot). o.state.last) c.take-owned.new.key.me.0 c.args.key.now.me.0 c.take-owned.result c.args.client after me c.requires.client
    (others_stay before after (next_entry before c.args.client c.args.request c.args.trace) c.hand_in-owned.result.1.outcome c.hand_in-owned.ensures.numbers)
