use Rattle.std.proofs.Common.{◌++◌, sym, subst}
use Rattle.runtime.specs.Publication.{PublisherView, Leads}
use Rattle.runtime.proofs.Moves.{rests_appended}
use Rattle.runtime.proofs.publisher.Publisher.append.Goals as goal

pub invariant_of-self : goal.invariant_of-self
invariant_of-self c =
    rw c.append.ensures.desk
    (rests_appended c.self.inside.writer.desk.shown.value _ _ _ c.args.step c.append.result c.self.invariant (subst (λ (s : PublisherView). Leads s.name (s.published ++ s.pending) c.args.step) (sym c.self.view_is) c.requires) c.append.ensures.pending)
