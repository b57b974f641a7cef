use Rattle.std.proofs.Common.{[], sym, subst}
use Rattle.journal.specs.Block.{StandsFor}
use Rattle.journal.proofs.Clearing.{none_stands, settled_none}
use Rattle.journal.proofs.journal.Journal.clear.Goals as goal

pub empty-requires : goal.empty-requires
empty-requires g c = let old = c.args.self.now in old.settled c.if-not-self.false

pub invariant_of-self-2 : goal.invariant_of-self-2
invariant_of-self-2 g c =
    record { settled = λ is_open. settled_none g.D.Device.seen g.D.Device.may_leave c.empty.new.device c.in_default.ensures.emptied c.in_default.ensures.durable }

pub returns-clause-cleared : goal.returns-clause-cleared
returns-clause-cleared g c = subst (λ f. StandsFor f []) (sym c.in_default.ensures.emptied) none_stands
