use Rattle.std.proofs.Common.{Some, sym, subst}
use Rattle.txn.specs.Latest.{Decides, IsLastPlace}
use Rattle.txn.proofs.latest.Latest.last.Goals as goal

pub returns-in-Some : goal.returns-in-Some
returns-in-Some c =
    let at : IsLastPlace (Some c.in-Some.place.now) c.args.mutations.now c.args.key.now =
    subst (λ p. IsLastPlace p c.args.mutations.now c.args.key.now) (sym c.in-Some.ensures.value) (c.requires.1 c.if-self.false c.args.key.now) in
    subst (λ m. Decides m c.args.mutations.now c.args.key.now) (sym c.index-mutations-place.is) (at.1 c.index-mutations-place.result)
