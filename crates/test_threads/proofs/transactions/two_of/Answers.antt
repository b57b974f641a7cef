use Rattle.test_threads.proofs.Named.{both_of}
use Rattle.test_threads.proofs.transactions.two_of.Goals as goal

pub returns : goal.returns
returns g c =
    both_of _ _ _ _ _ _ _ c.requires c.pop.ensures.items c.pop-2.ensures.items c.in-Some.is c.in-Some-pop.is
