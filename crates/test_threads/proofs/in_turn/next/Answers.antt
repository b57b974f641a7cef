use Rattle.test_threads.proofs.Named.{next_of, none_of, teaches}
use Rattle.test_threads.proofs.in_turn.next.Goals as goal

pub taught-next-requires : goal.taught-next-requires
taught-next-requires g c = teaches _ _ _ _ _ c.requires c.pop.ensures.items c.in-Some.is

pub returns-in-Some : goal.returns-in-Some
returns-in-Some g c = next_of _ _ _ _ _ _ c.requires c.pop.ensures.items c.in-Some.is c.taught-next.ensures.seen

pub returns-in-None : goal.returns-in-None
returns-in-None g c = none_of _ _ _ _ c.requires c.pop.ensures.items
