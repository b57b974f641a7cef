use Rattle.test_threads.proofs.Named.{first_of}
use Rattle.test_threads.proofs.transactions.two_clients.Goals as goal

pub two_of-requires : goal.two_of-requires
two_of-requires g c =
    let fresh = c.in-Ok.ensures.clients in
    first_of _ fresh.0 c.single-config.result.places fresh.2
