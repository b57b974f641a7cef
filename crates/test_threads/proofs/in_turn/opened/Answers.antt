use Rattle.test_threads.proofs.Named.{first_of}
use Rattle.test_threads.proofs.in_turn.opened.Goals as goal

pub four_turns-requires : goal.four_turns-requires
four_turns-requires g c =
    let fresh = c.in-Ok.ensures.clients in
    first_of _ fresh.0 c.args.config.now.places fresh.2
