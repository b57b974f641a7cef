use Rattle.std.proofs.Common.{sym, ◌∙◌}
use Rattle.journal.specs.Words.{bytes_of_each}
use Rattle.durable.proofs.Loading.{replayed_loaded}
use Rattle.durable.proofs.reopening.loaded.Goals as goal

pub returns-in_ok-replay-in-None-clause-loaded : goal.returns-in_ok-replay-in-None-clause-loaded
returns-in_ok-replay-in-None-clause-loaded c =
    replayed_loaded (bytes_of_each c.args.log.now) c.in_ok-replay-in-None.field-0 (sym c.first_head.ensures ∙ c.in-None.is) c.in_ok-replay-in-None.ensures.replayed
