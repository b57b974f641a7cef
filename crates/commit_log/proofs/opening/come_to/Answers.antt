use Rattle.std.proofs.Common.{subst}
use Rattle.durable.proofs.Loading.{same_entries}
use Rattle.journal.specs.Words.{bytes_of_each}
use Rattle.replay.specs.Replaying.{IsLogged}
use Rattle.commit_log.proofs.opening.come_to.Goals as goal

pub returns-in-Ok-entries_of-clause-logged : goal.returns-in-Ok-entries_of-clause-logged
returns-in-Ok-entries_of-clause-logged c =
    let again = c.in-Ok.ensures.replayed in
    subst (λ entries. IsLogged entries c.in-Ok.image) (same_entries (bytes_of_each c.args.log.now) again.entries c.in-Ok-entries_of.entries.items again.written c.in-Ok-entries_of.ensures) again.logged
