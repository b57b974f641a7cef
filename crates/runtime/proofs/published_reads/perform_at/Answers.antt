use Rattle.schedule.proofs.KnownStores.{none_known}
use Rattle.runtime.specs.Logs.{log_map}
use Rattle.runtime.proofs.published_reads.perform_at.Goals as goal

pub perform_open_at-requires-clause-known : goal.perform_open_at-requires-clause-known
perform_open_at-requires-clause-known c =
    none_known c.args.trace.now.store (log_map c.args.prefix.now.name.origin c.args.prefix.now.log) c.new-known.result.store c.args.tx.now c.new-known.ensures
