use Rattle.cluster_core.proofs.TierStarts.{first_kept}
use Rattle.cluster_core.proofs.server.Server.new.Goals as goal

pub returns-clause-kept : goal.returns-clause-kept
returns-clause-kept c = first_kept (record { alloc = c.args.alloc; part = c.args.part; version = c.args.version; chains = c.new.result; recent = c.new-2.result }) c.new.ensures.chains c.new.ensures.written c.new-2.ensures.items
