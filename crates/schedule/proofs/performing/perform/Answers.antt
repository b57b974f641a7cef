use Rattle.schedule.proofs.KnownStores.{none_known}
use Rattle.schedule.proofs.performing.perform.Goals as goal

pub perform_open-requires : goal.perform_open-requires
perform_open-requires g c = record { known = none_known c.args.number (g.S.Snapshot.map_at c.args.db.now) c.new-known.result.store c.args.tx.now c.new-known.ensures }
