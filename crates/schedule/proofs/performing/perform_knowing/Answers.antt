use Rattle.schedule.proofs.KnownStores.{none_known}
use Rattle.schedule.proofs.performing.perform_knowing.Goals as goal

pub perform_open-reply-requires : goal.perform_open-reply-requires
perform_open-reply-requires g c = record { known = none_known c.args.number (g.S.Snapshot.map_at c.args.db.now) c.of-own.result.store c.args.tx.now c.of-own.ensures }
