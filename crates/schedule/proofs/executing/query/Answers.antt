use Rattle.std.proofs.Common.{refl, subst}
use Rattle.txn.proofs.Exits.{exit_with}
use Rattle.schedule.specs.declared.step.Command.TheVariants.{Query}
use Rattle.schedule.specs.Calls.{IsCommandRefused}
use Rattle.schedule.specs.Performed.{IsPerformed}
use Rattle.schedule.proofs.Querying.{query_performed, query_refused}
use Rattle.schedule.proofs.Outcomes.{refused_unopened}
use Rattle.schedule.proofs.KnownStores.{query_stays}
use Rattle.schedule.proofs.executing.query.Goals as goal

pub returns-in_err-store-clause-refused : goal.returns-in_err-store-clause-refused
returns-in_err-store-clause-refused g c =
    exit_with c.from_residual.result c.in_err-store.field-0.0 _ c.from_residual.ensures
    (refused_unopened c.args.number (Query c.args.asked.now) c.in_err-store.field-0.0 refl refl (λ m. refl) c.in_err-store.ensures.refused)

pub returns-in_err-reply-clause-refused : goal.returns-in_err-reply-clause-refused
returns-in_err-reply-clause-refused g c =
    exit_with c.from_residual-in_err-reply.result c.in_err-reply.field-0.0 _ c.from_residual-in_err-reply.ensures
    (subst (λ q. IsCommandRefused c.args.number (g.S.Snapshot.map_at c.args.db.now) (g.S.Snapshot.may_refuse c.args.db.now) (Query q) c.in_err-reply.field-0.0 c.args.tx.now c.query_reply.new.tx) c.query.ensures
    (query_refused c.args.number c.in_ok-store.store c.query.result.now c.in_err-reply.field-0.0 c.in_ok-store.ensures.prefix c.in_ok-store.ensures.opened c.in_err-reply.ensures.refused))

pub returns-clause-performed : goal.returns-clause-performed
returns-clause-performed g c =
    subst (λ q. IsPerformed c.args.number (g.S.Snapshot.map_at c.args.db.now) (λ range. g.S.Snapshot.may_refuse c.args.db.now range c.args.tx.now.read_version) (Query q) c.in_ok-reply.reply c.args.tx.now c.query_reply.new.tx) c.query.ensures
    (query_performed c.args.number c.in_ok-store.store c.query.result.now c.in_ok-reply.reply c.in_ok-store.ensures.prefix c.in_ok-store.ensures.opened c.in_ok-reply.ensures.queried)

pub returns-clause-known : goal.returns-clause-known
returns-clause-known g c = λ sees. (
  c.in_ok-store.ensures.prefix,
  query_stays (g.S.Snapshot.map_at c.args.db.now) c.in_ok-store.store _ _ c.query.result.now c.in_ok-reply.reply c.in_ok-reply.ensures.queried (c.in_ok-store.ensures.there sees),
)
