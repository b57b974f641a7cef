use Rattle.std.proofs.Common.{◌≡◌, ◌∙◌, arith, refl, subst}
use Rattle.online_builder.specs.Stepping.{BuildTask, step_call}
use Rattle.record_store.specs.Call.{IsAnswered, IsRefused}
use Rattle.record_store.specs.Steps.{no_memory}
use Rattle.txn.proofs.Exits.{exit_with}
use Rattle.schedule.specs.declared.step.Command.TheVariants.{Build}
use Rattle.schedule.specs.Serve.{reply_to_build}
use Rattle.schedule.proofs.IndexServing.{build_meets, build_opens, build_unopened, refused_limit}
use Rattle.schedule.proofs.Outcomes.{answered_as, performed, refused, refused_unopened}
use Rattle.schedule.proofs.Looking.{looked_memory}
use Rattle.schedule.proofs.building.build.Goals as goal

pub returns-then-limit-eq0-clause-performed : goal.returns-then-limit-eq0-clause-performed
returns-then-limit-eq0-clause-performed g c = refused_limit c.args.number c.args.name.now c.args.limit c.if-limit-eq0.true refl

pub returns-in_err-store-clause-refused : goal.returns-in_err-store-clause-refused
returns-in_err-store-clause-refused g c =
    exit_with c.from_residual.result c.in_err-store.field-0.0 _ c.from_residual.ensures
    (refused_unopened c.args.number (Build c.args.name.now c.args.limit) c.in_err-store.field-0.0 (build_opens c.args.number c.args.name.now c.args.limit some) (build_unopened c.args.number c.args.name.now c.args.limit some).0 (build_unopened c.args.number c.args.name.now c.args.limit some).1 c.in_err-store.ensures.refused)
  where
    some : c.args.limit ≡ 0 → ⊥
    some is = omega (arith, is, c.if-limit-eq0.false)

pub returns-in_err-copy-clause-refused : goal.returns-in_err-copy-clause-refused
returns-in_err-copy-clause-refused g c =
    exit_with c.from_residual-in_err-copy.result no_memory _ c.from_residual-in_err-copy.ensures
    (looked_memory c.args.number c.in_ok-store.store (Build c.args.name.now c.args.limit) c.in_ok-store.ensures.prefix (build_opens c.args.number c.args.name.now c.args.limit some) c.in_ok-store.ensures.opened)
  where
    some : c.args.limit ≡ 0 → ⊥
    some is = omega (arith, is, c.if-limit-eq0.false)

pub returns-in_err-progress-clause-refused : goal.returns-in_err-progress-clause-refused
returns-in_err-progress-clause-refused g c =
    exit_with c.from_residual-in_err-progress.result c.in_err-progress.field-0.0 _ c.from_residual-in_err-progress.ensures
    (refused c.args.number c.in_ok-store.store (Build c.args.name.now c.args.limit) (λ opened. step_call opened (record { name = c.args.name.now; limit = c.args.limit })) reply_to_build c.in_err-progress.field-0.0 (build_opens c.args.number c.args.name.now c.args.limit some) c.in_ok-store.ensures.prefix
    (build_meets c.args.number c.in_ok-store.store c.args.name.now c.args.limit some) c.in_ok-store.ensures.opened
    (subst (λ (p : BuildTask). IsRefused (g.S.Snapshot.map_at c.args.db.now) (g.S.Snapshot.may_refuse c.args.db.now) c.in_ok-store.store (step_call c.in_ok-store.store p) c.in_err-progress.field-0.0 c.open.new.tx c.step.new.tx) plan_is c.in_err-progress.ensures.refused))
  where
    some : c.args.limit ≡ 0 → ⊥
    some is = omega (arith, is, c.if-limit-eq0.false)

    plan_is : c.new-builder.result ≡ record { name = c.args.name.now; limit = c.args.limit }
    plan_is = λ i. record { name = (c.new-builder.ensures.name ∙ c.in_ok-copy.ensures) i; limit = c.new-builder.ensures.limit i }

pub returns-clause-performed : goal.returns-clause-performed
returns-clause-performed g c =
    answered_as c.args.number c.build_reply.ensures
    (performed c.args.number c.in_ok-store.store (Build c.args.name.now c.args.limit) (λ opened. step_call opened (record { name = c.args.name.now; limit = c.args.limit })) reply_to_build c.in_ok-progress.progress c.in_ok-store.ensures.prefix (build_meets c.args.number c.in_ok-store.store c.args.name.now c.args.limit some) c.in_ok-store.ensures.opened
    (subst (λ (p : BuildTask). IsAnswered (g.S.Snapshot.map_at c.args.db.now) c.in_ok-store.store (step_call c.in_ok-store.store p) c.in_ok-progress.progress c.open.new.tx c.step.new.tx) plan_is c.in_ok-progress.ensures.stepped))
  where
    some : c.args.limit ≡ 0 → ⊥
    some is = omega (arith, is, c.if-limit-eq0.false)

    plan_is : c.new-builder.result ≡ record { name = c.args.name.now; limit = c.args.limit }
    plan_is = λ i. record { name = (c.new-builder.ensures.name ∙ c.in_ok-copy.ensures) i; limit = c.new-builder.ensures.limit i }
