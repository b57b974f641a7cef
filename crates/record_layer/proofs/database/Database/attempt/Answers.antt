use Rattle.std.proofs.Common.{inr, refl, subst}
use Rattle.std.specs.Prelude.{Result}
use Rattle.std.specs.Fn.{CalledAtMut}
use Rattle.record_layer.specs.declared.error.Error.{Error}
use Rattle.record_layer.proofs.database.Database.attempt.Goals as goal

pub returns-in-Err-clause-refused : goal.returns-in-Err-clause-refused
returns-in-Err-clause-refused g c =
    inr (_, _, c.in_ok-session.ensures.opened, subst (λ (r : Result g.row.A.Denot Error). CalledAtMut g.F.FnMut c.args.work.now c.in_ok-session.session r c.work.new.self c.work.new.arg2) c.in-Err.is (record { shown = _; shows = refl; left = _; called = c.work.ensures; leaves = refl }))

pub returns-in-Ok-clause-made : goal.returns-in-Ok-clause-made
returns-in-Ok-clause-made g c =
    (_, _, c.in_ok-session.ensures.opened, subst (λ (r : Result g.row.A.Denot Error). CalledAtMut g.F.FnMut c.args.work.now c.in_ok-session.session r c.work.new.self c.work.new.arg2) c.in-Ok.is (record { shown = _; shows = refl; left = _; called = c.work.ensures; leaves = refl }), search)
