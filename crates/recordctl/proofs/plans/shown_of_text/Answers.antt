use Rattle.recordctl.proofs.plans.shown_of_text.Goals as goal

pub returns-clause-ok : goal.returns-clause-ok
returns-clause-ok c = record { plan = c.in-Ok.plan; asked = c.in-Ok.ensures.ok; is = c.in_ok-printed.ensures }
