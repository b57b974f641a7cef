use Rattle.std.proofs.Common.{ap, sym, subst, ◌∙◌}
use Rattle.query.specs.Checked.{query_refusal}
use Rattle.query.specs.View.{query_of}
use Rattle.query.specs.declared.filter.Query.{Query}
use Rattle.metadata.specs.Schema.{Schema}
use Rattle.record_layer.specs.declared.error.Error.TheVariants as errors
use Rattle.record_layer.specs.Sessions.{HasNoPlan, IsPlanIn, SessionView}
use Rattle.record_layer.proofs.session.Session.plan.Goals as goal

pub returns-in-Ok-clause-planned : goal.returns-in-Ok-clause-planned
returns-in-Ok-clause-planned c =
    let made = c.in-Ok.ensures in
    let asked = c.in_ok-query.ensures in
    subst (λ (session : SessionView). IsPlanIn c.args.asked.query c.in-Ok.plan session.store) c.self.view_is
    (subst (λ (query : Query). IsPlanIn query c.in-Ok.plan c.self.inside.store) asked.0 (record {
      may = ap (λ (schema : Schema). query_refusal schema (query_of c.in_ok-query.query)) (sym c.schema.ensures) ∙ asked.1;
      asked = made.query;
      typed = made.typed;
      served = made.served;
      is = made.is;
      chosen = made.chosen;
      uses = made.usable;
      scannable = made.scannable;
      right = made.right;
      answers = made.answers;
    }))

pub returns-clause-refused : goal.returns-clause-refused
returns-clause-refused c =
    let asked = c.in_ok-query.ensures in
    subst (λ (session : SessionView). HasNoPlan c.args.asked.query (errors.Plan c.in-Err.error) session.store) c.self.view_is
    (subst (λ (query : Query). HasNoPlan query (errors.Plan c.in-Err.error) c.self.inside.store) asked.0
    (ap (λ (schema : Schema). query_refusal schema (query_of c.in_ok-query.query)) (sym c.schema.ensures) ∙ asked.1, c.in-Err.ensures.refused))
