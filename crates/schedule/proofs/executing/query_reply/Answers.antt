use Rattle.std.proofs.Common.{ap, refl, sym, ◌∙◌}
use Rattle.query.specs.Checked.{query_refusal}
use Rattle.query.specs.View.{query_of}
use Rattle.txn.proofs.Exits.{exit_with}
use Rattle.schedule.specs.declared.reply.Reply.TheVariants.{Refused}
use Rattle.schedule.specs.Executions.{bad, planned_so, unexecuted}
use Rattle.schedule.proofs.executing.query_reply.Goals as goal

pub returns-in-Err-clause-queried : goal.returns-in-Err-clause-queried
returns-in-Err-clause-queried g c =
    bad c.in-Err.error (ap (λ s. query_refusal s (query_of c.args.query.now)) (sym c.schema.ensures) ∙ c.in-Err.ensures) (ap Refused c.from.ensures) refl

pub returns-in_err-reply-in-Ok-clause-refused : goal.returns-in_err-reply-in-Ok-clause-refused
returns-in_err-reply-in-Ok-clause-refused g c =
    let made = c.in-Ok.ensures in
    exit_with c.from_residual.result c.in_err-reply-in-Ok.field-0.0 _ c.from_residual.ensures
    (unexecuted c.in-Ok.plan (record {
      unrefused = ap (λ s. query_refusal s (query_of c.args.query.now)) (sym c.schema.ensures) ∙ c.in_default.ensures;
      served = made.served;
      asked = made.query;
      typed = made.typed;
      is = made.is;
      uses = made.usable;
    }) c.in_err-reply-in-Ok.ensures.refused)

pub returns-in_ok-reply-in-Ok-clause-queried : goal.returns-in_ok-reply-in-Ok-clause-queried
returns-in_ok-reply-in-Ok-clause-queried g c =
    let made = c.in-Ok.ensures in
    planned_so c.in-Ok.plan (record {
      unrefused = ap (λ s. query_refusal s (query_of c.args.query.now)) (sym c.schema.ensures) ∙ c.in_default.ensures;
      served = made.served;
      asked = made.query;
      typed = made.typed;
      is = made.is;
      uses = made.usable;
    }) c.in_ok-reply-in-Ok.ensures.executed
