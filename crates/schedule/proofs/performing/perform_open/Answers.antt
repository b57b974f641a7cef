use Rattle.std.proofs.lemmas.Result.{IfOk-weaker}
use Rattle.schedule.proofs.performing.perform_open.Goals as goal

pub returns-in-Err-clause-performed : goal.returns-in-Err-clause-performed
returns-in-Err-clause-performed g c = IfOk-weaker c.reply_of.result _ _ (λ answer is. c.in-Err.ensures.refused.replied answer is) c.reply_of.ensures.reply
