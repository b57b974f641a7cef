use Rattle.std.proofs.Common.{sym, ◌∙◌}
use Rattle.runtime.proofs.Replying.{told_same}
use Rattle.runtime.proofs.transaction.Txn.call.Goals as goal

pub returns-clause-called : goal.returns-clause-called
returns-clause-called g c = record {
  reply = c.perform-reply.result;
  performed = c.perform-reply.ensures.performed;
  answer = sym c.accepted.ensures ∙ sym (told_same c.accepted.result);
}
