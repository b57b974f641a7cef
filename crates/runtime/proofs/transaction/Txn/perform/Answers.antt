use Rattle.runtime.proofs.RunAttempts.{continues_by}
use Rattle.runtime.proofs.transaction.Txn.perform.Goals as goal

pub returns-clause-performed : goal.returns-clause-performed
returns-clause-performed g c =
    let was = c.perform_here.ensures in record {
      continues = continues_by c.args.self.now.client.now c.perform_here.new.self c.args.command.now c.perform_here.result was.same was.log was.grown was.refused;
      same = was.same;
      answer = was.answer;
      open_then = was.open_then;
      grown = was.grown;
      refused = was.refused;
    }
