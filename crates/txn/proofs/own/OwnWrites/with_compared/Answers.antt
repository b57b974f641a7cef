use Rattle.std.proofs.Common.{refl}
use Rattle.txn.proofs.OneMore.{with_noted}
use Rattle.txn.proofs.own.OwnWrites.with_compared.Goals as goal

pub returns : goal.returns
returns c = λ other before.
    with_noted c.args.self (record c.args.self { compared = c.note_compared.new.compared }) c.args.mutation.now c.args.key.now c.note_compared.new.compared refl c.requires c.in_ok-note_compared.ensures other before
