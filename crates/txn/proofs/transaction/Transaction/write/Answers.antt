use Rattle.std.proofs.Common.{◌+◌, [], ◌∷◌, arith}
use Rattle.txn.proofs.LastMutations.{as_before, with_more}
use Rattle.txn.proofs.transaction.Transaction.write.Goals as goal

pub invariant_of-self : goal.invariant_of-self
invariant_of-self c =
    as_before c.self.inside.request (record c.self.inside.request { mutations = c.push.new.self }) c.self.inside.size c.self.inside.own c.self.inside.latest c.self.invariant c.in_err-push.ensures.err

pub invariant_of-self-2 : goal.invariant_of-self-2
invariant_of-self-2 c =
    with_more c.self.inside.request (record c.self.inside.request { mutations = c.push.new.self }) c.self.inside.size (c.self.inside.size + c.in_ok-size.size) c.self.inside.own c.self.inside.latest
    (c.args.mutation ∷ []) c.self.invariant c.in_ok-push.ensures.ok (omega (arith, c.in_ok-size.ensures.size)) (omega (arith, c.if-total-gt-MAX_TRANSACTION_BYTES.false))
