use Rattle.std.proofs.Common.{arith}
use Rattle.txn.proofs.LastMutations.{noted_all, noted_as_far, noted_next, noted_one_more}
use Rattle.txn.proofs.latest.Latest.catch_up.Goals as goal

pub loop-self-preserved : goal.loop-self-preserved
loop-self-preserved c = noted_next c.loop-self.self c.note.new.self c.args.mutations.now _ c.loop-self.invariant c.loop-self-test.true c.index-mutations-self.is c.in_ok-note.ensures.ok

pub loop-self-smaller : goal.loop-self-smaller
loop-self-smaller c = omega (arith, noted_one_more c.loop-self.self c.note.new.self c.args.mutations.now _ c.loop-self.invariant c.loop-self-test.true c.in_ok-note.ensures.ok)

pub returns-clause-ok : goal.returns-clause-ok
returns-clause-ok c = noted_all c.loop-self.self c.args.mutations.now c.loop-self.invariant c.loop-self-test.false

pub returns-in_err-note-clause-noted : goal.returns-in_err-note-clause-noted
returns-in_err-note-clause-noted c = noted_as_far c.loop-self.self c.note.new.self c.args.mutations.now c.loop-self.invariant c.in_err-note.ensures.err
