use Rattle.std.proofs.Common.{◌≡◌, ◌≤◌, length, nat_lt, true, arith}
use Rattle.std.proofs.lemmas.Bool.{lt-ltb}
use Rattle.txn.proofs.Rounds.{known_whole}
use Rattle.txn.proofs.read.read_round.Goals as goal

pub returns-then-len-asked-clause-gives : goal.returns-then-len-asked-clause-gives
returns-then-len-asked-clause-gives g c = λ m under.
    let base = g.S.Snapshot.map_at c.args.db.now c.args.version in
    let short : nat_lt (length c.in_ok-stored.stored.items) c.args.asked ≡ true = lt-ltb (length c.in_ok-stored.stored.items) c.args.asked (omega (arith, c.if-len-asked.true, c.len.ensures)) in
    c.in_ok-pairs.ensures base m under
    (known_whole c.args.own.now.cleared base c.args.range.now c.args.asked c.args.reverse c.in_ok-stored.stored.items c.requires.asked c.in_ok-stored.ensures.pairs short)

pub returns-clause-gives : goal.returns-clause-gives
returns-clause-gives g c = λ m under.
    let base = g.S.Snapshot.map_at c.args.db.now c.args.version in
    let full : c.args.asked ≤ length c.in_ok-stored.stored.items = omega (arith, c.if-len-asked.false, c.len.ensures) in
    c.in_ok-round.ensures.gives base m c.args.asked c.requires.asked full c.in_ok-stored.ensures.pairs under
