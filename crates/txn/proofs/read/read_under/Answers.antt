use Rattle.std.proofs.Common.{rules, ◌≡◌, ◌≤◌, length, arith}
use Rattle.std.proofs.lemmas.Grind.{common_steps}
use Rattle.txn.proofs.Rounds.{gives_on, left_on}
use Rattle.txn.proofs.read.read_under.Goals as goal

pub loop-rest-preserved : goal.loop-rest-preserved
loop-rest-preserved g c =
    let base = g.S.Snapshot.map_at c.args.db.now c.args.version in
    let pairs = c.loop-rest.pairs.items in
    let more = c.in_ok-next.next.pairs.items in
    let asked : c.args.limit ≤ c.saturating_mul-asked.result = grind (arith, common_steps) in
    let count : c.len.result ≡ length pairs = search rules in (
      asked,
      left_on c.args.range.now c.in-Some.part c.args.limit c.len.result pairs more c.append.new.self.items c.loop-rest.rest c.in-Some.is count c.in_ok-append.ensures.items
          base c.in_ok-next.next.rest c.loop-rest.invariant.1 c.in_ok-next.ensures.left,
      λ m under. gives_on c.args.range.now c.in-Some.part c.args.limit c.len.result pairs more c.append.new.self.items c.loop-rest.rest c.in-Some.is count c.in_ok-append.ensures.items
          m c.args.reverse c.in_ok-next.next.rest (c.loop-rest.invariant.2 m under) (c.in_ok-next.ensures.gives m under),
      c.loop-rest.invariant.3,
    )
