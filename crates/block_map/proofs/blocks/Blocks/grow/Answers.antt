use Rattle.std.proofs.Common.{◌+◌, ap, arith, length}
use Rattle.block_map.proofs.Forked.{fork_counts}
use Rattle.block_map.proofs.Joined.{lengths_joined}
use Rattle.block_map.proofs.blocks.Blocks.grow.Goals as goal

pub join-requires : goal.join-requires
join-requires g c =
    let ks = c.prepare.new.self.bounds.items in
    let bs = c.prepare.new.self.list.items in
    let forks = c.fork.ensures.list in
    fork_counts ks c.fork.new.self.bounds.items bs c.fork.new.self.list.items c.args.block c.in_ok-fresh.fresh.bound forks.left forks.right
    (omega (arith, c.requires.within, ap length c.prepare.ensures.list))
    (omega (arith, c.requires.bounds, ap length c.prepare.ensures.list, ap length c.prepare.ensures.bounds)) c.fork.ensures.bounds forks.list

pub join_before-requires : goal.join_before-requires
join_before-requires g c =
    let ks = c.prepare.new.self.bounds.items in
    let bs = c.prepare.new.self.list.items in
    let forks = c.fork.ensures.list in
    let count = fork_counts ks c.fork.new.self.bounds.items bs c.fork.new.self.list.items c.args.block c.in_ok-fresh.fresh.bound forks.left forks.right
    (omega (arith, c.requires.within, ap length c.prepare.ensures.list))
    (omega (arith, c.requires.bounds, ap length c.prepare.ensures.list, ap length c.prepare.ensures.bounds)) c.fork.ensures.bounds forks.list in
    let joined = lengths_joined (c.args.block + 1) c.fork.new.self.bounds.items c.fork.new.self.list.items count in
    omega (arith, ap length c.join.ensures.list, ap length c.join.ensures.bounds)
