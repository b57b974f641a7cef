use Rattle.std.proofs.Common.{take}
use Rattle.cluster_core.specs.Chains.{links_at, needed}
use Rattle.cluster_core.proofs.Written.{changed_more, needed_again, settled_falling}
use Rattle.cluster_core.proofs.chains.Chains.settle.Goals as goal

pub settle_at-requires : goal.settle_at-requires
settle_at-requires c = settled_falling c.args.floor (take c.loop-key.key-index c.args.keys.now) c.args.self.now.chains c.loop-key.self.chains c.requires c.loop-key.invariant.settled

pub loop-key-preserved : goal.loop-key-preserved
loop-key-preserved c = record {
  settled = changed_more (needed c.args.floor) c.args.keys.now c.loop-key.key-index c.key-item.result c.args.self.now.chains c.loop-key.self.chains c.settle_at.new.chains
      (λ q. needed_again c.args.floor (links_at c.args.self.now.chains q)) c.loop-key-test.true c.key-item.is c.loop-key.invariant.settled c.settle_at.ensures;
  written = c.loop-key.invariant.written;
}
