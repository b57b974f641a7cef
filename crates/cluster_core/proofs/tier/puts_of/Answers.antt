use Rattle.std.proofs.Common.{◌∙◌, ap}
use Rattle.std.specs.FinMap.{empty}
use Rattle.kv_core.specs.Map.{after_all}
use Rattle.kv_core.proofs.Stored.{put_before, put_before-empty}
use Rattle.cluster_core.proofs.OverBase.{puts_turn}
use Rattle.cluster_core.proofs.tier.puts_of.Goals as goal

pub loop-key-init : goal.loop-key-init
loop-key-init c = ap (λ ms. put_before c.args.pairs.items (after_all ms empty)) c.new-mutations.ensures.items ∙ put_before-empty c.args.pairs.items

pub loop-key-preserved : goal.loop-key-preserved
loop-key-preserved c =
    puts_turn c.loop-key.rest.items c.pop.new.self.items c.loop-key.mutations.items c.push.new.self.items c.args.pairs.items c.in-Some.key c.in-Some.value c.in-Some.ensures.items
    c.in_ok-push.ensures.items c.loop-key.invariant
