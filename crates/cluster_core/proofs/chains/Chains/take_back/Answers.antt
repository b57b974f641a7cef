use Rattle.std.proofs.Common.{◌∙◌, ap, subst, sym}
use Rattle.kv_core.specs.Bytes.{has_key}
use Rattle.cluster_core.specs.Chains.{AreBelow, links_at, without}
use Rattle.cluster_core.proofs.Written.{all_taken, changed_more, without_twice}
use Rattle.cluster_core.proofs.chains.Chains.take_back.Goals as goal

pub loop-key-preserved : goal.loop-key-preserved
loop-key-preserved c =
    let first = c.take_written-written.new.self.chains in
    let below = subst (AreBelow c.args.version) (sym c.take_written-written.ensures.chains) c.requires.below in record {
      taken = changed_more (without c.args.version) c.deref-key-items.result.now c.loop-key.key-index c.key-item.result first c.loop-key.self.chains c.take_back_at.new.chains
          (without_twice c.args.version first below) c.loop-key-test.true c.key-item.is c.loop-key.invariant.taken c.take_back_at.ensures;
      written = c.loop-key.invariant.written;
    }

pub returns-clause-chains : goal.returns-clause-chains
returns-clause-chains c =
    let version = c.args.version in
    let first = c.take_written-written.new.self.chains in
    let keys = c.deref-key-items.result.now in
    let kept = c.take_written-written.ensures.chains in
    let listed = c.deref-key-items.ensures.value ∙ c.take_written-written.ensures.keys in
    λ key. all_taken version keys c.loop-key.key-index first c.loop-key.self.chains c.loop-key-test.false
    (λ k other. ap (λ t. without version (links_at t k)) kept ∙ c.requires.same k (sym (ap (λ ks. has_key ks k) listed) ∙ other) ∙ sym (ap (λ t. links_at t k) kept))
    c.loop-key.invariant.taken key
    ∙ ap (λ t. without version (links_at t key)) kept
