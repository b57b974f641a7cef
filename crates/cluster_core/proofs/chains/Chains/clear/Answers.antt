use Rattle.std.proofs.Common.{◌∙◌, None, cond, sym}
use Rattle.std.proofs.lemmas.List.{take_all}
use Rattle.kv_core.specs.Bytes.{has_key}
use Rattle.cluster_core.specs.Chains.{shown}
use Rattle.cluster_core.proofs.Shown.{cleared_map, get-shown}
use Rattle.cluster_core.proofs.Written.{Writes-trans, below_falling, cleared_more}
use Rattle.cluster_core.proofs.chains.Chains.clear.Goals as goal

pub keys_shown-requires : goal.keys_shown-requires
keys_shown-requires c = below_falling c.args.version c.args.self.now.chains c.requires

pub loop-key-preserved : goal.loop-key-preserved
loop-key-preserved c =
    let first = c.args.self.now in
    let old = c.loop-key.self in
    let new = c.write.new.self in record {
      none = cleared_more c.args.version c.deref-key-items.result.now c.loop-key.key-index c.key-item.result first.chains old.chains new.chains c.loop-key-test.true c.key-item.is c.loop-key.invariant.none
          c.in_ok-write.ensures.ok;
      writes = Writes-trans c.args.version first.written.items old.written.items new.written.items first.chains old.chains new.chains c.loop-key.invariant.writes c.in_ok-write.ensures.writes;
    }

pub returns-clause-ok : goal.returns-clause-ok
returns-clause-ok c =
    let old = c.args.self.now.chains in
    let new = c.loop-key.self.chains in
    let m = shown old.entries c.args.version in
    let keys = c.deref-key-items.result.now in
    let all = take_all c.loop-key.key-index keys c.loop-key-test.false ∙ c.deref-key-items.ensures.value ∙ c.in_ok-keys.ensures in
    cleared_map m (shown new.entries c.args.version) c.args.range.now (λ q.
    get-shown new c.args.version q ∙ c.loop-key.invariant.none q ∙ (λ i. cond (has_key (all i) q) None (sym (get-shown old c.args.version q) i)))
