use Rattle.std.proofs.Common.{◌≡◌, ◌++◌, ◌∷◌, [], subst}
use Rattle.cluster_core.proofs.Written.{either_result, write_done, write_left}
use Rattle.cluster_core.proofs.chains.Chains.write.Goals as goal

pub returns-clause-writes : goal.returns-clause-writes
returns-clause-writes c =
    let old = c.args.self.now in
    let pushed : c.push.new.self.items ≡ old.written.items ++ c.in_ok-copy.field-0 ∷ [] = c.in_ok-push.ensures.items in
    let listed = subst (λ key. c.push.new.self.items ≡ old.written.items ++ key ∷ []) c.in_ok-copy.ensures pushed in
    either_result c.put_at.result (write_done c.args.version c.args.value old.written.items c.push.new.self.items c.args.key.now old.chains c.put_at.new.chains listed)
    (write_left c.args.version old.written.items c.push.new.self.items c.args.key.now old.chains c.put_at.new.chains listed) c.put_at.ensures.ok c.put_at.ensures.err
