use Rattle.std.proofs.Common.{◌∙◌, ap, sym}
use Rattle.std.proofs.lemmas.Result.{on_ok_weaker}
use Rattle.std.specs.FinMap.{insert}
use Rattle.kv_core.specs.Addition.{added}
use Rattle.kv_core.specs.Map.{after}
use Rattle.cluster_core.specs.Chains.{shown}
use Rattle.cluster_core.proofs.Shown.{get-shown, shown_put}
use Rattle.cluster_core.proofs.chains.Chains.apply.Goals as goal

pub returns-in_ok-value-in-Set-clause-ok : goal.returns-in_ok-value-in-Set-clause-ok
returns-in_ok-value-in-Set-clause-ok c =
    let old = c.args.self.now.chains in
    let key = c.in-Set.key in
    on_ok_weaker c.write.result (λ changes.
    shown_put old c.write.new.self.chains c.args.version key c.in_ok-value-in-Set.value changes
    ∙ ap (insert (shown old.entries c.args.version) key) c.in_ok-value-in-Set.ensures
    ∙ ap (λ m. after m (shown old.entries c.args.version)) (sym c.in-Set.is)) c.write.ensures.ok

pub returns-in_ok-sum-in-Add-clause-ok : goal.returns-in_ok-sum-in-Add-clause-ok
returns-in_ok-sum-in-Add-clause-ok c =
    let old = c.args.self.now.chains in
    let key = c.in-Add.key in
    on_ok_weaker c.write-in-Add.result (λ changes.
    shown_put old c.write-in-Add.new.self.chains c.args.version key c.in_ok-sum-in-Add.sum changes
    ∙ ap (insert (shown old.entries c.args.version) key) (c.in_ok-sum-in-Add.ensures ∙ ap (λ o. added o c.in-Add.operand) (sym (get-shown old c.args.version key)))
    ∙ ap (λ m. after m (shown old.entries c.args.version)) (sym c.in-Add.is)) c.write-in-Add.ensures.ok
