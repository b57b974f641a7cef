use Rattle.std.proofs.Common.{◌≡◌, ◌∙◌, [], None, Some, ap, rules, subst, sym}
use Rattle.std.proofs.lemmas.Result.{on_err_weaker, on_ok_weaker}
use Rattle.std.specs.BTreeMap.{get}
use Rattle.kv_core.specs.Bytes.{key_cmp}
use Rattle.cluster_core.specs.Chains.{links_in, put}
use Rattle.cluster_core.proofs.ChainMaps.{ChangesAt, changes_at, changes_nothing}
use Rattle.cluster_core.proofs.chains.put_at.Goals as goal

pub returns-in-Some-clause-ok : goal.returns-in-Some-clause-ok
returns-in-Some-clause-ok c =
    let chain = c.put.new.self in
    let f = put c.args.version c.args.value in
    on_ok_weaker c.put.result (λ done.
    changes_at c.args.key.now f c.args.chains.now (c.get_mut.follows.lender chain) (Some chain) ((c.get_mut.follows.holds chain).3 (search rules)) (done ∙ ap (λ o. f (links_in o)) c.in-Some.ensures.value)) c.put.ensures.ok

pub returns-in-Some-clause-err : goal.returns-in-Some-clause-err
returns-in-Some-clause-err c =
    let chain = c.put.new.self in
    on_err_weaker c.put.result (λ same.
    changes_nothing c.args.key.now c.args.chains.now (c.get_mut.follows.lender chain) (Some chain) ((c.get_mut.follows.holds chain).3 (search rules)) (same ∙ ap links_in c.in-Some.ensures.value)) c.put.ensures.err

pub returns-clause-ok : goal.returns-clause-ok
returns-clause-ok c =
    let key = c.in_ok-copy.field-0 in
    let old = c.get_mut.follows.lender-at-none in
    let chain = c.new.result in
    let f = put c.args.version c.args.value in
    let was : get key_cmp old key ≡ None = (λ i. get key_cmp (c.get_mut.follows.holds-at-none i) (c.in_ok-copy.ensures i)) ∙ sym c.in_default.ensures.value in
    subst (λ m. ChangesAt c.args.key.now f m c.insert.new.self) c.get_mut.follows.holds-at-none
    (subst (λ k. ChangesAt k f old c.insert.new.self) c.in_ok-copy.ensures
    (changes_at key f old c.insert.new.self (Some chain) c.in_ok-insert.ensures.updates (c.new.ensures ∙ sym (ap (λ o. f (links_in o)) was))))
