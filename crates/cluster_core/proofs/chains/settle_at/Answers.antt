use Rattle.std.proofs.Common.{◌∙◌, [], None, Some, ap, cond, refl, rules, sym}
use Rattle.cluster_core.specs.Chains.{links_in, needed}
use Rattle.cluster_core.proofs.ChainMaps.{changes_at, changes_none, changes_twice}
use Rattle.cluster_core.proofs.chains.settle_at.Goals as goal

pub returns-in_default : goal.returns-in_default
returns-in_default c =
    changes_none c.args.key.now (needed c.args.floor) c.args.chains.now c.get_mut.follows.lender-at-none c.get_mut.follows.holds-at-none (sym (ap links_in c.in_default.ensures.value)) refl

pub returns-then-not-settle : goal.returns-then-not-settle
returns-then-not-settle c =
    let chain = c.settle.new.self in
    changes_twice c.args.key.now (λ _. links_in (Some chain)) (λ _. []) (needed c.args.floor) c.args.chains.now (c.get_mut.follows.lender chain) c.remove.new.self
    (changes_at c.args.key.now (λ _. links_in (Some chain)) c.args.chains.now (c.get_mut.follows.lender chain) (Some chain) ((c.get_mut.follows.holds chain).3 (search rules)) refl)
    (changes_at c.args.key.now (λ _. []) (c.get_mut.follows.lender chain) c.remove.new.self None c.remove.ensures.updates refl)
    (sym (c.settle.ensures ∙ ap (λ b. cond b (links_in (Some chain)) []) c.if-not-settle.true) ∙ ap (λ o. needed c.args.floor (links_in o)) c.in-Some.ensures.value)

pub returns-else-not-settle : goal.returns-else-not-settle
returns-else-not-settle c =
    let chain = c.settle.new.self in
    changes_at c.args.key.now (needed c.args.floor) c.args.chains.now (c.get_mut.follows.lender chain) (Some chain) ((c.get_mut.follows.holds chain).3 (search rules))
    (sym (c.settle.ensures ∙ ap (λ b. cond b (links_in (Some chain)) []) c.if-not-settle.false) ∙ ap (λ o. needed c.args.floor (links_in o)) c.in-Some.ensures.value)
