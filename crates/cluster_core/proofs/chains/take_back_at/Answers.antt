use Rattle.std.proofs.Common.{◌∙◌, [], None, Some, ap, cond, refl, rules, sym}
use Rattle.cluster_core.specs.Chains.{links_in, without}
use Rattle.cluster_core.proofs.ChainMaps.{changes_at, changes_none, changes_twice}
use Rattle.cluster_core.proofs.chains.take_back_at.Goals as goal

pub returns-in_default : goal.returns-in_default
returns-in_default c =
    changes_none c.args.key.now (without c.args.version) c.args.chains.now c.get_mut.follows.lender-at-none c.get_mut.follows.holds-at-none (sym (ap links_in c.in_default.ensures.value)) refl

pub returns-then-not-take_back : goal.returns-then-not-take_back
returns-then-not-take_back c =
    let chain = c.take_back.new.self in
    changes_twice c.args.key.now (λ _. links_in (Some chain)) (λ _. []) (without c.args.version) c.args.chains.now (c.get_mut.follows.lender chain) c.remove.new.self
    (changes_at c.args.key.now (λ _. links_in (Some chain)) c.args.chains.now (c.get_mut.follows.lender chain) (Some chain) ((c.get_mut.follows.holds chain).3 (search rules)) refl)
    (changes_at c.args.key.now (λ _. []) (c.get_mut.follows.lender chain) c.remove.new.self None c.remove.ensures.updates refl)
    (sym (c.take_back.ensures ∙ ap (λ b. cond b (links_in (Some chain)) []) c.if-not-take_back.true) ∙ ap (λ o. without c.args.version (links_in o)) c.in-Some.ensures.value)

pub returns-else-not-take_back : goal.returns-else-not-take_back
returns-else-not-take_back c =
    let chain = c.take_back.new.self in
    changes_at c.args.key.now (without c.args.version) c.args.chains.now (c.get_mut.follows.lender chain) (Some chain) ((c.get_mut.follows.holds chain).3 (search rules))
    (sym (c.take_back.ensures ∙ ap (λ b. cond b (links_in (Some chain)) []) c.if-not-take_back.false) ∙ ap (λ o. without c.args.version (links_in o)) c.in-Some.ensures.value)
