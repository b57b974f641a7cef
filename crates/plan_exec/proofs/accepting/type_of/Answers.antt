use Rattle.std.proofs.Common.{◌≡◌, ◌∙◌, ap, sym, Some, true, false}
use Rattle.std.specs.Option.{option_copied}
use Rattle.metadata.specs.Schema.{find_type}
use Rattle.planner.specs.View.{plan_of}
use Rattle.plan_exec.specs.Accepting.{extends}
use Rattle.plan_exec.proofs.Accepted.{type_found, type_other}
use Rattle.plan_exec.proofs.accepting.type_of.Goals as goal

pub returns-then-extends-clause-found : goal.returns-then-extends-clause-found
returns-then-extends-clause-found c =
    let named : find_type c.args.store.now.schema c.args.plan.now.definition.name ≡ Some c.in-Some.definition.now =
    (λ i. find_type (sym c.schema.ensures i) (sym c.definition.ensures i).name) ∙ sym c.type_named.ensures ∙ ap option_copied c.in-Some.is in
    let so : extends c.args.plan.now.definition c.in-Some.definition.now ≡ true = ap (λ t. extends t c.in-Some.definition.now) (sym c.definition-in-Some.ensures) ∙ sym c.extends.ensures ∙ c.if-extends.true in
    type_found c.args.store.now (plan_of c.args.plan.now) c.in-Some.definition.now named so

pub returns-else-extends-clause-none : goal.returns-else-extends-clause-none
returns-else-extends-clause-none c =
    let named : find_type c.args.store.now.schema c.args.plan.now.definition.name ≡ Some c.in-Some.definition.now =
    (λ i. find_type (sym c.schema.ensures i) (sym c.definition.ensures i).name) ∙ sym c.type_named.ensures ∙ ap option_copied c.in-Some.is in
    let so : extends c.args.plan.now.definition c.in-Some.definition.now ≡ false = ap (λ t. extends t c.in-Some.definition.now) (sym c.definition-in-Some.ensures) ∙ sym c.extends.ensures ∙ c.if-extends.false in
    type_other c.args.store.now (plan_of c.args.plan.now) c.in-Some.definition.now named so
