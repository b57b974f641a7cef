use Rattle.std.proofs.Common.{rules, ◌+◌, ◌⊎◌, ◌∙◌, ◌≡◌, sym, ap, subst, Some, refl, IfErr, IsNone}
use Rattle.kv_core.specs.Limits.{refusal_after, size_of_all}
use Rattle.kv_core.specs.declared.change.WriteError.TheVariants.{Memory}
use Rattle.kv_core.proofs.Refusals.{write_all-by_size}
use Rattle.txn.proofs.LastMutations.{as_before, with_more}
use Rattle.txn.proofs.transaction.Transaction.write_all.Goals as goal

pub returns-in_err-total-clause-refused : goal.returns-in_err-total-clause-refused
returns-in_err-total-clause-refused c =
    subst (λ r. IfErr c.from_residual.result (λ error. (error ≡ Memory) ⊎ (r ≡ Some error)))
    (sym (write_all-by_size c.args.self.now.mutations c.args.mutations.items
    ∙ ap (λ n. refusal_after n c.args.mutations.items) (ap (λ t. size_of_all t.mutations) (sym c.self.view_is) ∙ sym c.self.invariant.sized)
    ∙ ap (refusal_after c.self.inside.size) (sym c.as_slice.ensures.value))) (search rules)

pub returns-clause-allowed : goal.returns-clause-allowed
returns-clause-allowed c =
    subst IsNone (sym (write_all-by_size c.args.self.now.mutations c.args.mutations.items
    ∙ ap (λ n. refusal_after n c.args.mutations.items) (ap (λ t. size_of_all t.mutations) (sym c.self.view_is) ∙ sym c.self.invariant.sized)
    ∙ ap (refusal_after c.self.inside.size) (sym c.as_slice.ensures.value) ∙ c.in_ok-total.ensures.allowed)) refl

pub invariant_of-self : goal.invariant_of-self
invariant_of-self c =
    as_before c.self.inside.request (record c.self.inside.request { mutations = c.append.new.self }) c.self.inside.size c.self.inside.own c.self.inside.latest c.self.invariant c.in_err-append.ensures.err

pub invariant_of-self-2 : goal.invariant_of-self-2
invariant_of-self-2 c =
    with_more c.self.inside.request (record c.self.inside.request { mutations = c.append.new.self }) c.self.inside.size c.in_ok-total.total c.self.inside.own c.self.inside.latest
    c.args.mutations.items c.self.invariant c.in_ok-append.ensures.ok (c.in_ok-total.ensures.size ∙ ap (λ ms. c.self.inside.size + size_of_all ms) c.as_slice.ensures.value) c.in_ok-total.ensures.small
