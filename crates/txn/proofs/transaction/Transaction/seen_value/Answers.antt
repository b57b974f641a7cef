use Rattle.std.proofs.Common.{◌∙◌, ap}
use Rattle.txn.proofs.LastMutations.{caught_up_too, clear_seen, looked_up, set_seen}
use Rattle.txn.proofs.transaction.Transaction.seen_value.Goals as goal

pub invariant_of-self : goal.invariant_of-self
invariant_of-self c =
    looked_up c.self.inside.request c.self.inside.size c.self.inside.own c.self.inside.latest c.of.new.self c.as_slice-mutations.result.now c.self.invariant c.as_slice-mutations.ensures c.of.ensures.noted

pub invariant_of-self-in_err-copy-in-Is-Set : goal.invariant_of-self-in_err-copy-in-Is-Set
invariant_of-self-in_err-copy-in-Is-Set c =
    looked_up c.self.inside.request c.self.inside.size c.self.inside.own c.self.inside.latest c.of.new.self c.as_slice-mutations.result.now c.self.invariant c.as_slice-mutations.ensures c.of.ensures.noted

pub invariant_of-self-in-Set-1 : goal.invariant_of-self-in-Set-1
invariant_of-self-in-Set-1 c =
    looked_up c.self.inside.request c.self.inside.size c.self.inside.own c.self.inside.latest c.of.new.self c.as_slice-mutations.result.now c.self.invariant c.as_slice-mutations.ensures c.of.ensures.noted

pub invariant_of-self-in-ClearRange-1 : goal.invariant_of-self-in-ClearRange-1
invariant_of-self-in-ClearRange-1 c =
    looked_up c.self.inside.request c.self.inside.size c.self.inside.own c.self.inside.latest c.of.new.self c.as_slice-mutations.result.now c.self.invariant c.as_slice-mutations.ensures c.of.ensures.noted

pub invariant_of-self-in-Missing-1 : goal.invariant_of-self-in-Missing-1
invariant_of-self-in-Missing-1 c =
    looked_up c.self.inside.request c.self.inside.size c.self.inside.own c.self.inside.latest c.of.new.self c.as_slice-mutations.result.now c.self.invariant c.as_slice-mutations.ensures c.of.ensures.noted

pub invariant_of-self-in_err-catch_up-in_default : goal.invariant_of-self-in_err-catch_up-in_default
invariant_of-self-in_err-catch_up-in_default c =
    caught_up_too c.self.inside.request c.self.inside.size c.self.inside.own c.catch_up.new.self c.self.inside.latest c.of.new.self c.as_slice-mutations.result.now c.self.invariant c.as_slice-mutations.ensures
    c.catch_up.ensures.noted c.of.ensures.noted

pub invariant_of-self-in_default : goal.invariant_of-self-in_default
invariant_of-self-in_default c =
    caught_up_too c.self.inside.request c.self.inside.size c.self.inside.own c.catch_up.new.self c.self.inside.latest c.of.new.self c.as_slice-mutations.result.now c.self.invariant c.as_slice-mutations.ensures
    c.catch_up.ensures.noted c.of.ensures.noted

pub returns-in_ok-copy-in-Is-Set-clause-value : goal.returns-in_ok-copy-in-Is-Set-clause-value
returns-in_ok-copy-in-Is-Set-clause-value c =
    set_seen c.as_slice-mutations.result.now c.args.self.now.mutations c.in-Is-Set.field-0.now _ _ c.in_ok-copy-in-Is-Set.field-0 c.args.key.now c.args.stored
    (rw c.in-Is-Set.is at c.in_ok-value.ensures.last) c.in-Is-Set.field-0-is (cc c.in_ok-copy-in-Is-Set.ensures)
    (c.as_slice-mutations.ensures ∙ ap (λ t. t.mutations) c.self.view_is)

pub returns-in-Is-ClearRange-clause-value : goal.returns-in-Is-ClearRange-clause-value
returns-in-Is-ClearRange-clause-value c =
    clear_seen c.as_slice-mutations.result.now c.args.self.now.mutations c.in-Is-ClearRange.field-0.now c.in-Is-ClearRange.field-0-0 c.args.key.now c.args.stored
    (rw c.in-Is-ClearRange.is at c.in_ok-value.ensures.last) c.in-Is-ClearRange.field-0-is (c.as_slice-mutations.ensures ∙ ap (λ t. t.mutations) c.self.view_is)
