use Rattle.std.proofs.Common.{ℕ, List, inl, sym, subst, ◌∙◌}
use Rattle.runtime.specs.declared.log_entry.Entry.{Entry}
use Rattle.runtime.specs.declared.outcome.Outcome.{Outcome}
use Rattle.runtime.specs.CommitStates.{CommitView, IsHandled}
use Rattle.runtime.specs.Logs.{AreGiven}
use Rattle.runtime.specs.Outcomes.{next_entry}
use Rattle.runtime.proofs.Handled.{handled_unfinished}
use Rattle.runtime.proofs.Numbers.{earlier_next}
use Rattle.runtime.proofs.commit_state.CommitState.request.Goals as goal

pub returns-then-not-finish-clause-handled : goal.returns-then-not-finish-clause-handled
returns-then-not-finish-clause-handled c =
    let old = c.args.self.now in
    let s = c.finish.new.self in
    let e = c.finish.ensures in
    subst (λ (outcome : Outcome). IsHandled old s (next_entry old.last c.args.client c.args.request c.args.trace) outcome) (sym c.without.ensures.0)
    (handled_unfinished old s (next_entry old.last c.args.client c.args.request c.args.trace) e.name e.published c.if-not-finish.ensures.stays e.due e.last e.waiting
    (earlier_next old.last c.args.client c.args.request c.args.trace old.due e.given))

pub submit-requires-clause-waiting : goal.submit-requires-clause-waiting
submit-requires-clause-waiting c = inl (c.finish.ensures.due ∙ sym c.if-not-finish.ensures.done)

pub submit-requires-clause-earlier : goal.submit-requires-clause-earlier
submit-requires-clause-earlier c =
    let old : CommitView = c.args.self.now in
    let s : CommitView = c.finish.new.self in
    let e = c.finish.ensures in
    earlier_next s.last c.args.client c.args.request c.args.trace s.due
    (subst (λ (l : List ℕ). AreGiven l s.due) (sym e.last) (subst (λ (d : List Entry). AreGiven old.last d) (sym e.due) e.given))
