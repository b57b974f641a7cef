use Rattle.std.proofs.Common.{rules, ◌≡◌, ◌++◌, true, List, ap, sym, ◌∙◌}
use Rattle.command_log.specs.declared.entry.Entry.{Entry as KeptEntry}
use Rattle.runtime.specs.declared.log_entry.Entry.{Entry}
use Rattle.runtime.specs.declared.outcome.Outcome.{Outcome}
use Rattle.runtime.specs.History.{Name}
use Rattle.runtime.specs.Keeping.{IsOutcomeKnown, IsOn, IsSafe, kept_by}
use Rattle.runtime.specs.Outcomes.{next_entry}
use Rattle.runtime.specs.Traces.{Trace, changes_of}
use Rattle.runtime.proofs.Kept.{IsGrown, adds_on, closes_unwritten, grown}
use Rattle.runtime.proofs.handing_in.hand_in_kept.Goals as goal

pub of-requires-then-not-goes_on : goal.of-requires-then-not-goes_on
of-requires-then-not-goes_on g c =
    let e = g.E.End in
    let h = c.request-handed.ensures.handled in
    let still : true ≡ c.request-handed.new.self.name.kept = sym (ap (λ (n : Name). n.kept) h.name ∙ c.requires.on.0) in
    let safe : IsSafe e.may_leave e.is_log c.request-handed.new.self.name.origin c.request-handed.new.self.published c.args.end =
    closes_unwritten e.has e.may_leave e.is_log c.args.state c.request-handed.new.self c.args.waiting.items c.args.end g.met.E.End.leaves c.requires.on.1 h.name h.published in
    (still, safe)

pub of-requires-2 : goal.of-requires-2
of-requires-2 g c =
    let e = g.E.End in
    let h = c.request-handed.ensures.handled in
    let outcome : Outcome = c.request-handed.result.outcome in
    let trace : c.take_changes.new.self ≡ c.args.trace = c.take_changes.ensures.same in
    let one : Entry = next_entry c.args.state.last c.args.client c.args.request c.take_changes.new.self in
    let in_store : c.store-store.result ≡ one.trace.store = c.store-store.ensures in
    let changes : c.in-Some.changes ≡ changes_of one.trace.attempts.list = c.in-Some.ensures.changes ∙ ap (λ (t : Trace). changes_of t.attempts.list) (sym trace) in
    let known : IsOutcomeKnown outcome = search rules in
    let batch : List KeptEntry = kept_by outcome c.args.client c.last_number-number.result c.store-store.result c.in-Some.changes in
    let more : IsGrown c.args.state c.request-handed.new.self batch =
    grown c.args.state c.request-handed.new.self one outcome c.last_number-number.result c.store-store.result c.in-Some.changes h c.requires.on.1.idle c.last_number-number.ensures in_store changes known in
    let added : c.add_waiting-outcome.new.waiting.items ≡ c.reserve.new.self.items ++ kept_by outcome c.args.client c.last_number-number.result c.store-store.result c.in-Some.changes = search rules in
    let waits : c.add_waiting-outcome.new.waiting.items ≡ c.args.waiting.items ++ batch = added ∙ ap (λ (l : List KeptEntry). l ++ batch) c.reserve.ensures.items in
    let still : true ≡ c.request-handed.new.self.name.kept = sym (ap (λ (n : Name). n.kept) h.name ∙ c.requires.on.0) in
    let stands : IsOn e.has c.request-handed.new.self c.add_waiting-outcome.new.waiting.items c.args.end =
    adds_on e.has c.args.state c.request-handed.new.self c.args.waiting.items c.add_waiting-outcome.new.waiting.items batch c.args.end c.requires.on.1 h.name h.published more waits in
    (still, stands)
