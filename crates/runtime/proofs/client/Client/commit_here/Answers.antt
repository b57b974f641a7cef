use Rattle.std.proofs.Common.{rules, Bool, true, ℕ, ◌+◌, ◌<◌, ◌≡◌, ◌∙◌, refl, sym, ap, append-nil, subst, Option, Some, [], true≢false}
use Rattle.std.specs.Prelude.{IfSome, IsErrOf}
use Rattle.std.specs.Bool.{OnTrue}
use mathlib.Core.List.{IsPrefix}
use Rattle.kv_core.specs.declared.change.CommitRequest.{CommitRequest}
use Rattle.runtime.specs.declared.open_transaction.OpenTransaction.{OpenTransaction}
use Rattle.runtime.specs.History.{Name, Prefix}
use Rattle.left_right.specs.Sides.{view as knowledge}
use Rattle.runtime.specs.Clients.{HasReader, IsBegun, Knowledge, Remembers, knows_that}
use Rattle.runtime.specs.declared.outcome.Outcome.{Outcome}
use Rattle.runtime.specs.Commits.{Answers, IsStoredThen, answer_unless, commit_answer}
use Rattle.runtime.specs.declared.answers.CommitError.TheVariants.{Closed}
use Rattle.runtime.specs.Logs.{IsOpenOver}
use Rattle.runtime.specs.Outcomes.{IsEndOf, Shows, entry, last_then}
use Rattle.runtime.proofs.Serving.{nothing_written}
use Rattle.runtime.proofs.Answering.{IsTold, answers_open, kept_where, stored_then, told_by}
use Rattle.runtime.proofs.Known.{reader_later}
use Rattle.runtime.proofs.client.Client.commit_here.Goals as goal

pub invariant_of-self-2 : goal.invariant_of-self-2
invariant_of-self-2 g c =
    let i = c.self.invariant in
    let reader : HasReader (λ r. Remembers c.learnt.result (knowledge r.place)) c.self.inside.reader = reader_later (λ r. knowledge r.place) c.self.inside.me c.learnt.result c.self.inside.reader c.learnt.ensures.name c.learnt.ensures.log i.3 in
    let place : c.self.inside.number < c.learnt.result.name.origin.config.places = subst (λ (n : Name). c.self.inside.number < n.origin.config.places) (sym c.learnt.ensures.name) i.7 in
    search (reader, place, rules)

pub critical_section-told-requires-clause-over : goal.critical_section-told-requires-clause-over
critical_section-told-requires-clause-over g c =
    let o : OpenTransaction = c.in-Some.field-0 in
    let begun : c.self.inside.begun ≡ Some o = sym (sym c.in-Some.is ∙ c.take.ensures.value) in
    let over : IsBegun c.self.inside.me (Some o) = subst (IsBegun c.self.inside.me) begun c.self.invariant.4 in
    let own : c.into_request-request.result ≡ o.transaction = search rules in
    subst (λ (q : CommitRequest). IsOpenOver o.prefix.name.origin o.prefix.log q o.trace) (sym own) over.2

pub returns-clause-answer : goal.returns-clause-answer
returns-clause-answer g c w is =
    let begun : c.self.inside.begun ≡ c.args.self.now.begun = ap (λ (k : Knowledge). k.begun) c.self.view_is in
    let some : Some c.in-Some.field-0 ≡ Some w = sym c.in-Some.is ∙ c.take.ensures.value ∙ begun ∙ is in
    let same : c.in-Some.field-0 ≡ w = cc (some) in
    let own : c.into_request-request.result ≡ c.in-Some.field-0.transaction = search rules in
    let r : c.into_request-request.result ≡ w.transaction = own ∙ ap (λ (v : OpenTransaction). v.transaction) same in
    let t : c.in-Some.field-0.trace ≡ w.trace = ap (λ (v : OpenTransaction). v.trace) same in
    let outcome : Outcome = c.critical_section-told.result.outcome in
    let seen : Option Prefix = c.critical_section-told.result.prefix in
    let last : c.critical_section-told.result.last ≡ last_then c.self.inside.last outcome = c.critical_section-told.ensures.last ∙ ap (λ (n : ℕ). last_then n outcome) c.self.invariant.6 in
    let shows : IfSome seen (λ (f : Prefix). Shows f.name.origin f.log (entry c.self.inside.number (c.self.inside.last + 1) c.into_request-request.result c.in-Some.field-0.trace) outcome) = subst (λ (own : ℕ). IfSome seen (λ (f : Prefix). Shows f.name.origin f.log (entry c.self.inside.number (own + 1) c.into_request-request.result c.in-Some.field-0.trace) outcome)) c.self.invariant.6 c.critical_section-told.ensures.shows in
    let before : Knowledge = knows_that c.self.inside.me.name c.self.inside.me.log c.self.inside.number c.self.inside.last c.self.inside.begun in
    let after : Knowledge = knows_that c.learnt.result.name c.learnt.result.log c.self.inside.number c.critical_section-told.result.last c.take.new.self in
    let told : IsTold before after c.into_request-request.result c.in-Some.field-0.trace outcome seen = told_by before after c.self.inside.me.name c.into_request-request.result c.in-Some.field-0.trace outcome seen refl c.learnt.ensures.seen shows in
    rw (← c.self.view_is, ← r, ← t) (subst (λ answer. Answers before after c.into_request-request.result c.in-Some.field-0.trace answer) (sym c.answer_to.ensures) (answers_open before after c.into_request-request.result c.in-Some.field-0.trace outcome seen c.critical_section-told.result.is_closed told last c.critical_section-told.ensures.closed))

pub returns-clause-read_only : goal.returns-clause-read_only
returns-clause-read_only g c w is none =
    let begun : c.self.inside.begun ≡ c.args.self.now.begun = ap (λ (k : Knowledge). k.begun) c.self.view_is in
    let some : Some c.in-Some.field-0 ≡ Some w = sym c.in-Some.is ∙ c.take.ensures.value ∙ begun ∙ is in
    let same : c.in-Some.field-0 ≡ w = cc (some) in
    let own : c.into_request-request.result ≡ c.in-Some.field-0.transaction = search rules in
    let r : c.into_request-request.result ≡ w.transaction = own ∙ ap (λ (v : OpenTransaction). v.transaction) same in
    let over : IsBegun c.self.inside.me (Some w) = subst (IsBegun c.self.inside.me) (begun ∙ is) c.self.invariant.4 in
    let empty : c.into_request-request.result.mutations ≡ [] = ap (λ (q : CommitRequest). q.mutations) r ∙ nothing_written w.prefix.name.origin w.prefix.log w.transaction w.trace over.2 none in
    absurd (true≢false (sym (c.if-is_empty.ensures.1 empty)))

pub returns-then-is_empty-clause-log : goal.returns-then-is_empty-clause-log
returns-then-is_empty-clause-log g c = subst (λ log. IsPrefix log c.self.inside.me.log) (ap (λ (k : Knowledge). k.log) c.self.view_is) ([], append-nil c.self.inside.me.log)

pub returns-clause-log : goal.returns-clause-log
returns-clause-log g c = subst (λ log. IsPrefix log c.learnt.result.log) (ap (λ (k : Knowledge). k.log) c.self.view_is) c.learnt.ensures.log

pub returns-clause-due : goal.returns-clause-due
returns-clause-due g c w is =
    let begun : c.self.inside.begun ≡ c.args.self.now.begun = ap (λ (k : Knowledge). k.begun) c.self.view_is in
    let some : Some c.in-Some.field-0 ≡ Some w = sym c.in-Some.is ∙ c.take.ensures.value ∙ begun ∙ is in
    let same : c.in-Some.field-0 ≡ w = cc (some) in
    let t : c.in-Some.field-0.trace ≡ w.trace = ap (λ (v : OpenTransaction). v.trace) same in
    let own : c.into_request-request.result ≡ c.in-Some.field-0.transaction = search rules in
    let r : c.into_request-request.result ≡ w.transaction = own ∙ ap (λ (v : OpenTransaction). v.transaction) same in
    let due : Option Prefix = c.critical_section-told.result.due in
    let named : IfSome due (IsEndOf c.self.inside.me.name (entry c.self.inside.number (c.self.inside.key.me.0.last + 1) c.into_request-request.result c.in-Some.field-0.trace)) =
    subst (λ (n : Name). IfSome due (IsEndOf n (entry c.self.inside.number (c.self.inside.key.me.0.last + 1) c.into_request-request.result c.in-Some.field-0.trace))) c.self.invariant.2 c.critical_section-told.ensures.due in
    let ends : IfSome due (IsEndOf c.self.inside.me.name (entry c.self.inside.number (c.self.inside.last + 1) c.into_request-request.result c.in-Some.field-0.trace)) =
    subst (λ (own : ℕ). IfSome due (IsEndOf c.self.inside.me.name (entry c.self.inside.number (own + 1) c.into_request-request.result c.in-Some.field-0.trace))) c.self.invariant.6 named in
    rw (← c.self.view_is, ← r, ← t) ends

pub returns-clause-closed : goal.returns-clause-closed
returns-clause-closed g c is =
    let outcome : Outcome = c.critical_section-told.result.outcome in
    let seen : Option Prefix = c.critical_section-told.result.prefix in
    let closed : Bool = c.critical_section-told.result.is_closed in
    let o : OpenTransaction = c.in-Some.field-0 in
    let begun : c.self.inside.begun ≡ Some o = sym (sym c.in-Some.is ∙ c.take.ensures.value) in
    let over : IsBegun c.self.inside.me (Some o) = subst (IsBegun c.self.inside.me) begun c.self.invariant.4 in
    let known : OnTrue closed (o.prefix.name.kept ≡ true) = c.critical_section-told.ensures.kept in
    let own : OnTrue closed (c.self.inside.me.name.kept ≡ true) = subst (λ (n : Name). OnTrue closed (n.kept ≡ true)) over.0 known in
    let at : IsErrOf (answer_unless closed (commit_answer outcome seen)) Closed = subst (λ answer. IsErrOf answer Closed) c.answer_to.ensures is in
    subst (λ (k : Knowledge). k.name.kept ≡ true) c.self.view_is (kept_where outcome seen closed c.self.inside.me.name.kept own at)

pub returns-clause-stored : goal.returns-clause-stored
returns-clause-stored g c =
    let e = g.E.End in
    let told = c.critical_section-told.result in
    subst (IsStoredThen e.may_leave e.is_log) (sym c.answer_to.ensures)
    (stored_then e.may_leave e.is_log told.outcome told.prefix told.is_closed c.critical_section-told.ensures.stored)
