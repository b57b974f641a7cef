use Rattle.std.proofs.Common.{◌≡◌, ℕ, ◌+◌, ◌<◌, arith, true, None, List, [], ◌∷◌, ◌++◌, length, sym, ap, ◌∙◌, refl, subst}
use Rattle.std.specs.Prelude.{slice_index, slice_set}
use mathlib.Core.List.{IsPrefix}
use Rattle.cluster_core.specs.Cluster.{without_servers}
use Rattle.cluster_core.specs.Roles.{told, whole}
use Rattle.kv_core.specs.declared.change.CommitRequest.{CommitRequest}
use Rattle.commits.specs.Holds.{HeldError}
use Rattle.commits.specs.declared.commit.HoldError.{HoldError}
use Rattle.runtime.specs.declared.log_entry.Entry.{Entry}
use Rattle.runtime.specs.declared.in_flight.Due.{Due}
use Rattle.runtime.specs.History.{Name, Prefix, submitted_entry}
use Rattle.runtime.specs.Logs.{AreCounted, AreGiven, IsWellFormedLog, IsOpenOver, count_of, is_numbered, pipeline_of, cause_next, version_of}
use Rattle.runtime.specs.CommitStates.{CommitView, IsInFlight, due_of}
use Rattle.runtime.specs.Outcomes.{entry, next_entry}
use Rattle.runtime.proofs.Numbers.{counted_next, given_next}
use Rattle.runtime.proofs.Reporting.{commit_next, due_decided, held_next, held_whole, taken_next}
use Rattle.runtime.proofs.commit_state.CommitState.submit.Goals as goal

pub invariant_of-self : goal.invariant_of-self
invariant_of-self c =
    let i = c.self.invariant in
    let n : Name = c.self.inside.publisher.name in
    let log : List Entry = c.self.inside.publisher.published ++ c.self.inside.publisher.pending in
    let last : List ℕ = c.self.inside.last.items in
    let old : whole c.self.inside.pipeline ≡ pipeline_of n.origin log = subst (IsInFlight n log (whole c.self.inside.pipeline)) c.in-Idle.is i.2 in
    let num : is_numbered last log ≡ true = subst (λ f. is_numbered last (due_of f log) ≡ true) c.in-Idle.is i.3 in
    let are : AreGiven last log = subst (λ f. AreGiven last (due_of f log)) c.in-Idle.is i.4 in
    let counted : AreCounted last log = subst (λ f. AreCounted last (due_of f log)) c.in-Idle.is i.5 in
    let law : IsWellFormedLog n.origin log = subst (λ (r : Prefix). IsWellFormedLog r.name.origin r.log) i.1 c.len.ensures.well_formed in
    let begins : IsPrefix c.args.prefix.now.log log = subst (λ (r : Prefix). IsPrefix c.args.prefix.now.log r.log) i.1 c.if-not-begins.ensures in
    let over : IsOpenOver n.origin c.args.prefix.now.log c.args.request c.args.trace = subst (λ (h : CommitView). IsOpenOver h.name.origin c.args.prefix.now.log c.args.request c.args.trace) (sym c.self.view_is) c.requires.open in
    let some = subst (λ (h : CommitView). (c.in_ok-number.number ≡ slice_index h.last c.args.client + 1) × (c.args.client < length h.last)) (sym c.self.view_is) (c.in_ok-number.ensures.next, c.in_ok-number.ensures.client) in
    let next : c.in_ok-number.number ≡ slice_index last c.args.client + 1 = some.0 in
    let above : slice_index last c.args.client < c.in_ok-number.number = omega (arith, next) in
    let turn : c.in_ok-number.number ≡ count_of c.args.client log + 1 = next ∙ ap (λ (n : ℕ). n + 1) (counted.counts c.args.client) in
    let due : Due = record { submitted = record { client = c.args.client; number = c.in_ok-number.number; request = c.of.result; trace = c.args.trace }; mutations = c.in_ok-mutations.mutations; prefix = None } in
    let e : Entry = submitted_entry due.submitted in
    let t = taken_next n last log c.args.prefix.now.log due c.args.request (whole c.self.inside.pipeline) (whole c.commit.new.self) c.in-Ok.reported
    law begins over c.of.ensures num some.1 above turn old (ap whole c.in-Ok.ensures.handled) c.in-Ok.ensures.decided c.in-Ok.ensures.allowed c.in_ok-mutations.ensures tt in
    let at : due_of c.decided.result log ≡ log ++ e ∷ [] = ap (λ f. due_of f log) c.decided.ensures ∙ due_decided c.in-Ok.reported due log in (
      i.0,
      i.1,
      subst (IsInFlight n log (whole c.commit.new.self)) (sym c.decided.ensures) t.0,
      subst (λ (l : List Entry). is_numbered (slice_set last c.args.client c.in_ok-number.number) l ≡ true) (sym at) t.1,
      subst (AreGiven (slice_set last c.args.client c.in_ok-number.number)) (sym at) (given_next last c.args.client c.in_ok-number.number log e some.1 refl refl next are),
      subst (AreCounted (slice_set last c.args.client c.in_ok-number.number)) (sym at) (counted_next last c.args.client c.in_ok-number.number log e some.1 refl next counted),
    )

pub invariant_of-self-in-Err-Unknown : goal.invariant_of-self-in-Err-Unknown
invariant_of-self-in-Err-Unknown c =
    let i = c.self.invariant in
    let n : Name = c.self.inside.publisher.name in
    let log : List Entry = c.self.inside.publisher.published ++ c.self.inside.publisher.pending in
    let last : List ℕ = c.self.inside.last.items in
    let old : whole c.self.inside.pipeline ≡ pipeline_of n.origin log = subst (IsInFlight n log (whole c.self.inside.pipeline)) c.in-Idle.is i.2 in
    let num : is_numbered last log ≡ true = subst (λ f. is_numbered last (due_of f log) ≡ true) c.in-Idle.is i.3 in
    let are : AreGiven last log = subst (λ f. AreGiven last (due_of f log)) c.in-Idle.is i.4 in
    let counted : AreCounted last log = subst (λ f. AreCounted last (due_of f log)) c.in-Idle.is i.5 in
    let law : IsWellFormedLog n.origin log = subst (λ (r : Prefix). IsWellFormedLog r.name.origin r.log) i.1 c.len.ensures.well_formed in
    let begins : IsPrefix c.args.prefix.now.log log = subst (λ (r : Prefix). IsPrefix c.args.prefix.now.log r.log) i.1 c.if-not-begins.ensures in
    let over : IsOpenOver n.origin c.args.prefix.now.log c.args.request c.args.trace = subst (λ (h : CommitView). IsOpenOver h.name.origin c.args.prefix.now.log c.args.request c.args.trace) (sym c.self.view_is) c.requires.open in
    let some = subst (λ (h : CommitView). (c.in_ok-number.number ≡ slice_index h.last c.args.client + 1) × (c.args.client < length h.last)) (sym c.self.view_is) (c.in_ok-number.ensures.next, c.in_ok-number.ensures.client) in
    let next : c.in_ok-number.number ≡ slice_index last c.args.client + 1 = some.0 in
    let above : slice_index last c.args.client < c.in_ok-number.number = omega (arith, next) in
    let turn : c.in_ok-number.number ≡ count_of c.args.client log + 1 = next ∙ ap (λ (n : ℕ). n + 1) (counted.counts c.args.client) in
    let due : Due = record { submitted = record { client = c.args.client; number = c.in_ok-number.number; request = c.of.result; trace = c.args.trace }; mutations = c.in_ok-mutations.mutations; prefix = None } in
    let e : Entry = submitted_entry due.submitted in
    let held = subst (λ (e : HoldError). HeldError e c.args.request (without_servers c.self.inside.pipeline) (without_servers c.commit.new.self)) c.in-Err-Unknown.field-0-is c.in-Err-Unknown.ensures.refused in
    let t = held_next n last log c.args.prefix.now.log due c.args.request (whole c.self.inside.pipeline) (whole c.commit.new.self)
    law begins over c.of.ensures num some.1 above turn old (held_whole c.args.request c.self.inside.pipeline c.commit.new.self held) c.in_ok-mutations.ensures tt in
    (i.0, i.1, t.0, t.1, given_next last c.args.client c.in_ok-number.number log e some.1 refl refl next are, counted_next last c.args.client c.in_ok-number.number log e some.1 refl next counted)

pub returns-in-Ok-clause-told : goal.returns-in-Ok-clause-told
returns-in-Ok-clause-told c =
    let n : Name = c.self.inside.publisher.name in
    let log : List Entry = c.self.inside.publisher.published ++ c.self.inside.publisher.pending in
    let old : whole c.self.inside.pipeline ≡ pipeline_of n.origin log = subst (IsInFlight n log (whole c.self.inside.pipeline)) c.in-Idle.is c.self.invariant.2 in
    let e : Entry = entry c.args.client c.in_ok-number.number c.args.request c.args.trace in
    let next = commit_next n.origin log e (whole c.self.inside.pipeline) (whole c.commit.new.self) c.in-Ok.reported old (ap whole c.in-Ok.ensures.handled) c.in-Ok.ensures.decided in
    let due : due_of c.self.inside.in_flight log ≡ log = ap (λ f. due_of f log) c.in-Idle.is in
    subst (λ (h : CommitView). c.in-Ok.reported ≡ told (cause_next h.name.origin h.due c.args.request) (version_of h.name.origin h.due + 1)) c.self.view_is
    (subst (λ (l : List Entry). c.in-Ok.reported ≡ told (cause_next n.origin l c.args.request) (version_of n.origin l + 1)) (sym due) next.1)

pub returns-in-Ok-clause-taken : goal.returns-in-Ok-clause-taken
returns-in-Ok-clause-taken c =
    let n : Name = c.self.inside.publisher.name in
    let log : List Entry = c.self.inside.publisher.published ++ c.self.inside.publisher.pending in
    let none : due_of c.self.inside.in_flight log ≡ log = ap (λ f. due_of f log) c.in-Idle.is in
    let due = log ++ entry c.args.client c.in_ok-number.number c.of.result.value c.args.trace ∷ [] in
    let made : due ≡ log ++ entry c.args.client c.in_ok-number.number c.args.request c.args.trace ∷ [] = ap (λ (r : CommitRequest). log ++ entry c.args.client c.in_ok-number.number r c.args.trace ∷ []) c.of.ensures in
    let next : due ≡ log ++ next_entry c.args.self.now.last c.args.client c.args.request c.args.trace ∷ [] = made ∙ ap (λ (number : ℕ). log ++ entry c.args.client number c.args.request c.args.trace ∷ []) c.in_ok-number.ensures.next in
    let given : Due = record { submitted = record { client = c.args.client; number = c.in_ok-number.number; request = c.of.result; trace = c.args.trace }; mutations = c.in_ok-mutations.mutations; prefix = None } in
    let at : due_of c.decided.result log ≡ due = ap (λ f. due_of f log) c.decided.ensures ∙ due_decided c.in-Ok.reported given log in
    subst
    (λ (h : CommitView). (n ≡ h.name) × (c.self.inside.publisher.published ≡ h.published) × ((log ≡ h.due) × (due_of c.decided.result log ≡ h.due ++ next_entry c.args.self.now.last c.args.client c.args.request c.args.trace ∷ []))) c.self.view_is
    (refl, refl, (sym none, at ∙ next ∙ ap (λ (l : List Entry). l ++ next_entry c.args.self.now.last c.args.client c.args.request c.args.trace ∷ []) (sym none)))
