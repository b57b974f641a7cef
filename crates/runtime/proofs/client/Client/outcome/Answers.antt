use Rattle.std.proofs.Common.{refl, ◌≡◌, ◌<◌, ◌∙◌, sym, subst, Some}
use Rattle.std.specs.Prelude.{MatchOption}
use Rattle.left_right.specs.Sides.{view as knowledge}
use Rattle.runtime.specs.declared.submission_status.SubmissionStatus.{SubmissionStatus}
use Rattle.runtime.specs.Clients.{HasReader, Remembers}
use Rattle.runtime.specs.History.{Name, Prefix}
use Rattle.runtime.specs.Publication.{IsLater, has_seen}
use Rattle.runtime.specs.Submissions.{recent_outcome}
use Rattle.runtime.proofs.Known.{begun_later}
use Rattle.runtime.proofs.Moves.{later_self}
use Rattle.runtime.proofs.client.Client.outcome.Goals as goal

pub look_up-reader-requires-clause-client : goal.look_up-reader-requires-clause-client
look_up-reader-requires-clause-client g c =
    let me : Prefix = c.self.inside.me in
    let some : c.self.inside.reader ≡ Some c.in-Some.reader = sym c.take.ensures.value ∙ c.in-Some.is in
    let known : Remembers me (knowledge c.in-Some.reader.place) = subst (HasReader (λ r. Remembers me (knowledge r.place))) some c.self.invariant.3 in
    subst (λ (n : Name). c.self.inside.number < n.origin.config.places) known.1.0 c.self.invariant.7

-- the log by which it was told is the client's
pub invariant_of-self-then-begins : goal.invariant_of-self-then-begins
invariant_of-self-then-begins g c =
    let me : Prefix = c.self.inside.me in
    let seen : Prefix = c.in-Some-found.prefix in
    let some : c.self.inside.reader ≡ Some c.in-Some.reader = sym c.take.ensures.value ∙ c.in-Some.is in
    let known : Remembers me (knowledge c.in-Some.reader.place) = subst (HasReader (λ r. Remembers me (knowledge r.place))) some c.self.invariant.3 in
    let found : IsLater (knowledge c.in-Some.reader.place).prefix seen × (knowledge c.look_up-reader.result.0.place ≡ has_seen seen) × (c.in-Some-found.status ≡ recent_outcome seen.name.origin seen.log c.self.inside.number c.args.number) =
    subst (λ o. MatchOption o (knowledge c.look_up-reader.result.0.place ≡ knowledge c.in-Some.reader.place) (λ (p : Prefix × SubmissionStatus). IsLater (knowledge c.in-Some.reader.place).prefix p.0 × (knowledge c.look_up-reader.result.0.place ≡ has_seen p.0) × (p.1 ≡ recent_outcome p.0.name.origin p.0.log c.self.inside.number c.args.number))) c.in-Some-found.is c.look_up-reader.ensures in
    let name : seen.name ≡ me.name = found.0.0 ∙ sym known.1.0 in
    let reader : Remembers seen (knowledge c.look_up-reader.result.0.place) = subst (Remembers seen) (sym found.1) (refl, later_self seen) in
    let place : c.self.inside.number < seen.name.origin.config.places = subst (λ (n : Name). c.self.inside.number < n.origin.config.places) (sym name) c.self.invariant.7 in
    (c.self.invariant.0, c.self.invariant.1, c.self.invariant.2 ∙ sym name, reader, begun_later me seen c.self.inside.begun name c.if-begins.ensures c.self.invariant.4, c.self.invariant.5, c.self.invariant.6, place, c.self.invariant.8)
