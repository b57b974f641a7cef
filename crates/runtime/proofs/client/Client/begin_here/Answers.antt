use Rattle.std.proofs.Common.{refl, ◌≡◌, ◌<◌, ◌∙◌, sym, ap, append-nil, subst, Some, []}
use Rattle.std.specs.Prelude.{MatchOption}
use Rattle.left_right.specs.Sides.{view as knowledge}
use Rattle.schedule.specs.declared.known.Known.{Known}
use Rattle.schedule.proofs.KnownStores.{none_known}
use Rattle.runtime.specs.declared.open_transaction.OpenTransaction.{OpenTransaction}
use Rattle.runtime.specs.Clients.{HasReader, IsBegun, IsKnownIn, Remembers}
use Rattle.runtime.specs.History.{Name, Prefix}
use Rattle.runtime.specs.Logs.{IsOpenOver, log_map, version_of}
use Rattle.runtime.specs.Publication.{IsLater, has_seen}
use Rattle.runtime.proofs.Moves.{later_self}
use Rattle.runtime.proofs.client.Client.begin_here.Goals as goal

-- a transaction that is open over a log, which the client has seen
begun_over : (prefix : Prefix) (w : OpenTransaction) → w.prefix ≡ prefix
    → IsOpenOver prefix.name.origin prefix.log w.transaction w.trace
    → w.transaction.read_version ≡ version_of prefix.name.origin prefix.log → IsBegun prefix (Some w)
begun_over prefix w is over at = rw is (refl, ([], append-nil prefix.log), over, at)

pub invariant_of-self-2 : goal.invariant_of-self-2
invariant_of-self-2 g c =
    let me : Prefix = c.self.inside.me in
    let some : c.self.inside.reader ≡ Some c.in-Some.reader = sym c.take.ensures.value ∙ c.in-Some.is in
    let remembered : Remembers me (knowledge c.in-Some.reader.place) = subst (HasReader (λ r. Remembers me (knowledge r.place))) some c.self.invariant.3 in
    let found : IsLater (knowledge c.in-Some.reader.place).prefix c.in-Some-seen.prefix × (knowledge c.look-reader.result.0.place ≡ has_seen c.in-Some-seen.prefix) =
    subst (λ o. MatchOption o (knowledge c.look-reader.result.0.place ≡ knowledge c.in-Some.reader.place) (λ (p : Prefix). IsLater (knowledge c.in-Some.reader.place).prefix p × (knowledge c.look-reader.result.0.place ≡ has_seen p))) c.in-Some-seen.is c.look-reader.ensures in
    let is : c.again.result ≡ c.in-Some-seen.prefix = c.again.ensures in
    let name : c.again.result.name ≡ me.name = ap (λ (r : Prefix). r.name) is ∙ found.0.0 ∙ sym remembered.1.0 in
    let reader : Remembers c.again.result (knowledge c.look-reader.result.0.place) =
    subst (λ r. Remembers r (knowledge c.look-reader.result.0.place)) (sym is) (subst (Remembers c.in-Some-seen.prefix) (sym found.1) (refl, later_self c.in-Some-seen.prefix)) in
    let begun : IsBegun c.again.result (Some c.new.result) =
    subst (λ r. IsBegun r (Some c.new.result)) (sym is) (begun_over c.in-Some-seen.prefix c.new.result c.new.ensures.prefix c.new.ensures.over c.new.ensures.at) in
    let place : c.self.inside.number < c.again.result.name.origin.config.places = subst (λ (n : Name). c.self.inside.number < n.origin.config.places) (sym name) c.self.invariant.7 in
    let known : IsKnownIn (Some c.new.result) c.let_go.new.self.store =
    none_known c.new.result.trace.store (log_map c.new.result.prefix.name.origin c.new.result.prefix.log) c.let_go.new.self.store c.new.result.transaction (ap (λ (k : Known). k.store) c.let_go.ensures) in
    (c.self.invariant.0, c.self.invariant.1, c.self.invariant.2 ∙ sym name, reader, begun, c.self.invariant.5, c.self.invariant.6, place, known)
