use Rattle.std.proofs.Common.{◌≡◌, ℕ, ◌<◌, ◌⊎◌, inl, inr, ◌∙◌, sym, ap, subst, Some, refl}
use mathlib.Core.List.{IsPrefix}
use Rattle.std.specs.Prelude.{IfErr}
use Rattle.runtime.specs.declared.open_transaction.OpenTransaction.{OpenTransaction}
use Rattle.runtime.specs.declared.published.View.{View}
use Rattle.schedule.specs.Known.{IsKnown}
use Rattle.runtime.specs.Clients.{IsBegun, IsKnownIn, IsSameTransaction, HasReader, Knowledge, Remembers}
use Rattle.runtime.specs.History.{Name, Prefix}
use Rattle.runtime.specs.Logs.{log_map}
use Rattle.runtime.specs.Publication.{has_seen}
use Rattle.left_right.specs.Sides.{view as knowledge}
use Rattle.runtime.specs.Serves.{IsUnanswered}
use Rattle.runtime.proofs.Known.{begun_on, refused_on}
use Rattle.runtime.proofs.Moves.{later_trans}
use Rattle.runtime.proofs.client.Client.perform_here.Goals as goal

-- the log that a command entered is remembered, as the one before is
remembered : (me longer entered : Prefix) (before after : View) → Remembers me before → (after ≡ before) ⊎ (after ≡ has_seen entered) → longer.name ≡ me.name → IsPrefix me.log longer.log → entered.name ≡ me.name → IsPrefix entered.log longer.log → Remembers longer after
remembered me longer entered before after known told name this of that = elim told [
  | inl same ↦ subst (Remembers longer) (sym same) (known.0, later_trans before.prefix me longer known.1 (name, this))
  | inr seen ↦ subst (Remembers longer) (sym seen) (refl, (name ∙ sym of, that))
]

pub invariant_of-self-2 : goal.invariant_of-self-2
invariant_of-self-2 g c =
    let i = c.self.invariant in
    let over : IsBegun c.self.inside.me (Some c.in-Some.open_tx) = subst (IsBegun c.self.inside.me) (sym c.take.ensures.value ∙ c.in-Some.is) i.4 in
    let known : Remembers c.self.inside.me (knowledge c.in-Some-take.reader.place) = subst (HasReader (λ r. Remembers c.self.inside.me (knowledge r.place))) (sym c.take-2.ensures.value ∙ c.in-Some-take.is) i.3 in
    let name : c.longer.result.name ≡ c.self.inside.me.name = c.longer.ensures.name in
    let after : OpenTransaction = record { prefix = c.in-Some.open_tx.prefix; transaction = c.perform_open_at-reader.new.tx; trace = c.perform_open_at-reader.new.trace } in (
      i.0,
      i.1,
      i.2 ∙ sym name,
      remembered c.self.inside.me c.longer.result c.perform_open_at-reader.result.2 (knowledge c.in-Some-take.reader.place) (knowledge c.perform_open_at-reader.result.0.place) known c.perform_open_at-reader.ensures.reader name c.longer.ensures.this (c.perform_open_at-reader.ensures.seen ∙ over.0) c.longer.ensures.that,
      begun_on c.self.inside.me c.longer.result c.in-Some.open_tx after over name c.longer.ensures.this refl c.perform_open_at-reader.ensures.over c.perform_open_at-reader.ensures.version,
      i.5,
      i.6,
      subst (λ (n : Name). c.self.inside.number < n.origin.config.places) (sym name) i.7,
      subst (λ (number : ℕ). IsKnown number (log_map c.in-Some.open_tx.prefix.name.origin c.in-Some.open_tx.prefix.log) c.perform_open_at-reader.new.known.store c.perform_open_at-reader.new.tx) (sym c.perform_open_at-reader.ensures.store)
          c.perform_open_at-reader.ensures.known,
    )

-- what was known of the store in the open transaction is handed down
pub perform_open_at-reader-requires-clause-known : goal.perform_open_at-reader-requires-clause-known
perform_open_at-reader-requires-clause-known g c = subst (λ o. IsKnownIn o c.self.inside.known.store) (sym c.take.ensures.value ∙ c.in-Some.is) c.self.invariant.8

pub returns-clause-refused : goal.returns-clause-refused
returns-clause-refused g c w is =
    let begun : c.self.inside.begun ≡ c.args.self.now.begun = ap (λ (k : Knowledge). k.begun) c.self.view_is in
    let some : Some c.in-Some.open_tx ≡ Some w = sym c.in-Some.is ∙ c.take.ensures.value ∙ begun ∙ is in
    let same : c.in-Some.open_tx ≡ w = cc (some) in
    let after : OpenTransaction = record { prefix = c.in-Some.open_tx.prefix; transaction = c.perform_open_at-reader.new.tx; trace = c.perform_open_at-reader.new.trace } in
    subst (λ (v : OpenTransaction). IfErr c.perform_open_at-reader.result.1 (λ error. (x : OpenTransaction) × (Some after ≡ Some x) × IsSameTransaction v x × IsUnanswered v.prefix c.longer.result.log error c.args.command.now v.transaction v.trace x.transaction x.trace)) same
    (refused_on c.in-Some.open_tx after c.perform_open_at-reader.result.2.log c.longer.result.log c.perform_open_at-reader.result.1 c.args.command.now (λ old. c.longer.ensures.that) (record { over = refl; version = c.perform_open_at-reader.ensures.version; store = c.perform_open_at-reader.ensures.store }) c.perform_open_at-reader.ensures.refused)

pub returns-clause-log : goal.returns-clause-log
returns-clause-log g c = subst (λ log. IsPrefix log c.longer.result.log) (ap (λ (k : Knowledge). k.log) c.self.view_is) c.longer.ensures.this
