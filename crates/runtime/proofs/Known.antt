-- What a client knows after a command.
use Rattle.std.proofs.Common.{◌≡◌, ℕ, ◌-◌, ◌<◌, ◌≤◌, List, Option, Some, None, refl, sym, ap, ◌∙◌, subst, arith}
use Rattle.std.specs.Prelude.{Result, Ok, Err, IfErr}
use mathlib.Core.List.{IsPrefix}
use Rattle.kv_core.specs.declared.change.CommitRequest.{CommitRequest}
use Rattle.schedule.specs.declared.step.Command.{Command}
use Rattle.schedule.specs.declared.reply.Reply.{Reply}
use Rattle.runtime.specs.declared.log_entry.Entry.{Entry}
use Rattle.runtime.specs.Traces.{Trace}
use Rattle.runtime.specs.declared.open_transaction.OpenTransaction.{OpenTransaction}
use Rattle.runtime.specs.declared.published_reads.EnterError.{EnterError}
use Rattle.runtime.specs.declared.published_reads.EnterError.TheVariants.{NotEntered, TooOld, Memory}
use Rattle.runtime.specs.declared.published.View.{View}
use Rattle.runtime.specs.History.{Prefix}
use Rattle.runtime.specs.Clients.{HasReader, IsBegun, IsSameTransaction, Remembers}
use Rattle.runtime.specs.Logs.{IsOpenOver, version_of}
use Rattle.runtime.specs.Serves.{IsUnanswered}
use Rattle.runtime.proofs.Beginnings.{prefix_trans}
use Rattle.runtime.proofs.Entries.{version_begins}
use Rattle.runtime.proofs.Moves.{later_trans}

-- a longer log begins with the log that the reader saw last, as the client's does
pub reader_later : {R : Type 0} (view : R → View) (me longer : Prefix) (reader : Option R) → longer.name ≡ me.name → IsPrefix me.log longer.log → HasReader (λ r. Remembers me (view r)) reader → HasReader (λ r. Remembers longer (view r)) reader
reader_later view me longer (Some r) name this known = (known.0, later_trans (view r).prefix me longer known.1 (name, this))
reader_later view me longer None name this known = known

-- the transaction goes on over its log, which the longer one begins with
pub begun_on : (me known : Prefix) (open_tx after : OpenTransaction) → IsBegun me (Some open_tx) → known.name ≡ me.name → IsPrefix me.log known.log → after.prefix ≡ open_tx.prefix →
    IsOpenOver open_tx.prefix.name.origin open_tx.prefix.log after.transaction after.trace → after.transaction.read_version ≡ open_tx.transaction.read_version → IsBegun known (Some after)
begun_on me known open_tx after is name log prefix over version =
    subst (λ (f : Prefix). (f.name ≡ known.name) × IsPrefix f.log known.log × IsOpenOver f.name.origin f.log after.transaction after.trace × (after.transaction.read_version ≡ version_of f.name.origin f.log)) (sym prefix)
    (is.0 ∙ sym name, prefix_trans open_tx.prefix.log me.log known.log is.1 log, over, version ∙ is.3)

-- a longer log begins with the one over which the transaction was begun
pub begun_later : (me longer : Prefix) (begun : Option OpenTransaction) → longer.name ≡ me.name → IsPrefix me.log longer.log → IsBegun me begun → IsBegun longer begun
begun_later me longer (Some open_tx) name this is = (is.0 ∙ sym name, prefix_trans open_tx.prefix.log me.log longer.log is.1 this, is.2, is.3)
begun_later me longer None name this is = is

unanswered_on : (prefix : Prefix) (seen known : List Entry) (error : EnterError) (command : Command) (old : CommitRequest) (before : Trace) (new : CommitRequest) (after : Trace) → (error ≡ TooOld → IsPrefix seen known) →
    IsUnanswered prefix seen error command old before new after → IsUnanswered prefix known error command old before new after
unanswered_on prefix seen known NotEntered command old before new after learnt is = is
unanswered_on prefix seen known TooOld command old before new after learnt is =
    let origin = prefix.name.origin in
    let window : ℕ = prefix.name.origin.config.window in
    let grown : version_of prefix.name.origin seen ≤ version_of prefix.name.origin known = version_begins prefix.name.origin seen known (learnt refl) in
    let above : window < version_of prefix.name.origin seen - version_of prefix.name.origin prefix.log = is.3 in
    (is.0, is.1, prefix_trans prefix.log seen known is.2 (learnt refl), omega (arith, grown, above))
unanswered_on prefix seen known Memory command old before new after learnt is = is

-- why a command has no reply, by the log that the client knows then
pub refused_on : (open_tx after : OpenTransaction) (seen known : List Entry) (answer : Result Reply EnterError) (command : Command) → (answer ≡ Err TooOld → IsPrefix seen known) → IsSameTransaction open_tx after →
    IfErr answer (λ error. IsUnanswered open_tx.prefix seen error command open_tx.transaction open_tx.trace after.transaction after.trace) →
    IfErr answer (λ error. (x : OpenTransaction) × (Some after ≡ Some x) × IsSameTransaction open_tx x × IsUnanswered open_tx.prefix known error command open_tx.transaction open_tx.trace x.transaction x.trace)
refused_on open_tx after seen known (Ok reply) command learnt same is = tt
refused_on open_tx after seen known (Err error) command learnt same is =
    (after, refl, same, unanswered_on open_tx.prefix seen known error command open_tx.transaction open_tx.trace after.transaction after.trace (λ old. learnt (ap Err old)) is)
