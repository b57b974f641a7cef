use Rattle.std.proofs.Common.{◌∙◌, subst}
use Rattle.journal.specs.Device.{HasWritten}
use Rattle.journal.proofs.Contents.{elapses_to}
use Rattle.journal.proofs.Parts.{torn_same, torn_done}
use Rattle.journal.proofs.memory.MemoryDevice.write_at.Goals as goal

pub returns-clause-time : goal.returns-clause-time
returns-clause-time c =
    let past = c.in_ok-replace.ensures.past in
    elapses_to c.args.self.now.past.items c.replace.new.past.items past.0 c.args.self.now.bytes.items c.replace.new.bytes.items past.1 past.2

pub returns-in_err-next-clause-crash : goal.returns-in_err-next-clause-crash
returns-in_err-next-clause-crash c = torn_same c.args.at c.args.bytes.now c.args.self.now.bytes.items

pub returns-in_err-replace-clause-crash : goal.returns-in_err-replace-clause-crash
returns-in_err-replace-clause-crash c = λ f is. torn_same c.args.at c.args.bytes.now c.args.self.now.bytes.items f (is ∙ c.in_err-replace.ensures.err)

pub returns-clause-crash : goal.returns-clause-crash
returns-clause-crash c =
    let old = c.args.self.now.bytes.items in
    let done : HasWritten old c.args.at c.args.bytes.now c.in_ok-next.next.items = subst (λ f. HasWritten f c.args.at c.args.bytes.now c.in_ok-next.next.items) c.deref.ensures.value c.in_ok-next.ensures in
    λ f is. torn_done c.args.at c.args.bytes.now old c.in_ok-next.next.items done f (is ∙ c.in_ok-replace.ensures.ok)
