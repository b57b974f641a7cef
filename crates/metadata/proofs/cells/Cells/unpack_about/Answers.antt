use Rattle.std.proofs.Common.{sym, ◌∙◌}
use Rattle.metadata.proofs.Unpacks.{goes_on, none_begins, some_left, starts}
use Rattle.metadata.proofs.cells.Cells.unpack_about.Goals as goal

pub loop-rest-init : goal.loop-rest-init
loop-rest-init c = starts c.args.bytes.now c.in_ok-found.found.items c.in_ok-found.ensures.items

pub returns-in_default-clause-none : goal.returns-in_default-clause-none
returns-in_default-clause-none c =
    none_begins c.args.bytes.now c.loop-rest.found.items c.loop-rest.rest.now c.loop-rest.invariant (some_left c.loop-rest.rest.now (sym c.is_empty.ensures ∙ c.loop-rest-test.true))
    (rw c.in_default.is at c.in_ok-cell.ensures.none)

pub loop-rest-preserved : goal.loop-rest-preserved
loop-rest-preserved c =
    goes_on c.args.bytes.now c.loop-rest.found.items c.loop-rest.rest.now c.loop-rest.invariant (some_left c.loop-rest.rest.now (sym c.is_empty.ensures ∙ c.loop-rest-test.true))
    c.push.new.self.items c.in-Some.cell c.in-Some.behind.now (rw c.in-Some.is at c.in_ok-cell.ensures.first) c.in_ok-push.ensures.items
