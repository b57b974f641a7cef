use Rattle.std.proofs.Common.{sym, ◌∙◌, ap, arith}
use Rattle.std.proofs.lemmas.List.{take_rest}
use Rattle.journal.specs.Form.{nonzeros}
use Rattle.journal.specs.Block.{said_number, entries_packed}
use Rattle.journal.proofs.Firsts.{tested_torn, tested_by}
use Rattle.journal.proofs.recovery.test_block.Goals as goal

pub returns-then-count_nonzeros-count : goal.returns-then-count_nonzeros-count
returns-then-count_nonzeros-count c =
    let block = c.args.block.now in
    sym (tested_torn block (omega (arith, c.if-count_nonzeros-count.true, c.count_nonzeros.ensures, c.in-Some.ensures.said, ap nonzeros (take_rest block 33), ap said_number (take_rest block 9))))

pub returns : goal.returns
returns c =
    let block = c.args.block.now in
    let are = sym (c.in_ok-entries.ensures ∙ ap entries_packed (take_rest block 65)) in
    c.in_ok-found.ensures
    ∙ sym (tested_by block _ (omega (arith, c.if-count_nonzeros-count.false, c.count_nonzeros.ensures, c.in-Some.ensures.said, ap nonzeros (take_rest block 33), ap said_number (take_rest block 9))) are)
