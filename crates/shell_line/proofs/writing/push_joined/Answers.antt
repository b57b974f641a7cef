use Rattle.std.proofs.Common.{string_bytes}
use Rattle.shell_line.specs.Said.{word_text}
use Rattle.shell_line.proofs.Joined.{written_to}
use Rattle.shell_line.proofs.writing.push_joined.Goals as goal

pub loop-index-preserved : goal.loop-index-preserved
loop-index-preserved c =
    written_to word_text c.args.words.now c.loop-index.index _ (string_bytes c.args.out.now) (string_bytes c.loop-index.out) (string_bytes c.push_comma.new.out) (string_bytes c.push_written.new.out)
    c.loop-index-test.true c.loop-index.invariant c.in_ok-push_comma.ensures c.in_ok-push_written.ensures
