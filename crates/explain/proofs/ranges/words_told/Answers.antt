use Rattle.std.proofs.Common.{string_bytes}
use Rattle.planner.specs.View.{range_of}
use Rattle.explain.specs.Shown.{told_text}
use Rattle.explain.proofs.Tellings.{told_first, told_second}
use Rattle.explain.proofs.ranges.words_told.Goals as goal

pub returns-in-Some : goal.returns-in-Some
returns-in-Some c = told_first (told_text c.args.definition.now c.args.columns.now) (range_of c.args.range.now) (string_bytes c.in-Some.words) (rw c.in-Some.is at c.in_ok-words.ensures)

pub returns-in-None : goal.returns-in-None
returns-in-None c = rw (told_second (told_text c.args.definition.now c.args.columns.now) (range_of c.args.range.now) (rw c.in-None.is at c.in_ok-words.ensures)) c.words_by_prefix.ensures
