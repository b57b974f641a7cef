use Rattle.std.proofs.Common.{sym, ◌∙◌}
use Rattle.planner.specs.View.{range_of}
use Rattle.explain.proofs.Tellings.{told_open}
use Rattle.explain.proofs.ranges.words_by_prefix.Goals as goal

pub returns-in-Some-split_last : goal.returns-in-Some-split_last
returns-in-Some-split_last c =
    rw (told_open (range_of c.args.range.now) c.in-Some.cells c.in-Some-split_last.fixed.now c.in-Some-split_last.last.now (sym c.in-Some.is ∙ c.in_ok-cells.ensures) (sym c.as_slice.ensures ∙ c.in-Some-split_last.ensures.cases.0)) c.prefix_words.ensures
