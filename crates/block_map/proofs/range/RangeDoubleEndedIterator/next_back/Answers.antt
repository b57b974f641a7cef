use Rattle.std.proofs.Common.{◌∙◌, ap, slice_range, subst}
use Rattle.std.specs.Map.Iter.{TakesLast, deref_pair}
use Rattle.std_collections.proofs.IterRuns.{last_progress}
use Rattle.block_map.proofs.Going.{goes_back, last_filled, whole_part}
use Rattle.block_map.proofs.range.RangeDoubleEndedIterator.next_back.Goals as goal

pub returns-clause-steps : goal.returns-clause-steps
returns-clause-steps g c =
    let s = c.self.inside in
    let part = c.in-Some-split_last.block.now in
    let last = c.in-Some-split_last.ensures.cases.0 in
    goes_back deref_pair c.args.self.now s.front s.back part c.take_last-2.new.self s.middle.now c.in-Some-split_last.rest.now c.take_last-2.result c.self.view_is c.in_default.ensures.0 last
    (last_filled s.middle.now c.in-Some-split_last.rest.now part last c.self.invariant)
    (subst (λ l. TakesLast deref_pair l c.take_last-2.result c.take_last-2.new.self) (c.part-self-inside.ensures ∙ ap (slice_range part 0) c.len.ensures.value ∙ whole_part part) c.take_last-2.ensures)

pub returns-clause-goes : goal.returns-clause-goes
returns-clause-goes g c =
    last_progress deref_pair c.args.self.now _ c.take_last-2.result (returns-clause-steps g c)
