use Rattle.std.proofs.Common.{◌≡◌, ◌∙◌, ap}
use Rattle.std.specs.Prelude.{is_none}
use Rattle.range_set.specs.Calls.{all_ranges}
use Rattle.range_set.specs.Gaps.{first_gap, is_whole}
use Rattle.range_set.proofs.Answered.{answered_so}
use Rattle.range_set.proofs.Telling.{none_told}
use Rattle.range_set.proofs.reading.is_whole.Goals as goal

pub returns-clause-whole : goal.returns-clause-whole
returns-clause-whole g c =
    answered_so (g.S.Snapshot.map_at c.args.db.now) (g.S.Snapshot.may_refuse c.args.db.now) c.args.place.now (all_ranges c.args.place.now) c.args.tx.now c.first_gap.new.tx
    (λ set. c.in_ok-gap.gap ≡ first_gap set) (λ set. c.is_none.result ≡ is_whole set) c.in_ok-gap.ensures.gap (λ set is. none_told c.in_ok-gap.gap c.is_none.result c.is_none.ensures ∙ ap is_none is)
