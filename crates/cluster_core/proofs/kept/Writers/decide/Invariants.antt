use Rattle.std.proofs.Common.{◌≡◌, ◌≤◌, Some, drop, slice_get}
use Rattle.cluster_core.specs.History.{Entry}
use Rattle.cluster_core.specs.Decision.{first_disturbed, newer_agreed, numbered}
use Rattle.cluster_core.specs.Kept.{StandsAsBefore}
use Rattle.cluster_core.specs.Progress.{answer_of}
use Rattle.cluster_core.proofs.kept.Writers.decide.Given as goal

-- the ranges that are left have the cause that all have, and what is kept stands as before
abbrev pub invariant-loop-range : goal.invariant-loop-range
invariant-loop-range l = record {
  left : (entry : Entry) → slice_get (numbered l.start l.requests.all) l.place ≡ Some entry →
      first_disturbed l.part (newer_agreed l.part (numbered l.start l.requests.all) entry) (drop l.range-index l.range-items) ≡ answer_of l.part (numbered l.start l.requests.all) entry;
  kept : StandsAsBefore l.part l.requests.all l.floor l.place l.fn.self l.self;
  noted : l.self.whole_from ≤ l.least → l.self.points.ordered ≡ l.place;
}
