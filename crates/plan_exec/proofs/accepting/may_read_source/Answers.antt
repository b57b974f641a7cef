use Rattle.std.proofs.Common.{◌∙◌, ap, sym}
use Rattle.std.specs.List.{list_all}
use Rattle.planner.specs.Right.{source_indexes}
use Rattle.planner.specs.View.{source_of}
use Rattle.plan_exec.specs.Accepting.{may_read}
use Rattle.plan_exec.proofs.Accepted.{scans_all}
use Rattle.plan_exec.proofs.accepting.may_read_source.Goals as goal

pub returns-in-Intersection : goal.returns-in-Intersection
returns-in-Intersection c =
    c.may_read_all.ensures ∙ ap (list_all (λ s. may_read c.args.store.now s.index)) c.as_slice.ensures.value
    ∙ scans_all (may_read c.args.store.now) c.in-Intersection.scans.items
    ∙ ap (λ s. list_all (may_read c.args.store.now) (source_indexes (source_of s))) (sym c.in-Intersection.is)
