use Rattle.std.proofs.Common.{◌≡◌, ◌∙◌, ◌≤◌, ap, subst, sym}
use Rattle.cluster_core.specs.Decision.{cut}
use Rattle.cluster_core.specs.Kept.{KnowsWriters}
use Rattle.cluster_core.specs.Segments.{IsNewestOver, from_to}
use Rattle.cluster_core.specs.contracts.kept.Writers.{the_view}
use Rattle.cluster_core.proofs.Waiting.{finds_point, finds_segment}
use Rattle.cluster_core.proofs.kept.Writers.newest_in.Goals as goal

pub returns-clause-newest : goal.returns-clause-newest
returns-clause-newest c = λ start was.
    let whole : c.self.inside.points.whole_from ≤ c.args.least = subst (λ n. n ≤ c.args.least) c.whole_from.ensures c.if-whole_from-least.true in
    finds_point c.args.part.now start c.args.requests.now.all c.args.least c.args.upto (the_view c.self.inside) c.args.range.now c.in-Some.newest whole
    (ap (λ w. w.points.ordered) c.self.view_is ∙ c.requires.noted (subst (λ w. w.whole_from ≤ c.args.least) c.self.view_is whole)) c.in-Some.ensures
    (subst (KnowsWriters c.args.part.now start c.args.requests.now.all c.args.least c.args.upto) (sym c.self.view_is) was)

pub put_in_order-requires-clause-in_order : goal.put_in_order-requires-clause-in_order
put_in_order-requires-clause-in_order c = c.requires.knows.1.ranges.in_order

pub returns-2-clause-newest : goal.returns-2-clause-newest
returns-2-clause-newest c = λ start was.
    let same : from_to c.begin_in.result.now c.end_in.result.now ≡ cut c.args.part.now c.args.range.now = λ i. record { begin = c.begin_in.ensures i; end = c.end_in.ensures i } in
    finds_segment c.args.part.now start c.args.requests.now.all c.args.least c.args.upto (the_view c.self-2.inside) c.args.range.now c.newest_between.result
    (ap (λ w. w.ranges.ordered) c.self-2.view_is ∙ c.in_ok-put_in_order.ensures.ordered)
    (subst (λ r. IsNewestOver c.self-2.inside.segments r c.newest_between.result) same c.newest_between.ensures)
    (subst (KnowsWriters c.args.part.now start c.args.requests.now.all c.args.least c.args.upto) (sym c.self-2.view_is) (c.put_in_order.ensures.kept.knows start c.args.least c.requires.from was))
