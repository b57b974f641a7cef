use Rattle.std.proofs.Common.{◌≡◌, ◌∙◌, ap, nat_le, sym, subst}
use Rattle.std.proofs.lemmas.Bool.{le-leb, leb-true}
use Rattle.std.specs.List.{filter}
use Rattle.cluster_core.specs.Segments.{Begins}
use Rattle.cluster_core.specs.Tree.{InOrder, Shape}
use Rattle.cluster_core.proofs.Dropped.{order_filter, retained}
use Rattle.cluster_core.proofs.segments.drop_before.Goals as goal

pub returns-clause-order : goal.returns-clause-order
returns-clause-order c =
    let is : c.since.result.entries ≡ filter (λ e. nat_le c.args.least e.1.place) c.args.segments.now.entries = c.since.ensures.entries ∙ ap (λ (t : Shape). filter (λ e. nat_le c.args.least e.1.place) t.entries) c.replace.ensures.value in
    subst InOrder (sym is) (order_filter (λ s. nat_le c.args.least s.place) c.args.segments.now.entries c.requires)

pub returns-clause-dropped : goal.returns-clause-dropped
returns-clause-dropped c = λ begin segment.
    let es = c.args.segments.now.entries in
    let is : c.since.result.entries ≡ filter (λ e. nat_le c.args.least e.1.place) es = c.since.ensures.entries ∙ ap (λ (t : Shape). filter (λ e. nat_le c.args.least e.1.place) t.entries) c.replace.ensures.value in
    let both = retained es (λ s. nat_le c.args.least s.place) begin segment c.requires in (
      λ there. let given = both.0 (subst (λ xs. Begins xs begin segment) is there) in (given.0, leb-true c.args.least segment.place given.1),
      λ given. subst (λ xs. Begins xs begin segment) (sym is) (both.1 (given.0, le-leb c.args.least segment.place given.1)),
    )
