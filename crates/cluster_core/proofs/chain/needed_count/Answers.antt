use Rattle.std.proofs.Common.{◌∙◌, ◌+◌, ap, sym, take}
use Rattle.cluster_core.proofs.Links.{needed_all, needed_with, needed_without}
use Rattle.cluster_core.proofs.chain.needed_count.Goals as goal

pub returns-then-is_some : goal.returns-then-is_some
returns-then-is_some c =
    let links = c.args.links.now.items in
    ap (λ n. take (n + 1) links) c.later_than-count.ensures ∙ needed_with c.args.floor links c.in-Some.link.now (sym c.in-Some.ensures) (sym c.is_some.ensures ∙ c.if-is_some.true)

pub returns-else-is_some : goal.returns-else-is_some
returns-else-is_some c =
    let links = c.args.links.now.items in
    ap (λ n. take n links) c.later_than-count.ensures ∙ needed_without c.args.floor links c.in-Some.link.now (sym c.in-Some.ensures) (sym c.is_some.ensures ∙ c.if-is_some.false)

pub returns-in-None : goal.returns-in-None
returns-in-None c = let links = c.args.links.now.items in ap (λ n. take n links) c.later_than-count.ensures ∙ needed_all c.args.floor links (sym c.in-None.ensures)
