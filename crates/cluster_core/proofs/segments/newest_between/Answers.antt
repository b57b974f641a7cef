use Rattle.std.proofs.Common.{◌∙◌, sym}
use Rattle.cluster_core.proofs.Segmented.{newest_alone, newest_nowhere, newest_with}
use Rattle.cluster_core.proofs.segments.newest_between.Goals as goal

pub returns-then-not-is_before : goal.returns-then-not-is_before
returns-then-not-is_before c = newest_nowhere c.args.segments.now.entries c.args.begin.now c.args.end.now (sym c.is_before.ensures ∙ c.if-not-is_before.true)

pub returns-in-Some : goal.returns-in-Some
returns-in-Some c =
    newest_with c.args.segments.now.entries c.args.begin.now c.args.end.now c.newest_between-begun.result c.requires.keys c.requires.order (sym c.is_before.ensures ∙ c.if-not-is_before.false)
    c.newest_between-begun.ensures _ _ _ c.in-Some.ensures.some c.later.ensures

pub returns-in-None : goal.returns-in-None
returns-in-None c =
    newest_alone c.args.segments.now.entries c.args.begin.now c.args.end.now c.newest_between-begun.result c.requires.keys c.requires.order (sym c.is_before.ensures ∙ c.if-not-is_before.false)
    c.newest_between-begun.ensures c.in-None.ensures.none
