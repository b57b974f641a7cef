use Rattle.std.proofs.Common.{◌∙◌, sym}
use Rattle.cluster_core.proofs.Overlaid.{part_begun, part_nowhere}
use Rattle.cluster_core.proofs.segments.part_from.Goals as goal

pub returns-in_default : goal.returns-in_default
returns-in_default c = part_nowhere c.args.segments.now.entries c.args.key.now c.in_default.ensures.none

pub returns-then-not-is_before : goal.returns-then-not-is_before
returns-then-not-is_before c =
    part_begun c.args.segments.now.entries c.args.key.now c.in-Some.over.now.begin c.in-Some.over.now.segment c.in-Some.ensures.some (sym c.is_before.ensures ∙ c.if-not-is_before.true)
