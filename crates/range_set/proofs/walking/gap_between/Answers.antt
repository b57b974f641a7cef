use Rattle.range_set.proofs.KeyBounds.{no_between}
use Rattle.range_set.proofs.walking.gap_between.Goals as goal

pub unreachable-requires : goal.unreachable-requires
unreachable-requires c =
    no_between c.args.begin.now c.args.end.now c.in_ok-copy.field-0 c.in_ok-copy-2.field-0 c.is_before.result c.is_before.ensures c.if-not-is_before.false c.requires c.in_ok-copy.ensures c.in_ok-copy-2.ensures c.in-None.ensures.none
