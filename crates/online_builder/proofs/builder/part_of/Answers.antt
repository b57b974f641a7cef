use Rattle.std.proofs.Common.{◌∙◌, ap, cond, length, sym}
use Rattle.std.proofs.lemmas.Bool.{le-ltb}
use Rattle.kv_core.specs.Range.{part_before}
use Rattle.online_builder.specs.Stepping.{last_position}
use Rattle.online_builder.proofs.Parts.{last_is}
use Rattle.online_builder.proofs.builder.part_of.Goals as goal

pub returns : goal.returns
returns c =
    c.in_ok-part-in-Some.ensures
    ∙ ap (λ end. part_before end c.args.gap.now) (c.in_ok-end-in-Some.ensures ∙ sym (last_is c.args.rows.now c.in-Some.last.now c.args.gap.now.end c.in-Some.ensures.value))
    ∙ sym (ap (λ b. cond b c.args.gap.now (part_before (last_position c.args.rows.now c.args.gap.now.end) c.args.gap.now)) (le-ltb (length c.args.rows.now) c.args.limit c.if-rows-limit.false))
