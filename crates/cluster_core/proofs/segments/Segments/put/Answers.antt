use Rattle.std.proofs.Common.{◌∙◌, sym}
use Rattle.std.proofs.lemmas.Bool.{and_parts, true≢false}
use Rattle.kv_core.specs.Bytes.{key_le, key_lt}
use Rattle.kv_core.proofs.Order.{le_lt_trans}
use Rattle.cluster_core.proofs.segments.Segments.put.Goals as goal

pub returns-then-not-is_before-clause-covered : goal.returns-then-not-is_before-clause-covered
returns-then-not-is_before-clause-covered c = λ key inside.
    let parts = and_parts (key_le c.args.begin key) (key_lt key c.args.end) inside in
    absurd (true≢false (sym (le_lt_trans c.args.begin key c.args.end parts.0 parts.1) ∙ sym c.is_before.ensures ∙ c.if-not-is_before.true))
