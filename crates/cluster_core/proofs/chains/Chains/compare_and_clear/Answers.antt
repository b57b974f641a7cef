use Rattle.std.proofs.Common.{◌∙◌, ap, refl, sym}
use Rattle.std.proofs.lemmas.Result.{on_ok_weaker}
use Rattle.kv_core.specs.Map.{is_just}
use Rattle.cluster_core.proofs.Shown.{shown_compared, shown_uncompared}
use Rattle.cluster_core.proofs.Written.{Writes-refl, below_falling}
use Rattle.cluster_core.proofs.chains.Chains.compare_and_clear.Goals as goal

pub value_of-requires : goal.value_of-requires
value_of-requires c = below_falling c.args.version c.args.self.now.chains c.requires

pub returns-then-is_operand-clause-ok : goal.returns-then-is_operand-clause-ok
returns-then-is_operand-clause-ok c =
    on_ok_weaker c.write.result
    (shown_compared c.args.self.now.chains c.write.new.self.chains c.args.version c.args.key.now c.args.operand.now
    (ap (is_just c.args.operand.now) (sym c.value_of.ensures) ∙ sym c.is_operand.ensures ∙ c.if-is_operand.true)) c.write.ensures.ok

pub returns-else-is_operand-clause-ok : goal.returns-else-is_operand-clause-ok
returns-else-is_operand-clause-ok c =
    shown_uncompared c.args.self.now.chains c.args.version c.args.key.now c.args.operand.now
    (ap (is_just c.args.operand.now) (sym c.value_of.ensures) ∙ sym c.is_operand.ensures ∙ c.if-is_operand.false)

pub returns-else-is_operand-clause-writes : goal.returns-else-is_operand-clause-writes
returns-else-is_operand-clause-writes c =
    Writes-refl c.args.version c.args.self.now.written.items c.args.self.now.written.items c.args.self.now.chains c.args.self.now.chains refl refl
