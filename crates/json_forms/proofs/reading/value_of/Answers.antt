use Rattle.std.proofs.Common.{sym, true≢false, ◌∙◌, arith}
use Rattle.json_forms.proofs.Values.{value_read, no_value_read}
use Rattle.json_forms.proofs.reading.value_of.Goals as goal

pub returns-in-Ok-clause-ok : goal.returns-in-Ok-clause-ok
returns-in-Ok-clause-ok c = value_read c.args.text.now _ (omega arith) c.in-Ok.ensures.ok.0 c.in-Ok.ensures.ok.1

pub returns-in-Err-2-clause-err : goal.returns-in-Err-2-clause-err
returns-in-Err-2-clause-err c = λ _. no_value_read c.args.text.now (omega arith) (c.in-Err.ensures.err (λ memory. true≢false (sym (c.is_memory.ensures.1 memory) ∙ c.if-is_memory.false)))
