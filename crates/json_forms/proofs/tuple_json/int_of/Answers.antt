use Rattle.std.proofs.Common.{sym, subst, ◌∙◌, arith, FitsSigned}
use Rattle.std.proofs.lemmas.Int.{to_z-of_z}
use Rattle.std.specs.Int.{w128}
use Rattle.json_forms.proofs.Decimals.{int_parsed, int_not_parsed, plus_is_no_int}
use Rattle.json_forms.proofs.tuple_json.int_of.Goals as goal

pub returns-then-starts_with : goal.returns-then-starts_with
returns-then-starts_with c = sym (plus_is_no_int c.args.word.now (sym (c.starts_with.ensures.byte (omega arith) (omega arith) (λ w o h. h)) ∙ c.if-starts_with.true))

pub returns-in-Ok : goal.returns-in-Ok
returns-in-Ok c = int_parsed c.args.word.now c.in-Ok.value c.new.result c.parse.result c.in-Ok.is (sym (c.starts_with.ensures.byte (omega arith) (omega arith) (λ w o h. h)) ∙ c.if-starts_with.false) c.parse.ensures.value.0 (rw (to_z-of_z w128 c.in-Ok.value (subst (FitsSigned w128) (sym c.in-Ok.ensures.value.0.1) c.in-Ok.ensures.value.0.0.1)) at c.new.ensures)

pub returns-in-Err : goal.returns-in-Err
returns-in-Err c = sym (int_not_parsed c.args.word.now c.in-Err.field-0 c.parse.result c.in-Err.is (sym (c.starts_with.ensures.byte (omega arith) (omega arith) (λ w o h. h)) ∙ c.if-starts_with.false) c.parse.ensures.value.0)
