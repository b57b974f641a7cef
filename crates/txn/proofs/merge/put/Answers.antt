use Rattle.std.proofs.Common.{◌∙◌, Some, ap, cond, sym}
use Rattle.std.proofs.lemmas.Cmp.{nat_list_cmp_total}
use Rattle.std.proofs.lemmas.Result.{on_ok_weaker}
use Rattle.std.specs.FinMap.{get, get-remove}
use Rattle.std.specs.Ordering.{is_eq}
use Rattle.kv_core.specs.Bytes.{key_cmp}
use Rattle.kv_core.proofs.Changes.{get-set}
use Rattle.txn.proofs.merge.put.Goals as goal

pub returns-in_ok-copy-in-Some : goal.returns-in_ok-copy-in-Some
returns-in_ok-copy-in-Some c =
    on_ok_weaker c.insert.result (λ put other.
    ap (λ m. get m other) put ∙ get-set c.args.map.now c.in_ok-copy-in-Some.field-0 c.in-Some.value other
    ∙ (λ i. cond (is_eq (key_cmp other (c.in_ok-copy-in-Some.ensures i))) (sym c.in-Some.is i) (get c.args.map.now other))) c.insert.ensures.ok

pub returns-in-None : goal.returns-in-None
returns-in-None c = λ other.
    ap (λ m. get m other) c.remove.ensures ∙ get-remove nat_list_cmp_total c.args.map.now c.args.key.now other
    ∙ ap (λ o. cond (is_eq (key_cmp other c.args.key.now)) o (get c.args.map.now other)) (sym c.in-None.is)
