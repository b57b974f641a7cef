use Rattle.std.proofs.Common.{◌∙◌, [], ap, unwrap_or}
use Rattle.std.specs.BTreeMap.{is_at}
use Rattle.std.specs.Map.{lookup}
use Rattle.kv_core.specs.Bytes.{key_cmp}
use Rattle.kv_core.specs.Map.{value_after_all}
use Rattle.std.specs.FinMap.{get}
use Rattle.txn.specs.Own.{left_of, sum_at, worth_of}
use Rattle.txn.proofs.OneMore.{under_none}
use Rattle.txn.proofs.own.OwnWrites.new.Goals as goal

pub returns-clause-same : goal.returns-clause-same
returns-clause-same c = λ key before.
    ap (λ es. value_after_all (unwrap_or (lookup (is_at (key_cmp key)) es) []) key (worth_of (get c.new.result key) (sum_at c.new-3.result.entries key) (left_of c.new-2.result key before))) c.new-4.ensures.empty
    ∙ under_none c.new.result c.new-2.result _ key before c.new.ensures c.new-2.ensures
