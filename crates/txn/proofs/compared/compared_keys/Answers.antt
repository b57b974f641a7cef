use Rattle.std.proofs.Common.{◌∙◌, ◌++◌, ap}
use Rattle.std.specs.Map.{keys_of}
use Rattle.kv_core.proofs.Stored.{forward}
use Rattle.txn.proofs.Comparing.{compared_between}
use Rattle.txn.proofs.compared.compared_keys.Goals as goal

pub range-key-items-requires : goal.range-key-items-requires
range-key-items-requires c = forward c.args.range.now _ _ c.begin.ensures.value c.end.ensures c.begin.ensures.lawful

pub loop-key-init : goal.loop-key-init
loop-key-init c =
    ap (λ xs. xs ++ keys_of c.into_iter-key-iterator.result) c.new-keys.ensures.items
    ∙ ap keys_of (c.into_iter-key-iterator.ensures.into_iter_gives ∙ c.range-key-items.ensures.between tt
    ∙ compared_between c.args.range.now _ _ c.args.compared.now.entries c.begin.ensures.value c.end.ensures)
