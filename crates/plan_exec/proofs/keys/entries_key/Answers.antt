use Rattle.std.proofs.Common.{◌≡◌, ◌∙◌, ◌++◌, ap, List, ℕ, IsTrue}
use Rattle.std.proofs.lemmas.Result.{IfOk-weaker}
use Rattle.kv_core.specs.Bytes.{end_of_keys, key_lt}
use Rattle.index_maint.specs.Layout.{entries_prefix}
use Rattle.plan_exec.proofs.KeyRanges.{entries_below}
use Rattle.plan_exec.proofs.keys.entries_key.Goals as goal

pub returns-clause-below : goal.returns-clause-below
returns-clause-below c =
    IfOk-weaker c.entries_prefix.result (λ key. key.items ≡ entries_prefix c.prefix.result.now c.args.index.now.number) (λ key. (rest : List ℕ) → IsTrue (key_lt (key.items ++ rest) end_of_keys))
    (λ key is rest. entries_below c.args.store.now.prefix c.prefix.ensures.below c.args.index.now key.items rest (is ∙ ap (λ p. entries_prefix p c.args.index.now.number) c.prefix.ensures.prefix)) c.entries_prefix.ensures
