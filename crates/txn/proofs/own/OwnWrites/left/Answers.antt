use Rattle.std.proofs.Common.{◌≡◌, rules, not, subst, IfOk}
use Rattle.std.proofs.lemmas.Fn.{filter_same}
use Rattle.std.specs.FinMap.{from_entries}
use Rattle.kv_core.specs.Bytes.{key_cmp}
use Rattle.kv_core.specs.Range.{covers}
use Rattle.txn.proofs.own.OwnWrites.left.Goals as goal

pub returns : goal.returns
returns c =
    subst (λ pairs. IfOk c.from_pairs.result (λ map. map ≡ from_entries {R = key_cmp} pairs))
    (filter_same _ (λ pair. not (covers c.args.self.now.cleared pair.0)) _ (λ x b f' k. search rules) _ _ c.retain.ensures.filtered) c.from_pairs.ensures
