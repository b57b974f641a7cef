use Rattle.std.proofs.Common.{◌∙◌, ◌∷◌, [], ap, pos, sym, subst}
use Rattle.tuple_codec.specs.Item.{int}
use Rattle.tuple_codec.specs.Spelling.{spelling}
use Rattle.std.specs.Prelude.{IsTrue}
use Rattle.kv_core.specs.Bytes.{end_of_keys, key_lt}
use Rattle.record_store.proofs.Stores.{prefix_below}
use Rattle.record_store.proofs.number.StoreNumber.prefix.Goals as goal

pub returns-clause-below : goal.returns-clause-below
returns-clause-below c =
    subst (λ bytes. IsTrue (key_lt bytes end_of_keys)) (sym (c.in_ok-prefix.ensures ∙ ap spelling c.in_ok-tuple.ensures)) (prefix_below c.get-number.result c.get-number.ensures.lawful)
