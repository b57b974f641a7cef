use Rattle.std.proofs.Common.{◌∙◌, ◌∷◌, [], pos}
use Rattle.tuple_codec.specs.Item.{int}
use Rattle.record_store.proofs.Keys.{record_key_is}
use Rattle.plan_exec.proofs.KeyRanges.{number_behind, records_below}
use Rattle.plan_exec.proofs.keys.records_key.Goals as goal

pub returns-clause-key : goal.returns-clause-key
returns-clause-key c =
    number_behind _ c.in_ok-key.key.items c.pack_int.new.out.items _ c.from.result c.in_ok-key.ensures.key c.in_ok-pack_int.ensures c.from.ensures ∙ record_key_is c.args.store.now.prefix (int (pos c.args.definition.now.number) ∷ [])

pub returns-clause-below : goal.returns-clause-below
returns-clause-below c = λ rest.
    records_below c.args.store.now.prefix c.in_ok-key.ensures.below c.args.definition.now c.pack_int.new.out.items rest
    (number_behind _ c.in_ok-key.key.items c.pack_int.new.out.items _ c.from.result c.in_ok-key.ensures.key c.in_ok-pack_int.ensures c.from.ensures ∙ record_key_is c.args.store.now.prefix (int (pos c.args.definition.now.number) ∷ []))
