use Rattle.std.proofs.Common.{◌≡◌}
use Rattle.std.specs.Prelude.{IsTrue}
use Rattle.std.proofs.lemmas.Result.{IfOk-weaker}
use Rattle.kv_core.specs.Bytes.{end_of_keys, key_lt}
use Rattle.index_maint.specs.Layout.{built_place}
use Rattle.index_maint.proofs.KeyBounds.{place_below}
use Rattle.index_maint.proofs.layout.built_place.Goals as goal

pub returns-clause-below : goal.returns-clause-below
returns-clause-below c =
    IfOk-weaker c.place_under.result (λ place. place.items ≡ built_place c.args.prefix.now c.args.number)
    (λ place. IsTrue (key_lt c.args.prefix.now end_of_keys) → IsTrue (key_lt place.items end_of_keys))
    (λ place is below. place_below c.args.prefix.now c.args.number place.items below is) c.place_under.ensures
