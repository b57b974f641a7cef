-- Private: how the logic stores an image: as its two fields.
use Rattle.std.specs.Prelude.{ℕ, refl}
use Rattle.std.specs.Coded.{Coded, code_by, coded×, coded_ℕ}
use Rattle.kv_core.specs.Map.{Map}
use Rattle.cluster_core.specs.TierCode.{map_code}
use Rattle.replay.specs.Replaying.{Image}

abbrev pub image_code : Coded Image
image_code =
    code_by (Map × ℕ) (coded× map_code coded_ℕ) (λ i. (i.map, i.version))
    (λ p. record { map = p.0; version = p.1 }) (λ _. refl)
