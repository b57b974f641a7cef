-- Where servers refuse a part of a range, they refuse the range.
use Rattle.std.proofs.Common.{◌≡◌, ℕ, Bool, true, false, Option, None, Some, List, [], ◌∷◌, ◌⊎◌, inr, cond, refl, sym}
use Rattle.std.proofs.lemmas.Bool.{true≢false}
use Rattle.std.specs.Option.{option_or}
use Rattle.kv_core.proofs.Order.{contains-begin}
use Rattle.kv_core.specs.Range.{KeyRange, has_keys}
use Rattle.cluster_core.specs.Cuts.{cut_has, has_keys-own}
use Rattle.cluster_core.specs.Cluster.{ClusterState, tier_of}
use Rattle.cluster_core.specs.Decision.{Owned, cut, owners}
use Rattle.cluster_core.specs.Tier.{ServerState, TierState, first_refusal, refusal, refusal_of}
use Rattle.kv_core.specs.declared.snapshot.ReadError.{ReadError}
use Rattle.kv_core.specs.Parts.{IsPart}
use Rattle.cluster_core.specs.Refusing.{MayRefuse, MustRefuse}

-- who has keys of a part has keys of the whole
reaches :
    (owner : Owned) (whole part : KeyRange) → IsPart part whole → has_keys (cut owner part) ≡ true →
    has_keys (cut owner whole) ≡ true
reaches owner whole part inside has =
    let key = (cut owner part).begin in
    let at = cut_has owner.from owner.upto part key (contains-begin (cut owner part) has) in
    has_keys-own owner whole key at.0 (inside key at.1)

-- one server more, which may have keys of a part and of the whole
further :
    (in_part in_whole : Bool) (mine part whole : Option ReadError) → (in_part ≡ true → in_whole ≡ true) →
    (whole ≡ None → part ≡ None) →
    cond in_whole (option_or mine whole) whole ≡ None → cond in_part (option_or mine part) part ≡ None
further true true None part whole inside rest allowed = rest allowed
further true true (Some error) part whole inside rest allowed = cc
further true false mine part whole inside rest allowed = absurd (true≢false (sym (inside refl)))
further false true None part whole inside rest allowed = rest allowed
further false true (Some error) part whole inside rest allowed = cc
further false false mine part whole inside rest allowed = rest allowed

first-narrows :
    (window version : ℕ) (whole part : KeyRange) → IsPart part whole →
    (owned : List Owned) (servers : List ServerState) →
    first_refusal window whole version owned servers ≡ None → first_refusal window part version owned servers ≡ None
first-narrows window version whole part inside [] servers allowed = refl
first-narrows window version whole part inside (owner ∷ others) [] allowed = refl
first-narrows window version whole part inside (owner ∷ others) (server ∷ servers) allowed =
    further (has_keys (cut owner part)) (has_keys (cut owner whole)) (refusal_of window server version)
    (first_refusal window part version others servers) (first_refusal window whole version others servers)
    (reaches owner whole part inside) (first-narrows window version whole part inside others servers) allowed

-- a part isn't refused where the whole isn't
part-narrows :
    (tier : TierState) (whole part : KeyRange) (version : ℕ) → IsPart part whole → refusal tier whole version ≡ None →
    refusal tier part version ≡ None
part-narrows tier whole part version inside =
    first-narrows tier.window version whole part inside (owners tier.splits) tier.servers

-- so where a part is refused, the whole is
pub tier-narrows : (tier : TierState) (whole part : KeyRange) (version : ℕ) (error : ReadError) → IsPart part whole →
    MayRefuse tier part version error → MayRefuse tier whole version error ⊎ MustRefuse tier whole version
tier-narrows tier whole part version error inside refused =
    inr (λ allowed. let none = part-narrows tier whole part version inside allowed in cc)

pub cluster-narrows :
    (cluster : ClusterState) (whole part : KeyRange) (version : ℕ) (error : ReadError) → IsPart part whole →
    MayRefuse (tier_of cluster) part version error →
    MayRefuse (tier_of cluster) whole version error ⊎ MustRefuse (tier_of cluster) whole version
cluster-narrows cluster whole part version = tier-narrows (tier_of cluster) whole part version
