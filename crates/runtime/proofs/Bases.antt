-- What a database goes on from.
use Rattle.std.proofs.Common.{◌≡◌, ◌∙◌, ℕ, ◌<◌, ◌≤◌, List, [], ◌∷◌, Vec, ap, refl, sym, subst, subst₂, arith}
use Rattle.std.specs.FinMap.{empty, from_entries}
use Rattle.kv_core.specs.Map.{Map}
use Rattle.cluster_core.specs.declared.answers.Config.{Config}
use Rattle.cluster_core.specs.Configuration.{first_tier, first_tier_over}
use Rattle.cluster_core.specs.Tier.{TierState}
use Rattle.command_log.specs.declared.entry.Entry.{Entry}
use Rattle.schedule.specs.Holds.{HoldsAll}
use Rattle.schedule.proofs.OwnStore.{holds_nothing}
use Rattle.replay.specs.Logged.{ComeInOrder, last_version, log_database}
use Rattle.replay.specs.Pairs.{all_pairs}
use Rattle.replay.specs.Replaying.{Image, IsLogged}
use Rattle.replay.proofs.Wholes.{pairs_suffice}
use Rattle.runtime.specs.declared.log_entry.Entry.{Entry as LogEntry}
use Rattle.runtime.specs.Origins.{MayBegin, Origin, base_of, origin_of, stores_before}
use Rattle.runtime.specs.Logs.{log_map, log_tier}
use Rattle.runtime.proofs.ServersOver.{tier_first}

-- a database without entries is what none come to
abbrev no_image : Image
no_image = record { map = empty; version = 0 }

nothing_logged : IsLogged [] no_image
nothing_logged = record { lawful = record { in_order = tt; replayable = tt }; map = refl; holds = holds_nothing; version = refl }

pub logged_none : (entries : List Entry) (image : Image) → entries ≡ [] → image ≡ record { map = empty; version = 0 } → IsLogged entries image
logged_none entries image none is = subst₂ IsLogged (sym none) (sym is) nothing_logged

-- it may begin at a version that isn't below the last one
begins : (config : Config) (entries : List Entry) (image : Image) → IsLogged entries image → image.version ≤ config.start → MayBegin (origin_of config entries)
begins config entries image is above = record {
  lawful = is.lawful;
  holds = subst (λ (m : Map). HoldsAll m (log_database entries).stores) is.map is.holds;
  above = let last : image.version ≡ last_version 0 entries = is.version in omega (arith, last, above);
}

pub may_begin : (origin : Origin) (config : Config) (entries : List Entry) (image : Image) → origin ≡ origin_of config entries → IsLogged entries image → image.version ≤ config.start → MayBegin origin
may_begin origin config entries image is logged above = subst MayBegin (sym is) (begins config entries image logged above)

last_above : (version : ℕ) (entries : List Entry) → ComeInOrder version entries → version ≤ last_version version entries
last_above version [] come = omega arith
last_above version (entry ∷ entries) come =
    let next : version < entry.version = come.0 in
    let last : entry.version ≤ last_version entry.version entries = last_above entry.version entries come.2 in
    omega (arith, next, last)

-- one at version 0 has no pairs
pub none_at_first : (entries : List Entry) (image : Image) → IsLogged entries image → image.version ≡ 0 → image.map ≡ empty
none_at_first [] image is none = is.map
none_at_first (entry ∷ entries) image is none =
    let next : 0 < entry.version = is.lawful.in_order.0 in
    let last : entry.version ≤ last_version entry.version entries = last_above entry.version entries is.lawful.in_order.2 in
    let version : image.version ≡ last_version entry.version entries = is.version in
    absurd (omega (arith, next, last, version, none))

-- the servers of a new one
pub tier_of_none : (config : Config) (entries : List Entry) (image : Image) (tier : TierState) → IsLogged entries image → image.version ≡ 0 → tier ≡ first_tier config → tier ≡ first_tier_over image.map config
tier_of_none config entries image tier is none made = made ∙ tier_first config ∙ ap (λ (m : Map). first_tier_over m config) (sym (none_at_first entries image is none))

-- and those over its pairs
pub tier_of_pairs : (config : Config) (entries : List Entry) (image : Image) (pairs : List (List ℕ × List ℕ)) (tier : TierState) → IsLogged entries image → pairs ≡ all_pairs image.map → tier ≡ first_tier_over (from_entries pairs) config → tier ≡ first_tier_over image.map config
tier_of_pairs config entries image pairs tier is all made = made ∙ ap (λ (m : Map). first_tier_over m config) (ap from_entries all ∙ pairs_suffice entries image is)

-- they have pulled the empty log
pub tier_begins : (origin : Origin) (log : List LogEntry) (config : Config) (entries : List Entry) (image : Image) (tier : TierState) → origin ≡ origin_of config entries → log ≡ [] → IsLogged entries image → tier ≡ first_tier_over image.map config → tier ≡ log_tier origin log
tier_begins origin log config entries image tier is none logged made =
    made ∙ ap (λ (m : Map). first_tier_over m config) logged.map ∙ (λ i. log_tier (sym is i) (sym none i))

-- the map at its first version is what the entries come to
pub map_first : (config : Config) (entries : List Entry) (image : Image) (origin : Origin) → IsLogged entries image → origin ≡ origin_of config entries → log_map origin [] config.start ≡ image.map
map_first config entries image origin is begins = ap base_of begins ∙ sym is.map

pub ruleset bases = (tier_of_none, tier_of_pairs)
