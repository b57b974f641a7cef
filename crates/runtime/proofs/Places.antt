-- How many clients a configuration has.
use Rattle.std.proofs.Common.{◌≡◌, ℕ, ◌+◌, ◌<◌, ◌≤◌, ◌^◌, Bool, true, false, cond, not, ◌&&◌, nat_le, is_some, Some, None, length, refl, sym, arith, true≢false}
use Rattle.std.proofs.lemmas.Bool.Decides.{nat_tests}
use Rattle.cluster_core.specs.declared.answers.Config.{Config}
use Rattle.cluster_core.specs.declared.answers.ConfigError.TheVariants.{BadCount, BadSplits}
use Rattle.cluster_core.specs.Configuration.{are_splits, config_refusal, has_good_counts, is_count}

by_counts : (a b : Bool) → is_some (cond (not a) (Some BadCount) (cond b None (Some BadSplits))) ≡ false → a ≡ true
by_counts true b h = refl
by_counts false b h = absurd (true≢false h)

behind : (a b c d : Bool) → (a && b && c && d) ≡ true → b ≡ true
behind true true c d h = refl
behind true false c d h = h
behind false b c d h = absurd (true≢false (sym h))

counted : (n : ℕ) (a b : Bool) → nat_le 1 n ≡ a → nat_le n 16 ≡ b → (a && b) ≡ true → (0 < n) × (n < 2 ^ 32)
counted n true true above below h = (grind (arith, nat_tests), let le : n ≤ 16 = grind (arith, nat_tests) in omega (arith, le))
counted n true false above below h = absurd (true≢false (sym h))
counted n false b above below h = absurd (true≢false (sym h))

-- a configuration that isn't refused has places, and not many
pub places_counted : (config : Config) → is_some (config_refusal config) ≡ false → (0 < config.places) × (config.places < 2 ^ 32)
places_counted config none =
    let good : has_good_counts config ≡ true = by_counts (has_good_counts config) (are_splits config.resolver_splits && are_splits config.storage_splits) none in
    counted config.places (nat_le 1 config.places) (nat_le config.places 16) refl refl
    (behind (is_count (length config.resolver_splits + 1) && is_count (length config.storage_splits + 1) && is_count config.logs) (is_count config.places) (nat_le 1 config.window) (nat_le config.window 1_000_000) good)
