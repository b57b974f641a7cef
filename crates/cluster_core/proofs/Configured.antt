-- A configuration that isn't refused has a log.
use Rattle.std.proofs.Common.{◌≡◌, ◌+◌, ◌≤◌, ◌&&◌, Bool, true, false, not, cond, nat_le, Option, None, Some, is_none, T, length, refl, subst}
use Rattle.std.proofs.lemmas.Bool.{and_parts, leb-true}
use Rattle.cluster_core.specs.declared.answers.Config.{Config}
use Rattle.cluster_core.specs.declared.answers.ConfigError.{ConfigError}
use Rattle.cluster_core.specs.declared.answers.ConfigError.TheVariants.{BadCount, BadSplits}
use Rattle.cluster_core.specs.Configuration.{are_splits, config_refusal, has_good_counts, is_count}

abbrev counts : Config → Bool
counts config = is_count (length config.resolver_splits + 1) && is_count (length config.storage_splits + 1) && is_count config.logs

good_counts : (config : Config) → config_refusal config ≡ None → has_good_counts config ≡ true
good_counts config none = by (has_good_counts config) (are_splits config.resolver_splits && are_splits config.storage_splits) none
  where
    by : (good splits : Bool) → ◌≡◌ {A = Option ConfigError} (cond (not good) (Some BadCount) (cond splits None (Some BadSplits))) None → good ≡ true
    by true splits is = refl
    by false splits is = absurd (subst (λ (o : Option ConfigError). T (not (is_none o))) is tt)

pub some_log : (config : Config) → config_refusal config ≡ None → 1 ≤ config.logs
some_log config none =
    let all = good_counts config none in
    let a = and_parts (counts config && is_count config.places && nat_le 1 config.window) (nat_le config.window 1_000_000) all in
    let b = and_parts (counts config && is_count config.places) (nat_le 1 config.window) a.0 in
    let d = and_parts (counts config) (is_count config.places) b.0 in
    let e = and_parts (is_count (length config.resolver_splits + 1) && is_count (length config.storage_splits + 1)) (is_count config.logs) d.0 in
    leb-true 1 config.logs (and_parts (nat_le 1 config.logs) (nat_le config.logs 16) e.1).0
