-- What the steps of a cluster keep.
use Rattle.std.proofs.Common.{arith, ◌≡◌, ℕ, zero, suc, ◌+◌, ◌-◌, ◌%◌, ◌^◌, ◌<◌, ◌≤◌, Bool, true, false, nat_lt, Option, None, Some, List, [], ◌∷◌, ◌++◌, length-append, length, map, min, refl, sym, ap, subst, ◌∙◌}
use Rattle.std.proofs.lemmas.List.{length-map, length-replicate, length-set, map-set}
use Rattle.std.proofs.lemmas.Bool.{true≢false}
use Rattle.std.specs.FinMap.{empty, get}
use Rattle.std.specs.List.{AllByRecursion, slice_get, slice_index, slice_set}
use Rattle.std.specs.Option.{is_some, option_map}
use Rattle.std.proofs.lemmas.Option.{get_or_from_slice_get, slice_get-map}
use Rattle.kv_core.proofs.Pairs.{first_value-point}
use Rattle.kv_core.specs.Map.{Map}
use Rattle.kv_core.specs.Range.{KeyRange, point}
use Rattle.kv_core.specs.Read.{first_value, read_of}
use Rattle.kv_core.specs.declared.change.CommitRequest.{CommitRequest}
use Rattle.kv_core.specs.declared.change.Mutation.{Mutation}
use Rattle.cluster_core.specs.Cluster.{ClusterState, HasSameServers, database_at, done_with_by, maps_back, may_pull, pull, server_at, servers_at, tier_of}
use Rattle.cluster_core.specs.Configuration.{config_refusal, first_cluster_over, first_pipeline, first_server_over, first_tier, first_tier_over}
use Rattle.cluster_core.specs.Decision.{Owned, log, owners}
use Rattle.cluster_core.specs.History.{map_over}
use Rattle.cluster_core.specs.Pulled.{IsCluster, clocks_of, cluster_of}
use Rattle.cluster_core.specs.Roles.{PipelineState, entries, history, submit, submitted}
use Rattle.cluster_core.specs.Server.{first_server}
use Rattle.cluster_core.specs.Tier.{ServerState, TierState, absorb, part, refusal, whole_map}
use Rattle.cluster_core.specs.declared.answers.Config.{Config}
use Rattle.cluster_core.proofs.Configured.{some_log}
use Rattle.cluster_core.proofs.Growth.{maps_stay_over}
use Rattle.cluster_core.proofs.PulledMaps.{absorb-next, read-database, same-servers, server-there, servers-raised}
use Rattle.cluster_core.proofs.StorageMaps.{part-empty}

pub none_from : {X : Type 0} (o : Option X) → is_some o ≡ false → o ≡ None
none_from None h = refl
none_from (Some x) h = absurd (true≢false h)

-- what the servers answer is what the database has
pub read-cluster : (base : Map) (pipeline : PipelineState) (tier : TierState) (range : KeyRange) (version limit : ℕ) (b : Bool) → IsCluster base pipeline tier →
    is_some (refusal tier range version) ≡ false → read_of (whole_map tier version) range limit b ≡ read_of (database_at (cluster_of base pipeline tier) version) range limit b
read-cluster base pipeline tier range version limit b is allowed =
    ap (λ t. read_of (whole_map t version) range limit b) is.servers
    ∙ read-database (cluster_of base pipeline tier) range version limit b is.counts is.started
    (ap (λ t. refusal t range version) (sym is.servers) ∙ none_from (refusal tier range version) allowed)

pub value-cluster : (base : Map) (pipeline : PipelineState) (tier : TierState) (key : List ℕ) (version : ℕ) → IsCluster base pipeline tier →
    is_some (refusal tier (point key) version) ≡ false → get (whole_map tier version) key ≡ get (database_at (cluster_of base pipeline tier) version) key
value-cluster base pipeline tier key version is allowed =
    sym (first_value-point (whole_map tier version) key) ∙ ap first_value (read-cluster base pipeline tier (point key) version 1 false is allowed)
    ∙ first_value-point (database_at (cluster_of base pipeline tier) version) key

lower : (m n : ℕ) (clocks : List ℕ) → m ≤ n → AllByRecursion (λ clock. clock ≤ m) clocks → AllByRecursion (λ clock. clock ≤ n) clocks
lower m n [] h all = tt
lower m n (c ∷ clocks) h all = let one : c ≤ m = all.0 in (omega (arith, h, one), lower m n clocks h all.1)

-- a pipeline that goes on leaves the servers those that their clocks say
went-on : (base : Map) (p q : PipelineState) (tier : TierState) → q.window ≡ p.window → q.start ≡ p.start → q.forgotten ≡ p.forgotten → submitted p ≤ submitted q →
    ((version : ℕ) → version ≤ submitted p → map_over base (history q) version ≡ map_over base (history p) version) → 1 ≤ length q.logged → IsCluster base p tier → IsCluster base q tier
went-on base p q tier window start forgotten more same some is = record {
  servers = is.servers ∙ (λ i. record {
    splits = tier.splits;
    window = sym window i;
    servers = sym (same-servers base p q (submitted p) window start same (owners tier.splits) (clocks_of tier) is.given) i;
  });
  counts = is.counts;
  some_log = some;
  started = subst (λ n. AllByRecursion (λ clock. n ≤ clock) (clocks_of tier)) (sym start) is.started;
  given = lower (submitted p) (submitted q) (clocks_of tier) more is.given;
  unpulled = subst (λ n. AllByRecursion (λ clock. n ≤ clock) (clocks_of tier)) (λ i. sym start i + sym forgotten i) is.unpulled;
}

pub went-submit : (base : Map) (p : PipelineState) (request : CommitRequest) (tier : TierState) → IsCluster base p tier → IsCluster base (submit request p) tier
went-submit base p request tier is =
    went-on base p (submit request p) tier refl refl refl
    (let n : length (p.requests ++ request ∷ []) ≡ length p.requests + 1 = length-append p.requests (request ∷ []) in omega (arith, n))
    (λ version below. maps_stay_over base p.splits p.start p.requests request version below) is.some_log is

-- the clock of the server at a place
clock-there : (tier : TierState) (s version : ℕ) (server : ServerState) → slice_get (clocks_of tier) s ≡ Some version → slice_get tier.servers s ≡ Some server → server.version ≡ version
clock-there tier s version server at is =
    let both : Some server.version ≡ Some version = ap (option_map (λ x. x.version)) (sym is) ∙ sym (slice_get-map (λ x. x.version) tier.servers s) ∙ at in
    cc

pub next-there : (tier : TierState) (s version : ℕ) → slice_get (clocks_of tier) s ≡ Some version → version + 1 < 2 ^ 64 →
    (server : ServerState) → slice_get tier.servers s ≡ Some server → server.version + 1 < 2 ^ 64
next-there tier s version at small server is = let P : ℕ → Type 0 = λ n. n + 1 < 2 ^ 64 in subst P (sym (clock-there tier s version server at is)) small

found : {X : Type 0} (xs : List X) (s : ℕ) → s < length xs → (x : X) × (slice_get xs s ≡ Some x)
found [] s below = absurd (omega (arith, below))
found (x ∷ xs) zero below = (x, refl)
found (x ∷ xs) (suc s) below = found xs s (omega (arith, below))

within : {X : Type 0} (xs : List X) (s : ℕ) (x : X) → slice_get xs s ≡ Some x → s < length xs
within [] s x is = cc
within (y ∷ xs) zero x is = omega arith
within (y ∷ xs) (suc s) x is = let below = within xs s x is in omega (arith, below)

All-get : (P : ℕ → Type 0) (clocks : List ℕ) (s clock : ℕ) → AllByRecursion P clocks → slice_get clocks s ≡ Some clock → P clock
All-get P [] s clock all is = cc
All-get P (c ∷ clocks) zero clock all is = let same : c ≡ clock = cc in subst P same all.0
All-get P (c ∷ clocks) (suc s) clock all is = All-get P clocks s clock all.1 is

All-set : (P : ℕ → Type 0) (clocks : List ℕ) (s clock : ℕ) → AllByRecursion P clocks → P clock → AllByRecursion P (slice_set clocks s clock)
All-set P [] s clock all one = tt
All-set P (c ∷ clocks) zero clock all one = (one, all.1)
All-set P (c ∷ clocks) (suc s) clock all one = (all.0, All-set P clocks s clock all.1 one)

-- one server pulled what its log has of its next version
module _ (base : Map) (p : PipelineState) (tier new : TierState) (s version : ℕ) (mutations : List Mutation) (is : IsCluster base p tier) (at : slice_get (clocks_of tier) s ≡ Some version)
    (logged : slice_get (log p.splits (entries p)) (version - p.start) ≡ Some mutations) (next : version < submitted p)
    (done : (owner : Owned) (server : ServerState) → slice_get (owners tier.splits) s ≡ Some owner → slice_get tier.servers s ≡ Some server →
    new ≡ record tier { servers = slice_set tier.servers s (absorb tier.window owner mutations server) }) where
  after_pull : Owned → TierState
  after_pull owner = record { splits = tier.splits; window = tier.window; servers = slice_set tier.servers s (server_at base p owner (version + 1)) }

  owned : (owner : Owned) × (slice_get (owners tier.splits) s ≡ Some owner)
  owned = let below = within (clocks_of tier) s version at in found (owners tier.splits) s (subst (λ n. s < n) is.counts below)

  stood : slice_get tier.servers s ≡ Some (server_at base p owned.0 version)
  stood = ap (λ t. slice_get t.servers s) is.servers ∙ server-there base p (owners tier.splits) (clocks_of tier) s owned.0 version owned.1 at

  pulled-new : new ≡ after_pull owned.0
  unfolding after_pull
  pulled-new =
      let fresh : absorb tier.window owned.0 mutations (server_at base p owned.0 version) ≡ server_at base p owned.0 (version + 1) =
      ap (λ t. absorb t.window owned.0 mutations (server_at base p owned.0 version)) is.servers
      ∙ absorb-next base p owned.0 version mutations (All-get (λ clock. p.start ≤ clock) (clocks_of tier) s version is.started at) logged in
      done owned.0 (server_at base p owned.0 version) owned.1 stood ∙ (λ i. record { splits = tier.splits; window = tier.window; servers = slice_set tier.servers s (fresh i) })

  clocks-after : clocks_of (after_pull owned.0) ≡ slice_set (clocks_of tier) s (version + 1)
  unfolding after_pull
  clocks-after = map-set (λ x. x.version) tier.servers s (server_at base p owned.0 (version + 1))

  servers-after : after_pull owned.0 ≡ tier_of (cluster_of base p (after_pull owned.0))
  unfolding after_pull
  servers-after =
      let all : slice_set tier.servers s (server_at base p owned.0 (version + 1)) ≡ servers_at base p (owners tier.splits) (clocks_of (after_pull owned.0)) =
      ap (λ t. slice_set t.servers s (server_at base p owned.0 (version + 1))) is.servers
      ∙ servers-raised base p (owners tier.splits) (clocks_of tier) s owned.0 version owned.1 at ∙ sym (ap (servers_at base p (owners tier.splits)) clocks-after) in
      λ i. record { splits = tier.splits; window = (ap (λ t. t.window) is.servers) i; servers = all i }

  after-is : IsCluster base p (after_pull owned.0)
  unfolding after_pull
  after-is = record {
    servers = servers-after;
    counts = ap length clocks-after ∙ length-set (clocks_of tier) s (version + 1) ∙ is.counts;
    some_log = is.some_log;
    started = subst (AllByRecursion (λ clock. p.start ≤ clock)) (sym clocks-after)
        (let from = All-get (λ clock. p.start ≤ clock) (clocks_of tier) s version is.started at in
        All-set (λ clock. p.start ≤ clock) (clocks_of tier) s (version + 1) is.started (omega (arith, from)));
    given = subst (AllByRecursion (λ clock. clock ≤ submitted p)) (sym clocks-after) (All-set (λ clock. clock ≤ submitted p) (clocks_of tier) s (version + 1) is.given (omega (arith, next)));
    unpulled = subst (AllByRecursion (λ clock. p.start + p.forgotten ≤ clock)) (sym clocks-after)
        (let from = All-get (λ clock. p.start + p.forgotten ≤ clock) (clocks_of tier) s version is.unpulled at in
        All-set (λ clock. p.start + p.forgotten ≤ clock) (clocks_of tier) s (version + 1) is.unpulled (omega (arith, from)));
  }

  pub pulled-cluster : IsCluster base p new
  pulled-cluster = subst (IsCluster base p) (sym pulled-new) after-is

  pub pulled-view : (state : ClusterState) → cluster_of base p tier ≡ state → cluster_of base p new ≡ pull s state
  unfolding after_pull
  pulled-view state view =
      let clock : version ≡ slice_index (clocks_of tier) s = sym (get_or_from_slice_get (clocks_of tier) s version 0 at) in
      ap (cluster_of base p) pulled-new
      ∙ (λ i. record { base = base; pipeline = p; splits = tier.splits; pulled = clocks-after i })
      ∙ (λ i. record { base = base; pipeline = p; splits = tier.splits; pulled = slice_set (clocks_of tier) s (clock i + 1) })
      ∙ ap (pull s) view

-- what may be pulled
pub may-there : (base : Map) (p : PipelineState) (tier : TierState) (state : ClusterState) (s version logs : ℕ) → cluster_of base p tier ≡ state → slice_get (clocks_of tier) s ≡ Some version →
    logs ≡ length p.logged → true ≡ nat_lt version (slice_index p.logged (s % logs)) → may_pull state s ≡ true
may-there base p tier state s version logs view at same may =
    ap (λ c. may_pull c s) (sym view)
    ∙ ap (λ n. nat_lt n (slice_index p.logged (s % length p.logged))) (get_or_from_slice_get (clocks_of tier) s version 0 at)
    ∙ ap (λ n. nat_lt version (slice_index p.logged (s % n))) (sym same) ∙ sym may

-- the servers at the start
first-clocks : (base : Map) (config : Config) (os : List Owned) → map (λ (x : ServerState). x.version) (map (first_server_over base config.start) os) ≡ map (λ _. config.start) os
first-clocks base config [] = refl
first-clocks base config (o ∷ os) = ap (λ ns. config.start ∷ ns) (first-clocks base config os)

first-servers : (base : Map) (config : Config) (os : List Owned) →
    map (first_server_over base config.start) os ≡ servers_at base (first_pipeline config) os (map (λ _. config.start) os)
first-servers base config [] = refl
first-servers base config (o ∷ os) =
    let none : min config.window (config.start - config.start) ≡ 0 = omega arith in
    let maps : part o base ∷ [] ≡ maps_back base (first_pipeline config) o config.start (min config.window (config.start - config.start)) =
    sym (ap (maps_back base (first_pipeline config) o config.start) none) in
    λ i. record { version = config.start; maps = maps i } ∷ first-servers base config os i

all-same : (P : ℕ → Type 0) (n : ℕ) (os : List Owned) → P n → AllByRecursion P (map (λ _. n) os)
all-same P n [] h = tt
all-same P n (o ∷ os) h = (h, all-same P n os h)

pub starts-view : (base : Map) (config : Config) → cluster_of base (first_pipeline config) (first_tier_over base config) ≡ first_cluster_over base config
starts-view base config = ap (λ ns. record { base = base; pipeline = first_pipeline config; splits = config.storage_splits; pulled = ns }) (first-clocks base config (owners config.storage_splits))

pub starts-cluster : (base : Map) (config : Config) → config_refusal config ≡ None → IsCluster base (first_pipeline config) (first_tier_over base config)
starts-cluster base config allowed =
    let os = owners config.storage_splits in
    let clocks = first-clocks base config os in record {
      servers =
          let all : map (first_server_over base config.start) os ≡ servers_at base (first_pipeline config) os (clocks_of (first_tier_over base config)) =
          first-servers base config os ∙ sym (ap (servers_at base (first_pipeline config) os) clocks) in
          λ i. record { splits = config.storage_splits; window = config.window; servers = all i };
      counts = ap length clocks ∙ length-map os (λ _. config.start);
      some_log = subst (λ n. 1 ≤ n) (sym (length-replicate config.logs config.start)) (some_log config allowed);
      started = subst (AllByRecursion (λ clock. config.start ≤ clock)) (sym clocks) (all-same (λ clock. config.start ≤ clock) config.start os (omega arith));
      given = subst (AllByRecursion (λ clock. clock ≤ submitted (first_pipeline config))) (sym clocks)
          (all-same (λ clock. clock ≤ submitted (first_pipeline config)) config.start os (omega arith));
      unpulled = subst (AllByRecursion (λ clock. config.start + 0 ≤ clock)) (sym clocks) (all-same (λ clock. config.start + 0 ≤ clock) config.start os (omega arith));
    }

-- over the empty map each has that
emptied : (config : Config) (os : List Owned) → map (λ _. first_server config.start) os ≡ map (first_server_over empty config.start) os
emptied config [] = refl
emptied config (o ∷ os) = λ i. record { version = config.start; maps = sym (part-empty o) i ∷ [] } ∷ emptied config os i

pub starts-empty : (config : Config) → first_tier config ≡ first_tier_over empty config
starts-empty config = ap (λ (ss : List ServerState). record { splits = config.storage_splits; window = config.window; servers = ss }) (emptied config (owners config.storage_splits))

-- what a server hasn't pulled is kept
pub unpulled-at : (base : Map) (p : PipelineState) (tier : TierState) (s version : ℕ) → IsCluster base p tier → slice_get (clocks_of tier) s ≡ Some version → p.start + p.forgotten ≤ version
unpulled-at base p tier s version is at = All-get (λ clock. p.start + p.forgotten ≤ clock) (clocks_of tier) s version is.unpulled at

-- how many requests are done with: no more than this, and no more than each server has pulled
done-least : (start done : ℕ) (clocks : List ℕ) → done_with_by start done clocks ≤ done
done-least start done [] = omega arith
done-least start done (clock ∷ clocks) = let rest = done-least start done clocks in omega (arith, rest)

done-more : (start done n : ℕ) (clocks : List ℕ) → n ≤ done → AllByRecursion (λ clock. start + n ≤ clock) clocks → n ≤ done_with_by start done clocks
done-more start done n [] upto all = upto
done-more start done n (clock ∷ clocks) upto all =
    let one : start + n ≤ clock = all.0 in
    let rest = done-more start done n clocks upto all.1 in
    omega (arith, one, rest)

done-each : (start done n : ℕ) (clocks : List ℕ) → n ≤ done_with_by start done clocks → AllByRecursion (λ clock. start ≤ clock) clocks → AllByRecursion (λ clock. start + n ≤ clock) clocks
done-each start done n [] upto from = tt
done-each start done n (clock ∷ clocks) upto from =
    let one : start ≤ clock = from.0 in
    (omega (arith, one, upto), done-each start done n clocks (omega (arith, upto)) from.1)

pub done-from : (base : Map) (p : PipelineState) (tier : TierState) (done : ℕ) → IsCluster base p tier → p.forgotten ≤ done → p.forgotten ≤ done_with_by p.start done (clocks_of tier)
done-from base p tier done is upto = done-more p.start done p.forgotten (clocks_of tier) upto is.unpulled

pub done-upto : (p : PipelineState) (tier : TierState) (done : ℕ) → done_with_by p.start done (clocks_of tier) ≤ done
done-upto p tier done = done-least p.start done (clocks_of tier)

pub forgot-cluster : (base : Map) (p : PipelineState) (tier : TierState) (done : ℕ) → IsCluster base p tier →
    IsCluster base (record p { forgotten = done_with_by p.start done (clocks_of tier) }) tier
forgot-cluster base p tier done is =
    let n = done_with_by p.start done (clocks_of tier) in
    record {
      servers = is.servers;
      counts = is.counts;
      some_log = is.some_log;
      started = is.started;
      given = is.given;
      unpulled = done-each p.start done n (clocks_of tier) (omega arith) is.started;
    }

-- a pull leaves as many roles as there were
pub roles_stay : (old new : ClusterState) (s : ℕ) → new ≡ pull s old → HasSameServers old new
roles_stay old new s is =
    record {
      pipeline = record { resolvers = ap (λ c. length c.pipeline.resolved) is; logs = ap (λ c. length c.pipeline.logged) is };
      servers = ap (λ c. length c.pulled) is ∙ length-set old.pulled s (slice_index old.pulled s + 1);
    }
