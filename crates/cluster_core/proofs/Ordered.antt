-- The order of the clocks, from the invariant of a pipeline.
use Rattle.std.proofs.Common.{ℕ, ◌+◌, ◌≤◌, Bool, List, All, arith, length, map}
use Rattle.std.proofs.lemmas.List.{length-map}
use Rattle.std.proofs.lemmas.List.Elements.{All-map, All-weaker}
use Rattle.cluster_core.specs.Progress.{IsLog, IsPipeline, IsResolver, ResolverState, pipeline_state}
use Rattle.cluster_core.specs.Requests.{RequestList}
use Rattle.cluster_core.specs.Roles.{AreInOrder}
use Rattle.cluster_core.proofs.Standing.{some_resolver}

module _ (splits : List (List ℕ)) (window start : ℕ) (requests : RequestList) (resolvers : List ResolverState) (logs : List (List Bool)) (reported : ℕ)
    (was : IsPipeline splits window start requests resolvers logs reported) where
  abbrev answered_by : ResolverState → ℕ
  answered_by resolver = start + length resolver.causes

  abbrev logged_by : List Bool → ℕ
  logged_by passes = start + length passes

  past-log : (passes : List Bool) → All (λ resolver. length passes ≤ length resolver.causes) resolvers → All (λ clock. start + length passes ≤ clock) (map answered_by resolvers)
  past-log passes all =
      All-map (λ clock. start + length passes ≤ clock) answered_by resolvers
      (All-weaker (λ resolver. length passes ≤ length resolver.causes) (λ resolver. start + length passes ≤ start + length resolver.causes)
      (λ resolver behind. omega (arith, behind)) resolvers all)

  pub in_order : AreInOrder (pipeline_state splits window start requests resolvers logs reported)
  in_order =
      let some = some_resolver _ _ _ _ _ _ _ was in
      let log = was.some_log in
      let resolvers_same = length-map resolvers answered_by in
      let logs_same = length-map logs logged_by in record {
        some_resolver = omega (arith, some, resolvers_same);
        some_log = omega (arith, log, logs_same);
        given =
            All-map (λ clock. clock ≤ start + length requests.all) answered_by resolvers
            (All-weaker (IsResolver window start requests.all reported) (λ resolver. start + length resolver.causes ≤ start + length requests.all)
            (λ resolver is. let within = is.within in omega (arith, within)) resolvers was.resolving);
        answered =
            All-map (λ log. All (λ clock. log ≤ clock) (map answered_by resolvers)) logged_by logs
            (All-weaker (λ passes. All (λ resolver. length passes ≤ length resolver.causes) resolvers)
            (λ passes. All (λ clock. start + length passes ≤ clock) (map answered_by resolvers)) past-log logs was.ordered);
        appended =
            All-map (λ log. start + reported ≤ log) logged_by logs
            (All-weaker (IsLog splits start requests reported) (λ passes. start + reported ≤ start + length passes)
            (λ passes is. let behind = is.behind in omega (arith, behind)) logs was.logging);
        versions = was.versions;
      }
