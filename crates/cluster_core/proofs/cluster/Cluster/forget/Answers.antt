use Rattle.std.proofs.Common.{◌∙◌, ◌≤◌, ap, length, subst, sym}
use Rattle.cluster_core.specs.Cluster.{ClusterState, done_with_by, forget}
use Rattle.cluster_core.specs.Pulled.{IsCluster, clocks_of, cluster_of}
use Rattle.cluster_core.specs.Roles.{done_with}
use Rattle.cluster_core.proofs.ClusterSteps.{done-from, done-upto, forgot-cluster}
use Rattle.cluster_core.proofs.cluster.Cluster.forget.Goals as goal

pub forget_before-requires-clause-from : goal.forget_before-requires-clause-from
forget_before-requires-clause-from c =
    let p = c.self.inside.pipeline in
    let t = c.self.inside.tier in
    let n = c.pulled_by_all-done.ensures ∙ (λ i. done_with_by (c.start.ensures i) (c.done_with.ensures.value i) (clocks_of t)) in
    subst (λ n. p.forgotten ≤ n) (sym n)
    (done-from c.self.inside.base.map p t (done_with p) c.self.invariant (subst (λ n. p.forgotten ≤ n) c.done_with.ensures.value c.done_with.ensures.forgotten))

pub forget_before-requires-clause-upto : goal.forget_before-requires-clause-upto
forget_before-requires-clause-upto c =
    let p = c.self.inside.pipeline in
    let t = c.self.inside.tier in
    let n = c.pulled_by_all-done.ensures ∙ (λ i. done_with_by (c.start.ensures i) (c.done_with.ensures.value i) (clocks_of t)) in
    subst (λ n. n ≤ done_with p) (sym n) (done-upto p t (done_with p))

pub invariant_of-self : goal.invariant_of-self
invariant_of-self c =
    let p = c.self.inside.pipeline in
    let t = c.self.inside.tier in
    let n = c.pulled_by_all-done.ensures ∙ (λ i. done_with_by (c.start.ensures i) (c.done_with.ensures.value i) (clocks_of t)) in
    subst (λ q. IsCluster c.self.inside.base.map q t) (sym (c.forget_before.ensures ∙ ap (λ n. record p { forgotten = n }) n)) (forgot-cluster c.self.inside.base.map p t (done_with p) c.self.invariant)

pub returns-clause-step : goal.returns-clause-step
returns-clause-step c =
    let p = c.self.inside.pipeline in
    let t = c.self.inside.tier in
    let n = c.pulled_by_all-done.ensures ∙ (λ i. done_with_by (c.start.ensures i) (c.done_with.ensures.value i) (clocks_of t)) in
    ap (λ q. cluster_of c.self.inside.base.map q t) (c.forget_before.ensures ∙ ap (λ n. record p { forgotten = n }) n) ∙ ap forget c.self.view_is

pub returns-clause-roles : goal.returns-clause-roles
returns-clause-roles c =
    let is = returns-clause-step c in
    record {
      pipeline = record { resolvers = ap (λ (s : ClusterState). length s.pipeline.resolved) is; logs = ap (λ (s : ClusterState). length s.pipeline.logged) is };
      servers = ap (λ (s : ClusterState). length s.pulled) is;
    }
