use Rattle.std.proofs.Common.{refl}
use Rattle.cluster_core.proofs.ClusterSteps.{may-there, next-there, pulled-cluster, pulled-view, roles_stay, unpulled-at}
use Rattle.cluster_core.proofs.cluster.Cluster.pull.Goals as goal

pub logged_after-requires-clause-kept : goal.logged_after-requires-clause-kept
logged_after-requires-clause-kept c = unpulled-at c.self.inside.base.map c.self.inside.pipeline c.self.inside.tier c.args.s c.version-version.result c.self.invariant c.version-version.ensures

pub pull-requires-clause-next : goal.pull-requires-clause-next
pull-requires-clause-next c = next-there c.self.inside.tier c.args.s c.version-version.result c.version-version.ensures (c.in-Some.ensures.next refl)

pub invariant_of-self-2 : goal.invariant_of-self-2
invariant_of-self-2 c =
    pulled-cluster c.self.inside.base.map c.self.inside.pipeline c.self.inside.tier c.pull.new.self c.args.s c.version-version.result c.in-Some.mutations.now c.self.invariant c.version-version.ensures
    c.in-Some.ensures.some (c.in-Some.ensures.given refl) c.in_ok-pull.ensures.ok

pub returns-clause-step : goal.returns-clause-step
returns-clause-step c = (
  may-there c.self.inside.base.map c.self.inside.pipeline c.self.inside.tier c.args.self.now c.args.s c.version-version.result c.logs.result c.self.view_is c.version-version.ensures c.logs.ensures
      c.in-Some.ensures.may,
  pulled-view c.self.inside.base.map c.self.inside.pipeline c.self.inside.tier c.pull.new.self c.args.s c.version-version.result c.in-Some.mutations.now c.self.invariant c.version-version.ensures
      c.in-Some.ensures.some (c.in-Some.ensures.given refl) c.in_ok-pull.ensures.ok c.args.self.now c.self.view_is,
)

pub returns-clause-roles : goal.returns-clause-roles
returns-clause-roles c = roles_stay c.args.self.now _ c.args.s (returns-clause-step c).1
