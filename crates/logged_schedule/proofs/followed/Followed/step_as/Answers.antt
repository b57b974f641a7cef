use Rattle.std.proofs.Common.{subst}
use Rattle.cluster_core.specs.Cluster.{ClusterState}
use Rattle.cluster_core.specs.Roles.{AreInOrder}
use Rattle.schedule.specs.declared.step.Step.{Step}
use Rattle.schedule.specs.Past.{Past}
use Rattle.schedule.specs.Stepwise.{DoesNext}
use Rattle.logged_schedule.specs.declared.followed.Stepped.{Stepped}
use Rattle.logged_schedule.specs.Followed.{DoesFollow, IsFollowed}
use Rattle.logged_schedule.specs.Following.{SubmitsOfClients}
use Rattle.logged_schedule.proofs.Losing.{told_next, whole_ordered}
use Rattle.logged_schedule.proofs.Stepping.{steps_followed}
use Rattle.logged_schedule.proofs.followed.Followed.step_as.Goals as goal

pub returns-clause-next : goal.returns-clause-next
returns-clause-next c = subst (λ (way : Step). DoesNext way c.in_ok-schedule.reply c.args.self.schedule c.in_ok-schedule.schedule) c.requires c.in_ok-schedule.ensures

pub returns-clause-told : goal.returns-clause-told
returns-clause-told c =
    told_next c.args.step.now c.in_ok-schedule.reply c.args.self.schedule c.in_ok-schedule.schedule (subst (λ (k : ClusterState). AreInOrder k.pipeline) c.cluster.ensures.now (whole_ordered c.cluster.result.now.pipeline c.read_version-version.ensures.clocks))
    (subst (λ (way : Step). DoesNext way c.in_ok-schedule.reply c.args.self.schedule c.in_ok-schedule.schedule) c.requires c.in_ok-schedule.ensures)

pub returns-clause-followed : goal.returns-clause-followed
returns-clause-followed c =
    let reply = c.in_ok-schedule.reply in
    let stepped : Stepped = record { followed = record { schedule = c.in_ok-schedule.schedule; following = c.note.new.self }; reply = reply; told = c.in_ok-told.told } in
    steps_followed c.args.step.now c.args.self stepped (subst (λ (way : Step). DoesNext way reply c.args.self.schedule c.in_ok-schedule.schedule) c.requires c.in_ok-schedule.ensures)
    (subst (λ (way : Step). (past : Past) → IsFollowed past c.args.self.following → SubmitsOfClients way reply → DoesFollow past way reply c.in_ok-told.told.items c.note.new.self) c.requires c.in_ok-told.ensures)
