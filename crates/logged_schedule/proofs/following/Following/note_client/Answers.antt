use Rattle.std.proofs.Common.{◌≡◌, map, subst, sym}
use Rattle.schedule.specs.declared.step.Step.{Step}
use Rattle.schedule.specs.Past.{submitted_after}
use Rattle.logged_schedule.specs.Entries.{logged_as}
use Rattle.logged_schedule.specs.Following.{SubmitsOfClients}
use Rattle.logged_schedule.proofs.Places.{on_ok_both, quiet}
use Rattle.logged_schedule.proofs.Waiting.{commit_waits}
use Rattle.logged_schedule.proofs.following.Following.note_client.Goals as goal

pub returns-in-Commit-clause-waiting : goal.returns-in-Commit-clause-waiting
returns-in-Commit-clause-waiting c =
    let old = c.args.self.now in
    let new = c.commit.new.self in
    let reply = c.args.reply.now in
    on_ok_both c.commit.result c.commit.ensures.waiting c.commit.ensures.away
    (λ there away past waiting opens of are. subst (λ (step : Step). new.waiting.items ≡ map logged_as (submitted_after step reply past waiting)) (sym c.in-Commit.is)
    (commit_waits past old.places.items c.in-Commit.client reply waiting old.waiting.items new.waiting.items opens (subst (λ (step : Step). SubmitsOfClients step reply) c.in-Commit.is of) are there away))

pub returns-in-Execute-clause-places : goal.returns-in-Execute-clause-places
returns-in-Execute-clause-places c = λ past are. quiet past c.args.self.now.places.items c.args.step.now c.args.reply.now c.in-Execute.is are
