use Rattle.std.proofs.Common.{◌∙◌, refl}
use Rattle.journal.specs.Words.{bytes_of_each}
use Rattle.logged_schedule.specs.Twofold.{checkpoints_of, schedule_of}
use Rattle.logged_schedule.proofs.TwoFiles.{made_two, pairs_written}
use Rattle.logged_schedule.proofs.Whys.{not_prepared}
use Rattle.logged_schedule.proofs.twofold.TwofoldSchedule.made.Goals as goal

pub returns-clause-made : goal.returns-clause-made
returns-clause-made g c = λ run entries keeps.
    let d = g.D.Device in
    let batch = c.in_ok-batch in
    made_two d.seen d.may_leave run entries c.args.self.now c.cluster.result.now c.deref.result.now c.args.self.now.last c.in-Some.generation (bytes_of_each batch.batch.items) keeps (c.deref.ensures.value ∙ c.in-Ok.ensures.read) c.cluster.ensures.now refl
    batch.ensures.written batch.ensures.numbers batch.ensures.few batch.ensures.keys

pub returns-clause-written : goal.returns-clause-written
returns-clause-written g c =
    let batch = c.in_ok-batch in
    pairs_written c.cluster.result.now (schedule_of c.args.self.now).database.cluster c.deref.result.now c.args.self.now.last c.in-Some.generation (bytes_of_each batch.batch.items) (c.deref.ensures.value ∙ c.in-Ok.ensures.read) c.cluster.ensures.now batch.ensures.written

pub returns-in-Err-clause-unmade : goal.returns-in-Err-clause-unmade
returns-in-Err-clause-unmade g c = not_prepared c.cluster.result.now (schedule_of c.args.self.now).database.cluster (checkpoints_of c.args.self.now) c.in-Err.error c.cluster.ensures.now c.in-Err.ensures.unread
