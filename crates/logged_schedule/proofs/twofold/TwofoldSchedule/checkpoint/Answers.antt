use Rattle.std.proofs.Common.{◌∙◌, ap, refl, subst, sym}
use Rattle.journal.specs.Block.{StandsFor}
use Rattle.journal.specs.Device.{LeavesOnly, Only}
use Rattle.journal.specs.Journal.{entries_read}
use Rattle.journal.specs.Standing.{device_of}
use Rattle.journal.specs.Words.{bytes_of_each}
use Rattle.durable.specs.Exchanging.{IsCheckpointOf, IsNotRewritten, IsRewritten}
use Rattle.logged_schedule.specs.Twofold.{current_device, image_after, other_device}
use Rattle.logged_schedule.proofs.TwoFiles.{kept_made, leaves_made, without_room}
use Rattle.logged_schedule.proofs.Whys.{not_made}
use Rattle.logged_schedule.proofs.twofold.TwofoldSchedule.checkpoint.Goals as goal

pub returns-in-Ok-rewrite-clause-kept : goal.returns-in-Ok-rewrite-clause-kept
returns-in-Ok-rewrite-clause-kept g c = λ run entries keeps.
    let d = g.D.Device in
    let next = c.in-Ok.made.generation in
    let batch = bytes_of_each c.deref.result.now in
    let made = subst (IsCheckpointOf next (image_after entries)) (sym (ap bytes_of_each c.deref.ensures.value)) (c.in-Ok.ensures.made run entries keeps) in
    let of = c.of-two.ensures in
    kept_made d.seen d.may_leave run entries c.args.self c.of-two.result next batch keeps c.in-Ok.ensures.next made of.followed of.last of.generation of.spare
    (subst (λ n. StandsFor (d.seen n) batch) (sym of.log) c.in-Ok-rewrite.ensures.written) (subst (λ n. Only (d.seen n) (d.may_leave n)) (sym of.log) c.in-Ok-rewrite.ensures.durable)

pub returns-in-Ok-rewrite-clause-any_moment : goal.returns-in-Ok-rewrite-clause-any_moment
returns-in-Ok-rewrite-clause-any_moment g c = λ run entries keeps.
    let d = g.D.Device in
    let next = c.in-Ok.made.generation in
    let batch = bytes_of_each c.deref.result.now in
    let spare = other_device c.args.self in
    let made = subst (IsCheckpointOf next (image_after entries)) (sym (ap bytes_of_each c.deref.ensures.value)) (c.in-Ok.ensures.made run entries keeps) in
    leaves_made d.seen d.may_leave d.moment d.left_since run entries c.args.self (current_device c.of-two.result) next batch keeps c.in-Ok.ensures.next made
    (subst (λ n. LeavesOnly d.moment d.left_since spare n (IsRewritten (entries_read (d.seen spare)) batch)) (sym c.of-two.ensures.log) c.rewrite.ensures.any_moment)

pub returns-in-Err-Memory-clause-any_moment_unmade : goal.returns-in-Err-Memory-clause-any_moment_unmade
returns-in-Err-Memory-clause-any_moment_unmade g c = λ run entries keeps.
    let d = g.D.Device in
    let next = c.in-Ok.made.generation in
    let batch = bytes_of_each c.deref.result.now in
    let spare = other_device c.args.self in
    let made = subst (IsCheckpointOf next (image_after entries)) (sym (ap bytes_of_each c.deref.ensures.value)) (c.in-Ok.ensures.made run entries keeps) in
    leaves_made d.seen d.may_leave d.moment d.left_since run entries c.args.self (other_device c.of-two-in-Err-Memory.result) next batch keeps c.in-Ok.ensures.next made
    (subst (λ n. LeavesOnly d.moment d.left_since spare n (IsRewritten (entries_read (d.seen spare)) batch)) (sym c.of-two-in-Err-Memory.ensures.spare) c.rewrite.ensures.any_moment)

pub returns-in-Err-Full-clause-any_moment_unmade : goal.returns-in-Err-Full-clause-any_moment_unmade
returns-in-Err-Full-clause-any_moment_unmade g c = λ run entries keeps.
    let d = g.D.Device in
    let next = c.in-Ok.made.generation in
    let batch = bytes_of_each c.deref.result.now in
    let spare = other_device c.args.self in
    let made = subst (IsCheckpointOf next (image_after entries)) (sym (ap bytes_of_each c.deref.ensures.value)) (c.in-Ok.ensures.made run entries keeps) in
    leaves_made d.seen d.may_leave d.moment d.left_since run entries c.args.self (other_device c.of-two-in-Err-Full.result) next batch keeps c.in-Ok.ensures.next made
    (subst (λ n. LeavesOnly d.moment d.left_since spare n (IsRewritten (entries_read (d.seen spare)) batch)) (sym c.of-two-in-Err-Full.ensures.spare) c.rewrite.ensures.any_moment)

pub returns-clause-any_moment_err : goal.returns-clause-any_moment_err
returns-clause-any_moment_err g c = λ run entries keeps.
    let d = g.D.Device in
    let next = c.in-Ok.made.generation in
    let batch = bytes_of_each c.deref.result.now in
    let spare = other_device c.args.self in
    let made = subst (IsCheckpointOf next (image_after entries)) (sym (ap bytes_of_each c.deref.ensures.value)) (c.in-Ok.ensures.made run entries keeps) in
    leaves_made d.seen d.may_leave d.moment d.left_since run entries c.args.self c.into_device-in-Err-Device.result next batch keeps c.in-Ok.ensures.next made
    (subst (λ n. LeavesOnly d.moment d.left_since spare n (IsRewritten (entries_read (d.seen spare)) batch)) (sym c.into_device-in-Err-Device.ensures) c.rewrite.ensures.any_moment)

pub returns-in-Err-clause-unmade : goal.returns-in-Err-clause-unmade
returns-in-Err-clause-unmade g c = (not_made g.D.Device.seen c.args.self (other_device c.args.self) c.in-Err.error c.in-Err.ensures.unmade, refl)

pub returns-in-Err-Full-clause-unmade : goal.returns-in-Err-Full-clause-unmade
returns-in-Err-Full-clause-unmade g c =
    let d = g.D.Device in
    let two = c.of-two-in-Err-Full in
    let batch = bytes_of_each c.deref.result.now in
    let new = c.rewrite.new.journal in
    let unwritten = subst (λ e. IsNotRewritten d.seen d.may_leave d.faults d.wants_memory batch e (other_device c.args.self) new) c.in-Err-Full.field-0-is c.in-Err-Full.ensures.unwritten in (
      without_room d.seen d.may_leave c.args.self two.result c.in-Ok.made.generation batch (device_of new) c.in-Ok.ensures.next (ap bytes_of_each c.deref.ensures.value ∙ c.in-Ok.ensures.written) two.ensures.spare unwritten.1,
      two.ensures.generation,
    )
