use Rattle.std.proofs.Common.{ap, subst}
use Rattle.journal.specs.Standing.{device_of}
use Rattle.journal.specs.Words.{bytes_of_each}
use Rattle.durable.specs.Exchanging.{HasNoRoomForAll, IsNotRewritten}
use Rattle.durable.specs.Standing as databases
use Rattle.durable.specs.Twofold.{image_of, log_device, spare_device, takes_commits}
use Rattle.durable.proofs.Making.{made_kept, made_moments, made_of, made_room}
use Rattle.durable.proofs.checkpointing.Checkpointed.checkpoint.Goals as goal

pub returns-in-Ok-clause-kept : goal.returns-in-Ok-clause-kept
returns-in-Ok-clause-kept g c =
    let d = g.D.Device in
    let old = c.args.self.now in
    let next = c.in-Some-next_generation.generation in
    let batch = bytes_of_each c.deref.result.now in
    let made = made_of next (takes_commits old) c.in-Some.image.now (image_of old) batch (bytes_of_each c.in_ok-batch.batch.items) c.in-Some.ensures (ap bytes_of_each c.deref.ensures.value) c.in_ok-batch.ensures in
    made_kept d.seen d.may_leave old.generation next batch (log_device old) (spare_device old) (databases.log_device c.exchange.new.self) (image_of old) c.in-Some-next_generation.ensures made (device_of c.exchange.new.other) c.in-Ok.ensures.swapped c.in-Ok.ensures.written c.in-Ok.ensures.durable

pub returns-in-Ok-clause-any_moment : goal.returns-in-Ok-clause-any_moment
returns-in-Ok-clause-any_moment g c =
    let d = g.D.Device in
    let old = c.args.self.now in
    let next = c.in-Some-next_generation.generation in
    let batch = bytes_of_each c.deref.result.now in
    let made = made_of next (takes_commits old) c.in-Some.image.now (image_of old) batch (bytes_of_each c.in_ok-batch.batch.items) c.in-Some.ensures (ap bytes_of_each c.deref.ensures.value) c.in_ok-batch.ensures in
    made_moments d.seen d.may_leave old.generation next batch (log_device old) (spare_device old) (databases.log_device c.exchange.new.self) (image_of old) c.in-Some-next_generation.ensures made d.moment d.left_since c.in-Ok.ensures.any_moment

pub returns-in-Err-Memory-clause-any_moment_err : goal.returns-in-Err-Memory-clause-any_moment_err
returns-in-Err-Memory-clause-any_moment_err g c =
    let d = g.D.Device in
    let old = c.args.self.now in
    let next = c.in-Some-next_generation.generation in
    let batch = bytes_of_each c.deref.result.now in
    let made = made_of next (takes_commits old) c.in-Some.image.now (image_of old) batch (bytes_of_each c.in_ok-batch.batch.items) c.in-Some.ensures (ap bytes_of_each c.deref.ensures.value) c.in_ok-batch.ensures in
    made_moments d.seen d.may_leave old.generation next batch (log_device old) (spare_device old) (device_of c.exchange.new.other) (image_of old) c.in-Some-next_generation.ensures made d.moment d.left_since c.in-Err-Memory.ensures.any_moment_err

pub returns-in-Err-Full-clause-any_moment_err : goal.returns-in-Err-Full-clause-any_moment_err
returns-in-Err-Full-clause-any_moment_err g c =
    let d = g.D.Device in
    let old = c.args.self.now in
    let next = c.in-Some-next_generation.generation in
    let batch = bytes_of_each c.deref.result.now in
    let made = made_of next (takes_commits old) c.in-Some.image.now (image_of old) batch (bytes_of_each c.in_ok-batch.batch.items) c.in-Some.ensures (ap bytes_of_each c.deref.ensures.value) c.in_ok-batch.ensures in
    made_moments d.seen d.may_leave old.generation next batch (log_device old) (spare_device old) (device_of c.exchange.new.other) (image_of old) c.in-Some-next_generation.ensures made d.moment d.left_since c.in-Err-Full.ensures.any_moment_err

pub returns-in-Err-Full-clause-full : goal.returns-in-Err-Full-clause-full
returns-in-Err-Full-clause-full g c = λ is.
    let d = g.D.Device in
    let old = c.args.self.now in
    let next = c.in-Some-next_generation.generation in
    let batch = bytes_of_each c.deref.result.now in
    let made = made_of next (takes_commits old) c.in-Some.image.now (image_of old) batch (bytes_of_each c.in_ok-batch.batch.items) c.in-Some.ensures (ap bytes_of_each c.deref.ensures.value) c.in_ok-batch.ensures in
    let file = d.seen (device_of c.exchange.new.other) in
    let unwritten = subst (λ e. IsNotRewritten d.seen d.may_leave d.faults d.wants_memory batch e (spare_device old) c.exchange.new.other) c.in-Err-Full.field-0-is c.in-Err-Full.ensures.unexchanged in
    subst (λ n. HasNoRoomForAll file n (image_of old)) c.in-Some-next_generation.ensures (made_room next (image_of old) batch file made unwritten.1)

pub returns-in-Err-Device-Failed-clause-any_moment_err : goal.returns-in-Err-Device-Failed-clause-any_moment_err
returns-in-Err-Device-Failed-clause-any_moment_err g c =
    let d = g.D.Device in
    let old = c.args.self.now in
    let next = c.in-Some-next_generation.generation in
    let batch = bytes_of_each c.deref.result.now in
    let made = made_of next (takes_commits old) c.in-Some.image.now (image_of old) batch (bytes_of_each c.in_ok-batch.batch.items) c.in-Some.ensures (ap bytes_of_each c.deref.ensures.value) c.in_ok-batch.ensures in
    made_moments d.seen d.may_leave old.generation next batch (log_device old) (spare_device old) (device_of c.exchange.new.other) (image_of old) c.in-Some-next_generation.ensures made d.moment d.left_since c.in-Err-Device-Failed.ensures.any_moment_err

pub returns-clause-any_moment_err : goal.returns-clause-any_moment_err
returns-clause-any_moment_err g c =
    let d = g.D.Device in
    let old = c.args.self.now in
    let next = c.in-Some-next_generation.generation in
    let batch = bytes_of_each c.deref.result.now in
    let made = made_of next (takes_commits old) c.in-Some.image.now (image_of old) batch (bytes_of_each c.in_ok-batch.batch.items) c.in-Some.ensures (ap bytes_of_each c.deref.ensures.value) c.in_ok-batch.ensures in
    made_moments d.seen d.may_leave old.generation next batch (log_device old) (spare_device old) (device_of c.exchange.new.other) (image_of old) c.in-Some-next_generation.ensures made d.moment d.left_since c.in-Err-Device-Memory.ensures.any_moment_err
