use Rattle.std.proofs.Common.{◌≡◌, ◌+◌, ◌<◌, ◌^◌, ◌++◌, List, ℕ, Vec, Global, length, drop, sym, ◌∙◌, ap, subst, arith}
use Rattle.journal.specs.Block.{what_begins}
use Rattle.journal.specs.Journal.{damage_read}
use Rattle.journal.specs.Recovery.{TookFirst, batch_bytes}
use Rattle.journal.specs.Words.{bytes_of_each}
use Rattle.journal.specs.declared.block.Batch.{Batch}
use Rattle.journal.specs.declared.block.First.{First}
use Rattle.journal.proofs.Moments.{reads_on}
use Rattle.journal.proofs.Replays.{one_more, room, ends_there, undamaged, took_all, damaged_there, took_first, took_part}
use Rattle.journal.proofs.recovery.replay.Goals as goal

-- what is found of the file that was read is so of the first one
begins_so : (file now : List ℕ) (at : ℕ) (found : First Batch) (what : First Batch) → now ≡ file → batch_bytes found ≡ what_begins (drop at now) → found ≡ what → what_begins (drop at file) ≡ batch_bytes what
begins_so file now at found what same is tells = ap (λ (f : List ℕ). what_begins (drop at f)) (sym same) ∙ sym is ∙ ap batch_bytes tells

pub returns-in_err-read_block-clause-took_first : goal.returns-in_err-read_block-clause-took_first
returns-in_err-read_block-clause-took_first g c =
    let small : length (g.D.Device.seen c.args.device.now) < 2 ^ 63 = omega (arith, c.requires.all, c.requires.small) in
    took_first _ _ _ _ c.loop-batch.invariant.so_far small

pub returns-in-End-clause-ends : goal.returns-in-End-clause-ends
returns-in-End-clause-ends g c =
    let file = g.D.Device.seen c.args.device.now in
    let found = begins_so file (g.D.Device.seen c.loop-batch.device) c.loop-batch.at _ _ c.loop-batch.invariant.reads.same c.in_ok-read_block.ensures.found c.in-End.is in
    ends_there _ _ _ _ c.loop-batch.invariant.so_far (omega (arith, c.requires.all, c.requires.small)) found

pub returns-in-End-clause-whole : goal.returns-in-End-clause-whole
returns-in-End-clause-whole g c =
    let file = g.D.Device.seen c.args.device.now in
    let found = begins_so file (g.D.Device.seen c.loop-batch.device) c.loop-batch.at _ _ c.loop-batch.invariant.reads.same c.in_ok-read_block.ensures.found c.in-End.is in
    undamaged _ _ _ _ c.loop-batch.invariant.so_far (omega (arith, c.requires.all, c.requires.small)) found

pub returns-in-End-clause-took : goal.returns-in-End-clause-took
returns-in-End-clause-took g c =
    let file = g.D.Device.seen c.args.device.now in
    let found = begins_so file (g.D.Device.seen c.loop-batch.device) c.loop-batch.at _ _ c.loop-batch.invariant.reads.same c.in_ok-read_block.ensures.found c.in-End.is in
    took_all _ _ _ _ c.loop-batch.invariant.so_far (omega (arith, c.requires.all, c.requires.small)) found

pub returns-in-End-clause-took_first : goal.returns-in-End-clause-took_first
returns-in-End-clause-took_first g c =
    let small : length (g.D.Device.seen c.args.device.now) < 2 ^ 63 = omega (arith, c.requires.all, c.requires.small) in
    took_first _ _ _ _ c.loop-batch.invariant.so_far small

pub returns-in-Damaged-clause-took_first : goal.returns-in-Damaged-clause-took_first
returns-in-Damaged-clause-took_first g c =
    let small : length (g.D.Device.seen c.args.device.now) < 2 ^ 63 = omega (arith, c.requires.all, c.requires.small) in
    took_first _ _ _ _ c.loop-batch.invariant.so_far small

pub returns-in-Damaged-clause-reason : goal.returns-in-Damaged-clause-reason
returns-in-Damaged-clause-reason g c =
    let file = g.D.Device.seen c.args.device.now in
    let found = begins_so file (g.D.Device.seen c.loop-batch.device) c.loop-batch.at _ _ c.loop-batch.invariant.reads.same c.in_ok-read_block.ensures.found c.in-Damaged.is in
    damaged_there _ _ _ _ c.loop-batch.invariant.so_far (omega (arith, c.requires.all, c.requires.small)) found

pub overflow_add-at : goal.overflow_add-at
overflow_add-at g c =
    let file = g.D.Device.seen c.args.device.now in
    let found = begins_so file (g.D.Device.seen c.loop-batch.device) c.loop-batch.at _ _ c.loop-batch.invariant.reads.same c.in_ok-read_block.ensures.found c.in-Whole.is in
    let fits = room file c.loop-batch.at _ _ _ c.loop-batch.invariant.so_far found in
    omega (arith, fits, c.in-Whole.batch.sized, c.requires.all, c.requires.small)

pub returns-in-Err-clause-took_first : goal.returns-in-Err-clause-took_first
returns-in-Err-clause-took_first g c =
    let file = g.D.Device.seen c.args.device.now in
    let found = begins_so file (g.D.Device.seen c.loop-batch.device) c.loop-batch.at _ _ c.loop-batch.invariant.reads.same c.in_ok-read_block.ensures.found c.in-Whole.is in
    let batch = bytes_of_each c.in-Whole.batch.entries.items in
    let mid = g.S.Sink.took c.loop-batch.sink in
    let new = g.S.Sink.took c.hand_over.new.sink in
    let took : TookFirst mid new batch = subst (λ (v : List (Vec ℕ Global)). TookFirst mid new (bytes_of_each v)) c.deref.ensures.value c.hand_over.ensures.took_first in
    took_part file c.loop-batch.at _ mid new batch c.loop-batch.invariant.so_far (omega (arith, c.requires.all, c.requires.small)) found took

pub returns-in-Err-clause-reason : goal.returns-in-Err-clause-reason
returns-in-Err-clause-reason g c = c.in-Err.ensures.reason _ _ (damage_read (g.D.Device.seen c.args.device.now))

pub loop-batch-smaller : goal.loop-batch-smaller
loop-batch-smaller g c =
    let file = g.D.Device.seen c.args.device.now in
    let found = begins_so file (g.D.Device.seen c.loop-batch.device) c.loop-batch.at _ _ c.loop-batch.invariant.reads.same c.in_ok-read_block.ensures.found c.in-Whole.is in
    let fits = room file c.loop-batch.at _ _ _ c.loop-batch.invariant.so_far found in
    omega (arith, fits, c.in-Whole.batch.sized, c.requires.all)

pub loop-batch-preserved : goal.loop-batch-preserved
loop-batch-preserved g c =
    let file = g.D.Device.seen c.args.device.now in
    let found = begins_so file (g.D.Device.seen c.loop-batch.device) c.loop-batch.at _ _ c.loop-batch.invariant.reads.same c.in_ok-read_block.ensures.found c.in-Whole.is in
    let fits = room file c.loop-batch.at _ _ _ c.loop-batch.invariant.so_far found in
    let batch = bytes_of_each c.in-Whole.batch.entries.items in
    let mid = g.S.Sink.took c.loop-batch.sink in
    let new = g.S.Sink.took c.hand_over.new.sink in
    let took : new ≡ mid ++ batch = c.in_default.ensures.took ∙ ap (λ (v : List (Vec ℕ Global)). mid ++ bytes_of_each v) c.deref.ensures.value in
    record {
      so_far = one_more file c.loop-batch.at (c.loop-batch.at + c.in-Whole.batch.len) _ mid new batch c.loop-batch.invariant.so_far found took (ap (λ (n : ℕ). c.loop-batch.at + n) c.in-Whole.batch.sized);
      within = omega (arith, fits, c.in-Whole.batch.sized, c.requires.all);
      reads = reads_on g.D.Device.seen g.D.Device.may_leave g.D.Device.moment g.D.Device.left_since c.args.device.now c.loop-batch.device c.read_block.new.device c.loop-batch.invariant.reads c.read_block.ensures.reads;
      faults = omega (arith, c.loop-batch.invariant.faults, c.read_block.ensures.cause.later);
    }
