use Rattle.std.proofs.Common.{◌≡◌, take, drop, ◌∙◌, ap, arith, List, ℕ}
use Rattle.journal.specs.Form.{nonzeros}
use Rattle.journal.proofs.Counting.{piece_more, piece_fits}
use Rattle.journal.proofs.Moments.{reads_more}
use Rattle.journal.proofs.recovery.count_from.Goals as goal

pub overflow_add-count : goal.overflow_add-count
overflow_add-count g c =
    let file = g.D.Device.seen c.args.device.now in
    let found : c.count_nonzeros-count.result ≡ nonzeros (take 65536 (drop c.loop-at.at file)) =
    c.count_nonzeros-count.ensures ∙ ap nonzeros (c.deref.ensures.value ∙ c.in_ok-piece.ensures.bytes ∙ ap (λ (f : List ℕ). take 65536 (drop c.loop-at.at f)) c.loop-at.invariant.reads.same) in
    omega (arith, piece_fits file c.args.from c.loop-at.at c.loop-at.count 65536 c.count_nonzeros-count.result c.loop-at.invariant.so_far found, c.requires.all, c.requires.small)

pub loop-at-preserved : goal.loop-at-preserved
loop-at-preserved g c =
    let d = g.D.Device in
    let file = d.seen c.args.device.now in
    let found : c.count_nonzeros-count.result ≡ nonzeros (take 65536 (drop c.loop-at.at file)) =
    c.count_nonzeros-count.ensures ∙ ap nonzeros (c.deref.ensures.value ∙ c.in_ok-piece.ensures.bytes ∙ ap (λ (f : List ℕ). take 65536 (drop c.loop-at.at f)) c.loop-at.invariant.reads.same) in
    record {
      so_far = piece_more file c.args.from c.loop-at.at c.loop-at.count 65536 c.count_nonzeros-count.result c.loop-at.invariant.so_far found;
      reads = reads_more d.seen d.may_leave d.moment d.left_since c.args.device.now c.loop-at.device c.read_at.new.self c.loop-at.invariant.reads c.read_at.ensures.seen c.read_at.ensures.crash c.read_at.ensures.time;
      faults = omega (arith, c.loop-at.invariant.faults, c.read_at.ensures.cause.later);
    }
