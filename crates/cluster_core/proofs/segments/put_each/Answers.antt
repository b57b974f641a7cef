use Rattle.std.proofs.Common.{length, refl}
use Rattle.cluster_core.proofs.Putting.{each_more, each_over, each_skipped}
use Rattle.cluster_core.proofs.Rising.{rise_at}
use Rattle.cluster_core.proofs.segments.put_each.Goals as goal

pub loop-place-preserved-then-place-least : goal.loop-place-preserved-then-place-least
loop-place-preserved-then-place-least c =
    each_skipped c.args.part.now c.args.requests.now.all c.args.least c.args.places.now c.loop-place.place-index _ c.args.segments.now c.loop-place.segments
    c.loop-place-test.true refl c.if-place-least.true c.loop-place.invariant

pub put_request-requires-clause-inside : goal.put_request-requires-clause-inside
put_request-requires-clause-inside c = (rise_at 0 (length c.args.requests.now.all) c.args.places.now c.loop-place.place-index c.requires.rising c.loop-place-test.true).1

pub returns-in_err-put_request-clause-puts : goal.returns-in_err-put_request-clause-puts
returns-in_err-put_request-clause-puts c =
    each_over c.args.requests.now.all c.args.places.now c.loop-place.place-index _ c.args.segments.now c.loop-place.segments c.put_request.new.segments
    c.loop-place-test.true refl c.put_request.ensures.overlays c.loop-place.invariant.puts

pub loop-place-preserved : goal.loop-place-preserved
loop-place-preserved c =
    each_more c.args.part.now c.args.requests.now.all c.args.least c.args.places.now c.loop-place.place-index _ c.args.segments.now c.loop-place.segments c.put_request.new.segments
    c.requires.rising c.loop-place-test.true refl c.put_request.ensures.overlays (λ low. c.in_ok-put_request.ensures.covered) c.loop-place.invariant
