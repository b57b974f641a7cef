use Rattle.std.proofs.Common.{◌≡◌, arith, length, refl, subst, sym, true}
use Rattle.std.proofs.lemmas.List.{take_all}
use Rattle.cluster_core.specs.Kept.{has_place}
use Rattle.cluster_core.proofs.Noting.{noted_each, noted_skipped}
use Rattle.cluster_core.proofs.Putting.{each_over}
use Rattle.cluster_core.proofs.Rising.{rise_at}
use Rattle.cluster_core.proofs.points.Points.note_each.Goals as goal

pub loop-place-preserved-then-place-least : goal.loop-place-preserved-then-place-least
loop-place-preserved-then-place-least c =
    noted_skipped c.args.part.now c.args.requests.now.all c.args.least c.args.places.now c.loop-place.place-index _ c.args.self.now c.loop-place.self
    c.loop-place-test.true refl c.if-place-least.true c.loop-place.invariant

pub note_request-requires-clause-inside : goal.note_request-requires-clause-inside
note_request-requires-clause-inside c = (rise_at 0 (length c.args.requests.now.all) c.args.places.now c.loop-place.place-index c.requires.rising c.loop-place-test.true).1

pub returns-in_err-note_request-clause-puts : goal.returns-in_err-note_request-clause-puts
returns-in_err-note_request-clause-puts c =
    each_over c.args.requests.now.all c.args.places.now c.loop-place.place-index _ c.args.self.now.segments c.loop-place.self.segments c.note_request.new.self.segments
    c.loop-place-test.true refl c.note_request.ensures.overlays c.loop-place.invariant.puts

pub loop-place-preserved : goal.loop-place-preserved
loop-place-preserved c =
    noted_each c.args.part.now c.args.requests.now.all c.args.least c.args.places.now c.loop-place.place-index _ c.args.self.now c.loop-place.self c.note_request.new.self
    c.requires.rising c.loop-place-test.true refl c.note_request.ensures.overlays c.in_ok-note_request.ensures.covered c.note_request.ensures.whole c.loop-place.invariant

pub returns-clause-covered : goal.returns-clause-covered
returns-clause-covered c = λ key place low whole has own wrote.
    (c.loop-place.invariant.so place low whole).covered key place (omega arith)
    (subst (λ ps. has_place ps place ≡ true) (sym (take_all c.loop-place.place-index c.args.places.now c.loop-place-test.false)) has) own wrote
