use Rattle.std.proofs.Common.{◌≡◌, ◌∙◌, ◌-◌, ◌≤◌, ap, arith, refl, subst, sym, true}
use Rattle.cluster_core.specs.Decision.{first_disturbed, newer_agreed, numbered}
use Rattle.cluster_core.specs.Kept.{KnowsWriters, least_of, rise_between, since}
use Rattle.cluster_core.proofs.Asked.{asked_newest, least_at_place, least_is_at, quiet, range_none, range_some, same_request, seen_fits}
use Rattle.cluster_core.proofs.Waiting.{nobody_waits, stands_on}
use Rattle.cluster_core.proofs.kept.Writers.decide.Goals as goal

pub returns-then-not-may_meet-clause-cause : goal.returns-then-not-may_meet-clause-cause
returns-then-not-may_meet-clause-cause c = λ entry here.
    let least : c.saturating_sub-least.result ≡ entry.request.read_version - c.args.start =
    c.saturating_sub-least.ensures ∙ ap (λ q. q.read_version - c.args.start) (same_request c.args.start c.args.requests.now.all c.args.place c.at-request.result.now entry c.requires.inside c.at-request.ensures here) in
    let is = least_is_at c.args.start c.args.requests.now.all c.args.place entry here in
    quiet c.args.part.now c.args.start c.args.requests.now.all c.requires.below c.args.place entry here
    (nobody_waits c.args.part.now c.args.start c.args.requests.now.all (entry.request.read_version - c.args.start) c.args.place c.args.self.now.ranges
    (subst (λ n. KnowsWriters c.args.part.now c.args.start c.args.requests.now.all n c.args.place c.args.self.now) is c.requires.knows).ranges
    (subst (λ n. rise_between c.args.self.now.ranges.ordered n c.args.self.now.ranges.pending ≡ true) least (c.may_meet.ensures c.if-not-may_meet.true)))

pub note-requires-clause-asks : goal.note-requires-clause-asks
note-requires-clause-asks c =
    let fits = c.requires.fits in
    let inside = c.requires.inside in
    record { kept = c.requires.kept; inside = omega (arith, inside); fits = omega (arith, fits) }

pub note-requires-clause-in_order : goal.note-requires-clause-in_order
note-requires-clause-in_order c = c.requires.knows.points.in_order

pub loop-range-init : goal.loop-range-init
loop-range-init c = record {
  left = λ entry here.
      ap (first_disturbed c.args.part.now (newer_agreed c.args.part.now (numbered c.args.start c.args.requests.now.all) entry))
      (c.as_slice-range-items.ensures ∙ ap (λ q. q.reads) (same_request c.args.start c.args.requests.now.all c.args.place c.at-request.result.now entry c.requires.inside c.at-request.ensures here));
  kept = c.note.ensures.kept;
  noted = c.in_ok-note.ensures.noted;
}

pub newest_in-requires-clause-asks : goal.newest_in-requires-clause-asks
newest_in-requires-clause-asks c =
    let fits = c.requires.fits in
    let inside = c.requires.inside in
    record { kept = c.requires.kept; inside = omega (arith, inside); fits = omega (arith, fits) }

pub newest_in-requires-clause-from : goal.newest_in-requires-clause-from
newest_in-requires-clause-from c =
    subst (λ n. c.args.floor ≤ n)
    (least_at_place c.args.start c.args.requests.now.all c.args.place c.at-request.result.now c.requires.inside c.at-request.ensures ∙ sym c.saturating_sub-least.ensures) c.requires.asks

pub newest_in-requires-clause-knows : goal.newest_in-requires-clause-knows
newest_in-requires-clause-knows c =
    let least = least_at_place c.args.start c.args.requests.now.all c.args.place c.at-request.result.now c.requires.inside c.at-request.ensures ∙ sym c.saturating_sub-least.ensures in (
      c.args.start,
      subst (λ n. KnowsWriters c.args.part.now c.args.start c.args.requests.now.all n c.args.place c.loop-range.self) least
          (c.loop-range.invariant.kept.knows c.args.start (least_of c.args.start c.args.requests.now.all c.args.place) c.requires.asks c.requires.knows),
    )

pub overflow_add-seen : goal.overflow_add-seen
overflow_add-seen c =
    let found = asked_newest c.args.part.now c.args.start c.args.requests.now.all c.args.place c.saturating_sub-least.result c.at-request.result.now c.loop-range.self c.range-item.result c.in_ok-newest.newest
    c.requires.inside c.at-request.ensures c.saturating_sub-least.ensures (c.in_ok-newest.ensures.newest c.args.start)
    (c.loop-range.invariant.kept.knows c.args.start (least_of c.args.start c.args.requests.now.all c.args.place) c.requires.asks c.requires.knows) in
    let small = seen_fits c.args.part.now c.args.start c.args.requests.now.all _ c.saturating_sub-least.result c.args.place c.in-Some.newest c.range-item.result c.in_ok-newest.newest found (sym c.in-Some.is ∙ c.since.ensures) c.requires.inside c.requires.fits in
    omega (arith, small)

pub overflow_add-seen-in-Some : goal.overflow_add-seen-in-Some
overflow_add-seen-in-Some c =
    let found = asked_newest c.args.part.now c.args.start c.args.requests.now.all c.args.place c.saturating_sub-least.result c.at-request.result.now c.loop-range.self c.range-item.result c.in_ok-newest.newest
    c.requires.inside c.at-request.ensures c.saturating_sub-least.ensures (c.in_ok-newest.ensures.newest c.args.start)
    (c.loop-range.invariant.kept.knows c.args.start (least_of c.args.start c.args.requests.now.all c.args.place) c.requires.asks c.requires.knows) in
    let small = seen_fits c.args.part.now c.args.start c.args.requests.now.all _ c.saturating_sub-least.result c.args.place c.in-Some.newest c.range-item.result c.in_ok-newest.newest found (sym c.in-Some.is ∙ c.since.ensures) c.requires.inside c.requires.fits in
    omega (arith, small)

pub returns-in-Some-clause-cause : goal.returns-in-Some-clause-cause
returns-in-Some-clause-cause c = λ entry here.
    let found = asked_newest c.args.part.now c.args.start c.args.requests.now.all c.args.place c.saturating_sub-least.result c.at-request.result.now c.loop-range.self c.range-item.result c.in_ok-newest.newest
    c.requires.inside c.at-request.ensures c.saturating_sub-least.ensures (c.in_ok-newest.ensures.newest c.args.start)
    (c.loop-range.invariant.kept.knows c.args.start (least_of c.args.start c.args.requests.now.all c.args.place) c.requires.asks c.requires.knows) in
    let least : c.saturating_sub-least.result ≡ entry.request.read_version - c.args.start =
    c.saturating_sub-least.ensures ∙ ap (λ q. q.read_version - c.args.start) (same_request c.args.start c.args.requests.now.all c.args.place c.at-request.result.now entry c.requires.inside c.at-request.ensures here) in
    range_some c.args.part.now c.args.start c.args.requests.now.all c.requires.below c.args.place entry here found.segments found.knows
    c.as_slice-range-items.result.now c.loop-range.range-index c.range-item.result c.in_ok-newest.newest c.loop-range-test.true c.range-item.is found.over (c.loop-range.invariant.left entry here)
    c.in-Some.newest _ c.in_ok-range.range (sym c.in-Some.is ∙ c.since.ensures ∙ ap (λ n. since n c.in_ok-newest.newest) least) refl c.in_ok-range.ensures

pub loop-range-preserved : goal.loop-range-preserved
loop-range-preserved c = record {
  left = λ entry here.
      let found = asked_newest c.args.part.now c.args.start c.args.requests.now.all c.args.place c.saturating_sub-least.result c.at-request.result.now c.loop-range.self c.range-item.result c.in_ok-newest.newest
      c.requires.inside c.at-request.ensures c.saturating_sub-least.ensures (c.in_ok-newest.ensures.newest c.args.start)
      (c.loop-range.invariant.kept.knows c.args.start (least_of c.args.start c.args.requests.now.all c.args.place) c.requires.asks c.requires.knows) in
      let least : c.saturating_sub-least.result ≡ entry.request.read_version - c.args.start =
      c.saturating_sub-least.ensures ∙ ap (λ q. q.read_version - c.args.start) (same_request c.args.start c.args.requests.now.all c.args.place c.at-request.result.now entry c.requires.inside c.at-request.ensures here) in
      range_none c.args.part.now c.args.start c.args.requests.now.all c.requires.below c.args.place entry here found.segments found.knows
      c.as_slice-range-items.result.now c.loop-range.range-index c.range-item.result c.in_ok-newest.newest c.loop-range-test.true c.range-item.is found.over (c.loop-range.invariant.left entry here)
      (sym c.in_default.is ∙ c.since.ensures ∙ ap (λ n. since n c.in_ok-newest.newest) least);
  kept = stands_on c.args.part.now c.args.requests.now.all c.args.floor c.args.place _ c.loop-range.self c.newest_in.new.self c.loop-range.invariant.kept c.newest_in.ensures.kept;
  noted = λ whole.
      ap (λ w. w.ordered) c.newest_in.ensures.points ∙ c.loop-range.invariant.noted (subst (λ n. n ≤ c.saturating_sub-least.result) c.newest_in.ensures.whole whole);
}

pub newest_in-requires-clause-noted : goal.newest_in-requires-clause-noted
newest_in-requires-clause-noted c = c.loop-range.invariant.noted

pub returns-in_err-newest-clause-kept : goal.returns-in_err-newest-clause-kept
returns-in_err-newest-clause-kept c =
    stands_on c.args.part.now c.args.requests.now.all c.args.floor c.args.place _ c.loop-range.self c.newest_in.new.self c.loop-range.invariant.kept c.newest_in.ensures.kept

pub returns-in_err-range-clause-kept : goal.returns-in_err-range-clause-kept
returns-in_err-range-clause-kept c =
    stands_on c.args.part.now c.args.requests.now.all c.args.floor c.args.place _ c.loop-range.self c.newest_in.new.self c.loop-range.invariant.kept c.newest_in.ensures.kept

pub returns-in-Some-clause-kept : goal.returns-in-Some-clause-kept
returns-in-Some-clause-kept c =
    stands_on c.args.part.now c.args.requests.now.all c.args.floor c.args.place _ c.loop-range.self c.newest_in.new.self c.loop-range.invariant.kept c.newest_in.ensures.kept

pub returns-clause-kept : goal.returns-clause-kept
returns-clause-kept c = c.loop-range.invariant.kept
