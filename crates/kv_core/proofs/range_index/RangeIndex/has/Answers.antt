use Rattle.std.proofs.Common.{◌∙◌, ◌<◌, ◌-◌, ap, arith, get_or, length, map, subst, sym}
use Rattle.std.proofs.lemmas.List.{get_or_read, length-map}
use Rattle.kv_core.specs.RangeIndex.{IsLastIn, bucket_of}
use Rattle.kv_core.proofs.Indexes.{IsLeft, bucket_within, left_first, left_next, left_none}
use Rattle.kv_core.proofs.range_index.RangeIndex.has.Goals as goal

pub loop-place-init : goal.loop-place-init
loop-place-init c =
    let last = c.args.self.now.last.items in
    let range = c.args.range.now in
    let ranges = c.args.ranges.now in
    let bucket = bucket_of (length last) range in
    let within = bucket_within (length last) range c.requires.index.0 in
    let read = get_or_read last _ _ (subst (λ b. b < length last) (sym c.requires.bucket) within) c.index-place.ensures 0 ∙ ap (λ b. get_or last b 0) c.requires.bucket in
    subst (IsLeft range ranges (map (bucket_of (length last)) ranges) bucket) (sym read)
    (left_first (length last) range ranges (get_or last bucket 0) ((c.requires.index.1 c.requires.index.0).of_each bucket within))

pub loop-place-preserved : goal.loop-place-preserved
loop-place-preserved c =
    let last = c.args.self.now.last.items in
    let before = c.args.self.now.before.items in
    let range = c.args.range.now in
    let ranges = c.args.ranges.now in
    let buckets = map (bucket_of (length last)) ranges in
    let place = c.loop-place.place in
    let chained = c.requires.index.1 c.requires.index.0 in
    let within = c.loop-place.invariant.within in
    let some = c.loop-place-test.true in
    let long = chained.as_long in
    let there : place - 1 < length buckets = omega (arith, length-map ranges (bucket_of (length last))) in
    let read = get_or_read before _ _ (omega arith) c.index-place-in-loop-place.ensures 0 in
    left_next (length last) range ranges place c.index-place-in-loop-place.result.now c.index-ranges-place.result some c.loop-place.invariant
    (subst (IsLastIn (get_or buckets (place - 1) 0) buckets (place - 1)) (sym read) (chained.before_each (place - 1) there))
    c.index-ranges-place.is (sym c.is_same.ensures ∙ c.if-is_same.false)

pub returns : goal.returns
returns c =
    sym (left_none (length c.args.self.now.last.items) c.args.range.now c.args.ranges.now c.loop-place.place c.loop-place-test.false c.loop-place.invariant)
