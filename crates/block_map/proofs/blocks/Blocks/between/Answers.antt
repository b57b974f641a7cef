use Rattle.std.proofs.Common.{◌+◌, ◌<◌, ◌++◌, ◌∙◌, append-nil, ap, arith, length, slice_range, sym}
use Rattle.std.proofs.lemmas.List.{nil_from_length}
use Rattle.std.specs.BTreeMap.Range.{entries_between}
use Rattle.std.specs.declared.ops.Bound.TheVariants.{Included, Excluded}
use Rattle.kv_core.specs.Bytes.{key_cmp}
use Rattle.block_map.specs.Blocks.{block_entries}
use Rattle.block_map.proofs.Edited.{block_is}
use Rattle.block_map.proofs.Spanned.{in_one, in_several, later_block, none_between, places_in_one}
use Rattle.block_map.proofs.Zipped.{none_there, some_there}
use Rattle.block_map.proofs.blocks.Blocks.between.Goals.{then-is_empty-via-then-is_empty, then-is_empty-via-else-is_empty+then-not-is_before}
use Rattle.block_map.proofs.blocks.Blocks.between.Goals as goal

pub returns-then-is_empty : goal.returns-then-is_empty
returns-then-is_empty g c =
    let lo = c.args.begin.now in
    let hi = c.args.end.now in
    let bs = c.args.self.now.list.items in
    c.new.ensures ∙ (λ i. c.empty.ensures i ++ c.empty-then-is_empty.ensures i)
    ∙ elim c.then-is_empty.branch [
      | then-is_empty-via-then-is_empty w ↦
          let none = nil_from_length bs (omega (arith, none_there c.args.self.now.list.len (sym c.is_empty.ensures ∙ w.if-is_empty.true))) in
          sym (ap (λ l. entries_between key_cmp (Included lo) (Excluded hi) (block_entries l)) none)
      | then-is_empty-via-else-is_empty+then-not-is_before w ↦ none_between lo hi (sym w.is_before.ensures ∙ w.if-not-is_before.true) (block_entries bs)
    ]

pub part-requires-clause-begin : goal.part-requires-clause-begin
part-requires-clause-begin g c =
    let bs = c.args.self.now.list.items in
    let some : 0 < length bs = omega (arith, some_there c.args.self.now.list.len (sym c.is_empty.ensures ∙ c.if-is_empty.false)) in
    places_in_one c.args.begin.now c.args.end.now (sym c.is_before.ensures ∙ c.if-not-is_before.false) c.args.self.now.bounds.items bs c.requires some
    c.spot_of-first.result.0 c.spot_of-last.result.0 c.spot_of-first.result.1 c.spot_of-last.result.1
    c.spot_of-first.ensures.block c.spot_of-last.ensures.block c.spot_of-first.ensures.place c.spot_of-last.ensures.place
    c.if-first-last.true

pub returns-then-first-last : goal.returns-then-first-last
returns-then-first-last g c =
    let bs = c.args.self.now.list.items in
    let some : 0 < length bs = omega (arith, some_there c.args.self.now.list.len (sym c.is_empty.ensures ∙ c.if-is_empty.false)) in
    c.new-then-first-last.ensures ∙ (λ i. c.part.ensures i ++ c.empty-then-first-last.ensures i) ∙ append-nil (slice_range c.index-head.result.now c.spot_of-first.result.1 c.spot_of-last.result.1)
    ∙ in_one c.args.begin.now c.args.end.now (sym c.is_before.ensures ∙ c.if-not-is_before.false) c.args.self.now.bounds.items bs c.requires some
    c.spot_of-first.result.0 c.spot_of-last.result.0 c.spot_of-first.result.1 c.spot_of-last.result.1
    c.spot_of-first.ensures.block c.spot_of-last.ensures.block c.spot_of-first.ensures.place c.spot_of-last.ensures.place
    c.index-head.result.now (block_is bs c.spot_of-first.result.0 c.index-head.result.now c.spot_of-first.ensures.within c.index-head.ensures) c.if-first-last.true

pub between-middle-requires-clause-begin : goal.between-middle-requires-clause-begin
between-middle-requires-clause-begin g c =
    let bs = c.args.self.now.list.items in
    let some : 0 < length bs = omega (arith, some_there c.args.self.now.list.len (sym c.is_empty.ensures ∙ c.if-is_empty.false)) in
    let later = later_block c.args.begin.now c.args.end.now (sym c.is_before.ensures ∙ c.if-not-is_before.false) c.args.self.now.bounds.items bs c.requires some
    c.spot_of-first.result.0 c.spot_of-last.result.0 c.spot_of-first.result.1 c.spot_of-last.result.1
    c.spot_of-first.ensures.block c.spot_of-last.ensures.block c.spot_of-first.ensures.place c.spot_of-last.ensures.place in
    omega arith

pub returns : goal.returns
returns g c =
    let bs = c.args.self.now.list.items in
    let some : 0 < length bs = omega (arith, some_there c.args.self.now.list.len (sym c.is_empty.ensures ∙ c.if-is_empty.false)) in
    let later = later_block c.args.begin.now c.args.end.now (sym c.is_before.ensures ∙ c.if-not-is_before.false) c.args.self.now.bounds.items bs c.requires some
    c.spot_of-first.result.0 c.spot_of-last.result.0 c.spot_of-first.result.1 c.spot_of-last.result.1
    c.spot_of-first.ensures.block c.spot_of-last.ensures.block c.spot_of-first.ensures.place c.spot_of-last.ensures.place in
    let front = c.part-front.ensures ∙ ap (λ n. slice_range c.index-head.result.now c.spot_of-first.result.1 n) c.len.ensures.value in
    c.new-2.ensures ∙ (λ i. front i ++ (block_entries c.between-middle.result.now ++ c.part-back.ensures i))
    ∙ in_several c.args.begin.now c.args.end.now (sym c.is_before.ensures ∙ c.if-not-is_before.false) c.args.self.now.bounds.items bs c.requires some
    c.spot_of-first.result.0 c.spot_of-last.result.0 c.spot_of-first.result.1 c.spot_of-last.result.1
    c.spot_of-first.ensures.block c.spot_of-last.ensures.block c.spot_of-first.ensures.place c.spot_of-last.ensures.place
    c.index-head.result.now c.index.result.now c.between-middle.result.now
    (block_is bs c.spot_of-first.result.0 c.index-head.result.now c.spot_of-first.ensures.within c.index-head.ensures)
    (block_is bs c.spot_of-last.result.0 c.index.result.now c.spot_of-last.ensures.within c.index.ensures)
    (c.between-middle.ensures ∙ ap (λ l. slice_range l (c.spot_of-first.result.0 + 1) c.spot_of-last.result.0) c.as_slice.ensures.value) (omega arith)
