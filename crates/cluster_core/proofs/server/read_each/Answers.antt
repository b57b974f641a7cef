use Rattle.std.proofs.Common.{◌≡◌, ◌∙◌, ◌-◌, ap, cond, length, sym, take}
use Rattle.std.specs.List.{flat_map}
use Rattle.cluster_core.specs.Server.{pairs_at, turned}
use Rattle.cluster_core.proofs.JoinedPairs.{read_more, turned_more}
use Rattle.cluster_core.proofs.server.read_each.Goals as goal
use Rattle.cluster_core.proofs.server.read_each.Goals.{then-reverse, else-reverse}

pub loop-passed-preserved : goal.loop-passed-preserved
loop-passed-preserved c =
    let servers = c.args.servers.now in
    let passed = c.loop-passed.passed in
    let so_far = c.loop-passed.pairs in
    let pairs = pairs_at c.args.range.now c.args.version c.args.reverse in
    let place_is : c.if-reverse.place ≡ cond c.args.reverse (length servers - 1 - passed) passed = elim c.if-reverse.branch [
      | then-reverse w ↦ w.place-is ∙ sym (ap (λ b. cond b (length servers - 1 - passed) passed) w.if-reverse.true)
      | else-reverse w ↦ w.place-is ∙ sym (ap (λ b. cond b (length servers - 1 - passed) passed) w.if-reverse.false)
    ] in
    c.in_ok-pairs.ensures
    ∙ read_more c.args.limit c.saturating_sub-left.result pairs (take passed (turned c.args.reverse servers)) c.index-servers-place.result so_far.items c.in_ok-more.more.items
    c.loop-passed.invariant (c.saturating_sub-left.ensures ∙ ap (λ n. c.args.limit - n) (c.len.ensures ∙ so_far.ok.0)) c.in_ok-more.ensures
    ∙ ap (λ done. take c.args.limit (flat_map pairs done))
    (sym (turned_more c.args.reverse servers passed c.if-reverse.place c.index-servers-place.result c.loop-passed-test.true place_is c.index-servers-place.is))
