use Rattle.std.proofs.Common.{rules, ◌≡◌, ◌⊎◌, ◌++◌, List, sym, ap, ◌∙◌, subst}
use Rattle.command_log.specs.declared.entry.Entry.{Entry as KeptEntry}
use Rattle.journal.specs.Device.{LeavesOnly}
use Rattle.runtime.specs.History.{Name}
use Rattle.runtime.specs.Keeping.{IsBatchOrNone}
use Rattle.runtime.proofs.Kept.{all_shown, closes, keeps_on, shown_name, shown_or_not}
use Rattle.runtime.proofs.group_commit.keep_all.Goals as goal

pub of-requires : goal.of-requires
of-requires g c =
    let e = g.E.End in
    let run : (before : List KeptEntry) → e.has c.args.end before → LeavesOnly e.moment e.left_since c.args.end c.keep_batch-kept.new.end (IsBatchOrNone e.is_log before c.args.waiting.items) =
    λ before had. subst (λ (batch : List KeptEntry). LeavesOnly e.moment e.left_since c.args.end c.keep_batch-kept.new.end (IsBatchOrNone e.is_log before batch)) c.as_slice.ensures.value (c.keep_batch-kept.ensures.any_moment before had) in
    (sym c.requires.on.0, closes e.has e.may_leave e.moment e.left_since e.is_log c.args.state c.args.waiting.items c.args.end c.keep_batch-kept.new.end c.requires.on.1 run (g.met.E.End.counts_now c.keep_batch-kept.new.end))

pub of-requires-2 : goal.of-requires-2
of-requires-2 g c =
    let e = g.E.End in
    let all : (before : List KeptEntry) → e.has c.args.end before → e.has c.keep_batch-kept.new.end (before ++ c.as_slice.result.now) = search rules in
    let keeps : (before : List KeptEntry) → e.has c.args.end before → e.has c.keep_batch-kept.new.end (before ++ c.args.waiting.items) =
    λ before had. subst (λ (batch : List KeptEntry). e.has c.keep_batch-kept.new.end (before ++ batch)) c.as_slice.ensures.value (all before had) in
    let shown : (c.publish-state.result.0 ≡ all_shown c.args.state) ⊎ (c.publish-state.result.0 ≡ c.args.state) = shown_or_not c.args.state c.publish-state.result.0 c.publish-state.result.1 c.publish-state.ensures.shown in (
      sym (ap (λ (n : Name). n.kept) (shown_name c.args.state c.publish-state.result.0 shown) ∙ c.requires.on.0),
      keeps_on e.has c.args.state c.publish-state.result.0 c.args.waiting.items c.new-2.result.items c.args.end c.keep_batch-kept.new.end c.requires.on.1 keeps c.new-2.ensures.items shown,
    )
