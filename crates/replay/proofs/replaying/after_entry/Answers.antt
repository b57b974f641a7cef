use Rattle.std.proofs.Common.{ap, subst, sym, ◌∙◌, arith}
use Rattle.kv_core.specs.Map.{after_all}
use Rattle.replay.specs.Commands.{commands_of}
use Rattle.replay.specs.Replaying.{AllDone, AreUndone, Image, IsNoStep, IsUnsteppedAt}
use Rattle.replay.proofs.Replays.{no_step, step_done}
use Rattle.replay.proofs.Whys.{unstepped_told}
use Rattle.replay.proofs.replaying.after_entry.Goals as goal

pub returns-in_ok-accept-in-Ok-clause-step : goal.returns-in_ok-accept-in-Ok-clause-step
returns-in_ok-accept-in-Ok-clause-step c =
    let image = c.args.image in
    let entry = c.args.entry in
    let written = c.in-Ok.done.mutations in
    step_done image entry c.in_ok-accept-in-Ok.field-0 c.in-Ok.done.replies.items written
    (subst (λ number. AllDone number image.map (commands_of entry.changes) c.in-Ok.done.replies.items written) c.in-Some.ensures.1 c.in-Ok.ensures.done)
    (omega (arith, c.version.ensures, c.if-entry-version.false)) c.in-Some.ensures.0
    (c.in_ok-accept-in-Ok.ensures ∙ ap (λ (i : Image). record { map = after_all written i.map; version = entry.version }) c.in-Ok.ensures.kept)

pub returns-in-Err-clause-no_step : goal.returns-in-Err-clause-no_step
returns-in-Err-clause-no_step c =
    let image = c.args.image in
    let entry = c.args.entry in
    subst (IsNoStep image entry) (sym c.told_at.ensures)
    (no_step image entry c.args.place c.in-Err.error (subst (λ number. AreUndone number image.map (commands_of entry.changes) c.in-Err.error) c.in-Some.ensures.1 c.in-Err.ensures.undone))

pub returns-in-Err-clause-told : goal.returns-in-Err-clause-told
returns-in-Err-clause-told c =
    let image = c.args.image in
    let entry = c.args.entry in
    subst (IsUnsteppedAt c.args.place image entry) (sym c.told_at.ensures)
    (unstepped_told image entry c.args.place c.in-Err.error (subst (λ number. AreUndone number image.map (commands_of entry.changes) c.in-Err.error) c.in-Some.ensures.1 c.in-Err.ensures.undone))
