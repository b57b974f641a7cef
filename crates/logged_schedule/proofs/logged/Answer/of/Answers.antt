use Rattle.std.proofs.Common.{◌≡◌, List, ℕ, refl, subst}
use Rattle.std.specs.Prelude.{unwrap_or}
use Rattle.command_log.specs.declared.entry.Entry.{Entry}
use Rattle.replay.specs.Logged.{last_version}
use Rattle.replay.specs.Replaying.{AreWrittenAs, log_bytes}
use Rattle.logged_schedule.specs.declared.logged.Answer.{Answer}
use Rattle.logged_schedule.proofs.Stepping.{is_answer}
use Rattle.logged_schedule.proofs.logged.Answer.of.Goals as goal

pub returns : goal.returns
returns c =
    let done = c.in_ok-followed in
    let batch = c.in_ok-batch.batch in
    let answer : Answer = record { followed = done.field-0.followed; reply = c.in_ok-reply.reply; batch = batch; last = c.last_told-last.result } in
    is_answer c.args.step.now c.args.followed done.field-0 answer done.ensures.next done.ensures.told done.ensures.followed refl c.in_ok-reply.ensures
    (subst (AreWrittenAs (log_bytes batch.items)) c.as_slice.ensures.value c.in_ok-batch.ensures)
    (subst (λ (es : List Entry). (version : ℕ) → last_version version es ≡ unwrap_or c.last_told-last.result version) c.as_slice-2.ensures.value c.last_told-last.ensures)
