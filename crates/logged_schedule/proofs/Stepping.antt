-- Steps that are followed, logged and answered, over plain values.
use Rattle.std.proofs.Common.{◌≡◌, ℕ, ◌+◌, ◌^◌, ◌≤◌, ◌∙◌, List, [], ◌++◌, length, ap, sym, subst, append-nil, append_assoc, arith}
use Rattle.std.specs.Prelude.{Result, Err, IsErrOf, unwrap_or}
use Rattle.cluster_core.specs.Configuration.{first_cluster_over}
use Rattle.cluster_core.specs.declared.answers.Config.{Config}
use Rattle.command_log.specs.declared.entry.Entry.{Entry}
use Rattle.journal.specs.declared.device.Device.{Ghosts}
use Rattle.journal.specs.declared.device.DeviceError.TheVariants as devices
use Rattle.journal.specs.declared.error.AppendError.{AppendError}
use Rattle.journal.specs.declared.error.AppendError.TheVariants as appends
use Rattle.journal.specs.Block.{StandsFor}
use Rattle.journal.specs.Device.{LeavesOnly, Only}
use Rattle.journal.specs.Form.{blocks}
use Rattle.journal.specs.Journal.{IsBeforeOrAfter, entries_read}
use Rattle.replay.specs.Logged.{last_version, log_database}
use Rattle.replay.specs.Replaying.{AreWrittenAs, log_bytes}
use Rattle.durable.specs.Keeping.{HasOnDisk, no_base}
use Rattle.schedule.specs.declared.step.Step.{Step}
use Rattle.schedule.specs.Past.{Past}
use Rattle.schedule.specs.Stepwise.{DoesNext}
use Rattle.logged_schedule.specs.declared.followed.Followed.{Followed}
use Rattle.logged_schedule.specs.declared.followed.Stepped.{Stepped}
use Rattle.logged_schedule.specs.declared.logged.Answer.{Answer}
use Rattle.logged_schedule.specs.declared.logged.LoggedSchedule.{LoggedSchedule}
use Rattle.logged_schedule.specs.Answers.{IsStepAnswer}
use Rattle.logged_schedule.specs.Entries.{logged_in, newly_logged}
use Rattle.logged_schedule.specs.Followed.{DoesFollow, IsFollowed}
use Rattle.logged_schedule.specs.Following.{SubmitsOfClients}
use Rattle.logged_schedule.specs.Keeping.{IsKeptStep, IsStoppedStep, IsWithoutRoom, KeepsRun, MayHaveLogged}
use Rattle.logged_schedule.specs.Opening.{IsBegunAgain, IsOpenedAgain}
use Rattle.replay.specs.Continuing.{config_after}
use Rattle.logged_schedule.specs.Runs.{Run, done_as, first_in, past_in, told_as, with_step}
use Rattle.logged_schedule.specs.Standing.{HasFollowed, StepsFollowed, device_with_log, run_over, schedule_of}
use Rattle.logged_schedule.specs.Told.{stopped_by}
use Rattle.logged_schedule.proofs.Longer.{longer_past, loses_none, submits}
use Rattle.logged_schedule.proofs.Rising.{lawful_rise, rising_step, state_start}
use Rattle.logged_schedule.proofs.Logs.{appended_batch, leaves_batch, written_bytes}

-- ---- a step that is followed

pub steps_followed : (step : Step) (before : Followed) (stepped : Stepped) → DoesNext (done_as step) stepped.reply before.schedule stepped.followed.schedule →
    ((past : Past) → IsFollowed past before.following → SubmitsOfClients (done_as step) stepped.reply → DoesFollow past (done_as step) stepped.reply stepped.told.items stepped.followed.following) → StepsFollowed step before stepped
steps_followed step before stepped next notes run follows =
    let after = next (first_in run) run.steps run.replies follows.done in
    let of = submits run (done_as step) stepped.reply before.schedule stepped.followed.schedule follows.done after in
    let noted = notes (past_in run) follows.follows of in (
      record {
        done = after;
        follows = subst (λ past. IsFollowed past stepped.followed.following) (sym (longer_past run (done_as step) stepped.reply before.schedule follows.done)) noted.follows;
        none_lost = loses_none run.steps step follows.none_lost;
      },
      noted.told_so,
    )

pub is_answer : (step : Step) (before : Followed) (stepped : Stepped) (answer : Answer) → DoesNext (done_as step) stepped.reply before.schedule stepped.followed.schedule →
    DoesNext step (told_as step stepped.reply) before.schedule stepped.followed.schedule → StepsFollowed step before stepped →
    answer.followed ≡ stepped.followed → answer.reply ≡ told_as step stepped.reply → AreWrittenAs (log_bytes answer.batch.items) stepped.told.items →
    ((version : ℕ) → last_version version stepped.told.items ≡ unwrap_or answer.last version) → IsStepAnswer step before answer
is_answer step before stepped answer next told follows same is written last = record {
  reply = stepped.reply;
  told = is;
  next = subst (λ (f : Followed). DoesNext (done_as step) stepped.reply before.schedule f.schedule) (sym same) next;
  answered =
      subst (λ (f : Followed). DoesNext step answer.reply before.schedule f.schedule) (sym same)
      (subst (λ r. DoesNext step r before.schedule stepped.followed.schedule) (sym is) told);
  follows = λ run done. subst (HasFollowed (with_step run (done_as step) stepped.reply)) (sym same) (follows run done).0;
  written = λ run done. subst (AreWrittenAs (log_bytes answer.batch.items)) (follows run done).1 written;
  last = λ run done. subst (λ (es : List Entry). (version : ℕ) → last_version version es ≡ unwrap_or answer.last version) (follows run done).1 last;
}

-- ---- a step that isn't answered

module _ {D : Type 0} (seen : D → List ℕ) (moment : D → ℕ) (left_since : D → ℕ → List ℕ → Type 0) where
  -- why it isn't answered, where a crash leaves this of what it committed
  pub unanswered : (Leaves : List Entry → List ℕ → Type 0) (run : Run) (step : Step) (before : Followed) (answer : Answer) (old new : D) (result : Result (Unit {0}) AppendError) (error : AppendError) → result ≡ Err error → HasFollowed run before →
      IsStepAnswer step before answer → (IsErrOf result appends.Memory → new ≡ old) → (IsErrOf result appends.Full → new ≡ old) →
      (IsErrOf result appends.Full → 2 ^ 63 ≤ length (seen old) + length (blocks (log_bytes answer.batch.items))) →
      ((others : List Entry) → AreWrittenAs (log_bytes answer.batch.items) others → LeavesOnly moment left_since old new (Leaves others)) → IsStoppedStep seen moment left_since Leaves run step (stopped_by error) before.schedule old new
  unanswered Leaves run step before answer old new result error at done is memory full room leaves = by_error error at
    where
      may_have : MayHaveLogged moment left_since Leaves run step before.schedule old new
      may_have = record {
        reply = is.reply;
        after = answer.followed.schedule;
        next = is.next;
        any_moment = leaves (newly_logged (past_in run) (done_as step) is.reply) (is.written run done);
      }

      no_room : new ≡ old → 2 ^ 63 ≤ length (seen old) + length (blocks (log_bytes answer.batch.items)) → IsWithoutRoom seen run step before.schedule old new
      no_room same long = record {
        reply = is.reply;
        after = answer.followed.schedule;
        next = is.next;
        same = same;
        too_long =
            subst (λ log. 2 ^ 63 ≤ length (seen old) + length (blocks log))
            (written_bytes (log_bytes answer.batch.items) (newly_logged (past_in run) (done_as step) is.reply) (is.written run done)) long;
      }

      by_error : (why : AppendError) → result ≡ Err why → IsStoppedStep seen moment left_since Leaves run step (stopped_by why) before.schedule old new
      by_error appends.Memory is_why = memory is_why
      by_error appends.Full is_why = no_room (full is_why) (room is_why)
      by_error appends.Broken is_why = may_have
      by_error (appends.Device devices.Failed) is_why = may_have
      by_error (appends.Device devices.Memory) is_why = may_have

-- ---- a step that is logged

module _ {D : Type 0} {G : Ghosts D} (seen : D → List ℕ) (may_leave : D → List ℕ → Type 0) (moment : D → ℕ) (left_since : D → ℕ → List ℕ → Type 0) where
  pub kept_step : (run : Run) (entries : List Entry) (step : Step) (answer : Answer) (before after : LoggedSchedule D G) → KeepsRun seen may_leave run entries before → IsStepAnswer step before.followed answer → after.followed ≡ answer.followed →
      StandsFor (seen (device_with_log after)) (entries_read (seen (device_with_log before)) ++ log_bytes answer.batch.items) → Only (seen (device_with_log after)) (may_leave (device_with_log after)) →
      LeavesOnly moment left_since (device_with_log before) (device_with_log after) (IsBeforeOrAfter (entries_read (seen (device_with_log before))) (log_bytes answer.batch.items)) →
      IsKeptStep seen may_leave moment left_since run entries step answer.reply before after
  kept_step run entries step answer before after keeps is same stands durable leaves =
      let more = newly_logged (past_in run) (done_as step) is.reply in
      let written = is.written run keeps.done in
      let later = is.follows run keeps.done in
      let rising = rising_step run (done_as step) is.reply (schedule_of before) answer.followed.schedule keeps.done.done later.done keeps.done.none_lost later.none_lost entries keeps.rise keeps.upto in
      record {
        reply = is.reply;
        answered = is.told;
        keeps = record {
          done = subst (HasFollowed (with_step run (done_as step) is.reply)) (sym same) (is.follows run keeps.done);
          disk = appended_batch seen may_leave moment left_since entries more (log_bytes answer.batch.items) (device_with_log before) (device_with_log after) keeps.disk written stands durable;
          over = keeps.over;
          from = keeps.from;
          says =
              ap (λ es. es ++ more) keeps.says ∙ append_assoc run.before (logged_in (past_in run)) more
              ∙ ap (λ past. run.before ++ logged_in past) (sym (longer_past run (done_as step) is.reply (schedule_of before) keeps.done.done));
          rise = rising.0;
          upto = subst (λ (f : Followed). last_version 0 (entries ++ more) ≤ f.schedule.database.cluster.pipeline.reported) (sym same) rising.1;
        };
        any_moment = leaves_batch seen may_leave moment left_since entries more (log_bytes answer.batch.items) (device_with_log before) (device_with_log after) keeps.disk written leaves;
      }

  -- a file that is recovered, and over whose entries a schedule begins
  pub reopened : (config : Config) (file : List ℕ) (log : List (List ℕ)) (logged : LoggedSchedule D G) (followed : Followed) (device : D) → StandsFor file (entries_read file) → log ≡ entries_read file → StandsFor (seen device) (entries_read file) →
      Only (seen device) (may_leave device) → IsBegunAgain config log followed → logged.followed ≡ followed → device_with_log logged ≡ device → IsOpenedAgain seen may_leave config file logged
  reopened config file log logged followed device whole same stands durable again is_followed is_device =
      let entries = again.entries in
      let written = subst (λ l. AreWrittenAs l entries) same again.written in
      let start = state_start (first_cluster_over (log_database entries).map (config_after entries config)) [] [] followed.schedule again.follows.done in
      let begun = again.follows.done.0.stands.begun in
      record {
        entries = entries;
        had = (entries_read file, written, whole);
        keeps = record {
          done = subst (HasFollowed (run_over entries (config_after entries config))) (sym is_followed) again.follows;
          disk = subst (HasOnDisk seen may_leave no_base entries) (sym is_device) (record { file = (entries_read file, written, stands); durable = durable });
          over = again.over;
          from = omega arith;
          says = sym (append-nil entries);
          rise = lawful_rise entries again.over.lawful;
          upto = subst (λ (f : Followed). last_version 0 entries ≤ f.schedule.database.cluster.pipeline.reported) (sym is_followed) (omega (arith, start, begun));
        };
      }
