-- A schedule whose log is on one of two devices in turn: what it keeps at an opening, at a step and at a checkpoint, over plain values.
use Rattle.std.proofs.Common.{◌≡◌, ◌∙◌, ℕ, ◌+◌, ◌<◌, ◌≤◌, ◌^◌, false, List, [], ◌++◌, All, length, ap, ap₂, refl, sym, subst, subst₂, inl, inr, append-nil, append_assoc, arith}
use Rattle.std.specs.Prelude.{unwrap_or}
use Rattle.kv_core.specs.Map.{Map, pairs_in}
use Rattle.kv_core.specs.Range.{KeyRange}
use Rattle.kv_core.specs.Read.{read_of}
use Rattle.kv_core.proofs.Lists.{take_whole}
use Rattle.cluster_core.specs.Cluster.{ClusterState, database_at}
use Rattle.cluster_core.specs.Configuration.{first_cluster_over}
use Rattle.cluster_core.specs.declared.answers.Config.{Config}
use Rattle.command_log.specs.declared.entry.Entry.{Entry}
use Rattle.journal.specs.declared.device.Device.{Ghosts}
use Rattle.journal.specs.Block.{StandsFor}
use Rattle.journal.specs.Device.{LeavesOnly, Only}
use Rattle.journal.specs.Journal.{IsBeforeOrAfter, entries_read}
use Rattle.journal.proofs.Moments.{started, weaker}
use Rattle.replay.specs.Logged.{last_version, log_database}
use Rattle.replay.specs.Pairs.{all_pairs, every_key}
use Rattle.replay.specs.Replaying.{AreWrittenAs, Image, IsLogged, log_bytes}
use Rattle.schedule.specs.Holds.{HoldsAll}
use Rattle.schedule.specs.declared.step.Step.{Step}
use Rattle.schedule.specs.Stepwise.{whole_cluster}
use Rattle.durable.specs.Checkpoints.{HaveHistory, IsOlder}
use Rattle.durable.specs.Exchanging.{HasNoRoomFor, HasNoRoomForAll, IsCheckpointOf, IsRewritten}
use Rattle.durable.specs.Heads.{checkpoint_bytes}
use Rattle.durable.specs.Twofold.{KeepsHistory}
use Rattle.durable.proofs.Histories.{stays_here, whole_history}
use Rattle.durable.proofs.Making.{made_kept, made_moments, made_now}
use Rattle.logged_schedule.specs.declared.followed.Followed.{Followed}
use Rattle.logged_schedule.specs.declared.logged.Answer.{Answer}
use Rattle.logged_schedule.specs.declared.twofold.TwofoldSchedule.{TwofoldSchedule}
use Rattle.logged_schedule.specs.Answers.{IsStepAnswer}
use Rattle.logged_schedule.specs.Entries.{logged_in, newly_logged}
use Rattle.replay.specs.Continuing.{config_after}
use Rattle.logged_schedule.specs.Reopening.{IsOpenedOnHistory}
use Rattle.logged_schedule.specs.Runs.{IsHeldLog, Run, done_as, past_in, with_step}
use Rattle.logged_schedule.specs.Standing.{BeginsFollowed, HasFollowed, run_over}
use Rattle.logged_schedule.specs.Twofold.{HaveAllOrNone, IsKeptStepTwo, KeepsRunTwo, checkpoints_of, image_after, image_reported, current_device, schedule_of, other_device}
use Rattle.logged_schedule.proofs.Lawful.{logs_go_on}
use Rattle.logged_schedule.proofs.Logs.{log_more, log_same}
use Rattle.logged_schedule.proofs.Longer.{longer_past}
use Rattle.logged_schedule.proofs.Rising.{last_both, lawful_rise, rising_step, state_start}

-- ---- what entries come to

held_logged : (entries : List Entry) → IsHeldLog entries → IsLogged entries (image_after entries)
held_logged entries held = record { lawful = held.lawful; map = refl; holds = held.holds; version = refl }

logged_held : (entries : List Entry) (image : Image) → IsLogged entries image → IsHeldLog entries
logged_held entries image logged = record { lawful = logged.lawful; holds = subst (λ m. HoldsAll m (log_database entries).stores) logged.map logged.holds }

image_is : (entries : List Entry) (image : Image) → IsLogged entries image → image ≡ image_after entries
image_is entries image logged = ap₂ (λ (m : Map) (v : ℕ). record { map = m; version = v }) logged.map logged.version

-- byte strings of the pairs that servers have are those of what is committed
pub pairs_written : (c w : ClusterState) (pairs : List (List ℕ × List ℕ)) (version next : ℕ) (batch : List (List ℕ)) → pairs ≡ all_pairs (database_at c c.pipeline.reported) → whole_cluster c ≡ w → batch ≡ checkpoint_bytes next version pairs →
    batch ≡ checkpoint_bytes next version (all_pairs (database_at w w.pipeline.reported))
pairs_written c w pairs version next batch are whole is = is ∙ ap (checkpoint_bytes next version) (are ∙ ap (λ (k : ClusterState). all_pairs (database_at k k.pipeline.reported)) whole)

-- fewer pairs than the limit are all
pub whole_read : (m : Map) (range : KeyRange) (items : List (List ℕ × List ℕ)) (limit : ℕ) → items ≡ read_of m range limit false → length items < limit → range ≡ every_key → items ≡ all_pairs m
whole_read m range items limit read few is = read ∙ take_whole limit (pairs_in m range) (subst (λ l. length l < limit) read few) ∙ ap (pairs_in m) is

module _ {D : Type 0} (seen : D → List ℕ) (may_leave : D → List ℕ → Type 0) where
  -- the history with a batch more
  more_kept : (entries others : List Entry) (generation : ℕ) (old new spare : D) (image next : Image) (batch : List (List ℕ)) → KeepsHistory seen may_leave entries generation old spare image → IsLogged (entries ++ others) next → AreWrittenAs batch others →
      StandsFor (seen new) (entries_read (seen old) ++ batch) → Only (seen new) (may_leave new) → KeepsHistory seen may_leave (entries ++ others) generation new spare next
  more_kept entries others generation old new spare image next batch k logged written stands durable =
      let split = sym (append_assoc k.base.before k.after others) ∙ ap (λ es. es ++ others) k.split in
      record {
        base = k.base;
        after = k.after ++ others;
        split = split;
        is_base = k.is_base;
        keeps = record {
          file = log_more k.base (seen old) (seen new) k.after others batch k.keeps.file written stands;
          durable = durable;
          logged = subst (λ es. IsLogged es next) (sym split) logged;
        };
        older = k.older;
        spare_durable = k.spare_durable;
      }

  -- what a crash leaves of an append
  all_or_none : (entries others : List Entry) (generation : ℕ) (old spare : D) (image : Image) (batch : List (List ℕ)) → KeepsHistory seen may_leave entries generation old spare image → AreWrittenAs batch others → (c : List ℕ) → IsBeforeOrAfter (entries_read (seen old)) batch c →
      HaveAllOrNone entries (seen spare) others c
  all_or_none entries others generation old spare image batch k written c (inl before) =
      inl (inl (record { generation = generation; has = record { base = k.base; after = k.after; split = k.split; is_base = k.is_base; log = log_same k.base (seen old) c k.after k.keeps.file before }; older = k.older }))
  all_or_none entries others generation old spare image batch k written c (inr after) = inr (inl (record {
    generation = generation;
    has = record {
      base = k.base;
      after = k.after ++ others;
      split = sym (append_assoc k.base.before k.after others) ∙ ap (λ es. es ++ others) k.split;
      is_base = k.is_base;
      log = log_more k.base (seen old) c k.after others batch k.keeps.file written after;
    };
    older = k.older;
  }))

  pub leaves_two : (moment : D → ℕ) (left_since : D → ℕ → List ℕ → Type 0) (entries others : List Entry) (generation : ℕ) (old new spare : D) (image : Image) (batch : List (List ℕ)) → KeepsHistory seen may_leave entries generation old spare image → AreWrittenAs batch others →
      LeavesOnly moment left_since old new (IsBeforeOrAfter (entries_read (seen old)) batch) → LeavesOnly moment left_since old new (HaveAllOrNone entries (seen spare) others)
  leaves_two moment left_since entries others generation old new spare image batch k written run =
      weaker moment left_since old new (IsBeforeOrAfter (entries_read (seen old)) batch) (HaveAllOrNone entries (seen spare) others) (all_or_none entries others generation old spare image batch k written) run

module _ {D : Type 0} {G : Ghosts D} (seen : D → List ℕ) (may_leave : D → List ℕ → Type 0) where
  -- ---- an opening

  opens : (config : Config) (entries : List Entry) (image : Image) (two : TwofoldSchedule D G) → KeepsHistory seen may_leave entries (checkpoints_of two) (current_device two) (other_device two) image →
      (IsLogged entries image → BeginsFollowed entries (config_after entries config) two.followed) → two.last ≡ image.version → KeepsRunTwo seen may_leave (run_over entries (config_after entries config)) entries two
  opens config entries image two keeps begins is_last =
      let logged = whole_history seen may_leave entries (checkpoints_of two) (current_device two) (other_device two) image keeps in
      let follows = begins logged in
      let start = state_start (first_cluster_over (log_database entries).map (config_after entries config)) [] [] two.followed.schedule follows.done in
      let begun = follows.done.0.stands.begun in
      record {
        done = follows;
        history = subst (KeepsHistory seen may_leave entries (checkpoints_of two) (current_device two) (other_device two)) (image_is entries image logged) keeps;
        over = logged_held entries image logged;
        from = omega arith;
        says = sym (append-nil entries);
        rise = lawful_rise entries logged.lawful;
        upto = omega (arith, start, begun);
        last = is_last ∙ logged.version;
      }

  -- over the parts of a database that was opened
  pub opens_parts : (config : Config) (first second : List ℕ) (own image : Image) (generation : ℕ) (device spare : D) (two : TwofoldSchedule D G) → ((entries : List Entry) → HaveHistory entries first second → KeepsHistory seen may_leave entries generation device spare own) →
      image ≡ own → checkpoints_of two ≡ generation → current_device two ≡ device → other_device two ≡ spare → two.last ≡ image.version →
      ((entries : List Entry) → IsLogged entries image → BeginsFollowed entries (config_after entries config) two.followed) → IsOpenedOnHistory seen may_leave config first second two
  opens_parts config first second own image generation device spare two kept is_image is_generation is_log is_spare is_last begins entries have =
      opens config entries image two
      (subst (λ g. KeepsHistory seen may_leave entries g (current_device two) (other_device two) image) (sym is_generation)
      (subst₂ (λ d s. KeepsHistory seen may_leave entries generation d s image) (sym is_log) (sym is_spare)
      (subst (KeepsHistory seen may_leave entries generation device spare) (sym is_image) (kept entries have))))
      (begins entries) is_last

  -- ---- a step

  pub kept_step_two : (moment : D → ℕ) (left_since : D → ℕ → List ℕ → Type 0) (run : Run) (entries : List Entry) (step : Step) (answer : Answer) (before after : TwofoldSchedule D G) → KeepsRunTwo seen may_leave run entries before → IsStepAnswer step before.followed answer →
      after.followed ≡ answer.followed → checkpoints_of after ≡ checkpoints_of before → other_device after ≡ other_device before → after.last ≡ unwrap_or answer.last before.last →
      StandsFor (seen (current_device after)) (entries_read (seen (current_device before)) ++ log_bytes answer.batch.items) → Only (seen (current_device after)) (may_leave (current_device after)) →
      LeavesOnly moment left_since (current_device before) (current_device after) (IsBeforeOrAfter (entries_read (seen (current_device before))) (log_bytes answer.batch.items)) →
      IsKeptStepTwo seen may_leave moment left_since run entries step answer.reply before after
  kept_step_two moment left_since run entries step answer before after keeps is same is_generation is_spare is_last stands durable leaves =
      let more = newly_logged (past_in run) (done_as step) is.reply in
      let longer = with_step run (done_as step) is.reply in
      let written = is.written run keeps.done in
      let later = is.follows run keeps.done in
      let rising = rising_step run (done_as step) is.reply (schedule_of before) answer.followed.schedule keeps.done.done later.done keeps.done.none_lost later.none_lost entries keeps.rise keeps.upto in
      let says : entries ++ more ≡ run.before ++ logged_in (past_in longer) =
      ap (λ es. es ++ more) keeps.says ∙ append_assoc run.before (logged_in (past_in run)) more
      ∙ ap (λ past. run.before ++ logged_in past) (sym (longer_past run (done_as step) is.reply (schedule_of before) keeps.done.done)) in
      let held : IsHeldLog (entries ++ more) = subst IsHeldLog (sym says) (logs_go_on longer answer.followed.schedule keeps.over keeps.from later.done later.none_lost).0 in
      record {
        reply = is.reply;
        answered = is.told;
        keeps = record {
          done = subst (HasFollowed longer) (sym same) later;
          history = subst₂ (λ g s. KeepsHistory seen may_leave (entries ++ more) g (current_device after) s (image_after (entries ++ more))) (sym is_generation) (sym is_spare)
              (more_kept seen may_leave entries more (checkpoints_of before) (current_device before) (current_device after) (other_device before) (image_after entries) (image_after (entries ++ more)) (log_bytes answer.batch.items) keeps.history (held_logged (entries ++ more) held) written stands durable);
          over = keeps.over;
          from = keeps.from;
          says = says;
          rise = rising.0;
          upto = subst (λ (f : Followed). last_version 0 (entries ++ more) ≤ f.schedule.database.cluster.pipeline.reported) (sym same) rising.1;
          last = is_last ∙ ap (unwrap_or answer.last) keeps.last ∙ sym (is.last run keeps.done (last_version 0 entries)) ∙ sym (last_both 0 entries more);
        };
        any_moment = leaves_two seen may_leave moment left_since entries more (checkpoints_of before) (current_device before) (current_device after) (other_device before) (image_after entries) (log_bytes answer.batch.items) keeps.history written leaves;
      }

  -- ---- a checkpoint

  -- the pairs that the servers have at the last reported version are those of the history
  pub made_two : (run : Run) (entries : List Entry) (two : TwofoldSchedule D G) (c : ClusterState) (pairs : List (List ℕ × List ℕ)) (version next : ℕ) (batch : List (List ℕ)) → KeepsRunTwo seen may_leave run entries two → pairs ≡ all_pairs (database_at c c.pipeline.reported) →
      whole_cluster c ≡ (schedule_of two).database.cluster → version ≡ two.last → batch ≡ checkpoint_bytes next version pairs → (next < 2 ^ 64) × (version < 2 ^ 64) → length pairs < 2 ^ 64 → All (λ pair. length pair.0 < 2 ^ 64) pairs →
      IsCheckpointOf next (image_after entries) batch
  made_two run entries two c pairs version next batch keeps are whole at is small few keys =
      let lawful = logs_go_on run (schedule_of two) keeps.over keeps.from keeps.done.done keeps.done.none_lost in
      let same : (log_database entries).map ≡ (let w = (schedule_of two).database.cluster in database_at w w.pipeline.reported) = ap (λ es. (log_database es).map) keeps.says ∙ lawful.1 in
      made_now next (image_after entries) pairs version batch (at ∙ keeps.last) (are ∙ ap (λ (w : ClusterState). all_pairs (database_at w w.pipeline.reported)) whole ∙ ap all_pairs (sym same)) is small few keys

  -- the run goes on with another history of the same entries
  goes_on_with : (run : Run) (entries : List Entry) (before after : TwofoldSchedule D G) → KeepsRunTwo seen may_leave run entries before → after.followed ≡ before.followed → after.last ≡ before.last →
      KeepsHistory seen may_leave entries (checkpoints_of after) (current_device after) (other_device after) (image_after entries) → KeepsRunTwo seen may_leave run entries after
  goes_on_with run entries before after keeps same is_last history = record {
    done = subst (HasFollowed run) (sym same) keeps.done;
    history = history;
    over = keeps.over;
    from = keeps.from;
    says = keeps.says;
    rise = keeps.rise;
    upto = subst (λ (f : Followed). last_version 0 entries ≤ f.schedule.database.cluster.pipeline.reported) (sym same) keeps.upto;
    last = is_last ∙ keeps.last;
  }

  -- where it is made
  pub kept_made : (run : Run) (entries : List Entry) (before after : TwofoldSchedule D G) (next : ℕ) (batch : List (List ℕ)) → KeepsRunTwo seen may_leave run entries before → next ≡ checkpoints_of before + 1 → IsCheckpointOf next (image_after entries) batch → after.followed ≡ before.followed →
      after.last ≡ before.last → checkpoints_of after ≡ next → other_device after ≡ current_device before → StandsFor (seen (current_device after)) batch → Only (seen (current_device after)) (may_leave (current_device after)) → KeepsRunTwo seen may_leave run entries after
  kept_made run entries before after next batch keeps counted made same is_last is_generation is_spare stands durable =
      goes_on_with run entries before after keeps same is_last
      (subst (λ g. KeepsHistory seen may_leave entries g (current_device after) (other_device after) (image_after entries)) (sym is_generation)
      (made_kept seen may_leave (checkpoints_of before) next batch (current_device before) (other_device before) (current_device after) (image_after entries) counted made (other_device after) is_spare stands durable entries keeps.history))

  -- where it isn't, and the other device has nothing now
  pub kept_unmade : (run : Run) (entries : List Entry) (before after : TwofoldSchedule D G) → KeepsRunTwo seen may_leave run entries before → after.followed ≡ before.followed → after.last ≡ before.last → checkpoints_of after ≡ checkpoints_of before → current_device after ≡ current_device before →
      StandsFor (seen (other_device after)) [] → Only (seen (other_device after)) (may_leave (other_device after)) → KeepsRunTwo seen may_leave run entries after
  kept_unmade run entries before after keeps same is_last is_generation is_log none durable =
      goes_on_with run entries before after keeps same is_last
      (subst₂ (λ g d. KeepsHistory seen may_leave entries g d (other_device after) (image_after entries)) (sym is_generation) (sym is_log)
      (stays_here seen may_leave entries (checkpoints_of before) (current_device before) (other_device before) (image_after entries) keeps.history (other_device after) none durable))

  -- where it isn't, for want of room
  pub without_room : (before after : TwofoldSchedule D G) (next : ℕ) (batch : List (List ℕ)) (new : D) → next ≡ checkpoints_of before + 1 → batch ≡ checkpoint_bytes next (image_reported before).version (all_pairs (image_reported before).map) → other_device after ≡ new → HasNoRoomFor (seen new) batch →
      HasNoRoomForAll (seen (other_device after)) (checkpoints_of before + 1) (image_reported before)
  without_room before after next batch new counted written is_spare full = subst₂ (λ g d. HasNoRoomForAll (seen d) g (image_reported before)) counted (sym is_spare) (subst (HasNoRoomFor (seen new)) written full)

  module _ (moment : D → ℕ) (left_since : D → ℕ → List ℕ → Type 0) where
    -- a crash while it is written leaves the history
    pub leaves_made : (run : Run) (entries : List Entry) (before : TwofoldSchedule D G) (new : D) (next : ℕ) (batch : List (List ℕ)) → KeepsRunTwo seen may_leave run entries before → next ≡ checkpoints_of before + 1 → IsCheckpointOf next (image_after entries) batch →
        LeavesOnly moment left_since (other_device before) new (IsRewritten (entries_read (seen (other_device before))) batch) → LeavesOnly moment left_since (other_device before) new (HaveHistory entries (seen (current_device before)))
    leaves_made run entries before new next batch keeps counted made leaves =
        made_moments seen may_leave (checkpoints_of before) next batch (current_device before) (other_device before) new (image_after entries) counted made moment left_since leaves entries keeps.history

    -- and one where nothing is written
    pub leaves_none : ((file : D) (c : List ℕ) → left_since file (moment file) c → may_leave file c) → (run : Run) (entries : List Entry) (two : TwofoldSchedule D G) → KeepsRunTwo seen may_leave run entries two →
        LeavesOnly moment left_since (other_device two) (other_device two) (HaveHistory entries (seen (current_device two)))
    leaves_none only_now run entries two keeps =
        let k = keeps.history in
        started moment left_since (other_device two) (HaveHistory entries (seen (current_device two))) (λ c left.
        inl (record { generation = checkpoints_of two; has = record { base = k.base; after = k.after; split = k.split; is_base = k.is_base; log = k.keeps.file }; older = subst (λ f. IsOlder f (checkpoints_of two)) (sym (k.spare_durable c (only_now (other_device two) c left))) k.older }))
