-- At which place a log isn't replayed, and why.
use Rattle.std.proofs.Common.{◌≡◌, ℕ, ◌<◌, ◌≤◌, false, List, [], ◌++◌, length, take, get_or, refl, sym, ap, subst, ◌∙◌}
use Rattle.std.specs.Prelude.{Result, Ok, Err, IfErr}
use Rattle.std.specs.FinMap.{empty}
use Rattle.record_store.specs.Layout.{is_store_number}
use Rattle.command_log.specs.declared.entry.Entry.{Entry}
use Rattle.command_log.specs.Answers.{IsNoWrittenEntry, IsWrittenAs}
use Rattle.replay.specs.Commands.{commands_of}
use Rattle.replay.specs.Logged.{last_version, log_database}
use Rattle.replay.specs.Replaying.{AreUndone, HasEntry, Image, IsLogged, IsReplayOn, IsStoppedAt, IsUnreadAt, IsUnsteppedAt, IsWhyOn, told_at}
use Rattle.replay.specs.declared.error.PerformError.{PerformError}
use Rattle.replay.specs.declared.error.PerformError.TheVariants as performs
use Rattle.replay.specs.declared.error.ReplayError.{ReplayError}
use Rattle.replay.specs.declared.error.ReplayError.TheVariants as replays
use Rattle.replay.proofs.Replays.{new_logged}

module _ (before : List Entry) (log : List (List ℕ)) (i : ℕ) (bytes : List ℕ) (image : Image) (within : i < length log) (is : bytes ≡ get_or log i bytes) (so_far : IsReplayOn before (take i log) image) where
  stopped : (Why : List Entry → List ℕ → Type 0) → Why (before ++ so_far.entries) bytes → IsStoppedAt before log i Why
  stopped Why why = record { first = so_far.entries; written = so_far.written; lawful = so_far.logged.lawful; within = within; bytes = bytes; at = is; why = why }

  there : (Why : List Entry → List ℕ → Type 0) (at : ℕ) → at ≡ i → Why (before ++ so_far.entries) bytes → IsStoppedAt before log at Why
  there Why at same why = subst (λ p. IsStoppedAt before log p Why) (sym same) (stopped Why why)

  pub why_unread : (error : ReplayError) → IsUnreadAt i bytes error → IsWhyOn before log error
  why_unread replays.Memory told = tt
  why_unread (replays.NotAnEntry at error) told = there (λ entries b. IsNoWrittenEntry b error) at told.0 told.1
  why_unread (replays.OutOfOrder at) told = absurd told
  why_unread (replays.NoSuchStore at) told = absurd told
  why_unread (replays.Refused at error) told = absurd told

  pub why_unstepped : (entry : Entry) → IsWrittenAs bytes entry → (error : ReplayError) → IsUnsteppedAt i image entry error → IsWhyOn before log error
  why_unstepped entry written replays.Memory told = tt
  why_unstepped entry written (replays.NotAnEntry at error) told = absurd told
  why_unstepped entry written (replays.OutOfOrder at) told =
      there (λ entries. HasEntry (λ e. e.version ≤ last_version 0 entries)) at told.0 (entry, written, subst (λ v. entry.version ≤ v) so_far.logged.version told.1)
  why_unstepped entry written (replays.NoSuchStore at) told = there (λ entries. HasEntry (λ e. is_store_number e.store ≡ false)) at told.0 (entry, written, told.1)
  why_unstepped entry written (replays.Refused at error) told =
      there (λ entries. HasEntry (λ e. let d = log_database entries in AreUndone e.store d.map (commands_of e.changes) error)) at told.0
      (entry, written, subst (λ m. AreUndone entry.store m (commands_of entry.changes) error) so_far.logged.map told.1)

-- how it is told that changes weren't performed
pub unstepped_told : (image : Image) (entry : Entry) (place : ℕ) (error : PerformError) → AreUndone entry.store image.map (commands_of entry.changes) error → IsUnsteppedAt place image entry (told_at place error)
unstepped_told image entry place performs.Memory undone = tt
unstepped_told image entry place (performs.Refused at refusal) undone = (refl, undone)
unstepped_told image entry place (performs.Corrupt at key) undone = (refl, undone)

pub new_told : (log : List (List ℕ)) (image : Image) (result : Result Image ReplayError) → image ≡ record { map = empty; version = 0 } →
    IfErr result (λ error. (before : List Entry) → IsLogged before image → IsWhyOn before log error) → IfErr result (IsWhyOn [] log)
new_told log image (Ok next) is so = so
new_told log image (Err error) is so = so [] (new_logged image is)
