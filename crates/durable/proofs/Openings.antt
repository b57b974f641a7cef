-- What opening a device comes to.
use Rattle.std.proofs.Common.{◌≡◌, ℕ, List, refl, sym, ap, subst, ◌∙◌}
use Rattle.journal.specs.Block.{Contents, StandsFor}
use Rattle.journal.specs.Device.{Only}
use Rattle.journal.specs.Journal.{entries_read}
use Rattle.replay.specs.Replaying.{AreWrittenAs, Image, IsNoLog, IsReplay, IsUnreplayed}
use Rattle.replay.specs.declared.error.ReplayError.{ReplayError}
use Rattle.replay.specs.declared.error.ReplayError.TheVariants as replays
use Rattle.durable.specs.declared.error.OpenError.{OpenError}
use Rattle.durable.specs.declared.error.OpenError.TheVariants.{Memory, Failed, Damage, Unreplayed}
use Rattle.durable.specs.Opening.{IsNoLogFile, IsNotOpened, IsReopened, IsUnreplayedAs}
use Rattle.durable.specs.Told.{unreplayed_error}

-- a file that is recovered, and whose entries are replayed
pub reopened : {D : Type 0} (seen : D → List ℕ) (may_leave : D → List ℕ → Type 0) (file : List ℕ) (log : List (List ℕ)) (device : D) (image : Image) →
    StandsFor file (entries_read file) → log ≡ entries_read file → StandsFor (seen device) (entries_read file) → Only (seen device) (may_leave device) → IsReplay log image → IsReopened seen may_leave file device image
reopened seen may_leave file log device image whole same stands durable replay =
    let written = subst (λ l. AreWrittenAs l replay.entries) same replay.written in
    record {
      entries = replay.entries;
      had = (entries_read file, written, whole);
      keeps = record { file = (entries_read file, written, stands); durable = durable; logged = replay.logged };
    }

-- how it is told that entries weren't replayed
pub unreplayed_told : (log : List (List ℕ)) (error : ReplayError) → IsUnreplayed log error → IsUnreplayedAs log (unreplayed_error error)
unreplayed_told log replays.Memory none = refl
unreplayed_told log (replays.NotAnEntry place error) none = none
unreplayed_told log (replays.OutOfOrder place) none = none
unreplayed_told log (replays.NoSuchStore place) none = none
unreplayed_told log (replays.Refused place error) none = none

no_file : (file : List ℕ) (log : List (List ℕ)) → log ≡ entries_read file → IsNoLog log → IsNoLogFile file
no_file file log same none entries (own, written, stands) lawful =
    let read : entries_read file ≡ own = ap (λ (c : Contents). c.entries) stands in
    none entries (subst (λ l. AreWrittenAs l entries) (sym (same ∙ read)) written) lawful

-- a file whose entries aren't replayed has no database's log
pub not_replayed : (file : List ℕ) (log : List (List ℕ)) (error : OpenError) (faults now : ℕ) → log ≡ entries_read file → IsUnreplayedAs log error → IsNotOpened faults now file error
not_replayed file log Memory faults now same told = tt
not_replayed file log Failed faults now same told = absurd (cc)
not_replayed file log (Damage at) faults now same told = absurd (cc)
not_replayed file log (Unreplayed error) faults now same told = no_file file log same told
