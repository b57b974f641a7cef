-- A checkpoint that is made of a database, and where its log goes on then.
use Rattle.std.proofs.Common.{◌≡◌, ℕ, ◌+◌, ◌<◌, ◌^◌, Bool, true, false, cond, List, length, All, sym, ap, subst, subst₂, ◌∙◌}
use Rattle.std.specs.Prelude.{Some, None}
use Rattle.journal.specs.Block.{StandsFor}
use Rattle.journal.specs.Device.{LeavesOnly, Only}
use Rattle.journal.specs.Journal.{entries_read}
use Rattle.journal.proofs.Moments.{weaker}
use Rattle.command_log.specs.declared.entry.Entry.{Entry}
use Rattle.replay.specs.Pairs.{all_pairs}
use Rattle.replay.specs.Replaying.{Image}
use Rattle.durable.specs.Checkpoints.{HaveHistory}
use Rattle.durable.specs.Exchanging.{HasNoRoomFor, HasNoRoomForAll, IsCheckpointOf, IsRewritten}
use Rattle.durable.specs.Heads.{checkpoint_bytes}
use Rattle.durable.specs.Twofold.{KeepsHistory}
use Rattle.durable.proofs.Histories.{any_file, goes_over}

read_is_own : (is_open : Bool) (own image : Image) → Some own ≡ cond is_open (Some image) None → own ≡ image
read_is_own true own image is = cc is
read_is_own false own image is = absurd (cc is)

-- a checkpoint of what is read of a database is one of the database
pub made_of : (next : ℕ) (is_open : Bool) (own image : Image) (batch bytes : List (List ℕ)) → Some own ≡ cond is_open (Some image) None → batch ≡ bytes → IsCheckpointOf next own bytes → IsCheckpointOf next image batch
made_of next is_open own image batch bytes read same made = subst₂ (λ i b. IsCheckpointOf next i b) (read_is_own is_open own image read) (sym same) made

pub made_now : (next : ℕ) (image : Image) (pairs : List (List ℕ × List ℕ)) (version : ℕ) (batch : List (List ℕ)) → version ≡ image.version → pairs ≡ all_pairs image.map → batch ≡ checkpoint_bytes next version pairs → (next < 2 ^ 64) × (version < 2 ^ 64) → length pairs < 2 ^ 64 → All (λ pair. length pair.0 < 2 ^ 64) pairs →
    IsCheckpointOf next image batch
made_now next image pairs version batch at are is small few keys = record {
  is = is ∙ (λ i. checkpoint_bytes next (at i) (are i));
  small = small.0;
  version_small = subst (λ n. n < 2 ^ 64) at small.1;
  few = subst (λ (ps : List (List ℕ × List ℕ)). length ps < 2 ^ 64) are few;
  keys = subst (All (λ pair. length pair.0 < 2 ^ 64)) are keys;
}

-- where there is no room for it, there is none for all pairs
pub made_room : (next : ℕ) (image : Image) (batch : List (List ℕ)) (file : List ℕ) → IsCheckpointOf next image batch → HasNoRoomFor file batch → HasNoRoomForAll file next image
made_room next image batch file made full = subst (HasNoRoomFor file) made.is full

module _ {D : Type 0} (seen : D → List ℕ) (may_leave : D → List ℕ → Type 0) (generation next : ℕ) (batch : List (List ℕ)) (device spare new : D) (image : Image) (counted : next ≡ generation + 1) (made : IsCheckpointOf next image batch) where
  small : generation + 1 < 2 ^ 64
  small = subst (λ n. n < 2 ^ 64) counted made.small

  made_is : batch ≡ checkpoint_bytes (generation + 1) image.version (all_pairs image.map)
  made_is = made.is ∙ ap (λ g. checkpoint_bytes g image.version (all_pairs image.map)) counted

  -- the log goes on after it, and the device from before is the other one then
  pub made_kept : (other : D) → other ≡ device → StandsFor (seen new) batch → Only (seen new) (may_leave new) → (entries : List Entry) → KeepsHistory seen may_leave entries generation device spare image → KeepsHistory seen may_leave entries next new other image
  made_kept other same stands durable entries keeps =
      subst (λ d. KeepsHistory seen may_leave entries next new d image) (sym same)
      (subst (λ g. KeepsHistory seen may_leave entries g new device image) (sym counted)
      (goes_over seen may_leave entries generation device spare image keeps small made.version_small made.few made.keys new (subst (StandsFor (seen new)) made_is stands) durable))

  -- a crash at any moment leaves the history
  pub made_moments : (moment : D → ℕ) (left_since : D → ℕ → List ℕ → Type 0) → LeavesOnly moment left_since spare new (IsRewritten (entries_read (seen spare)) batch) → (entries : List Entry) → KeepsHistory seen may_leave entries generation device spare image →
      LeavesOnly moment left_since spare new (λ c. HaveHistory entries (seen device) c)
  made_moments moment left_since run entries keeps =
      weaker moment left_since spare new (IsRewritten (entries_read (seen spare)) batch) (λ c. HaveHistory entries (seen device) c)
      (λ c left. any_file seen may_leave entries generation device spare image keeps small made.version_small made.few made.keys c (subst (λ l. IsRewritten (entries_read (seen spare)) l c) made_is left)) run
