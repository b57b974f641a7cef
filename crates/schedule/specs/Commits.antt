-- What is there of each store at each version, by the committed transactions.
use Rattle.std.specs.Prelude.{ℕ, Bool, ◌==◌, ◌&&◌, List, nat_le, fold, filter}
use Rattle.schedule.specs.declared.transcript.CommitEntry.{CommitEntry}
use Rattle.record_store.specs.Store.{Serial}
use Rattle.schedule.specs.Serve.{effects}
use Rattle.schedule.specs.Holds.{Stores, no_stores}
use Rattle.schedule.specs.Past.{Open, accepted}

-- a transaction in the store with this number, which is committed up to a version
abbrev pub is_of_upto : ℕ → ℕ → CommitEntry → Bool
is_of_upto number version one = (one.store == number) && nat_le one.version version

-- what is committed at a version of the store with a number, where these stores were there at first: that store, after
-- the accepted commands of each of its transactions that is committed up to the version
abbrev pub committed_over : Stores → ℕ → List CommitEntry → ℕ → Serial
committed_over before number commits version =
    fold (λ serial one. effects serial one.commands) (before number) (filter (is_of_upto number version) commits)

-- so it is where there was no store at first
abbrev pub committed_store : ℕ → List CommitEntry → ℕ → Serial
committed_store number commits version = committed_over no_stores number commits version

-- what an open transaction sees of its store, where these were there at first: what is committed at its read version,
-- as its own accepted commands change it
abbrev pub view_over : Stores → List CommitEntry → Open → Serial
view_over before commits open_now =
    effects (committed_over before open_now.store commits open_now.read_version) (accepted open_now.attempts)
