-- What opening a running database from a device gives, and why none is opened.
use Rattle.std.specs.Prelude.{◌≡◌, ℕ, true, List, Some, ⊤}
use Rattle.cluster_core.specs.Configuration.{config_refusal}
use Rattle.cluster_core.specs.declared.answers.Config.{Config}
use Rattle.command_log.specs.declared.entry.Entry.{Entry}
use Rattle.commit_log.specs.declared.database.NotOpened.{NotOpened}
use Rattle.commit_log.specs.declared.database.NotOpened.TheVariants.{Database, Log}
use Rattle.durable.specs.Keeping.{HasLogOf, HasOnDisk, no_base}
use Rattle.durable.specs.Opening.{IsNotOpened}
use Rattle.journal.specs.Device.{LeavesOnly}
use Rattle.journal.specs.Recovery.{IsAsBefore}
use Rattle.replay.specs.Continuing.{config_after}
use Rattle.runtime.specs.Clients.{Knowledge, fresh_clients}
use Rattle.runtime.specs.History.{Name}
use Rattle.runtime.specs.Origins.{MayBegin, origin_of}
use Rattle.runtime.specs.declared.answers.OpenError.{OpenError}
use Rattle.runtime.specs.declared.answers.OpenError.TheVariants as opens

-- these are the clients of a database of this configuration that goes on from entries, from the version of the last one
-- on or from a later one, and that keeps what is committed; none of them has seen anything of it
pub record AreClientsOver (config : Config) (entries : List Entry) (clients : List Knowledge) : Type 0 where
  pub name : Name
  pub origin : name.origin ≡ origin_of (config_after entries config) entries
  pub may_begin : MayBegin name.origin
  pub kept : name.kept ≡ true
  pub fresh : clients ≡ fresh_clients name config.places

-- OPENED: the device's file has the log of some entries, and as the database began it had their log, all of it on the
-- disk; a crash before then leaves a file that is read alike, or what one might have left before; and these are the
-- clients of a database that goes on from the entries
pub record IsOpenedOn {D : Type 0} (seen : D → List ℕ) (may_leave : D → List ℕ → Type 0) (moment : D → ℕ)
    (left_since : D → ℕ → List ℕ → Type 0) (config : Config) (device : D) (clients : List Knowledge) : Type 0 where
  pub entries : List Entry
  pub had : HasLogOf no_base (seen device) entries
  pub begun : D
  pub has : HasOnDisk seen may_leave no_base entries begun
  pub any_moment : LeavesOnly moment left_since device begun (IsAsBefore (may_leave device) (seen device))
  pub over : AreClientsOver config entries clients

-- there was no place for a reader, memory ran out, or the configuration is refused
abbrev pub IsNoneMade : Config → OpenError → Type 0
IsNoneMade config opens.NoPlace = ⊤
IsNoneMade config opens.Memory = ⊤
IsNoneMade config (opens.Config why) = config_refusal config ≡ Some why

-- the log isn't opened, or the database isn't made over it
abbrev pub IsWhyUnopened : Config → (faults faults_now : ℕ) → List ℕ → NotOpened → Type 0
IsWhyUnopened config faults faults_now file (Log error) = IsNotOpened faults faults_now file error
IsWhyUnopened config faults faults_now file (Database error) = IsNoneMade config error

-- none is opened, for a reason; a crash before the device was let go leaves a file that is read alike, or what one
-- might have left before
pub record IsUnopenedOn {D : Type 0} (seen : D → List ℕ) (may_leave : D → List ℕ → Type 0) (moment : D → ℕ)
    (left_since : D → ℕ → List ℕ → Type 0) (faults : D → ℕ) (config : Config) (device : D) (error : NotOpened) :
    Type 0 where
  pub ended : D
  pub any_moment : LeavesOnly moment left_since device ended (IsAsBefore (may_leave device) (seen device))
  pub why : IsWhyUnopened config (faults device) (faults ended) (seen device) error
