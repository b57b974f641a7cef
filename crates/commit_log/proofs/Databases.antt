-- A database that is opened over the log of a device.
use Rattle.std.proofs.Common.{◌≡◌, ◌∙◌, ◌⊎◌, ◌≤◌, ℕ, true, List, Some, max, inl, inr, ap, sym, subst}
use Rattle.std.proofs.Math.Nat.{le-max_right}
use Rattle.cluster_core.specs.Configuration.{config_refusal}
use Rattle.cluster_core.specs.declared.answers.Config.{Config}
use Rattle.cluster_core.specs.declared.answers.ConfigError.{ConfigError}
use Rattle.command_log.specs.declared.entry.Entry.{Entry}
use Rattle.commit_log.specs.Databases.{AreClientsOver, IsNoneMade, IsOpenedOn, IsUnopenedOn}
use Rattle.commit_log.specs.declared.database.NotOpened.TheVariants.{Database, Log}
use Rattle.durable.specs.Keeping.{HasLogOf, HasOnDisk, no_base}
use Rattle.durable.specs.Opening.{IsNotOpened}
use Rattle.durable.specs.declared.error.OpenError.{OpenError as LogError}
use Rattle.journal.specs.Device.{LeavesOnly}
use Rattle.journal.specs.Recovery.{IsAsBefore}
use Rattle.replay.specs.Continuing.{from_version}
use Rattle.replay.specs.Replaying.{Image, IsLogged}
use Rattle.runtime.specs.Clients.{Knowledge, fresh_clients}
use Rattle.runtime.specs.History.{Name}
use Rattle.runtime.specs.Origins.{origin_of}
use Rattle.runtime.specs.declared.answers.OpenError.{OpenError}
use Rattle.runtime.specs.declared.answers.OpenError.TheVariants as opens
use Rattle.runtime.proofs.Bases.{may_begin}

-- the first version isn't below that of the entries
pub is_above : (config : Config) (image : Image) (last start : ℕ) → last ≡ image.version → start ≡ max config.start last → image.version ≤ start
is_above config image last start is raised =
    subst (λ v. image.version ≤ v) (sym (raised ∙ ap (max config.start) is)) (le-max_right config.start image.version)

-- the clients of one that begins there
pub clients_over : (config : Config) (entries : List Entry) (image : Image) (last start : ℕ) (name : Name) (clients : List Knowledge) → IsLogged entries image → last ≡ image.version → start ≡ max config.start last → name.origin ≡ origin_of (from_version start config) entries →
    clients ≡ fresh_clients name config.places → name.kept ≡ true → AreClientsOver config entries clients
clients_over config entries image last start name clients logged is raised origin fresh kept =
    let at : start ≡ max config.start image.version = raised ∙ ap (max config.start) is in
    record {
      name = name;
      origin = origin ∙ ap (λ v. origin_of (from_version v config) entries) (at ∙ ap (max config.start) logged.version);
      may_begin = may_begin name.origin (from_version start config) entries image origin logged (is_above config image last start is raised);
      kept = kept;
      fresh = fresh;
    }

-- why there are none
pub none_made : (config : Config) (start : ℕ) (error : OpenError) → (error ≡ opens.NoPlace) ⊎ (error ≡ opens.Memory) ⊎ ((why : ConfigError) × (error ≡ opens.Config why) × (config_refusal (from_version start config) ≡ Some why)) → IsNoneMade config error
none_made config start error (inl place) = subst (IsNoneMade config) (sym place) tt
none_made config start error (inr (inl memory)) = subst (IsNoneMade config) (sym memory) tt
none_made config start error (inr (inr (why, is, refused))) = subst (IsNoneMade config) (sym is) refused

module _ {D : Type 0} (seen : D → List ℕ) (may_leave : D → List ℕ → Type 0) (moment : D → ℕ) (left_since : D → ℕ → List ℕ → Type 0) where
  -- a log was opened, and a database over it
  pub opened_on : (config : Config) (device begun : D) (entries : List Entry) (clients : List Knowledge) → HasLogOf no_base (seen device) entries → HasOnDisk seen may_leave no_base entries begun →
      LeavesOnly moment left_since device begun (IsAsBefore (may_leave device) (seen device)) → AreClientsOver config entries clients → IsOpenedOn seen may_leave moment left_since config device clients
  opened_on config device begun entries clients had has any over = record { entries = entries; had = had; begun = begun; has = has; any_moment = any; over = over }

  module _ (faults : D → ℕ) where
    -- a log wasn't
    pub no_log : (config : Config) (device ended : D) (error : LogError) → LeavesOnly moment left_since device ended (IsAsBefore (may_leave device) (seen device)) → IsNotOpened (faults device) (faults ended) (seen device) error →
        IsUnopenedOn seen may_leave moment left_since faults config device (Log error)
    no_log config device ended error any why = record { ended = ended; any_moment = any; why = why }

    -- or no database over it
    pub none_over : (config : Config) (device ended : D) (error : OpenError) → LeavesOnly moment left_since device ended (IsAsBefore (may_leave device) (seen device)) → IsNoneMade config error →
        IsUnopenedOn seen may_leave moment left_since faults config device (Database error)
    none_over config device ended error any why = record { ended = ended; any_moment = any; why = why }

pub ruleset databases = (is_above, clients_over, none_made, opened_on, no_log, none_over)
