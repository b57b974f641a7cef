-- What contracts see of a client.
use Rattle.std.specs.Prelude.{◌≡◌, ℕ, zero, suc, true, List, [], ◌∷◌, ◌++◌, Option, Some, None}
use mathlib.Core.List.{IsPrefix}
use Rattle.record_store.specs.Call.{Opened}
use Rattle.schedule.specs.Known.{IsKnown}
use Rattle.schedule.specs.Turns.{fresh_request}
use Rattle.runtime.specs.declared.log_entry.Entry.{Entry}
use Rattle.runtime.specs.declared.open_transaction.OpenTransaction.{OpenTransaction}
use Rattle.runtime.specs.declared.published.View.{View}
use Rattle.runtime.specs.History.{Name, Prefix, log_prefix}
use Rattle.runtime.specs.Logs.{IsOpenOver, log_map, version_of}
use Rattle.runtime.specs.Publication.{IsLater}

-- which database is the client's, the longest log that it has entered or learnt, its number, the last number of its
-- submissions, and its open transaction
pub record Knowledge : Type 0 where
  pub name : Name
  pub log : List Entry
  pub number : ℕ
  pub last : ℕ
  pub begun : Option OpenTransaction

abbrev pub knows_that : Name → List Entry → ℕ → ℕ → Option OpenTransaction → Knowledge
knows_that name log number last begun =
    record { name = name; log = log; number = number; last = last; begun = begun }

-- a transaction in a store at the end of a log, which has done nothing yet
pub record IsFresh (name : Name) (log : List Entry) (number : ℕ) (open_tx : OpenTransaction) : Type 0 where
  pub over : open_tx.prefix ≡ log_prefix name log
  pub request : open_tx.transaction ≡ fresh_request (version_of name.origin log)
  pub store : open_tx.trace.store ≡ number
  pub attempts : open_tx.trace.attempts.list ≡ []

-- it is the same transaction: over the same log, at the same version, in the same store
pub record IsSameTransaction (old new : OpenTransaction) : Type 0 where
  pub over : new.prefix ≡ old.prefix
  pub version : new.transaction.read_version ≡ old.transaction.read_version
  pub store : new.trace.store ≡ old.trace.store

-- Private: the open transaction began at a beginning of the client's log, reads at its version, and is what its
-- commands made of it over that log
abbrev pub IsBegun : Prefix → Option OpenTransaction → Type 0
IsBegun me (Some open_tx) =
    (open_tx.prefix.name ≡ me.name) × IsPrefix open_tx.prefix.log me.log
    × IsOpenOver open_tx.prefix.name.origin open_tx.prefix.log open_tx.transaction open_tx.trace
    × (open_tx.transaction.read_version ≡ version_of open_tx.prefix.name.origin open_tx.prefix.log)
IsBegun me None = Unit {0}

-- Private: a store that is known stands in the open transaction, over the maps of its log
abbrev pub IsKnownIn : Option OpenTransaction → Option Opened → Type 0
IsKnownIn (Some open_tx) known =
    IsKnown open_tx.trace.store (log_map open_tx.prefix.name.origin open_tx.prefix.log) known open_tx.transaction
IsKnownIn None known = Unit {0}

-- Private: the client's log begins with the log that its reader saw last, which is of the client's database
abbrev pub Remembers : Prefix → View → Type 0
Remembers me seen = (seen.named ≡ true) × IsLater seen.prefix me

-- Private: there is a reader, and this fact of it
abbrev pub HasReader : {R : Type 0} → (R → Type 0) → Option R → Type 0
HasReader Fact (Some reader) = Fact reader
HasReader Fact None = ⊥

-- the clients of a new database: numbered from 0, each with the empty log
abbrev pub fresh_clients : Name → ℕ → List Knowledge
fresh_clients name zero = []
fresh_clients name (suc n) = fresh_clients name n ++ knows_that name [] n 0 None ∷ []
