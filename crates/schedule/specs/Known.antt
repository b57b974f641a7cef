-- What is known of a store that commands left open in a transaction.
use Rattle.std.specs.Prelude.{◌≡◌, ℕ, Option, Some, None}
use Rattle.kv_core.specs.Map.{Map}
use Rattle.kv_core.specs.declared.change.CommitRequest.{CommitRequest}
use Rattle.txn.specs.Reads.{seen}
use Rattle.record_store.specs.Call.{Opened}
use Rattle.record_store.specs.Layout.{store_prefix}
use Rattle.record_store.specs.Opening.{StandsThere}
use Rattle.record_store.specs.Store.{Serial}
use Rattle.schedule.specs.Holds.{Stands}

-- a store that is known is the one with this number, and stands there
abbrev pub IsKnown : ℕ → (ℕ → Map) → Option Opened → CommitRequest → Type 0
IsKnown number maps None tx = Unit {0}
IsKnown number maps (Some opened) tx = (opened.prefix ≡ store_prefix number) × StandsThere maps opened tx

-- at its read version the transaction sees a store there, or none
abbrev pub SeesSerial : ℕ → (ℕ → Map) → CommitRequest → Type 0
SeesSerial number maps tx = (serial : Serial) × Stands number (seen tx (maps tx.read_version)) serial

-- where the transaction saw a store or none before a command, what is known after it stands there
abbrev pub StaysKnown : ℕ → (ℕ → Map) → Option Opened → CommitRequest → CommitRequest → Type 0
StaysKnown number maps known old new = SeesSerial number maps old → IsKnown number maps known new
