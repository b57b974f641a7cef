-- How a map has what is there of one store, and of all.
use Rattle.std.specs.Prelude.{◌≡◌, ℕ, List, true, None}
use Rattle.std.specs.FinMap.{get}
use Rattle.tuple_codec.specs.Subspace.{BeginsWith}
use Rattle.kv_core.specs.Map.{Map}
use Rattle.record_store.specs.Store.{Serial}
use Rattle.record_store.specs.Holds.{Holds}
use Rattle.record_store.specs.Layout.{is_store_number, store_prefix}

-- under the prefix of the store with this number the map has just what is there
abbrev pub Stands : ℕ → Map → Serial → Type 0
Stands number m serial = Holds (store_prefix number) m serial

-- what is there of each store, by its number
abbrev pub Stores : Type 0
Stores = ℕ → Serial

-- no store
abbrev pub no_stores : Stores
no_stores = λ number. None

-- a key of no store
abbrev pub IsOfNoStore : List ℕ → Type 0
IsOfNoStore key = (number : ℕ) → is_store_number number ≡ true → BeginsWith (store_prefix number) key → ⊥

-- the map has nothing outside all stores
abbrev pub NothingElse : Map → Type 0
NothingElse m = (key : List ℕ) → IsOfNoStore key → get m key ≡ None

-- a map has of each store what is there, and nothing else
pub record HoldsAll (m : Map) (stores : Stores) : Type 0 where
  pub each : (number : ℕ) → is_store_number number ≡ true → Stands number m (stores number)
  pub nothing_else : NothingElse m

-- a map has some stores, and nothing else
abbrev pub IsHeld : Map → Type 0
IsHeld m = (stores : Stores) × HoldsAll m stores
