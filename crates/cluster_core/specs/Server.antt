-- A storage server's fields against its state.
use Rattle.std.specs.Prelude.{◌≡◌, ℕ, zero, suc, ◌+◌, ◌-◌, ◌<◌, ◌≤◌, Bool, true, false, if◌then◌else◌, unwrap_or}
use Rattle.std.specs.Prelude.{List, [], ◌∷◌, length, map, reverse, slice_get}
use Rattle.std.specs.FinMap.{empty}
use Rattle.std.specs.List.{AllByRecursion}
use Rattle.kv_core.specs.Bytes.{has_key}
use Rattle.kv_core.specs.Map.{Map, pairs_in}
use Rattle.kv_core.specs.Range.{KeyRange}
use Rattle.cluster_core.specs.declared.chain.Link.{Link}
use Rattle.cluster_core.specs.declared.server.Server.{Server}
use Rattle.cluster_core.specs.Chains.{Falls, links_at, needed, shown, without}
use Rattle.cluster_core.specs.Configuration.{first_server_over, is_rising_above}
use Rattle.cluster_core.specs.Decision.{Owned, owners}
use Rattle.cluster_core.specs.Tier.{ServerState, map_of, part}

-- the maps from a version down, one more than this number of them
abbrev pub maps_down : (ℕ → Map) → ℕ → ℕ → List Map
maps_down at version zero = at version ∷ []
maps_down at version (suc count) = at version ∷ maps_down at (version - 1) count

-- what callers see of a server: its last version, and the maps that its chains show then and before, as far back as it
-- lists what was written
abbrev pub server_state : Server → ServerState
server_state server =
    record {
      version = server.version;
      maps = maps_down (shown server.chains.chains.entries) server.version (length server.recent.items);
    }

-- Private: the keys that a server owns
abbrev pub owner_of : Server → Owned
owner_of server = server.part

-- Private: a server at the start: it has the empty map at its first version
abbrev pub first_server : ℕ → ServerState
first_server version = record { version = version; maps = empty ∷ [] }

-- Private: a server over a base, at its first version
abbrev pub IsFirstOver : Map → ℕ → Server → Type 0
IsFirstOver base version server = server_state server ≡ first_server_over base version (owner_of server)

-- Private: the map that a server's chains show at the version to come
abbrev pub next_map : Server → Map
next_map server = shown server.chains.chains.entries (server.version + 1)

-- Private: each map of the server has keys of its part alone
abbrev pub HasOwnKeys : Server → Type 0
HasOwnKeys server = AllByRecursion (λ m. part server.part m ≡ m) (server_state server).maps

-- Private: the keys that each of the last versions wrote, the newest version first
abbrev pub recent_of : Server → List (List (List ℕ))
recent_of server = map (λ keys. keys.items) server.recent.items

-- Private: the keys that were written so many versions back
abbrev pub written_back : List (List (List ℕ)) → ℕ → List (List ℕ)
written_back recent back = unwrap_or (slice_get recent back) []

-- Private: what a server keeps of a key: links whose versions fall, no more than its versions need, and each that is
-- later than the oldest of them stands in the list of its version
pub record IsChain (version : ℕ) (recent : List (List (List ℕ))) (key : List ℕ) (links : List Link) : Type 0 where
  pub falls : Falls (version + 1) links
  pub needed : needed (version - length recent) links ≡ links
  pub listed : AllByRecursion (λ link. version - length recent < link.version →
      has_key (written_back recent (version - link.version)) key ≡ true) links

-- Private: a server between two pulls
pub record IsAtRest (server : Server) : Type 0 where
  pub own : HasOwnKeys server
  pub chains : (key : List ℕ) → IsChain server.version (recent_of server) key (links_at server.chains.chains key)
  pub idle : server.chains.written.items ≡ []

-- Private: a server whose chains have links of the version to come, each of a key that is listed
pub record IsStaged (server : Server) : Type 0 where
  pub own : HasOwnKeys server
  pub chains : (key : List ℕ) →
      IsChain server.version (recent_of server) key (without (server.version + 1) (links_at server.chains.chains key))
  pub same : (key : List ℕ) → has_key server.chains.written.items key ≡ false →
      without (server.version + 1) (links_at server.chains.chains key) ≡ links_at server.chains.chains key

-- Private: a server between two pulls goes back as far as the window, and no key has more links than one more than the
-- window
pub record IsServer (window : ℕ) (server : Server) : Type 0 where
  pub rest : IsAtRest server
  pub depth : length server.recent.items ≤ window
  pub short : (key : List ℕ) → length (links_at server.chains.chains key) ≤ window + 1

-- Private: the servers own the keys between splits that rise, and each is kept as its window says
pub record IsTier (splits : List (List ℕ)) (window : ℕ) (servers : List Server) : Type 0 where
  pub parts : map owner_of servers ≡ owners splits
  pub rising : is_rising_above [] splits ≡ true
  pub kept : AllByRecursion (IsServer window) servers

-- Private: a list in order, or from the last element back
abbrev pub turned : {X : Type 0} → Bool → List X → List X
turned reversed xs = if reversed then reverse xs else xs

-- Private: a server's pairs of a range at a version, in order or from the last one back
abbrev pub pairs_at : KeyRange → ℕ → Bool → Server → List (List ℕ × List ℕ)
pairs_at range version reversed server = turned reversed (pairs_in (map_of (server_state server) version) range)
