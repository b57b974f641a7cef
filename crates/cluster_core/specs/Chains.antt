-- Version chains: what a storage server keeps of each key, and the map that this shows at a version.
use Rattle.std.specs.Prelude.{◌≡◌, ℕ, suc, ◌<◌, ◌==◌, false, nat_le, if◌then◌else◌, Option}
use Rattle.std.specs.Prelude.{Some, None, List, [], ◌∷◌}
use Rattle.std.specs.BTreeMap.{BTreeMap, get}
use Rattle.std.specs.FinMap.{empty, insert, remove}
use Rattle.std.specs.VecDeque.{deque_len, deque_capacity}
use Rattle.kv_core.specs.Bytes.{has_key, key_cmp}
use Rattle.kv_core.specs.Map.{Map}
use Rattle.cluster_core.specs.declared.chain.Chain.{Chain}
use Rattle.cluster_core.specs.declared.chain.Link.{Link}
use Rattle.cluster_core.specs.declared.chain.Newest.{Newest}
use Rattle.cluster_core.specs.declared.chain.Newest.TheVariants.{Value, Absent, Linked}

-- the newest value
abbrev pub newest_in : Newest → Option (List ℕ)
newest_in (Value value) = Some value
newest_in Absent = None
newest_in (Linked linked) = linked.value.value

-- the older links
abbrev pub older_in : Newest → List Link
older_in (Value value) = []
older_in Absent = []
older_in (Linked linked) = linked.value.older.items

-- Private: there is room for an older link
abbrev pub HasLinkRoom : Newest → Type 0
HasLinkRoom (Value value) = ⊥
HasLinkRoom Absent = ⊥
HasLinkRoom (Linked linked) = deque_len linked.value.older < deque_capacity linked.value.older

-- the links of a chain, the newest first
abbrev pub links_of : Chain → List Link
links_of chain = record { version = chain.version; value = newest_in chain.newest } ∷ older_in chain.newest

-- the value at a version: that of the newest link which isn't later, or none
abbrev pub value_at : ℕ → List Link → Option (List ℕ)
value_at version [] = None
value_at version (link ∷ links) = if nat_le link.version version then link.value else value_at version links

-- Private: the links without the newest one, where that is of this version
abbrev pub without : ℕ → List Link → List Link
without version [] = []
without version (link ∷ links) = if link.version == version then links else link ∷ links

-- Private: the links with a value, or none, from this version on
abbrev pub put : ℕ → Option (List ℕ) → List Link → List Link
put version value links = record { version = version; value = value } ∷ without version links

-- Private: one link, unless it says that there is no value
abbrev pub present : ℕ → Option (List ℕ) → List Link
present version None = []
present version (Some value) = record { version = version; value = Some value } ∷ []

-- Private: the links that tell the values from a version on: those after it, and the first other one, if that has a
-- value
abbrev pub needed : ℕ → List Link → List Link
needed floor [] = []
needed floor (link ∷ links) =
    if nat_le link.version floor then present link.version link.value else link ∷ needed floor links

-- Private: the versions of the links fall, from below this one on
abbrev pub Falls : ℕ → List Link → Type 0
Falls bound [] = Unit {0}
Falls bound (link ∷ links) = (link.version < bound) × Falls link.version links

-- Private: the versions of the links fall
abbrev pub IsFalling : List Link → Type 0
IsFalling [] = Unit {0}
IsFalling (link ∷ links) = Falls link.version links

-- Private: how many links are later than a version
abbrev pub later : ℕ → List Link → ℕ
later version [] = 0
later version (link ∷ links) = if nat_le link.version version then 0 else suc (later version links)

-- Private: the links of a chain that may be missing
abbrev pub links_in : Option Chain → List Link
links_in None = []
links_in (Some chain) = links_of chain

-- Private: the links of a key
abbrev pub links_at : BTreeMap (List ℕ) Chain → List ℕ → List Link
links_at chains key = links_in (get key_cmp chains key)

-- Private: each chain's versions fall
abbrev pub AreFalling : BTreeMap (List ℕ) Chain → Type 0
AreFalling chains = (key : List ℕ) → IsFalling (links_at chains key)

-- Private: each chain's versions fall from below this one on, but for a link of this one
abbrev pub AreBelow : ℕ → BTreeMap (List ℕ) Chain → Type 0
AreBelow version chains = (key : List ℕ) → Falls version (without version (links_at chains key))

-- Private: from some chains to others by writes at a version, which the list of the written keys has at its end
pub record Writes (version : ℕ) (listed : List (List ℕ)) (old : BTreeMap (List ℕ) Chain) (relisted : List (List ℕ))
    (new : BTreeMap (List ℕ) Chain) : Type 0 where
  pub kept : (key : List ℕ) → without version (links_at new key) ≡ without version (links_at old key)
  pub same : (key : List ℕ) → has_key relisted key ≡ false →
      (has_key listed key ≡ false) × (links_at new key ≡ links_at old key)

-- a map with this value at a key, or with none
abbrev pub with_value : Map → List ℕ → Option (List ℕ) → Map
with_value m key None = remove m key
with_value m key (Some value) = insert m key value

-- the map that chains show at a version: each key has the value of its chain then
abbrev pub shown : List (List ℕ × Chain) → ℕ → Map
shown [] version = empty
shown (entry ∷ entries) version = with_value (shown entries version) entry.0 (value_at version (links_of entry.1))
