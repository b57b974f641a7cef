-- A server from step to step: it writes the next version, takes it back, makes it its last one, and drops what is past.
use Rattle.std.proofs.Common.{arith, add-one, ◌≡◌, ℕ, suc, ◌+◌, ◌-◌, ◌<◌, ◌≤◌, min, cond, unwrap_or, List, [], ◌∷◌, ◌++◌, length, map, take, inl, inr, sym, ap, subst, ◌∙◌}
use Rattle.std.proofs.lemmas.Bool.{cases_Bool, cases_lt}
use Rattle.std.proofs.lemmas.List.{length-map, length_push}
use Rattle.std.specs.FinMap.{empty}
use Rattle.std.specs.List.{AllByRecursion, slice_get}
use Rattle.kv_core.specs.Bytes.{has_key}
use Rattle.kv_core.specs.Map.{Map}
use Rattle.cluster_core.specs.declared.server.Server.{Server}
use Rattle.cluster_core.specs.Chains.{AreBelow, AreFalling, Falls, Writes, links_at, needed, shown, value_at, without}
use Rattle.cluster_core.specs.Server.{HasOwnKeys, IsAtRest, IsChain, IsServer, IsStaged, maps_down, next_map, recent_of, server_state}
use Rattle.cluster_core.specs.Tier.{map_of, oldest, part}
use Rattle.cluster_core.proofs.Links.{falling_from_falls}
use Rattle.cluster_core.proofs.OwnMaps.{own-map_of, own-take}
use Rattle.cluster_core.proofs.ServerChains.{pushed_chain, short_chain, trimmed_chain, unlisted_chain, value-needed, value-next, value-without}
use Rattle.cluster_core.proofs.ServerMaps.{down_at, down_first, down_past, oldest_down, same_down, take_down}
use Rattle.cluster_core.proofs.Shown.{same_shown}
use Rattle.cluster_core.proofs.Written.{without_again}

-- servers that show the same at each version so far
pub same_state : (old new : Server) → new.version ≡ old.version → new.recent.items ≡ old.recent.items →
    ((key : List ℕ) (v : ℕ) → v ≤ old.version → value_at v (links_at new.chains.chains key) ≡ value_at v (links_at old.chains.chains key)) → server_state new ≡ server_state old
same_state old new version recent same =
    let maps : (server_state new).maps ≡ (server_state old).maps =
    (λ i. maps_down (shown new.chains.chains.entries) (version i) (length (recent i)))
    ∙ same_down (shown new.chains.chains.entries) (shown old.chains.chains.entries) old.version (length old.recent.items) (λ v upto from. same_shown new.chains.chains old.chains.chains v v (λ key. same key v upto)) in
    λ i. record { version = version i; maps = maps i }

pub same_own : (old new : Server) → new.part ≡ old.part → (server_state new).maps ≡ (server_state old).maps → HasOwnKeys old → HasOwnKeys new
same_own old new owner maps own =
    subst (λ o. AllByRecursion (λ m. part o m ≡ m) (server_state new).maps) (sym owner) (subst (AllByRecursion (λ m. part old.part m ≡ m)) (sym maps) own)

-- a server between two pulls has no link of the version to come
pub rest_without : (server : Server) → IsAtRest server → (key : List ℕ) → without (server.version + 1) (links_at server.chains.chains key) ≡ links_at server.chains.chains key
rest_without server rest key = without_again (server.version + 1) (links_at server.chains.chains key) (rest.chains key).falls

pub rest_below : (server : Server) → IsAtRest server → AreBelow (server.version + 1) server.chains.chains
rest_below server rest key = subst (Falls (server.version + 1)) (sym (rest_without server rest key)) (rest.chains key).falls

pub rest_falling : (server : Server) → IsAtRest server → AreFalling server.chains.chains
rest_falling server rest key = falling_from_falls (server.version + 1) (links_at server.chains.chains key) (rest.chains key).falls

newest_map : (server : Server) → map_of (server_state server) server.version ≡ shown server.chains.chains.entries server.version
newest_map server =
    let none : server.version - server.version ≡ 0 = omega arith in
    ap (λ n. unwrap_or (slice_get (server_state server).maps n) (oldest (server_state server).maps)) none
    ∙ ap (λ o. unwrap_or o (oldest (server_state server).maps)) (down_first (shown server.chains.chains.entries) server.version (length server.recent.items))

pub rest_next : (server : Server) → IsAtRest server → next_map server ≡ map_of (server_state server) server.version
rest_next server rest =
    same_shown server.chains.chains server.chains.chains (server.version + 1) server.version (λ key. value-next server.version (links_at server.chains.chains key) (rest.chains key).falls)
    ∙ sym (newest_map server)

pub rest_own : (server : Server) → IsAtRest server → part server.part (next_map server) ≡ next_map server
rest_own server rest =
    subst (λ m. part server.part m ≡ m) (sym (rest_next server rest)) (own-map_of server.part (server_state server).maps (server.version - server.version) rest.own)

-- after writes at the version to come
module _ (old new : Server) (owner : new.part ≡ old.part) (version : new.version ≡ old.version) (recent : new.recent.items ≡ old.recent.items) (rest : IsAtRest old)
    (writes : Writes (old.version + 1) old.chains.written.items old.chains.chains new.chains.written.items new.chains.chains) where
  without_written : (key : List ℕ) → without (old.version + 1) (links_at new.chains.chains key) ≡ links_at old.chains.chains key
  without_written key = writes.kept key ∙ rest_without old rest key

  pub written_state : server_state new ≡ server_state old
  written_state = same_state old new version recent (λ key v upto.
      sym (value-without (old.version + 1) v (links_at new.chains.chains key) (omega (arith, upto))) ∙ ap (value_at v) (without_written key))

  pub written_staged : IsStaged new
  written_staged = record {
    own = same_own old new owner (ap (λ s. s.maps) written_state) rest.own;
    chains = λ key.
        subst (λ v. IsChain v (recent_of new) key (without (v + 1) (links_at new.chains.chains key))) (sym version)
        (subst (λ r. IsChain old.version (map (λ keys. keys.items) r) key (without (old.version + 1) (links_at new.chains.chains key))) (sym recent)
        (subst (IsChain old.version (recent_of old) key) (sym (without_written key)) (rest.chains key)));
    same = λ key other.
        subst (λ v. without (v + 1) (links_at new.chains.chains key) ≡ links_at new.chains.chains key) (sym version)
        (without_written key ∙ sym (writes.same key other).1);
  }

-- after all of the version to come is taken back
module _ (old new : Server) (owner : new.part ≡ old.part) (version : new.version ≡ old.version) (recent : new.recent.items ≡ old.recent.items) (staged : IsStaged old)
    (taken : (key : List ℕ) → links_at new.chains.chains key ≡ without (old.version + 1) (links_at old.chains.chains key)) (idle : new.chains.written.items ≡ []) where
  pub taken_state : server_state new ≡ server_state old
  taken_state = same_state old new version recent (λ key v upto. ap (value_at v) (taken key) ∙ value-without (old.version + 1) v (links_at old.chains.chains key) (omega (arith, upto)))

  pub taken_rest : IsAtRest new
  taken_rest = record {
    own = same_own old new owner (ap (λ s. s.maps) taken_state) staged.own;
    chains = λ key.
        subst (λ v. IsChain v (recent_of new) key (links_at new.chains.chains key)) (sym version)
        (subst (λ r. IsChain old.version (map (λ keys. keys.items) r) key (links_at new.chains.chains key)) (sym recent)
        (subst (IsChain old.version (recent_of old) key) (sym (taken key)) (staged.chains key)));
    idle = idle;
  }

-- after the version to come is made the last one
module _ (old new : Server) (keys : List (List ℕ)) (owner : new.part ≡ old.part) (version : new.version ≡ old.version + 1) (recent : recent_of new ≡ keys ∷ recent_of old)
    (listed : keys ≡ old.chains.written.items) (kept : new.chains.chains ≡ old.chains.chains) (idle : new.chains.written.items ≡ []) (staged : IsStaged old)
    (own : part old.part (next_map old) ≡ next_map old) where
  pub advanced_state : server_state new ≡ record { version = old.version + 1; maps = next_map old ∷ (server_state old).maps }
  advanced_state =
      let depth : length new.recent.items ≡ suc (length old.recent.items) =
      sym (length-map new.recent.items (λ keys. keys.items)) ∙ ap length recent ∙ ap suc (length-map old.recent.items (λ keys. keys.items)) in
      let before : (old.version + 1) - 1 ≡ old.version = omega arith in
      let maps : (server_state new).maps ≡ next_map old ∷ (server_state old).maps =
      (λ i. maps_down (shown (kept i).entries) (version i) (depth i)) ∙ ap (λ v. next_map old ∷ maps_down (shown old.chains.chains.entries) v (length old.recent.items)) before in
      λ i. record { version = version i; maps = maps i }

  pub advanced_rest : IsAtRest new
  advanced_rest = record {
    own = subst (λ o. AllByRecursion (λ m. part o m ≡ m) (server_state new).maps) (sym owner)
        (subst (λ s. AllByRecursion (λ m. part old.part m ≡ m) s.maps) (sym advanced_state) (own, staged.own));
    chains = λ key.
        subst (λ v. IsChain v (recent_of new) key (links_at new.chains.chains key)) (sym version)
        (subst (λ r. IsChain (old.version + 1) r key (links_at new.chains.chains key)) (sym (recent ∙ ap (λ ks. ks ∷ recent_of old) listed))
        (subst (λ t. IsChain (old.version + 1) (old.chains.written.items ∷ recent_of old) key (links_at t key)) (sym kept)
        (pushed_chain old.version (recent_of old) old.chains.written.items key (links_at old.chains.chains key) (staged.chains key) (staged.same key))));
    idle = idle;
  }

-- a server that has no more versions than the window needs
pub within_state : (server : Server) (window : ℕ) → length server.recent.items ≤ window → take (window + 1) (server_state server).maps ≡ (server_state server).maps
within_state server window upto =
    let all : min window (length server.recent.items) ≡ length server.recent.items = omega (arith, upto) in
    ap (λ n. take n (server_state server).maps) (add-one window)
    ∙ take_down (shown server.chains.chains.entries) server.version window (length server.recent.items)
    ∙ ap (maps_down (shown server.chains.chains.entries) server.version) all

pub within_kept : (server : Server) (window : ℕ) → IsAtRest server → length server.recent.items ≤ window → IsServer window server
within_kept server window rest depth = record {
  rest = rest;
  depth = depth;
  short = λ key.
      let short = short_chain server.version (recent_of server) key (links_at server.chains.chains key) (rest.chains key) in
      let count : length (recent_of server) ≡ length server.recent.items = length-map server.recent.items (λ keys. keys.items) in
      omega (arith, short, count, depth);
}

-- after the oldest version is dropped
module _ (old new : Server) (keys : List (List ℕ)) (window : ℕ) (owner : new.part ≡ old.part) (version : new.version ≡ old.version) (recent : recent_of old ≡ recent_of new ++ keys ∷ [])
    (depth : length new.recent.items ≡ window) (rest : IsAtRest old)
    (settled : (key : List ℕ) → links_at new.chains.chains key ≡
    cond (has_key keys key) (needed (old.version - length new.recent.items) (links_at old.chains.chains key)) (links_at old.chains.chains key))
    (idle : new.chains.written.items ≡ []) where
  count : length (recent_of new) ≡ length new.recent.items
  count = length-map new.recent.items (λ keys. keys.items)

  before : (key : List ℕ) → IsChain old.version (recent_of new ++ keys ∷ []) key (links_at old.chains.chains key)
  before key = subst (λ r. IsChain old.version r key (links_at old.chains.chains key)) recent (rest.chains key)

  links_now : (key : List ℕ) → links_at new.chains.chains key ≡ needed (old.version - length (recent_of new)) (links_at old.chains.chains key)
  links_now key = settled key ∙ elim (cases_Bool (has_key keys key)) [
    | inl there ↦
        ap (λ b. cond b (needed (old.version - length new.recent.items) (links_at old.chains.chains key)) (links_at old.chains.chains key)) there
        ∙ ap (λ n. needed (old.version - n) (links_at old.chains.chains key)) (sym count)
    | inr other ↦
        ap (λ b. cond b (needed (old.version - length new.recent.items) (links_at old.chains.chains key)) (links_at old.chains.chains key)) other
        ∙ sym (unlisted_chain old.version (recent_of new) keys key (links_at old.chains.chains key) (before key) other)
  ]

  trimmed_maps : (server_state new).maps ≡ take (window + 1) (server_state old).maps
  trimmed_maps =
      let deeper : length old.recent.items ≡ suc (length new.recent.items) =
      sym (length-map old.recent.items (λ keys. keys.items)) ∙ ap length recent ∙ length_push (recent_of new) keys ∙ add-one (length (recent_of new)) ∙ ap suc count in
      let upto : min window (length old.recent.items) ≡ length new.recent.items = omega (arith, depth, deeper) in
      ap (λ v. maps_down (shown new.chains.chains.entries) v (length new.recent.items)) version
      ∙ same_down (shown new.chains.chains.entries) (shown old.chains.chains.entries) old.version (length new.recent.items) (λ v below from.
      same_shown new.chains.chains old.chains.chains v v (λ key. ap (value_at v) (links_now key) ∙ value-needed (old.version - length (recent_of new)) v (links_at old.chains.chains key) (omega (arith, from, count))))
      ∙ sym (ap (λ n. take n (server_state old).maps) (add-one window) ∙ take_down (shown old.chains.chains.entries) old.version window (length old.recent.items)
      ∙ ap (maps_down (shown old.chains.chains.entries) old.version) upto)

  pub trimmed_state : server_state new ≡ record { version = old.version; maps = take (window + 1) (server_state old).maps }
  trimmed_state = λ i. record { version = version i; maps = trimmed_maps i }

  trimmed_rest : IsAtRest new
  trimmed_rest = record {
    own = subst (λ o. AllByRecursion (λ m. part o m ≡ m) (server_state new).maps) (sym owner)
        (subst (AllByRecursion (λ m. part old.part m ≡ m)) (sym trimmed_maps) (own-take old.part (server_state old).maps (window + 1) rest.own));
    chains = λ key.
        subst (λ v. IsChain v (recent_of new) key (links_at new.chains.chains key)) (sym version)
        (subst (IsChain old.version (recent_of new) key) (sym (links_now key)) (trimmed_chain old.version (recent_of new) keys key (links_at old.chains.chains key) (before key)));
    idle = idle;
  }

  pub trimmed_kept : IsServer window new
  trimmed_kept = within_kept new window trimmed_rest (omega (arith, depth))

-- what is read of a version: what the chains show then, or at the oldest version that the server still has
pub read_map : (server : Server) (v : ℕ) → map_of (server_state server) v ≡ shown server.chains.chains.entries (server.version - min (server.version - v) (length server.recent.items))
read_map server v =
    elim (cases_lt (length server.recent.items) (server.version - v)) [
      | inl past ↦
          let n : length server.recent.items ≡ min (server.version - v) (length server.recent.items) = omega (arith, past) in
          ap (λ o. unwrap_or o (oldest (server_state server).maps)) (down_past at server.version (length server.recent.items) (server.version - v) past)
          ∙ oldest_down at server.version (length server.recent.items) ∙ ap (λ n. at (server.version - n)) n
      | inr has ↦
          let n : server.version - v ≡ min (server.version - v) (length server.recent.items) = omega (arith, has) in
          ap (λ o. unwrap_or o (oldest (server_state server).maps)) (down_at at server.version (length server.recent.items) (server.version - v) has) ∙ ap (λ n. at (server.version - n)) n
    ]
  where
    at : ℕ → Map
    at = shown server.chains.chains.entries

-- a server that goes back as far as one within the window did
pub still_kept : (old new : Server) (window : ℕ) → IsServer window old → length new.recent.items ≡ length old.recent.items → IsAtRest new → IsServer window new
still_kept old new window kept depth rest = let upto = kept.depth in within_kept new window rest (omega (arith, upto, depth))
