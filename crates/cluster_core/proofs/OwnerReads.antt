-- What the server that owns a key answers is what the servers together answer.
use Rattle.std.proofs.Common.{◌≡◌, ◌+◌, ◌≤◌, ℕ, Bool, true, false, cond, Option, None, Some, List, [], ◌∷◌, length, map, inl, inr, refl, sym, ap, subst, ◌∙◌}
use Rattle.std.proofs.lemmas.Bool.{and_parts, cases_Bool}
use Rattle.std.proofs.lemmas.Cmp.{nat_list_cmp_total}
use Rattle.std.proofs.lemmas.List.Folds.{flat_map-map}
use Rattle.std.specs.FinMap.{entries, find, get, get-entries, get-from_entries}
use Rattle.std.specs.List.{AllByRecursion, flat_map}
use Rattle.std.specs.List as list
use Rattle.std.specs.Option.{option_or}
use Rattle.kv_core.proofs.Order.{le_from_lt, lt_le_trans}
use Rattle.kv_core.specs.Bytes.{key_cmp, key_le, key_lt}
use Rattle.kv_core.specs.Range.{point}
use Rattle.cluster_core.specs.Chains.{AreFalling, links_at}
use Rattle.cluster_core.specs.Configuration.{is_rising_above}
use Rattle.cluster_core.specs.Decision.{Owned, owners, owners_from, owns}
use Rattle.cluster_core.specs.Server.{IsServer, IsTier, owner_of, server_state}
use Rattle.cluster_core.specs.Tier.{TierState, first_refusal, map_of, part, refusal, refusal_of, whole_map}
use Rattle.kv_core.specs.declared.snapshot.ReadError.{ReadError}
use Rattle.cluster_core.specs.declared.server.Server.{Server}
use Rattle.cluster_core.proofs.Ownership.{unowned_below}
use Rattle.cluster_core.proofs.OwnMaps.{none_elsewhere, owns-point}
use Rattle.cluster_core.proofs.StorageMaps.{find-append}
use Rattle.cluster_core.proofs.TierReads.{falling_at, own_at}

abbrev NoneOwns : List ℕ → List Owned → Type 0
NoneOwns k os = AllByRecursion (λ o. owns o k ≡ false) os

-- behind an owner of the key nobody owns it
abbrev OneOwns : List ℕ → List Owned → Type 0
OneOwns k [] = Unit {0}
OneOwns k (o ∷ os) = (owns o k ≡ true → NoneOwns k os) × OneOwns k os

none_from : (from : List ℕ) (splits : List (List ℕ)) (k : List ℕ) → is_rising_above from splits ≡ true → key_lt k from ≡ true → NoneOwns k (owners_from from splits)
none_from from [] k rising before = (unowned_below from None k before, tt)
none_from from (split ∷ splits) k rising before =
    let parts = and_parts (key_lt from split) (is_rising_above split splits) rising in
    (unowned_below from (Some split) k before, none_from split splits k parts.1 (lt_le_trans k from split before (le_from_lt from split parts.0)))

one_from : (from : List ℕ) (splits : List (List ℕ)) (k : List ℕ) → is_rising_above from splits ≡ true → OneOwns k (owners_from from splits)
one_from from [] k rising = (λ _. tt, tt)
one_from from (split ∷ splits) k rising =
    let parts = and_parts (key_lt from split) (is_rising_above split splits) rising in
    (λ own. none_from split splits k parts.1 (and_parts (key_le from k) (key_lt k split) own).1, one_from split splits k parts.1)

or_none : {X : Type 0} (o : Option X) → option_or o None ≡ o
or_none None = refl
or_none (Some x) = refl

module _ (window version : ℕ) (k : List ℕ) where
  abbrev mine : Server → Bool
  mine s = owns (owner_of s) k

  abbrev Own : Server → Type 0
  Own s = part (owner_of s) (map_of (server_state s) version) ≡ map_of (server_state s) version

  abbrev all_entries : List Server → List (List ℕ × List ℕ)
  all_entries ss = flat_map (λ s. entries (map_of (server_state s) version)) ss

  abbrev refused : List Server → Option ReadError
  refused ss = first_refusal window (point k) version (map owner_of ss) (map server_state ss)

  -- what a server that may be missing has at the key
  abbrev pub value_in : Option Server → Option (List ℕ)
  value_in None = None
  value_in (Some s) = get (map_of (server_state s) version) k

  -- why a server that may be missing refuses
  abbrev pub refusal_in : Option Server → Option ReadError
  refusal_in None = None
  refusal_in (Some s) = refusal_of window (server_state s) version

  -- one server more
  found : (s : Server) (ss : List Server) (here later : Option (List ℕ)) → get (map_of (server_state s) version) k ≡ here → find key_cmp k (all_entries ss) ≡ later →
      find key_cmp k (all_entries (s ∷ ss)) ≡ option_or here later
  found s ss here later first rest =
      find-append k (entries (map_of (server_state s) version)) (all_entries ss)
      ∙ (λ i. option_or ((sym (get-entries (map_of (server_state s) version) k) ∙ first) i) (rest i))

  value_nowhere : (ss : List Server) → AllByRecursion Own ss → NoneOwns k (map owner_of ss) → find key_cmp k (all_entries ss) ≡ None
  value_nowhere [] own none = refl
  value_nowhere (s ∷ ss) own none = found s ss None None (none_elsewhere (owner_of s) (map_of (server_state s) version) k own.0 none.0) (value_nowhere ss own.1 none.1)

  value_at_owner : (ss : List Server) → AllByRecursion Own ss → OneOwns k (map owner_of ss) → find key_cmp k (all_entries ss) ≡ value_in (list.find mine ss)
  value_at_owner [] own one = refl
  value_at_owner (s ∷ ss) own one = elim (cases_Bool (mine s)) [
    | inl here ↦
        found s ss (get (map_of (server_state s) version) k) None refl (value_nowhere ss own.1 (one.0 here))
        ∙ or_none (get (map_of (server_state s) version) k) ∙ sym (ap (λ b. value_in (cond b (Some s) (list.find mine ss))) here)
    | inr other ↦
        found s ss None (value_in (list.find mine ss)) (none_elsewhere (owner_of s) (map_of (server_state s) version) k own.0 other) (value_at_owner ss own.1 one.1)
        ∙ sym (ap (λ b. value_in (cond b (Some s) (list.find mine ss))) other)
  ]

  -- one server more, which owns the key or not
  asked : (s : Server) (ss : List Server) (b : Bool) → mine s ≡ b → refused (s ∷ ss) ≡ cond b (option_or (refusal_of window (server_state s) version) (refused ss)) (refused ss)
  asked s ss b is = ap (λ a. cond a (option_or (refusal_of window (server_state s) version) (refused ss)) (refused ss)) (sym (owns-point (owner_of s) k) ∙ is)

  refused_nowhere : (ss : List Server) → NoneOwns k (map owner_of ss) → refused ss ≡ None
  refused_nowhere [] none = refl
  refused_nowhere (s ∷ ss) none = asked s ss false none.0 ∙ refused_nowhere ss none.1

  refused_at_owner : (ss : List Server) → OneOwns k (map owner_of ss) → refused ss ≡ refusal_in (list.find mine ss)
  refused_at_owner [] one = refl
  refused_at_owner (s ∷ ss) one = elim (cases_Bool (mine s)) [
    | inl here ↦
        asked s ss true here ∙ ap (option_or (refusal_of window (server_state s) version)) (refused_nowhere ss (one.0 here))
        ∙ or_none (refusal_of window (server_state s) version) ∙ sym (ap (λ b. refusal_in (cond b (Some s) (list.find mine ss))) here)
    | inr other ↦ asked s ss false other ∙ refused_at_owner ss one.1 ∙ sym (ap (λ b. refusal_in (cond b (Some s) (list.find mine ss))) other)
  ]

-- where the splits rise nobody behind an owner of the key owns it
one_of : (splits : List (List ℕ)) (servers : List Server) (k : List ℕ) → map owner_of servers ≡ owners splits → is_rising_above [] splits ≡ true → OneOwns k (map owner_of servers)
one_of splits servers k is rising = subst (OneOwns k) (sym is) (one_from [] splits k rising)

-- what holds of each element holds of the one that is found
found_holds : {X : Type 0} (P : X → Type 0) (test : X → Bool) (xs : List X) (x : X) → AllByRecursion P xs → Some x ≡ list.find test xs → P x
found_holds P test [] x all is = cc
found_holds P test (y ∷ ys) x all is = elim (cases_Bool (test y)) [
  | inl here ↦ let same : Some y ≡ Some x = sym (is ∙ ap (λ b. cond b (Some y) (list.find test ys)) here) in let one : y ≡ x = cc in subst P one all.0
  | inr other ↦ found_holds P test ys x all.1 (is ∙ ap (λ b. cond b (Some y) (list.find test ys)) other)
]

short_at : (window : ℕ) (k : List ℕ) (servers : List Server) → AllByRecursion (IsServer window) servers → AllByRecursion (λ s. length (links_at s.chains.chains k) ≤ window + 1) servers
short_at window k [] kept = tt
short_at window k (s ∷ servers) kept = (kept.0.short k, short_at window k servers kept.1)

-- the servers of a tier, and the one that was found among them to own the key
module _ (tier : TierState) (splits : List (List ℕ)) (window : ℕ) (servers same : List Server) (version : ℕ) (k : List ℕ) (found : Option Server)
    (view : ◌≡◌ {A = TierState} (record { splits = splits; window = window; servers = map server_state servers }) tier) (is : IsTier splits window servers)
    (slice : same ≡ servers) (owner : found ≡ list.find (λ s. owns (owner_of s) k) same) where
  there : found ≡ list.find (λ s. owns (owner_of s) k) servers
  there = owner ∙ ap (list.find (λ s. owns (owner_of s) k)) slice

  pub owner_value : value_in window version k found ≡ get (whole_map tier version) k
  owner_value =
      ap (value_in window version k) there
      ∙ sym (value_at_owner window version k servers (own_at version window servers is.kept) (one_of splits servers k is.parts is.rising))
      ∙ ap (find key_cmp k) (sym (flat_map-map (λ s. entries (map_of s version)) server_state servers))
      ∙ sym (get-from_entries nat_list_cmp_total (flat_map (λ s. entries (map_of s version)) (map server_state servers)) k)
      ∙ ap (λ t. get (whole_map t version) k) view

  pub owner_refusal : refusal_in window version k found ≡ refusal tier (point k) version
  owner_refusal =
      ap (refusal_in window version k) there
      ∙ sym (refused_at_owner window version k servers (one_of splits servers k is.parts is.rising))
      ∙ ap (λ os. first_refusal window (point k) version os (map server_state servers)) is.parts
      ∙ ap (λ t. refusal t (point k) version) view

  pub owner_falling : (s : Server) → found ≡ Some s → AreFalling s.chains.chains
  owner_falling s is_found = found_holds (λ s. AreFalling s.chains.chains) (λ s. owns (owner_of s) k) servers s (falling_at window servers is.kept) (sym is_found ∙ there)

  -- the owner of the key keeps no more of its values than one more than the window
  pub owner_short : (s : Server) → found ≡ Some s → length (links_at s.chains.chains k) ≤ tier.window + 1
  owner_short s is_found =
      subst (λ (t : TierState). length (links_at s.chains.chains k) ≤ t.window + 1) view
      (found_holds (λ s. length (links_at s.chains.chains k) ≤ window + 1) (λ s. owns (owner_of s) k) servers s (short_at window k servers is.kept) (sym is_found ∙ there))
