-- Places of requests against the entries with their versions.
use Rattle.std.proofs.Common.{◌≡◌, ℕ, zero, suc, ◌+◌, ◌<◌, not, Option, None, Some, List, [], ◌∷◌, length, inl, inr, T, refl, sym, ap, subst, ◌∙◌, arith}
use Rattle.std.specs.List.{slice_get}
use Rattle.std.specs.Option.{option_map, unwrap_or}
use Rattle.kv_core.specs.declared.change.CommitRequest.{CommitRequest}
use Rattle.cluster_core.specs.History.{Entry}
use Rattle.cluster_core.proofs.Versions.{In}
use Rattle.cluster_core.specs.Decision.{numbered}

-- the entry of a request at a place
abbrev pub entry_of : ℕ → ℕ → CommitRequest → Entry
entry_of start place request = record { version = start + place + 1; request = request }

pub numbered_at : (start : ℕ) (requests : List CommitRequest) (place : ℕ) → slice_get (numbered start requests) place ≡ option_map (entry_of start place) (slice_get requests place)
numbered_at start [] place = refl
numbered_at start (q ∷ requests) zero =
    let n : start + 1 ≡ start + 0 + 1 = omega arith in
    ap (λ v. Some (record { version = v; request = q })) n
numbered_at start (q ∷ requests) (suc place) =
    let n : (start + 1) + place + 1 ≡ start + suc place + 1 = omega arith in
    numbered_at (start + 1) requests place ∙ ap (λ v. option_map (λ (r : CommitRequest). record { version = v; request = r }) (slice_get requests place)) n

impossible : {P : Type 0} (e : Entry) → ◌≡◌ {A = Option Entry} None (Some e) → P
impossible e h = absurd (subst (λ (o : Option Entry). T (not (Rattle.std.proofs.Common.is_some o))) h tt)

-- what stands at a place
pub at_place : {X : Type 0} (xs : List X) (i : ℕ) (x : X) → i < length xs → x ≡ Rattle.std.proofs.Common.get_or xs i x → slice_get xs i ≡ Some x
at_place [] i x inside is = absurd (omega (arith, inside))
at_place (y ∷ xs) zero x inside is = ap Some (sym is)
at_place (y ∷ xs) (suc i) x inside is = at_place xs i x (omega (arith, inside)) is

pub in_from : (es : List Entry) (i : ℕ) (e : Entry) → slice_get es i ≡ Some e → In es e
in_from [] i e is = impossible e is
in_from (y ∷ es) zero e is = inl (ap (λ o. unwrap_or o e) is)
in_from (y ∷ es) (suc i) e is = inr (in_from es i e is)

pub version_at : (start : ℕ) (requests : List CommitRequest) (place : ℕ) (entry : Entry) → slice_get (numbered start requests) place ≡ Some entry → entry.version ≡ start + place + 1
version_at start requests place entry here = by (slice_get requests place) refl
  where
    by : (o : Option CommitRequest) → slice_get requests place ≡ o → entry.version ≡ start + place + 1
    by None p = impossible entry (sym (numbered_at start requests place ∙ ap (option_map (entry_of start place)) p) ∙ here)
    by (Some q) p = sym (ap (λ o. (unwrap_or o entry).version) (sym (numbered_at start requests place ∙ ap (option_map (entry_of start place)) p) ∙ here))

-- the entry of the request at a place
pub entry_here : (start : ℕ) (requests : List CommitRequest) (place : ℕ) → place < length requests → (entry : Entry) × (slice_get (numbered start requests) place ≡ Some entry)
entry_here start [] place inside = absurd (omega (arith, inside))
entry_here start (q ∷ requests) zero inside = (record { version = start + 1; request = q }, refl)
entry_here start (q ∷ requests) (suc place) inside = entry_here (start + 1) requests place (omega (arith, inside))
