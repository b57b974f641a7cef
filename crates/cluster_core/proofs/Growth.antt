-- Later requests change nothing of what is said of earlier ones.
use Rattle.std.proofs.Common.{◌≡◌, ℕ, zero, suc, ◌+◌, ◌-◌, ◌<◌, ◌≤◌, Bool, true, false, cond, is_none, not, List, [], ◌∷◌, ◌++◌, length, reverse, refl, sym, ap, subst, ◌∙◌, arith}
use Rattle.std.proofs.lemmas.Bool.{lt-leb}
use Rattle.std.proofs.lemmas.List.Elements.{filter-append}
use Rattle.std.specs.List.{AllByRecursion, filter}
use Rattle.std.specs.Option.{option_or}
use Rattle.kv_core.specs.declared.change.CommitRequest.{CommitRequest}
use Rattle.cluster_core.specs.History.{Entry, until, replay, map_over}
use Rattle.std.specs.FinMap.{empty}
use Rattle.kv_core.specs.Map.{Map}
use Rattle.cluster_core.specs.Decision.{Owned, owners, agreed_above, first_disturbed, first_cause, cause, is_committed, committed, numbered}
use Rattle.cluster_core.specs.Laws.{LaterChangesNothing, HistoryGrows, MapsStay}
use Rattle.cluster_core.proofs.Causes.{cause_decides}

nothing_more : (xs : List Entry) → xs ++ [] ≡ xs
nothing_more [] = refl
nothing_more (x ∷ xs) = ap (λ t. x ∷ t) (nothing_more xs)

abbrev entry_of : ℕ → CommitRequest → Entry
entry_of version request = record { version = version; request = request }

-- one more request is one more entry
pub numbered-push : (last : ℕ) (qs : List CommitRequest) (q : CommitRequest) → numbered last (qs ++ q ∷ []) ≡ numbered last qs ++ entry_of (last + length qs + 1) q ∷ []
numbered-push last [] q = let e : last + 1 ≡ last + 0 + 1 = omega arith in ap (λ n. entry_of n q ∷ []) e
numbered-push last (x ∷ qs) q =
    let e : (last + 1) + length qs + 1 ≡ last + suc (length qs) + 1 = omega arith in
    ap (λ t. entry_of (last + 1) x ∷ t) (numbered-push (last + 1) qs q ∙ ap (λ n. numbered (last + 1) qs ++ entry_of n q ∷ []) e)

pub until-push : (v : ℕ) (es : List Entry) (e : Entry) → v < e.version → until v (es ++ e ∷ []) ≡ until v es
until-push v es e h =
    filter-append (λ x. Rattle.std.proofs.Common.nat_le x.version v) es (e ∷ [])
    ∙ ap (λ b. until v es ++ cond b (e ∷ []) []) (lt-leb e.version v h) ∙ nothing_more (until v es)

same_cause : (all : List Owned) (es fs : List Entry) (x : Entry) → until (x.version - 1) es ≡ until (x.version - 1) fs → first_cause all es x ≡ first_cause all fs x
same_cause [] es fs x e = refl
same_cause (owner ∷ others) es fs x e =
    λ i. option_or (first_disturbed owner (agreed_above owner x.request.read_version (reverse (e i))) x.request.reads) (same_cause others es fs x e i)

pub later_changes_nothing : LaterChangesNothing
later_changes_nothing splits last requests request entry h =
    ap (λ es. cause splits es entry) (numbered-push last requests request)
    ∙ same_cause (owners splits) (numbered last requests ++ entry_of (last + length requests + 1) request ∷ []) (numbered last requests) entry
    (until-push (entry.version - 1) (numbered last requests) (entry_of (last + length requests + 1) request) (omega (arith, h)))

below-numbered : (last top : ℕ) (qs : List CommitRequest) → last + length qs ≤ top → AllByRecursion (λ e. e.version ≤ top) (numbered last qs)
below-numbered last top [] h = tt
below-numbered last top (q ∷ qs) h = (omega (arith, h), below-numbered (last + 1) top qs (omega (arith, h)))

filter-same : (p q : Entry → Bool) (top : ℕ) → ((e : Entry) → e.version ≤ top → p e ≡ q e) → (es : List Entry) → AllByRecursion (λ e. e.version ≤ top) es → filter p es ≡ filter q es
filter-same p q top same [] a = refl
filter-same p q top same (e ∷ es) a = λ i. cond (same e a.0 i) (e ∷ filter-same p q top same es a.1 i) (filter-same p q top same es a.1 i)

pub history_grows : HistoryGrows
history_grows splits last requests request =
    ap (filter p) (numbered-push last requests request)
    ∙ filter-append p (numbered last requests) (e ∷ [])
    ∙ (λ i. filter-same p (is_committed splits (numbered last requests)) (last + length requests) (λ x h. alike x (omega (arith, h))) (numbered last requests) (below-numbered last (last + length requests) requests (omega arith)) i
    ++ cond ((cause_decides splits (numbered last (requests ++ request ∷ [])) e ∙ ap is_none (later_changes_nothing splits last requests request e (omega arith))) i) (e ∷ []) [])
  where
    e : Entry
    e = entry_of (last + length requests + 1) request

    p : Entry → Bool
    p = is_committed splits (numbered last (requests ++ request ∷ []))

    alike : (x : Entry) → x.version ≤ last + length requests + 1 → is_committed splits (numbered last (requests ++ request ∷ [])) x ≡ is_committed splits (numbered last requests) x
    alike x h =
        cause_decides splits (numbered last (requests ++ request ∷ [])) x
        ∙ ap is_none (later_changes_nothing splits last requests request x h)
        ∙ sym (cause_decides splits (numbered last requests) x)

until-maybe : (v : ℕ) (es : List Entry) (e : Entry) (b : Bool) → v < e.version → until v (es ++ cond b (e ∷ []) []) ≡ until v es
until-maybe v es e true h = until-push v es e h
until-maybe v es e false h = ap (until v) (nothing_more es)

-- so it is over every base
pub maps_stay_over : (base : Map) (splits : List (List ℕ)) (last : ℕ) (requests : List CommitRequest) (request : CommitRequest) (version : ℕ) → version ≤ last + length requests →
    map_over base (committed splits (numbered last (requests ++ request ∷ []))) version ≡ map_over base (committed splits (numbered last requests)) version
maps_stay_over base splits last requests request version h =
    ap (λ es. map_over base es version) (history_grows splits last requests request)
    ∙ ap (replay base) (until-maybe version (committed splits (numbered last requests)) (entry_of (last + length requests + 1) request)
    (is_none (cause splits (numbered last requests) (entry_of (last + length requests + 1) request))) (omega (arith, h)))

pub maps_stay : MapsStay
maps_stay splits last requests request version h = maps_stay_over empty splits last requests request version h
