-- One entry more in a published log.
use Rattle.std.proofs.Common.{◌≡◌, ℕ, ◌+◌, ◌≤◌, cond, is_none, List, [], ◌∷◌, ◌++◌, length, map, refl, sym, ap, ◌∙◌, arith, append-nil, append_assoc, length-append}
use Rattle.std.proofs.lemmas.List.{map-append, length-map}
use Rattle.std.proofs.lemmas.List.Sums.{fold-append}
use mathlib.Core.List.{IsPrefix}
use Rattle.kv_core.specs.declared.change.CommitRequest.{CommitRequest}
use Rattle.kv_core.specs.declared.change.Mutation.{Mutation}
use Rattle.runtime.specs.Origins.{Origin, base_of}
use Rattle.cluster_core.specs.History as histories
use Rattle.cluster_core.specs.Decision.{numbered, is_committed, cause, logged}
use Rattle.cluster_core.specs.Decision as decision
use Rattle.cluster_core.specs.Configuration.{first_tier_over}
use Rattle.cluster_core.specs.Tier.{TierState, absorb_all, after_log}
use Rattle.cluster_core.proofs.Growth.{numbered-push, later_changes_nothing, maps_stay_over}
use Rattle.cluster_core.proofs.Causes.{cause_decides}
use Rattle.runtime.specs.declared.log_entry.Entry.{Entry}
use Rattle.runtime.specs.Logs.{requests_of, version_of, log_map, logged_mutations, log_tier, logged_next}

pub requests_append : (xs ys : List Entry) → requests_of (xs ++ ys) ≡ requests_of xs ++ requests_of ys
requests_append xs ys = map-append (λ (e : Entry). e.request) xs ys

pub requests_length : (xs : List Entry) → length (requests_of xs) ≡ length xs
requests_length xs = length-map xs (λ (e : Entry). e.request)

-- ---- what the logs have of one entry more

same_logged : (splits : List (List ℕ)) (last : ℕ) (requests : List CommitRequest) (request : CommitRequest) (from : ℕ) (qs : List CommitRequest) → from + length qs ≤ last + length requests →
    map (logged (is_committed splits (numbered last (requests ++ request ∷ [])))) (numbered from qs) ≡ map (logged (is_committed splits (numbered last requests))) (numbered from qs)
same_logged splits last requests request from [] h = refl
same_logged splits last requests request from (q ∷ qs) h =
    let e : histories.Entry = record { version = from + 1; request = q } in
    let one : is_committed splits (numbered last (requests ++ request ∷ [])) e ≡ is_committed splits (numbered last requests) e =
    cause_decides splits (numbered last (requests ++ request ∷ [])) e ∙ ap is_none (later_changes_nothing splits last requests request e (omega (arith, h))) ∙ sym (cause_decides splits (numbered last requests) e) in
    λ i. cond (one i) q.mutations [] ∷ same_logged splits last requests request (from + 1) qs (omega (arith, h)) i

-- one more request adds to the logs its mutations where there is no cause against it, and else nothing
pub log_grows : (splits : List (List ℕ)) (last : ℕ) (requests : List CommitRequest) (request : CommitRequest) →
    let entry : histories.Entry = record { version = last + length requests + 1; request = request } in
    decision.log splits (numbered last (requests ++ request ∷ [])) ≡ decision.log splits (numbered last requests) ++ cond (is_none (cause splits (numbered last requests) entry)) request.mutations [] ∷ []
log_grows splits last requests request =
    ap (map f) (numbered-push last requests request)
    ∙ map-append f (numbered last requests) (e ∷ [])
    ∙ (λ i. same_logged splits last requests request last requests (omega arith) i ++ cond ((cause_decides splits (numbered last (requests ++ request ∷ [])) e ∙ ap is_none (later_changes_nothing splits last requests request e (omega arith))) i) request.mutations [] ∷ [])
  where
    e : histories.Entry
    e = record { version = last + length requests + 1; request = request }

    f : histories.Entry → List Mutation
    f = logged (is_committed splits (numbered last (requests ++ request ∷ [])))

pub log_next : (origin : Origin) (log : List Entry) (e : Entry) → logged_mutations origin (log ++ e ∷ []) ≡ logged_mutations origin log ++ logged_next origin log e.request ∷ []
log_next origin log e = ap (λ qs. decision.log origin.config.resolver_splits (numbered origin.config.start qs)) (requests_append log (e ∷ [])) ∙ log_grows origin.config.resolver_splits origin.config.start (requests_of log) e.request

-- the servers that pull what the logs have of one entry more are those of the longer log
pub tier_next : (origin : Origin) (log : List Entry) (e : Entry) → absorb_all (logged_next origin log e.request) (log_tier origin log) ≡ log_tier origin (log ++ e ∷ [])
tier_next origin log e =
    sym (fold-append (λ (tier : TierState) (mutations : List Mutation). absorb_all mutations tier) (first_tier_over (base_of origin) origin.config) (logged_mutations origin log) (logged_next origin log e.request ∷ []))
    ∙ ap (λ l. after_log l (first_tier_over (base_of origin) origin.config)) (sym (log_next origin log e))

-- ---- the maps of a longer log

-- one entry more leaves the map at each earlier version as it was
pub map_next : (origin : Origin) (log : List Entry) (e : Entry) (version : ℕ) → version ≤ version_of origin log → log_map origin (log ++ e ∷ []) version ≡ log_map origin log version
map_next origin log e version h =
    ap (λ qs. histories.map_over (base_of origin) (decision.committed origin.config.resolver_splits (numbered origin.config.start qs)) version) (requests_append log (e ∷ []))
    ∙ maps_stay_over (base_of origin) origin.config.resolver_splits origin.config.start (requests_of log) e.request version h

pub version_next : (origin : Origin) (log : List Entry) (e : Entry) → version_of origin (log ++ e ∷ []) ≡ version_of origin log + 1
version_next origin log e = omega (arith, ap length (requests_append log (e ∷ [])), length-append (requests_of log) (e.request ∷ []))

pub map_more : (origin : Origin) (log more : List Entry) (version : ℕ) → version ≤ version_of origin log → log_map origin (log ++ more) version ≡ log_map origin log version
map_more origin log [] version h = ap (λ l. log_map origin l version) (append-nil log)
map_more origin log (e ∷ more) version h =
    ap (λ l. log_map origin l version) (sym (append_assoc log (e ∷ []) more))
    ∙ map_more origin (log ++ e ∷ []) more version (omega (arith, h, version_next origin log e))
    ∙ map_next origin log e version h

-- the map at a version stays in every log that begins with one that has the version
pub map_begins : (origin : Origin) (log ys : List Entry) (version : ℕ) → IsPrefix log ys → version ≤ version_of origin log → log_map origin ys version ≡ log_map origin log version
map_begins origin log ys version p h = ap (λ l. log_map origin l version) (sym p.1) ∙ map_more origin log p.0 version h

pub version_begins : (origin : Origin) (log ys : List Entry) → IsPrefix log ys → version_of origin log ≤ version_of origin ys
version_begins origin log ys p = omega (arith, ap length (sym (ap requests_of p.1)), ap length (requests_append log p.0), length-append (requests_of log) (requests_of p.0))
