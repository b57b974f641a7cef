-- The order in which the roles stand, after one step of a role.
use Rattle.std.proofs.Common.{◌≡◌, ℕ, ◌+◌, ◌-◌, ◌<◌, ◌≤◌, ◌^◌, Bool, true, false, ◌&&◌, cond, nat_lt, is_none, None, Some, List, [], ◌∷◌, ◌++◌, length, map, replicate, get_or, set, refl, sym, ap, subst, ◌∙◌, arith}
use Rattle.std.proofs.lemmas.Bool.{ltb-true}
use Rattle.std.proofs.lemmas.List.{length-map, length-replicate, length-set, length_push}
use Rattle.std.proofs.lemmas.List.Elements.{All-from_recursion, All-get_or, All-map, All-push, All-replicate, All-set, All-weaker, recursion_from_All}
use Rattle.std.proofs.lemmas.List.Folds.{list_all-map}
use Rattle.std.proofs.lemmas.Option.{get_or_from_slice_get, slice_get-map, slice_get_read}
use Rattle.std.specs.List.{AllByRecursion, All, slice_get, list_all}
use Rattle.std.specs.Option.{option_map, option_or, option_map_or, unwrap_or}
use Rattle.kv_core.specs.declared.change.CommitRequest.{CommitRequest}
use Rattle.cluster_core.specs.History.{Entry, IsLegalOver}
use Rattle.kv_core.specs.Map.{Map}
use Rattle.cluster_core.specs.Decision.{Owned, owners, owners_from, agrees, newer_agreed, first_cause, cause, is_committed, committed, numbered, logged, log}
use Rattle.cluster_core.specs.Laws.{ReadsBelow}
use Rattle.cluster_core.specs.Progress.{ResolverState, IsResolver, IsLog, IsPipeline, answer_of, fresh, has_agreed}
use Rattle.cluster_core.specs.Progress.{first_kept, forgets, pipeline_state, tells}
use Rattle.cluster_core.specs.Requests.{RequestList}
use Rattle.cluster_core.specs.Roles.{PipelineState, outcome, told, told_of}
use Rattle.cluster_core.specs.Kept.{ReadsWithin}
use Rattle.cluster_core.proofs.Bridge.{entry_here, entry_of, numbered_at, version_at}
use Rattle.cluster_core.proofs.Causes.{agrees-none}
use Rattle.cluster_core.proofs.Growth.{numbered-push}
use Rattle.cluster_core.proofs.Legality.{committed_is_legal_over}
use Rattle.cluster_core.proofs.Versions.{rising-numbered}
use Rattle.cluster_core.proofs.Forgetting.{length_forgets}
use Rattle.cluster_core.proofs.Keeping.{log_appended, log_forgotten, log_submitted, resolver_submitted, resolver_taken}
use Rattle.cluster_core.proofs.Telling.{map-set_same}
use Rattle.cluster_core.proofs.Recent.{nothing_old}
use Rattle.cluster_core.proofs.Waiting.{nothing_known}

-- what all pass is passed by each
each_passes : {X : Type 0} (p : X → Bool) (xs : List X) → list_all p xs ≡ true → AllByRecursion (λ x. p x ≡ true) xs
each_passes p [] all = tt
each_passes p (x ∷ xs) all = let parts = Rattle.std.proofs.lemmas.Bool.and_parts (p x) (list_all p xs) all in (parts.0, each_passes p xs parts.1)

each_past : {X : Type 0} (n : ℕ) (f : X → ℕ) (xs : List X) → list_all (λ x. nat_lt n (f x)) xs ≡ true → All (λ x. n < f x) xs
each_past n f xs all =
    All-weaker (λ x. nat_lt n (f x) ≡ true) (λ x. n < f x) (λ x is. ltb-true n (f x) is) xs
    (All-from_recursion (λ x. nat_lt n (f x) ≡ true) xs (each_passes (λ x. nat_lt n (f x)) xs all))

-- some item of a list that isn't empty
some_of : {X : Type 0} (P : X → Type 0) (xs : List X) → 1 ≤ length xs → All P xs → (x : X) × P x
some_of P [] some all = absurd (omega (arith, some))
some_of P (x ∷ xs) some all = (x, all 0 x (omega arith))

some_owner : (from : List ℕ) (splits : List (List ℕ)) → 1 ≤ length (owners_from from splits)
some_owner from [] = omega arith
some_owner from (split ∷ splits) = omega arith

module _ (splits : List (List ℕ)) (window start : ℕ) (requests : RequestList) (resolvers : List ResolverState) (logs : List (List Bool)) (reported : ℕ)
    (was : IsPipeline splits window start requests resolvers logs reported) where
  abbrev es : List Entry
  es = numbered start requests.all

  pub some_resolver : 1 ≤ length resolvers
  some_resolver =
      let len : length resolvers ≡ length (owners splits) = sym (length-map resolvers (λ r. r.owner)) ∙ ap length was.owned in
      let some = some_owner [] splits in
      omega (arith, len, some)

  -- what is committed of the requests is a legal history, over every base
  pub legal : (base : Map) → IsLegalOver base (committed splits (numbered start requests.all))
  legal base = committed_is_legal_over base splits es (rising-numbered start requests.all) was.reads

  -- after one more request
  pub stands_submitted : (q : CommitRequest) → start + length requests.all + 1 < 2 ^ 64 → q.read_version ≤ start + length requests.all → start + length requests.all ≤ q.read_version + window →
      IsPipeline splits window start (record requests { all = requests.all ++ q ∷ [] }) resolvers logs reported
  stands_submitted q small reads recent =
      let more = length_push requests.all q in
      let told = was.told in
      record {
        versions = omega (arith, more, small);
        reads =
            subst ReadsBelow (sym (numbered-push start requests.all q))
            (All-push (λ e. e.request.read_version < e.version) es (record { version = start + length requests.all + 1; request = q }) was.reads (omega (arith, reads)));
        recent =
            subst (ReadsWithin window) (sym (numbered-push start requests.all q))
            (All-push (λ e. e.version ≤ e.request.read_version + window + 1) es (record { version = start + length requests.all + 1; request = q }) was.recent (omega (arith, recent)));
        owned = was.owned;
        resolving = All-weaker (IsResolver window start requests.all reported) (IsResolver window start (requests.all ++ q ∷ []) reported) (resolver_submitted window start requests.all q reported) resolvers was.resolving;
        some_log = was.some_log;
        logging = All-weaker (IsLog splits start requests reported) (IsLog splits start (record requests { all = requests.all ++ q ∷ [] }) reported) (log_submitted splits start requests q reported) logs was.logging;
        ordered = was.ordered;
        told = omega (arith, more, told);
        needed = was.needed;
      }

  -- after one more answer of a resolver, or none
  pub stands_resolved : (i : ℕ) (new d : ResolverState) → i < length resolvers → new.owner ≡ (get_or resolvers i d).owner →
      length (get_or resolvers i d).causes ≤ length new.causes → IsResolver window start requests.all reported new →
      IsPipeline splits window start requests (set resolvers i new) logs reported
  stands_resolved i new d inside owner counted is =
      record {
        versions = was.versions;
        reads = was.reads;
        recent = was.recent;
        owned = map-set_same (λ r. r.owner) resolvers i new d owner ∙ was.owned;
        resolving = All-set (IsResolver window start requests.all reported) resolvers i new is was.resolving;
        some_log = was.some_log;
        logging = was.logging;
        ordered =
            All-weaker (λ passes. All (λ r. length passes ≤ length r.causes) resolvers) (λ passes. All (λ r. length passes ≤ length r.causes) (set resolvers i new))
            (λ passes all.
            let before = All-get_or (λ r. length passes ≤ length r.causes) resolvers i d inside all in
            All-set (λ r. length passes ≤ length r.causes) resolvers i new (omega (arith, before, counted)) all)
            logs was.ordered;
        told = was.told;
        needed = was.needed;
      }

  -- what the resolvers answered for a request that isn't reported yet
  all_answered : (place : ℕ) (entry : Entry) → reported ≤ place → All (λ r. place < length r.causes) resolvers → slice_get (numbered start requests.all) place ≡ Some entry →
      AllByRecursion (λ r. slice_get r.causes place ≡ Some (answer_of r.owner (numbered start requests.all) entry)) resolvers
  all_answered place entry after past there =
      recursion_from_All (λ r. slice_get r.causes place ≡ Some (answer_of r.owner es entry)) resolvers
      (λ k d below. (was.resolving k d below).answers place entry after (past k d below) there)

  -- all resolvers agreed to a request exactly where it is committed
  all_agree : (place : ℕ) (entry : Entry) → reported ≤ place → All (λ r. place < length r.causes) resolvers → slice_get (numbered start requests.all) place ≡ Some entry →
      list_all (has_agreed place) resolvers ≡ is_committed splits (numbered start requests.all) entry
  all_agree place entry after past there =
      same resolvers (all_answered place entry after past there)
      ∙ sym (list_all-map (λ owner. agrees owner es entry) (λ r. r.owner) resolvers)
      ∙ ap (list_all (λ owner. agrees owner es entry)) was.owned
    where
      same : (rs : List ResolverState) → AllByRecursion (λ r. slice_get r.causes place ≡ Some (answer_of r.owner (numbered start requests.all) entry)) rs →
          list_all (has_agreed place) rs ≡ list_all (λ r. agrees r.owner (numbered start requests.all) entry) rs
      same [] all = refl
      same (r ∷ rs) all = λ i.
          (ap (λ o. option_map_or (λ why. is_none why) o false) all.0 ∙ sym (agrees-none r.owner (newer_agreed r.owner (numbered start requests.all) entry) entry.request.reads)) i
          && same rs all.1 i

  -- the first cause that the resolvers keep is the one against the request
  pub first_is : (place : ℕ) (entry : Entry) → reported ≤ place → All (λ r. place < length r.causes) resolvers → slice_get (numbered start requests.all) place ≡ Some entry →
      first_kept place resolvers ≡ cause splits (numbered start requests.all) entry
  first_is place entry after past there =
      same resolvers (all_answered place entry after past there) ∙ ap (λ all. first_cause all es entry) was.owned
    where
      same : (rs : List ResolverState) → AllByRecursion (λ r. slice_get r.causes place ≡ Some (answer_of r.owner (numbered start requests.all) entry)) rs →
          first_kept place rs ≡ first_cause (map (λ r. r.owner) rs) (numbered start requests.all) entry
      same [] all = refl
      same (r ∷ rs) all = λ i. option_or (ap (λ o. unwrap_or o None) all.0 i) (same rs all.1 i)

  -- a request that every resolver answered for was submitted
  pub next_here : (i : ℕ) (d : List Bool) → list_all (λ r. nat_lt (length (get_or logs i d)) (length r.causes)) resolvers ≡ true → length (get_or logs i d) < length requests.all
  next_here i d past =
      let answered = each_past (length (get_or logs i d)) (λ r. length r.causes) resolvers past in
      let some = some_of (λ r. (length (get_or logs i d) < length r.causes) × IsResolver window start requests.all reported r) resolvers some_resolver (λ k e below. (answered k e below, was.resolving k e below)) in
      let a = some.1.0 in
      let b = some.1.1.within in
      omega (arith, a, b)

  -- after one more request in a log
  pub stands_appended : (i : ℕ) (new d : List Bool) (passes : Bool) → i < length logs → new ≡ get_or logs i d ++ passes ∷ [] →
      list_all (λ r. nat_lt (length (get_or logs i d)) (length r.causes)) resolvers ≡ true → passes ≡ list_all (has_agreed (length (get_or logs i d))) resolvers →
      IsPipeline splits window start requests resolvers (set logs i new) reported
  stands_appended i new d passes inside items past agreed =
      let old = get_or logs i d in
      let before : IsLog splits start requests reported old = All-get_or (IsLog splits start requests reported) logs i d inside was.logging in
      let answered = each_past (length old) (λ r. length r.causes) resolvers past in
      let here : length old < length requests.all = next_here i d past in
      let grown : IsLog splits start requests reported (old ++ passes ∷ []) =
      log_appended splits start requests reported old passes before here (λ entry there. agreed ∙ all_agree (length old) entry before.behind answered there) in
      let more = length_push old passes in
      let set_len = length-set logs i new in
      let some_log = was.some_log in
      record {
        versions = was.versions;
        reads = was.reads;
        recent = was.recent;
        owned = was.owned;
        resolving = was.resolving;
        some_log = omega (arith, set_len, some_log);
        logging = All-set (IsLog splits start requests reported) logs i new (subst (IsLog splits start requests reported) (sym items) grown) was.logging;
        ordered =
            All-set (λ passes. All (λ r. length passes ≤ length r.causes) resolvers) logs i new
            (subst (λ xs. All (λ r. length xs ≤ length r.causes) resolvers) (sym items)
            (All-weaker (λ r. length old < length r.causes) (λ r. length (old ++ passes ∷ []) ≤ length r.causes) (λ r below. omega (arith, below, more)) resolvers answered))
            was.ordered;
        told = was.told;
        needed = was.needed;
      }

  -- a request that every log has was answered for by every resolver
  pub past_logs : list_all (λ passes. nat_lt reported (length passes)) logs ≡ true → All (λ r. reported < length r.causes) resolvers
  past_logs all =
      let some = some_of (λ passes. (reported < length passes) × All (λ r. length passes ≤ length r.causes) resolvers) logs was.some_log
      (λ k d below. (each_past reported (λ passes. length passes) logs all k d below, was.ordered k d below)) in
      let past = some.1.0 in
      All-weaker (λ r. length some.0 ≤ length r.causes) (λ r. reported < length r.causes) (λ r before. omega (arith, past, before)) resolvers some.1.1

  pub past_requests : list_all (λ passes. nat_lt reported (length passes)) logs ≡ true → reported < length requests.all
  past_requests all =
      let some = some_of (λ r. (reported < length r.causes) × IsResolver window start requests.all reported r) resolvers some_resolver (λ k d below. (past_logs all k d below, was.resolving k d below)) in
      let a = some.1.0 in
      let b = some.1.1.within in
      omega (arith, a, b)

  -- what the resolvers told so far is what is reported
  pub all_told : All (λ r. r.told ≡ reported) resolvers
  all_told k d below = (was.resolving k d below).told

  -- a request that every log has isn't told yet by any resolver
  pub next_told : list_all (λ passes. nat_lt reported (length passes)) logs ≡ true → All (λ r. r.told < length r.causes) resolvers
  next_told all k d below =
      let told = all_told k d below in
      let past = past_logs all k d below in
      omega (arith, told, past)

  -- each resolver answered for what is reported
  pub reported_answered : All (λ r. reported ≤ length r.causes) resolvers
  reported_answered =
      let some = some_of (λ passes. (reported ≤ length passes) × All (λ r. length passes ≤ length r.causes) resolvers) logs was.some_log
      (λ k d below. ((was.logging k d below).behind, was.ordered k d below)) in
      let past = some.1.0 in
      All-weaker (λ r. length some.0 ≤ length r.causes) (λ r. reported ≤ length r.causes) (λ r before. omega (arith, past, before)) resolvers some.1.1

  -- what the next answer of a resolver asks for is kept
  pub kept_for : (i : ℕ) (d : ResolverState) → i < length resolvers → requests.forgotten ≤ length (get_or resolvers i d).causes - window
  kept_for i d inside =
      let answered = All-get_or (λ r. reported ≤ length r.causes) resolvers i d inside reported_answered in
      let needed = was.needed in
      omega (arith, answered, needed)

  -- each log has what is reported and older than the window
  pub logs_past : (place : ℕ) → place ≤ reported - window → All (λ passes. place ≤ length passes) logs
  logs_past place upto k d below = let behind = (was.logging k d below).behind in omega (arith, behind, upto)

  -- nothing is kept of what is reported and older than the window
  pub stands_forgotten : (place : ℕ) (after : List (List Bool)) → requests.forgotten ≤ place → place ≤ reported - window → after ≡ map (forgets place) logs →
      IsPipeline splits window start (record requests { forgotten = place }) resolvers after reported
  stands_forgotten place after from upto is =
      subst (λ ls. IsPipeline splits window start (record requests { forgotten = place }) resolvers ls reported) (sym is)
      (let len = length-map logs (forgets place) in
      let some_log = was.some_log in
      record {
        versions = was.versions;
        reads = was.reads;
        recent = was.recent;
        owned = was.owned;
        resolving = was.resolving;
        some_log = omega (arith, len, some_log);
        logging =
            All-map (IsLog splits start (record requests { forgotten = place }) reported) (forgets place) logs
            (All-weaker (IsLog splits start requests reported) (λ passes. IsLog splits start (record requests { forgotten = place }) reported (forgets place passes))
            (λ passes is. let behind = is.behind in log_forgotten splits start requests reported place passes from (omega (arith, behind, upto)) is) logs was.logging);
        ordered =
            All-map (λ passes. All (λ r. length passes ≤ length r.causes) resolvers) (forgets place) logs
            (λ k d below.
            let behind = (was.logging k d below).behind in
            subst (λ n. All (λ r. n ≤ length r.causes) resolvers) (sym (length_forgets place (get_or logs k d) (omega (arith, behind, upto)))) (was.ordered k d below));
        told = was.told;
        needed = upto;
      })

  -- after one more report
  pub stands_reported : (after : List ResolverState) → list_all (λ passes. nat_lt reported (length passes)) logs ≡ true → after ≡ map tells resolvers →
      IsPipeline splits window start requests after logs (reported + 1)
  stands_reported after all is =
      let inside = past_requests all in
      let logged = each_past reported (λ passes. length passes) logs all in
      let needed = was.needed in
      subst (λ rs. IsPipeline splits window start requests rs logs (reported + 1)) (sym is)
      (record {
        versions = was.versions;
        reads = was.reads;
        recent = was.recent;
        owned = same_owners resolvers ∙ was.owned;
        resolving =
            All-map (IsResolver window start requests.all (reported + 1)) tells resolvers
            (All-weaker (IsResolver window start requests.all reported) (λ r. IsResolver window start requests.all (reported + 1) (tells r))
            (resolver_taken window start requests.all reported) resolvers was.resolving);
        some_log = was.some_log;
        logging = λ k d below.
            let log = was.logging k d below in
            let next = logged k d below in
            record { behind = omega (arith, next); within = log.within; answers = log.answers; nothing = log.nothing };
        ordered = λ k d below. same_all (length (get_or logs k d)) (was.ordered k d below);
        told = omega (arith, inside);
        needed = omega (arith, needed);
      })
    where
      same_owners : (rs : List ResolverState) → map (λ r. r.owner) (map tells rs) ≡ map (λ r. r.owner) rs
      same_owners [] = refl
      same_owners (r ∷ rs) = ap (λ os. r.owner ∷ os) (same_owners rs)

      same_all : (n : ℕ) → All (λ r. n ≤ length r.causes) resolvers → All (λ r. n ≤ length r.causes) (map tells resolvers)
      same_all n before =
          All-map (λ r. n ≤ length r.causes) tells resolvers
          (All-weaker (λ r. n ≤ length r.causes) (λ r. n ≤ length (tells r).causes)
          (λ r old. let same = length-set r.causes r.told None in omega (arith, old, same)) resolvers before)

  -- what a log has of a request that it has appended
  pub logged_here : (i place : ℕ) (d : List Bool) (request : CommitRequest) (passes : Bool) → i < length logs → requests.forgotten ≤ place → place < length (get_or logs i d) →
      request ≡ get_or requests.all place request → passes ≡ get_or (get_or logs i d) place true →
      slice_get (log splits (numbered start requests.all)) place ≡ Some (cond passes request.mutations [])
  logged_here i place d request passes inside from below is passed =
      let own : IsLog splits start requests reported (get_or logs i d) = All-get_or (IsLog splits start requests reported) logs i d inside was.logging in
      let within = own.within in
      let there : slice_get es place ≡ Some (entry_of start place request) =
      numbered_at start requests.all place ∙ ap (option_map (entry_of start place)) (slice_get_read requests.all (length requests.all) place request refl (omega (arith, below, within)) is) in
      let test : passes ≡ is_committed splits es (entry_of start place request) =
      passed ∙ get_or_from_slice_get (get_or logs i d) place (is_committed splits es (entry_of start place request)) true (own.answers place (entry_of start place request) from below there) in
      slice_get-map (logged (is_committed splits es)) es place ∙ ap (option_map (logged (is_committed splits es))) there ∙ ap (λ b. Some (cond b request.mutations [])) (sym test)

  pub logged_nothing : (i place : ℕ) (d : List Bool) → i < length logs → requests.forgotten ≤ place → place < length (get_or logs i d) → false ≡ get_or (get_or logs i d) place true →
      slice_get (log splits (numbered start requests.all)) place ≡ Some []
  logged_nothing i place d inside from below passed =
      let own : IsLog splits start requests reported (get_or logs i d) = All-get_or (IsLog splits start requests reported) logs i d inside was.logging in
      let within = own.within in
      let here = entry_here start requests.all place (omega (arith, below, within)) in
      let test : false ≡ is_committed splits es here.0 =
      passed ∙ get_or_from_slice_get (get_or logs i d) place (is_committed splits es here.0) true (own.answers place here.0 from below here.1) in
      slice_get-map (logged (is_committed splits es)) es place ∙ ap (option_map (logged (is_committed splits es))) here.1 ∙ ap (λ b. Some (cond b here.0.request.mutations [])) (sym test)

  -- what is told is the outcome of the request that is reported next
  pub told_next : list_all (λ passes. nat_lt reported (length passes)) logs ≡ true →
      told (first_kept reported resolvers) (start + reported + 1) ≡ outcome (pipeline_state splits window start requests resolvers logs reported) (start + reported + 1)
  told_next all =
      let here = entry_here start requests.all reported (past_requests all) in
      let number : start + reported + 1 ≡ here.0.version = sym (version_at start requests.all reported here.0 here.1) in
      let place : reported ≡ (start + reported + 1) - start - 1 = omega arith in
      let p : PipelineState = pipeline_state splits window start requests resolvers logs reported in
      (λ i. told (first_is reported here.0 (omega arith) (past_logs all) here.1 i) (number i))
      ∙ ap (told_of p) (sym here.1)
      ∙ ap (λ n. told_of p (slice_get es n)) place

-- no request was submitted
abbrev pub no_requests : RequestList
no_requests = record { all = []; forgotten = 0 }

-- the pipeline at the start
pub stands_first : (splits : List (List ℕ)) (window start count : ℕ) → start < 2 ^ 64 → 1 ≤ count → IsPipeline splits window start no_requests (map fresh (owners splits)) (replicate count []) 0
stands_first splits window start count small some =
    let len = length-replicate count (let none : List Bool = [] in none) in
    record {
      versions = omega (arith, small);
      reads = All-from_recursion (λ e. e.request.read_version < e.version) [] tt;
      recent = All-from_recursion (λ e. e.version ≤ e.request.read_version + window + 1) [] tt;
      owned = same (owners splits);
      resolving = All-from_recursion (IsResolver window start [] 0) (map fresh (owners splits)) (each (owners splits));
      some_log = omega (arith, len, some);
      logging = All-replicate (IsLog splits start no_requests 0) count [] (record { behind = omega arith; within = omega arith; answers = λ place entry from below there. absurd (omega (arith, below)); nothing = λ place gone. absurd (omega (arith, gone)) });
      ordered = All-replicate (λ passes. All (λ r. length passes ≤ length r.causes) (map fresh (owners splits))) count []
          (All-from_recursion (λ r. 0 ≤ length r.causes) (map fresh (owners splits)) (all_above (owners splits)));
      told = omega arith;
      needed = omega arith;
    }
  where
    same : (all : List Owned) → map (λ r. r.owner) (map fresh all) ≡ all
    same [] = refl
    same (owner ∷ all) = ap (λ xs. owner ∷ xs) (same all)

    each : (all : List Owned) → AllByRecursion (IsResolver window start [] 0) (map fresh all)
    each [] = tt
    each (owner ∷ all) =
        (record { within = omega arith; told = refl; knows = nothing_known owner start (0 - window); recent = nothing_old window; answers = λ place entry after below there. absurd (omega (arith, below)) }, each all)

    all_above : (all : List Owned) → AllByRecursion (λ r. 0 ≤ length r.causes) (map fresh all)
    all_above [] = tt
    all_above (owner ∷ all) = (omega arith, all_above all)
