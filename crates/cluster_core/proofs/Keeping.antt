-- What a resolver and a log keep, after one step of a role.
use Rattle.std.proofs.Common.{◌≡◌, ℕ, zero, suc, ◌+◌, ◌-◌, ◌<◌, ◌≤◌, Bool, true, false, max, nat_le, not, is_none, Option, None, Some, List, [], ◌∷◌, ◌++◌, drop, length, set, inl, inr, refl, sym, ap, subst, ◌∙◌, arith}
use Rattle.std.proofs.lemmas.Bool.{and_from, and_parts, cases_order}
use Rattle.std.proofs.lemmas.List.{length_push, length-set}
use Rattle.std.proofs.lemmas.Option.{slice_get_within}
use Rattle.std.specs.List.{list_all, slice_get}
use Rattle.std.specs.Option.{option_map_or}
use Rattle.kv_core.specs.Change.{write_ranges}
use Rattle.kv_core.specs.Range.{covers}
use Rattle.kv_core.specs.declared.change.CommitRequest.{CommitRequest}
use Rattle.cluster_core.specs.History.{Entry, until}
use Rattle.cluster_core.specs.Decision.{Cause, Owned, agreed_above, agrees, disturbs, earlier, first_disturbed, is_committed, numbered}
use Rattle.cluster_core.specs.Kept.{KeepsRecent, KeptWrites, KnowsWrites, KnowsWriters, WritersState, agreed_at, rise_between, writes_key}
use Rattle.cluster_core.specs.Progress.{ResolverState, IsResolver, IsLog, answer_of, forgets, tells}
use Rattle.cluster_core.specs.Requests.{RequestList}
use Rattle.cluster_core.proofs.Bridge.{entry_here, version_at}
use Rattle.cluster_core.proofs.Causes.{cause_decides}
use Rattle.cluster_core.proofs.Forgetting.{get_forgets, get_front, length_forgets}
use Rattle.cluster_core.proofs.Growth.{numbered-push, until-push, later_changes_nothing}
use Rattle.cluster_core.proofs.Rising.{rise_le}
use Rattle.cluster_core.proofs.Waiting.{known_later}

pub length-numbered : (start : ℕ) (requests : List CommitRequest) → length (numbered start requests) ≡ length requests
length-numbered start [] = refl
length-numbered start (q ∷ requests) = ap suc (length-numbered (start + 1) requests)

pub get_last : {X : Type 0} (xs : List X) (x : X) → slice_get (xs ++ x ∷ []) (length xs) ≡ Some x
get_last [] x = refl
get_last (y ∷ xs) x = get_last xs x

pub get_before : {X : Type 0} (xs ys : List X) (i : ℕ) → i < length xs → slice_get (xs ++ ys) i ≡ slice_get xs i
get_before [] ys i inside = absurd (omega (arith, inside))
get_before (x ∷ xs) ys zero inside = refl
get_before (x ∷ xs) ys (suc i) inside = get_before xs ys i (omega (arith, inside))

-- a resolver that has its next answer
pub answered_next : (window start : ℕ) (requests : List CommitRequest) (reported : ℕ) (old : ResolverState) (writers : WritersState) (causes : List (Option Cause)) (why : Option Cause) →
    IsResolver window start requests reported old → length old.causes < length requests → causes ≡ old.causes ++ why ∷ [] →
    ((entry : Entry) → slice_get (numbered start requests) (length old.causes) ≡ Some entry → why ≡ answer_of old.owner (numbered start requests) entry) →
    KnowsWriters old.owner start requests (length old.causes - window) (length old.causes + 1) writers → KeepsRecent window (length old.causes + 1) writers →
    IsResolver window start requests reported (record { owner = old.owner; writers = writers; told = old.told; causes = causes })
answered_next window start requests reported old writers causes why was inside items is knows recent =
    subst (λ xs. IsResolver window start requests reported (record { owner = old.owner; writers = writers; told = old.told; causes = xs })) (sym items)
    (let more = length_push old.causes why in
    record {
      within = omega (arith, inside, more);
      told = was.told;
      knows =
          subst (λ n. KnowsWriters old.owner start requests (n - window) n writers) (sym more)
          (known_later old.owner start requests (length old.causes - window) (length old.causes + 1 - window) (length old.causes + 1) writers (omega arith) knows);
      recent = subst (λ n. KeepsRecent window n writers) (sym more) recent;
      answers = λ place entry after below there. elim (cases_order place (length old.causes)) [
        | inl same ↦ ap (slice_get (old.causes ++ why ∷ [])) same ∙ get_last old.causes why ∙ ap Some (is entry (subst (λ i. slice_get (numbered start requests) i ≡ Some entry) same there))
        | inr (inl before) ↦ get_before old.causes (why ∷ []) place before ∙ was.answers place entry after before there
        | inr (inr past) ↦ absurd (omega (arith, past, below, more))
      ];
    })

-- a resolver that keeps something else, which stands for the same
pub answered_again : (window start : ℕ) (requests : List CommitRequest) (reported : ℕ) (old : ResolverState) (writers : WritersState) →
    IsResolver window start requests reported old → KnowsWriters old.owner start requests (length old.causes - window) (length old.causes) writers → KeepsRecent window (length old.causes) writers →
    IsResolver window start requests reported (record old { writers = writers })
answered_again window start requests reported old writers was knows recent =
    record { within = was.within; told = was.told; knows = knows; recent = recent; answers = was.answers }

earlier-push : (start : ℕ) (requests : List CommitRequest) (q : CommitRequest) (v : ℕ) → v ≤ start + length requests + 1 →
    earlier (numbered start (requests ++ q ∷ [])) v ≡ earlier (numbered start requests) v
earlier-push start requests q v upto =
    ap (λ es. Rattle.std.proofs.Common.reverse (until (v - 1) es)) (numbered-push start requests q)
    ∙ ap Rattle.std.proofs.Common.reverse (until-push (v - 1) (numbered start requests) (record { version = start + length requests + 1; request = q }) (omega (arith, upto)))

-- an entry that stands after one more request stands before it, at each earlier place
there_before : (start : ℕ) (requests : List CommitRequest) (q : CommitRequest) (place : ℕ) (entry : Entry) → place < length requests →
    slice_get (numbered start (requests ++ q ∷ [])) place ≡ Some entry → slice_get (numbered start requests) place ≡ Some entry
there_before start requests q place entry inside there =
    let len = length-numbered start requests in
    sym (ap (λ es. slice_get es place) (numbered-push start requests q)
    ∙ get_before (numbered start requests) (record { version = start + length requests + 1; request = q } ∷ []) place (omega (arith, inside, len))) ∙ there

-- what is said of an earlier request stands after one more
module _ (owner : Owned) (start : ℕ) (requests : List CommitRequest) (q : CommitRequest) where
  abbrev more_requests : List CommitRequest
  more_requests = requests ++ q ∷ []

  agreed_same : (place : ℕ) → place < length requests → agreed_at owner start more_requests place ≡ agreed_at owner start requests place
  agreed_same place inside =
      let here = entry_here start requests place inside in
      let e = here.0 in
      let len = length-numbered start requests in
      let number = version_at start requests place e here.1 in
      let there : slice_get (numbered start more_requests) place ≡ Some e =
      ap (λ es. slice_get es place) (numbered-push start requests q)
      ∙ get_before (numbered start requests) (record { version = start + length requests + 1; request = q } ∷ []) place (omega (arith, inside, len)) ∙ here.1 in
      ap (λ o. option_map_or (agrees owner (numbered start more_requests)) o false) there
      ∙ ap (λ xs. list_all (λ newer. not (disturbs owner newer.request e.request)) (agreed_above owner e.request.read_version xs)) (earlier-push start requests q e.version (omega (arith, number, inside)))
      ∙ sym (ap (λ o. option_map_or (agrees owner (numbered start requests)) o false) here.1)

  writes_same : (place : ℕ) (key : List ℕ) → place < length requests → writes_key more_requests place key ≡ writes_key requests place key
  writes_same place key inside = ap (λ o. option_map_or (λ (r : CommitRequest). covers (write_ranges r.mutations) key) o false) (get_before requests (q ∷ []) place inside)

  all_same : (low upto : ℕ) (ps : List ℕ) → upto ≤ length requests → rise_between low upto ps ≡ true → list_all (agreed_at owner start requests) ps ≡ true →
      list_all (agreed_at owner start more_requests) ps ≡ true
  all_same low upto [] within rises all = refl
  all_same low upto (p ∷ ps) within rises all =
      let r = and_parts (nat_le low p) (rise_between (p + 1) upto ps) rises in
      let a = and_parts (agreed_at owner start requests p) (list_all (agreed_at owner start requests) ps) all in
      let below = rise_le (p + 1) upto ps r.1 in
      and_from (agreed_at owner start more_requests p) (list_all (agreed_at owner start more_requests) ps) (agreed_same p (omega (arith, below, within)) ∙ a.0)
      (all_same (p + 1) upto ps within r.1 a.1)

  writes_submitted : (least upto : ℕ) (writes : KeptWrites) → upto ≤ length requests → KnowsWrites owner start requests least upto writes →
      KnowsWrites owner start more_requests least upto writes
  writes_submitted least upto writes within was =
      let ordered = rise_le writes.ordered upto writes.pending was.in_order in
      record {
        keys = record {
          sound = λ key place h.
              let s = was.keys.sound key place h in
              let before = s.0 in
              (before, agreed_same place (omega (arith, before, within)) ∙ s.1, writes_same place key (omega (arith, before, within)) ∙ s.2);
          settled = λ key place from before agreed own wrote.
              was.keys.settled key place from before (sym (agreed_same place (omega (arith, before, ordered, within))) ∙ agreed) own
              (sym (writes_same place key (omega (arith, before, ordered, within))) ∙ wrote);
        };
        in_order = was.in_order;
        agreed = all_same writes.ordered upto writes.pending within was.in_order was.agreed;
        waiting = λ place from past before agreed. was.waiting place from past before (sym (agreed_same place (omega (arith, before, within))) ∙ agreed);
      }

  known_submitted : (least upto : ℕ) (writers : WritersState) → upto ≤ length requests → KnowsWriters owner start requests least upto writers →
      KnowsWriters owner start more_requests least upto writers
  known_submitted least upto writers within was = record {
    ranges = writes_submitted least upto writers.ranges within was.ranges;
    points = writes_submitted (max least writers.whole_from) upto writers.points within was.points;
  }

-- one more request changes nothing of what a resolver keeps
pub resolver_submitted : (window start : ℕ) (requests : List CommitRequest) (q : CommitRequest) (reported : ℕ) (resolver : ResolverState) →
    IsResolver window start requests reported resolver → IsResolver window start (requests ++ q ∷ []) reported resolver
resolver_submitted window start requests q reported resolver was =
    let more = length_push requests q in
    let within = was.within in
    record {
      within = omega (arith, more, within);
      told = was.told;
      knows = known_submitted resolver.owner start requests q (length resolver.causes - window) (length resolver.causes) resolver.writers within was.knows;
      recent = was.recent;
      answers = λ place entry after below there.
          let inside : place < length requests = omega (arith, below, within) in
          let there' = there_before start requests q place entry inside there in
          let number = version_at start requests place entry there' in
          was.answers place entry after below there'
          ∙ ap (λ xs. Some (first_disturbed resolver.owner (agreed_above resolver.owner entry.request.read_version xs) entry.request.reads))
          (sym (earlier-push start requests q entry.version (omega (arith, number, inside))));
    }

get-set_other : {X : Type 0} (xs : List X) (i j : ℕ) (x : X) → i < j → slice_get (set xs i x) j ≡ slice_get xs j
get-set_other [] i j x below = refl
get-set_other (y ∷ xs) zero zero x below = absurd (omega (arith, below))
get-set_other (y ∷ xs) zero (suc j) x below = refl
get-set_other (y ∷ xs) (suc i) zero x below = absurd (omega (arith, below))
get-set_other (y ∷ xs) (suc i) (suc j) x below = get-set_other xs i j x (omega (arith, below))

-- a resolver whose answer to the request that is reported next was taken
pub resolver_taken : (window start : ℕ) (requests : List CommitRequest) (place : ℕ) (resolver : ResolverState) →
    IsResolver window start requests place resolver → IsResolver window start requests (place + 1) (tells resolver)
resolver_taken window start requests place resolver was =
    let same = length-set resolver.causes resolver.told None in
    let within = was.within in
    let told = was.told in
    record {
      within = omega (arith, same, within);
      told = omega (arith, told);
      knows = subst (λ n. KnowsWriters resolver.owner start requests (n - window) n resolver.writers) (sym same) was.knows;
      recent = subst (λ n. KeepsRecent window n resolver.writers) (sym same) was.recent;
      answers = λ p entry after below there.
          get-set_other resolver.causes resolver.told p None (omega (arith, after, told)) ∙ was.answers p entry (omega (arith, after)) (omega (arith, below, same)) there;
    }

-- one more request changes nothing of what a log has
pub log_submitted : (splits : List (List ℕ)) (start : ℕ) (requests : RequestList) (q : CommitRequest) (reported : ℕ) (passes : List Bool) →
    IsLog splits start requests reported passes → IsLog splits start (record requests { all = requests.all ++ q ∷ [] }) reported passes
log_submitted splits start requests q reported passes was =
    let more = length_push requests.all q in
    let within = was.within in
    record {
      behind = was.behind;
      within = omega (arith, more, within);
      answers = λ place entry from below there.
          let inside : place < length requests.all = omega (arith, below, within) in
          let there' = there_before start requests.all q place entry inside there in
          let number = version_at start requests.all place entry there' in
          was.answers place entry from below there' ∙ ap Some (sym (alike entry (omega (arith, number, inside))));
      nothing = was.nothing;
    }
  where
    alike : (x : Entry) → x.version ≤ start + length requests.all + 1 → is_committed splits (numbered start (requests.all ++ q ∷ [])) x ≡ is_committed splits (numbered start requests.all) x
    alike x h =
        cause_decides splits (numbered start (requests.all ++ q ∷ [])) x
        ∙ ap (λ o. is_none o) (later_changes_nothing splits start requests.all q x h)
        ∙ sym (cause_decides splits (numbered start requests.all) x)

-- a log that has one more request
pub log_appended : (splits : List (List ℕ)) (start : ℕ) (requests : RequestList) (reported : ℕ) (old : List Bool) (passes : Bool) →
    IsLog splits start requests reported old → length old < length requests.all →
    ((entry : Entry) → slice_get (numbered start requests.all) (length old) ≡ Some entry → passes ≡ is_committed splits (numbered start requests.all) entry) →
    IsLog splits start requests reported (old ++ passes ∷ [])
log_appended splits start requests reported old passes was inside is =
    let more = length_push old passes in
    let behind = was.behind in
    record {
      behind = omega (arith, behind, more);
      within = omega (arith, inside, more);
      answers = λ place entry from below there. elim (cases_order place (length old)) [
        | inl same ↦
            ap (slice_get (old ++ passes ∷ [])) same ∙ get_last old passes ∙ ap Some (is entry (subst (λ i. slice_get (numbered start requests.all) i ≡ Some entry) same there))
        | inr (inl before) ↦ get_before old (passes ∷ []) place before ∙ was.answers place entry from before there
        | inr (inr past) ↦ absurd (omega (arith, past, below, more))
      ];
      nothing = λ place gone. get_before old (passes ∷ []) place (slice_get_within old place true (was.nothing place gone)) ∙ was.nothing place gone;
    }

-- a log that keeps nothing of the requests before a place
pub log_forgotten : (splits : List (List ℕ)) (start : ℕ) (requests : RequestList) (reported place : ℕ) (passes : List Bool) →
    requests.forgotten ≤ place → place ≤ length passes → IsLog splits start requests reported passes →
    IsLog splits start (record requests { forgotten = place }) reported (forgets place passes)
log_forgotten splits start requests reported place passes from inside was =
    let same : length (forgets place passes) ≡ length passes = length_forgets place passes inside in
    let behind = was.behind in
    let within = was.within in
    record {
      behind = omega (arith, behind, same);
      within = omega (arith, within, same);
      answers = λ at entry after below there. get_forgets place passes at after ∙ was.answers at entry (omega (arith, from, after)) (omega (arith, below, same)) there;
      nothing = λ at gone. get_front place true (drop place passes) at gone;
    }
