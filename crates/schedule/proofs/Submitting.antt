-- Submissions, and what one more of them, or a report, changes.
use Rattle.std.proofs.Common.{◌≡◌, ℕ, zero, suc, ◌+◌, ◌-◌, ◌<◌, ◌≤◌, Bool, true, false, cond, ◌&&◌, ◌==◌, List, [], ◌∷◌, ◌++◌, length, map, slice_get, refl, sym, ap, subst, ◌∙◌, Option, Some, None, arith, nat_le}
use Rattle.std.specs.List.{filter, find}
use Rattle.std.specs.Option.{option_map_or}
use Rattle.std.proofs.lemmas.Bool.{le-leb, lt-leb, eqb-true, eqb-false}
use Rattle.std.proofs.lemmas.List.{append-nil, map-append}
use Rattle.std.proofs.lemmas.List.Elements.{filter-append}
use Rattle.kv_core.specs.Map.{Map}
use Rattle.kv_core.specs.declared.change.CommitRequest.{CommitRequest}
use Rattle.cluster_core.specs.History.{Entry, map_over}
use Rattle.cluster_core.specs.Decision.{numbered}
use Rattle.cluster_core.specs.Roles.{PipelineState, entries, history, outcome, report, submit, submitted, told, told_of}
use Rattle.cluster_core.proofs.Growth.{numbered-push, later_changes_nothing, maps_stay_over}
use Rattle.cluster_core.proofs.Bridge.{version_at}
use Rattle.schedule.specs.Past.{Open, Submission}
use Rattle.schedule.specs.Standing.{is_told, is_listed, commit_entry, commits_of}
use Rattle.schedule.specs.Contract.{client_of}
use Rattle.schedule.specs.Isolated.{store_of}
use Rattle.schedule.specs.Turns.{IsOpenTransaction, IsSubmitted, AreSubmitted}
use Rattle.schedule.proofs.Turning.{open_elsewhere, open_later}

-- ---- tests of numbers

yes_same : (m n : ℕ) → m ≡ n → (m == n) ≡ true
yes_same m n same = by_test (m == n) refl
  where
    by_test : (b : Bool) → (m == n) ≡ b → b ≡ true
    by_test true is = refl
    by_test false is = absurd (eqb-false m n is same)

not_same : (m n : ℕ) → (m ≡ n → ⊥) → (m == n) ≡ false
not_same m n differ = by_test (m == n) refl
  where
    by_test : (b : Bool) → (m == n) ≡ b → b ≡ false
    by_test true is = absurd (differ (eqb-true m n is))
    by_test false is = refl

-- ---- lists of submissions

pub submitted_length : (maps : ℕ → Map) (reported last : ℕ) (subs : List Submission) (requests : List CommitRequest) → AreSubmitted maps reported last subs requests → length subs ≡ length requests
submitted_length maps reported last [] [] are = refl
submitted_length maps reported last [] (request ∷ requests) are = absurd are
submitted_length maps reported last (one ∷ subs) [] are = absurd are
submitted_length maps reported last (one ∷ subs) (request ∷ requests) are = ap suc (submitted_length maps reported (last + 1) subs requests are.1)

pub submitted_later : (maps : ℕ → Map) (reported later last : ℕ) (subs : List Submission) (requests : List CommitRequest) → reported ≤ later → AreSubmitted maps reported last subs requests → AreSubmitted maps later last subs requests
submitted_later maps reported later last [] [] below are = tt
submitted_later maps reported later last [] (request ∷ requests) below are = absurd are
submitted_later maps reported later last (one ∷ subs) [] below are = absurd are
submitted_later maps reported later last (one ∷ subs) (request ∷ requests) below are = (
  record { given = are.0.given; below = are.0.below; open_as = open_later maps reported later one.transaction request below are.0.open_as },
  submitted_later maps reported later (last + 1) subs requests below are.1,
)

pub submitted_elsewhere : (maps maps2 : ℕ → Map) (reported last : ℕ) (subs : List Submission) (requests : List CommitRequest) → ((v : ℕ) → v ≤ reported → maps v ≡ maps2 v) →
    AreSubmitted maps reported last subs requests → AreSubmitted maps2 reported last subs requests
submitted_elsewhere maps maps2 reported last [] [] same are = tt
submitted_elsewhere maps maps2 reported last [] (request ∷ requests) same are = absurd are
submitted_elsewhere maps maps2 reported last (one ∷ subs) [] same are = absurd are
submitted_elsewhere maps maps2 reported last (one ∷ subs) (request ∷ requests) same are = (
  record { given = are.0.given; below = are.0.below; open_as = open_elsewhere maps maps2 reported one.transaction request same are.0.open_as },
  submitted_elsewhere maps maps2 reported (last + 1) subs requests same are.1,
)

submitted_push : (maps : ℕ → Map) (reported last : ℕ) (subs : List Submission) (requests : List CommitRequest) (one : Submission) (request : CommitRequest) →
    AreSubmitted maps reported last subs requests → IsSubmitted maps reported (last + length requests + 1) one request → AreSubmitted maps reported last (subs ++ one ∷ []) (requests ++ request ∷ [])
submitted_push maps reported last [] [] one request are is =
    let n : last + 0 + 1 ≡ last + 1 = omega arith in (subst (λ v. IsSubmitted maps reported v one request) n is, tt)
submitted_push maps reported last [] (other ∷ requests) one request are is = absurd are
submitted_push maps reported last (other ∷ subs) [] one request are is = absurd are
submitted_push maps reported last (other ∷ subs) (first ∷ requests) one request are is =
    let n : last + suc (length requests) + 1 ≡ (last + 1) + length requests + 1 = omega arith in
    (are.0, submitted_push maps reported (last + 1) subs requests one request are.1 (subst (λ v. IsSubmitted maps reported v one request) n is))

-- versions of submissions: they count on from the one after this version
abbrev pub AreVersioned : ℕ → List Submission → Type 0
AreVersioned last [] = Unit {0}
AreVersioned last (one ∷ subs) = (one.version ≡ last + 1) × AreVersioned (last + 1) subs

pub submitted_versions : (maps : ℕ → Map) (reported last : ℕ) (subs : List Submission) (requests : List CommitRequest) → AreSubmitted maps reported last subs requests → AreVersioned last subs
submitted_versions maps reported last [] [] are = tt
submitted_versions maps reported last [] (request ∷ requests) are = absurd are
submitted_versions maps reported last (one ∷ subs) [] are = absurd are
submitted_versions maps reported last (one ∷ subs) (request ∷ requests) are = (are.0.given, submitted_versions maps reported (last + 1) subs requests are.1)

-- ---- one more request

-- the map at each version given so far stays
pub maps_submitted : (base : Map) (p : PipelineState) (request : CommitRequest) (v : ℕ) → v ≤ submitted p → map_over base (history p) v ≡ map_over base (history (submit request p)) v
maps_submitted base p request v below = sym (maps_stay_over base p.splits p.start p.requests request v below)

-- a request that is submitted next
pub submitted_more : (base : Map) (p : PipelineState) (subs : List Submission) (version client : ℕ) (open_now : Open) (request : CommitRequest) →
    AreSubmitted (map_over base (history p)) p.reported p.start subs p.requests → p.reported ≤ submitted p → version ≡ submitted p + 1 → IsOpenTransaction (map_over base (history p)) p.reported open_now request →
    AreSubmitted (map_over base (history (submit request p))) p.reported p.start (subs ++ (record { version = version; client = client; transaction = open_now }) ∷ []) (p.requests ++ request ∷ [])
submitted_more base p subs version client open_now request are below is_next is =
    let stay : (v : ℕ) → v ≤ p.reported → map_over base (history p) v ≡ map_over base (history (submit request p)) v = λ v h. maps_submitted base p request v (omega (arith, h, below)) in
    submitted_push (map_over base (history (submit request p))) p.reported p.start subs p.requests (record { version = version; client = client; transaction = open_now }) request
    (submitted_elsewhere (map_over base (history p)) (map_over base (history (submit request p))) p.reported p.start subs p.requests stay are)
    (record {
      given = is_next;
      below = (let at : request.read_version ≡ open_now.read_version = is.at in let seen : open_now.read_version ≤ p.reported = is.seen in omega (arith, at, seen, below));
      open_as = open_elsewhere (map_over base (history p)) (map_over base (history (submit request p))) p.reported open_now request stay is;
    })

-- an item of a list stays where the list grows at its end
get_more : {X : Type 0} (xs ys : List X) (i : ℕ) → i < length xs → slice_get (xs ++ ys) i ≡ slice_get xs i
get_more [] ys i within = absurd (omega (arith, within))
get_more (x ∷ xs) ys zero within = refl
get_more (x ∷ xs) ys (suc i) within = get_more xs ys i (omega (arith, within))

pub numbered_length : (last : ℕ) (requests : List CommitRequest) → length (numbered last requests) ≡ length requests
numbered_length last [] = refl
numbered_length last (request ∷ requests) = ap suc (numbered_length (last + 1) requests)

-- what is told of a version stays
pub outcome_stays : (p : PipelineState) (request : CommitRequest) (v : ℕ) → p.start < v → v ≤ submitted p → outcome (submit request p) v ≡ outcome p v
outcome_stays p request v above below =
    let place : v - p.start - 1 < length (entries p) = subst (λ n. v - p.start - 1 < n) (sym (numbered_length p.start p.requests)) (omega (arith, above, below)) in
    ap (told_of (submit request p)) (ap (λ es. slice_get es (v - p.start - 1)) (numbered-push p.start p.requests request) ∙ get_more (entries p) _ (v - p.start - 1) place)
    ∙ by_entry (slice_get (entries p) (v - p.start - 1)) refl
  where
    by_entry : (o : Option Entry) → slice_get (entries p) (v - p.start - 1) ≡ o → told_of (submit request p) o ≡ told_of p o
    by_entry None is = refl
    by_entry (Some entry) is =
        let at : entry.version ≡ p.start + (v - p.start - 1) + 1 = version_at p.start p.requests (v - p.start - 1) entry is in
        ap (λ why. told why entry.version) (later_changes_nothing p.splits p.start p.requests request entry (omega (arith, at, above, below)))

-- those listed stay
listed_stay : (p : PipelineState) (request : CommitRequest) (last : ℕ) (subs : List Submission) → p.start ≤ last → last + length subs ≤ submitted p → AreVersioned last subs →
    filter (is_listed (submit request p)) subs ≡ filter (is_listed p) subs
listed_stay p request last [] from upto are = refl
listed_stay p request last (one ∷ subs) from upto are =
    let at : one.version ≡ last + 1 = are.0 in
    let same : is_listed (submit request p) one ≡ is_listed p one = ap (λ o. nat_le one.version p.reported && is_told o) (outcome_stays p request one.version (omega (arith, at, from)) (omega (arith, at, upto))) in
    λ i. cond (same i) (one ∷ listed_stay p request (last + 1) subs (omega (arith, from)) (omega (arith, upto)) are.1 i) (listed_stay p request (last + 1) subs (omega (arith, from)) (omega (arith, upto)) are.1 i)

pub commits_submitted : (p : PipelineState) (request : CommitRequest) (subs : List Submission) (new : Submission) → AreVersioned p.start subs → length subs ≡ length p.requests →
    p.reported ≤ submitted p → new.version ≡ submitted p + 1 → commits_of (submit request p) (subs ++ new ∷ []) ≡ commits_of p subs
commits_submitted p request subs new are same below is_next =
    ap (map commit_entry)
    (filter-append (is_listed (submit request p)) subs (new ∷ [])
    ∙ (λ i. listed_stay p request p.start subs (omega arith) (omega (arith, same)) are i ++ cond (hidden i && is_told (outcome (submit request p) new.version)) (new ∷ []) [])
    ∙ append-nil (filter (is_listed p) subs))
  where
    hidden : nat_le new.version p.reported ≡ false
    hidden = lt-leb new.version p.reported (omega (arith, is_next, below))

-- ---- a report

-- the submission at a place has the version of the place
pub version_here : (last : ℕ) (subs : List Submission) (i : ℕ) (one : Submission) → AreVersioned last subs → slice_get subs i ≡ Some one → one.version ≡ last + i + 1
version_here last [] i one are is = let no : None ≡ Some one = is in absurd (cc)
version_here last (first ∷ subs) zero one are is = let same : first ≡ one = cc in let at : first.version ≡ last + 1 = are.0 in sym (ap (λ (s : Submission). s.version) same) ∙ at ∙ omega arith
version_here last (first ∷ subs) (suc i) one are is = version_here (last + 1) subs i one are.1 is ∙ omega arith

-- none above is listed
none_listed : (told_so : Submission → Bool) (r last : ℕ) (subs : List Submission) → r ≤ last → AreVersioned last subs → filter (λ one. nat_le one.version r && told_so one) subs ≡ []
none_listed told_so r last [] above are = refl
none_listed told_so r last (one ∷ subs) above are =
    let at : one.version ≡ last + 1 = are.0 in
    (λ i. cond (lt-leb one.version r (omega (arith, at, above)) i && told_so one) (one ∷ filter (λ one. nat_le one.version r && told_so one) subs) (filter (λ one. nat_le one.version r && told_so one) subs))
    ∙ none_listed told_so r (last + 1) subs (omega (arith, above)) are.1

-- the submissions up to a version that are told to be committed
abbrev told_upto : (Submission → Bool) → ℕ → List Submission → List Submission
told_upto told_so r subs = filter (λ s. nat_le s.version r && told_so s) subs

-- where one more version is reported, its submission comes behind those listed, if it is told so
one_listed : (told_so : Submission → Bool) (last place : ℕ) (subs : List Submission) (one : Submission) → AreVersioned last subs → slice_get subs place ≡ Some one →
    told_upto told_so (last + place + 1) subs ≡ told_upto told_so (last + place) subs ++ cond (told_so one) (one ∷ []) []
one_listed told_so last place [] one are is = let no : None ≡ Some one = is in absurd (cc)
one_listed told_so last zero (first ∷ subs) one are is =
    let same : first ≡ one = cc in
    let at : first.version ≡ last + 1 = are.0 in
    (λ i. cond (le-leb first.version (last + 0 + 1) (omega (arith, at)) i && told_so first) (first ∷ none_listed told_so (last + 0 + 1) (last + 1) subs (omega arith) are.1 i) (none_listed told_so (last + 0 + 1) (last + 1) subs (omega arith) are.1 i))
    ∙ ap (λ s. cond (told_so s) (s ∷ []) []) same
    ∙ ap (λ ss. ss ++ cond (told_so one) (one ∷ []) []) (sym (none_listed told_so (last + 0) last (first ∷ subs) (omega arith) are))
one_listed told_so last (suc n) (first ∷ subs) one are is = by_test (told_so first) (subst (λ v. told_upto told_so (v + 1) subs ≡ told_upto told_so v subs ++ more) e (one_listed told_so (last + 1) n subs one are.1 is))
    (le-leb first.version (last + suc n + 1) (omega (arith, at))) (le-leb first.version (last + suc n) (omega (arith, at)))
  where
    at : first.version ≡ last + 1
    at = are.0

    e : (last + 1) + n ≡ last + suc n
    e = omega arith

    more : List Submission
    more = cond (told_so one) (one ∷ []) []

    by_test : (b : Bool) → told_upto told_so (last + suc n + 1) subs ≡ told_upto told_so (last + suc n) subs ++ more → nat_le first.version (last + suc n + 1) ≡ true → nat_le first.version (last + suc n) ≡ true →
        cond (nat_le first.version (last + suc n + 1) && b) (first ∷ told_upto told_so (last + suc n + 1) subs) (told_upto told_so (last + suc n + 1) subs)
        ≡ cond (nat_le first.version (last + suc n) && b) (first ∷ told_upto told_so (last + suc n) subs) (told_upto told_so (last + suc n) subs) ++ more
    by_test true rest up_more up = (λ i. cond (up_more i && true) (first ∷ told_upto told_so (last + suc n + 1) subs) (told_upto told_so (last + suc n + 1) subs)) ∙ ap (λ ss. first ∷ ss) rest ∙ (λ i. cond (sym up i && true) (first ∷ told_upto told_so (last + suc n) subs) (told_upto told_so (last + suc n) subs) ++ more)
    by_test false rest up_more up = (λ i. cond (up_more i && false) (first ∷ told_upto told_so (last + suc n + 1) subs) (told_upto told_so (last + suc n + 1) subs)) ∙ rest ∙ (λ i. cond (sym up i && false) (first ∷ told_upto told_so (last + suc n) subs) (told_upto told_so (last + suc n) subs) ++ more)

pub commits_reported : (p : PipelineState) (subs : List Submission) (one : Submission) → AreVersioned p.start subs → p.start ≤ p.reported → slice_get subs (p.reported - p.start) ≡ Some one →
    commits_of (report p) subs ≡ commits_of p subs ++ cond (is_told (outcome p (p.reported + 1))) (commit_entry one ∷ []) []
commits_reported p subs one are from is =
    ap (map commit_entry) (subst (λ r. told_upto told_so (r + 1) subs ≡ told_upto told_so r subs ++ cond (told_so one) (one ∷ []) []) e (one_listed told_so p.start (p.reported - p.start) subs one are is))
    ∙ map-append commit_entry (filter (is_listed p) subs) (cond (told_so one) (one ∷ []) [])
    ∙ ap (λ es. commits_of p subs ++ es) (by_test (told_so one) refl ∙ ap (λ v. cond (is_told (outcome p v)) (commit_entry one ∷ []) []) at)
  where
    told_so : Submission → Bool
    told_so s = is_told (outcome p s.version)

    e : p.start + (p.reported - p.start) ≡ p.reported
    e = omega (arith, from)

    at : one.version ≡ p.reported + 1
    at = version_here p.start subs (p.reported - p.start) one are is ∙ ap (λ n. n + 1) e

    by_test : (b : Bool) → told_so one ≡ b → map commit_entry (cond (told_so one) (one ∷ []) []) ≡ cond (told_so one) (commit_entry one ∷ []) []
    by_test true t = ap (λ c. map commit_entry (cond c (one ∷ []) [])) t ∙ ap (λ c. cond c (commit_entry one ∷ []) []) (sym t)
    by_test false t = ap (λ c. map commit_entry (cond c (one ∷ []) [])) t ∙ ap (λ c. cond c (commit_entry one ∷ []) []) (sym t)

-- the submission that has a version, and whose it is
pub found_here : (last : ℕ) (subs : List Submission) (i : ℕ) (one : Submission) → AreVersioned last subs → slice_get subs i ≡ Some one → find (λ (s : Submission). s.version == last + i + 1) subs ≡ Some one
found_here last [] i one are is = let no : None ≡ Some one = is in absurd (cc)
found_here last (first ∷ subs) zero one are is =
    let same : first ≡ one = cc in
    let at : first.version ≡ last + 0 + 1 = are.0 ∙ omega arith in
    ap (λ b. cond {A = Option Submission} b (Some first) (find (λ (s : Submission). s.version == last + 0 + 1) subs)) (yes_same first.version (last + 0 + 1) at) ∙ ap Some same
found_here last (first ∷ subs) (suc i) one are is =
    let at : first.version ≡ last + 1 = are.0 in
    ap (λ b. cond {A = Option Submission} b (Some first) (find (λ (s : Submission). s.version == last + suc i + 1) subs)) (not_same first.version (last + suc i + 1) (λ same. omega (arith, at, same)))
    ∙ subst (λ v. find (λ (s : Submission). s.version == v) subs ≡ Some one) e (found_here (last + 1) subs i one are.1 is)
  where
    e : (last + 1) + i + 1 ≡ last + suc i + 1
    e = omega arith

pub client_here : (last : ℕ) (subs : List Submission) (i : ℕ) (one : Submission) → AreVersioned last subs → slice_get subs i ≡ Some one → client_of subs (last + i + 1) ≡ one.client
client_here last subs i one are is = ap (λ o. option_map_or (λ (s : Submission). s.client) o 0) (found_here last subs i one are is)

pub store_here : (last : ℕ) (subs : List Submission) (i : ℕ) (one : Submission) → AreVersioned last subs → slice_get subs i ≡ Some one → store_of subs (last + i + 1) ≡ one.transaction.store
store_here last subs i one are is = ap (λ o. option_map_or (λ (s : Submission). s.transaction.store) o 0) (found_here last subs i one are is)
