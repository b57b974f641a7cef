-- One submission more in a well-formed log.
use Rattle.std.proofs.Common.{◌≡◌, ◌≢◌, ℕ, zero, suc, replicate, ◌+◌, ◌<◌, ◌≤◌, ◌^◌, ◌==◌, Bool, true, false, not, ◌&&◌, ◌||◌, nat_le, List, [], ◌∷◌, ◌++◌, length, map, refl, sym, ap, ◌∙◌, subst, arith}
use Rattle.std.specs.Prelude.{slice_index, slice_set}
use Rattle.std.specs.List.{list_any}
use Rattle.std.proofs.Common.{get_or-set_other, get_or-set_same}
use Rattle.std.proofs.lemmas.Bool.Decides.{nat_tests}
use Rattle.std.proofs.lemmas.List.Folds.{list_any-append}
use mathlib.Core.List.{IsPrefix}
use Rattle.runtime.specs.Origins.{MayBegin, Origin, base_of}
use Rattle.cluster_core.specs.Configuration.{first_pipeline}
use Rattle.cluster_core.specs.Decision.{committed, numbered, owners}
use Rattle.cluster_core.specs.History.{map_over}
use Rattle.cluster_core.specs.Roles.{PipelineState, all_handled, submit, submitted}
use Rattle.kv_core.specs.Map.{Map}
use Rattle.kv_core.specs.declared.change.CommitRequest.{CommitRequest}
use Rattle.schedule.specs.Past.{Submission}
use Rattle.record_store.specs.Layout.{is_store_number}
use Rattle.schedule.specs.Turns.{AreSubmitted, IsOpenTransaction, fresh_request}
use Rattle.schedule.proofs.Turning.{open_elsewhere, open_fresh, open_later}
use Rattle.schedule.proofs.Submitting.{submitted_more, submitted_later}
use Rattle.runtime.specs.declared.log_entry.Entry.{Entry}
use Rattle.runtime.specs.declared.performed.Performed.{Performed}
use Rattle.runtime.specs.Traces.{Trace}
use Rattle.runtime.specs.Logs.{requests_of, version_of, log_map, pipeline_of, submissions_from}
use Rattle.runtime.specs.Logs.{submissions_of, IsOpenOver, is_same_submission, is_once, IsWellFormedLog, count_of, is_numbered}
use Rattle.runtime.specs.Traces.{attempts_of, opened}
use Rattle.runtime.proofs.Entries.{requests_append, map_begins, version_begins, version_next}
use Rattle.runtime.proofs.Submissions.{in_turn_more}

pub lawful_first : (origin : Origin) → MayBegin origin → origin.config.start < 2 ^ 64 → IsWellFormedLog origin []
lawful_first origin begun below = record { submitted = tt; once = refl; in_turn = refl; versions = omega (arith, below); begun = begun }

-- ---- numbers of submissions

pub both_true : (a b : Bool) → a ≡ true → b ≡ true → (a && b) ≡ true
both_true a b p q = rw p q

pub left_true : (a b : Bool) → (a && b) ≡ true → a ≡ true
left_true true b p = refl
left_true false b p = p

pub right_true : (a b : Bool) → (a && b) ≡ true → b ≡ true
right_true true b p = p
right_true false b p = absurd (cc)

or_false : (a b : Bool) → a ≡ false → b ≡ false → (a || b) ≡ false
or_false a b p q = rw p q

not_true : (b : Bool) → not b ≡ true → b ≡ false
not_true true p = sym p
not_true false p = refl

same_false : (c n d m k : ℕ) → (b : Bool) → (c == d) ≡ b → (c ≡ d → n ≤ k) → k < m → (b && (n == m)) ≡ false
same_false c n d m k true e le lt = let h : c ≡ d = grind (arith, nat_tests) in let l : n ≤ k = le h in grind (arith, nat_tests)
same_false c n d m k false e le lt = refl

not_same : (last : List ℕ) (x e : Entry) → nat_le x.number (slice_index last x.client) ≡ true → slice_index last e.client < e.number → is_same_submission x e ≡ false
not_same last x e n lt =
    let le : x.number ≤ slice_index last x.client = grind (arith, nat_tests) in
    same_false x.client x.number e.client e.number (slice_index last e.client) (x.client == e.client) refl (λ h. subst (λ (c : ℕ). x.number ≤ slice_index last c) h le) lt

pub once_more : (last : List ℕ) (log : List Entry) (e : Entry) → is_numbered last log ≡ true → slice_index last e.client < e.number → is_once log ≡ true → is_once (log ++ e ∷ []) ≡ true
once_more last [] e n lt o = refl
once_more last (x ∷ xs) e n lt o =
    let others : list_any (is_same_submission x) xs ≡ false = not_true _ (left_true _ _ o) in
    let none : list_any (is_same_submission x) (xs ++ e ∷ []) ≡ false = list_any-append (is_same_submission x) xs (e ∷ []) ∙ or_false _ _ others (or_false _ _ (not_same last x e (left_true _ _ n) lt) refl) in
    both_true _ _ (ap not none) (once_more last xs e (right_true _ _ n) lt (right_true _ _ o))

still : (last : List ℕ) (c n : ℕ) (x : Entry) → c < length last → slice_index last c < n → nat_le x.number (slice_index last x.client) ≡ true → (b : Bool) → (x.client == c) ≡ b → nat_le x.number (slice_index (slice_set last c n) x.client) ≡ true
still last c n x inside lt le true is =
    let same : x.client ≡ c = grind (arith, nat_tests) in
    let old : x.number ≤ slice_index last c = subst (λ (d : ℕ). x.number ≤ slice_index last d) same (grind (arith, nat_tests)) in
    let new : slice_index (slice_set last c n) c ≡ n = get_or-set_same last c n 0 inside in
    subst (λ (d : ℕ). nat_le x.number (slice_index (slice_set last c n) d) ≡ true) (sym same) (rw new (grind (arith, nat_tests)))
still last c n x inside lt le false is =
    let other : x.client ≢ c = grind (arith, nat_tests) in
    rw (get_or-set_other last c x.client n 0 other) le

pub numbered_more : (last : List ℕ) (c n : ℕ) (log : List Entry) (e : Entry) → c < length last → slice_index last c < n → e.client ≡ c → e.number ≡ n → is_numbered last log ≡ true → is_numbered (slice_set last c n) (log ++ e ∷ []) ≡ true
numbered_more last c n [] e inside lt is_c is_n num =
    let new : slice_index (slice_set last c n) c ≡ n = get_or-set_same last c n 0 inside in
    let here : slice_index (slice_set last c n) e.client ≡ n = ap (slice_index (slice_set last c n)) is_c ∙ new in
    let le : e.number ≤ slice_index (slice_set last c n) e.client = omega (arith, here, is_n) in
    both_true _ _ (grind (arith, nat_tests)) refl
numbered_more last c n (x ∷ xs) e inside lt is_c is_n num = both_true _ _ (still last c n x inside lt (left_true _ _ num) (x.client == c) refl) (numbered_more last c n xs e inside lt is_c is_n (right_true _ _ num))

-- ---- the pipeline after one more request

handled_again : (xs : List ℕ) (m n : ℕ) → map (λ (_ : ℕ). n) (map (λ (_ : ℕ). m) xs) ≡ map (λ (_ : ℕ). n) xs
handled_again [] m n = refl
handled_again (x ∷ xs) m n = ap (λ ys. n ∷ ys) (handled_again xs m n)

all_again : (p : PipelineState) (request : CommitRequest) → all_handled (submit request (all_handled p)) ≡ all_handled (submit request p)
all_again p request =
    let last : ℕ = submitted (submit request p) in
    λ i. record {
      splits = p.splits;
      window = p.window;
      start = p.start;
      requests = p.requests ++ request ∷ [];
      resolved = handled_again p.resolved (submitted p) last i;
      logged = handled_again p.logged (submitted p) last i;
      reported = last;
      forgotten = p.forgotten;
    }

pub pipeline_next : (origin : Origin) (log : List Entry) (e : Entry) → all_handled (submit e.request (pipeline_of origin log)) ≡ pipeline_of origin (log ++ e ∷ [])
pipeline_next origin log e =
    all_again (record (first_pipeline origin.config) { requests = requests_of log }) e.request
    ∙ ap (λ (qs : List CommitRequest). all_handled (record (first_pipeline origin.config) { requests = qs })) (sym (requests_append log (e ∷ [])))

-- ---- one entry more

submissions_more : (last : ℕ) (log : List Entry) (e : Entry) →
    submissions_from last (log ++ e ∷ []) ≡ submissions_from last log ++ (record { version = last + length (requests_of log) + 1; client = e.client; transaction = opened e.request e.trace }) ∷ []
submissions_more last [] e = let n : last + 1 ≡ last + 0 + 1 = omega arith in ap (λ v. (record { version = v; client = e.client; transaction = opened e.request e.trace }) ∷ []) n
submissions_more last (x ∷ xs) e =
    let n : (last + 1) + length (requests_of xs) + 1 ≡ last + suc (length (requests_of xs)) + 1 = omega arith in
    ap (λ ss. (record { version = last + 1; client = x.client; transaction = opened x.request x.trace }) ∷ ss)
    (submissions_more (last + 1) xs e ∙ ap (λ v. submissions_from (last + 1) xs ++ (record { version = v; client = e.client; transaction = opened e.request e.trace }) ∷ []) n)

-- what was performed over a beginning was performed over the log
pub open_begins : (origin : Origin) (log ys : List Entry) (e : Entry) → IsPrefix log ys → IsOpenOver origin log e.request e.trace → IsOpenOver origin ys e.request e.trace
open_begins origin log ys e p is =
    open_later (log_map origin ys) (version_of origin log) (version_of origin ys) (opened e.request e.trace) e.request (version_begins origin log ys p)
    (open_elsewhere (log_map origin log) (log_map origin ys) (version_of origin log) (opened e.request e.trace) e.request (λ v h. sym (map_begins origin log ys v p h)) is)

abbrev next_of : Origin → List Entry → Entry → Submission
next_of origin log e = record { version = version_of origin log + 1; client = e.client; transaction = opened e.request e.trace }

submitted_next : (origin : Origin) (log : List Entry) (e : Entry) → IsWellFormedLog origin log → IsOpenOver origin log e.request e.trace →
    AreSubmitted (log_map origin (log ++ e ∷ [])) (version_of origin (log ++ e ∷ [])) origin.config.start (submissions_of origin (log ++ e ∷ [])) (requests_of (log ++ e ∷ []))
submitted_next origin log e law is =
    let next : ℕ = version_of origin (log ++ e ∷ []) in
    let below : version_of origin log ≤ next = omega (arith, version_next origin log e) in
    let maps : List CommitRequest → ℕ → Map = λ qs v. map_over (base_of origin) (committed origin.config.resolver_splits (numbered origin.config.start qs)) v in
    let subs : List Submission = submissions_of origin log ++ next_of origin log e ∷ [] in
    let base : AreSubmitted (maps (requests_of log ++ e.request ∷ [])) (version_of origin log) origin.config.start subs (requests_of log ++ e.request ∷ []) =
    submitted_more (base_of origin) (pipeline_of origin log) (submissions_of origin log) (version_of origin log + 1) e.client (opened e.request e.trace) e.request law.submitted (omega arith) refl is in
    let later : AreSubmitted (maps (requests_of log ++ e.request ∷ [])) next origin.config.start subs (requests_of log ++ e.request ∷ []) =
    submitted_later (maps (requests_of log ++ e.request ∷ [])) (version_of origin log) next origin.config.start subs (requests_of log ++ e.request ∷ []) below base in
    subst (λ (ss : List Submission). AreSubmitted (log_map origin (log ++ e ∷ [])) next origin.config.start ss (requests_of (log ++ e ∷ []))) (sym (submissions_more origin.config.start log e))
    (subst (λ (qs : List CommitRequest). AreSubmitted (maps qs) next origin.config.start subs qs) (sym (requests_append log (e ∷ []))) later)

pub lawful_next : (origin : Origin) (last : List ℕ) (log : List Entry) (e : Entry) → IsWellFormedLog origin log → IsOpenOver origin log e.request e.trace →
    is_numbered last log ≡ true → slice_index last e.client < e.number → e.number ≡ count_of e.client log + 1 → version_of origin log + 1 < 2 ^ 64 → IsWellFormedLog origin (log ++ e ∷ [])
lawful_next origin last log e law is num above next room = record {
  submitted = submitted_next origin log e law is;
  once = once_more last log e num above law.once;
  in_turn = in_turn_more [] log e law.in_turn next;
  versions = omega (arith, room, version_next origin log e);
  begun = law.begun;
}

-- a number is given that isn't used
pub numbered_raised : (last : List ℕ) (c n : ℕ) (log : List Entry) → c < length last → slice_index last c < n → is_numbered last log ≡ true → is_numbered (slice_set last c n) log ≡ true
numbered_raised last c n [] inside lt num = refl
numbered_raised last c n (x ∷ xs) inside lt num = both_true _ _ (still last c n x inside lt (left_true _ _ num) (x.client == c) refl) (numbered_raised last c n xs inside lt (right_true _ _ num))

-- ---- the pipeline at the start

handled_first : (start n : ℕ) → map (λ (_ : ℕ). start + 0) (replicate n start) ≡ replicate n start
handled_first start zero = refl
handled_first start (suc n) = let same : start + 0 ≡ start = omega arith in λ i. same i ∷ handled_first start n i

resolved_first : {X : Type 0} (start : ℕ) (xs : List X) → map (λ (_ : ℕ). start + 0) (map (λ (_ : X). start) xs) ≡ map (λ (_ : X). start) xs
resolved_first start [] = refl
resolved_first start (x ∷ xs) = let same : start + 0 ≡ start = omega arith in λ i. same i ∷ resolved_first start xs i

pub pipeline_first : (origin : Origin) → pipeline_of origin [] ≡ first_pipeline origin.config
pipeline_first origin =
    let same : origin.config.start + 0 ≡ origin.config.start = omega arith in
    λ i. record {
      splits = origin.config.resolver_splits;
      window = origin.config.window;
      start = origin.config.start;
      requests = [];
      resolved = resolved_first origin.config.start (owners origin.config.resolver_splits) i;
      logged = handled_first origin.config.start origin.config.logs i;
      reported = same i;
      forgotten = 0;
    }

-- a transaction that has done nothing yet
pub open_first : (origin : Origin) (log : List Entry) (trace : Trace) → is_store_number trace.store ≡ true → trace.attempts.list ≡ [] → IsOpenOver origin log (fresh_request (version_of origin log)) trace
open_first origin log trace lawful none =
    subst (λ (done : List Performed). IsOpenTransaction (log_map origin log) (version_of origin log) (record { store = trace.store; read_version = version_of origin log; attempts = attempts_of done }) (fresh_request (version_of origin log))) (sym none)
    (open_fresh (log_map origin log) (version_of origin log) trace.store (version_of origin log) lawful (omega arith))
