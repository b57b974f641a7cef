-- What is kept of a log tells what became of a client's last submissions.
use Rattle.std.proofs.Common.{◌≡◌, ◌≢◌, ℕ, ◌+◌, ◌-◌, ◌*◌, ◌<◌, ◌≤◌, ◌==◌, Bool, true, false, ◌&&◌, ◌||◌, cond, is_none, nat_lt, nat_le, List, [], ◌∷◌, ◌++◌, length, refl, sym, ap, ◌∙◌, subst, arith, append-nil, append_assoc, get_or-set_other, get_or-set_same, length-set}
use Rattle.std.specs.Prelude.{slice_index, slice_set}
use Rattle.std.proofs.lemmas.Bool.Decides.{nat_tests}
use Rattle.std.proofs.lemmas.List.{length-replicate, get_or-replicate}
use Rattle.std.proofs.lemmas.List.Folds.{list_any-append}
use Rattle.std.proofs.lemmas.List.Sums.{sum_by-append}
use Rattle.kv_core.specs.declared.change.CommitRequest.{CommitRequest}
use Rattle.runtime.specs.Origins.{Origin}
use Rattle.runtime.specs.declared.log_entry.Entry.{Entry}
use Rattle.runtime.specs.declared.recent_outcomes.TheConstants.{KEPT_OUTCOMES}
use Rattle.runtime.specs.declared.submission_status.SubmissionStatus.{SubmissionStatus}
use Rattle.runtime.specs.declared.submission_status.SubmissionStatus.TheVariants.{Committed, Refused, Pending, Forgotten}
use Rattle.runtime.specs.Logs.{are_in_turn, cause_next, count_of, has_submission, version_of}
use Rattle.runtime.specs.Submissions.{Recent, nothing_kept, outcome_in, read_status, recent_after, outcomes_of, recent_outcome}
use Rattle.runtime.specs.Submissions.{slot_of, status_after, status_by, status_next, version_next, with_outcome}

abbrev pub is_numbered_so : ℕ → ℕ → Entry → Bool
is_numbered_so client number e = (e.client == client) && (e.number == number)

left_true : (a b : Bool) → (a && b) ≡ true → a ≡ true
left_true true b p = refl
left_true false b p = p

right_true : (a b : Bool) → (a && b) ≡ true → b ≡ true
right_true true b p = p
right_true false b p = absurd (cc)

-- ---- one entry more

after_one : (b more : Bool) (next rest mine tail : SubmissionStatus) → rest ≡ cond more mine tail → cond b next rest ≡ cond (b || more) (cond b next mine) tail
after_one true more next rest mine tail is = refl
after_one false more next rest mine tail is = is

-- with more entries: by the first ones where they have it, and else by the others
pub status_append : (origin : Origin) (log es more : List Entry) (client number : ℕ) →
    status_after origin log (es ++ more) client number ≡ cond (has_submission client number es) (status_after origin log es client number) (status_after origin (log ++ es) more client number)
status_append origin log [] more client number = ap (λ l. status_after origin l more client number) (sym (append-nil log))
status_append origin log (x ∷ xs) more client number =
    let own : SubmissionStatus = status_after origin (log ++ x ∷ []) xs client number in
    after_one (is_numbered_so client number x) (has_submission client number xs) (status_next origin log x.request) (status_after origin (log ++ x ∷ []) (xs ++ more) client number) own (status_after origin (log ++ x ∷ xs) more client number)
    (status_append origin (log ++ x ∷ []) xs more client number ∙ ap (λ l. cond (has_submission client number xs) own (status_after origin l more client number)) (append_assoc log (x ∷ []) xs))

status_snoc : (origin : Origin) (log es : List Entry) (e : Entry) (client number : ℕ) →
    status_after origin log (es ++ e ∷ []) client number ≡ cond (has_submission client number es) (status_after origin log es client number) (status_after origin (log ++ es) (e ∷ []) client number)
status_snoc origin log es e client number = status_append origin log es (e ∷ []) client number

-- of an entry by those before it, which don't have its number
pub outcome_of_entry : (origin : Origin) (before more : List Entry) (e : Entry) → has_submission e.client e.number before ≡ false → outcome_in origin (before ++ e ∷ more) e.client e.number ≡ status_next origin before e.request
outcome_of_entry origin before more e none =
    let c : (e.client == e.client) ≡ true = grind (arith, nat_tests) in
    let m : (e.number == e.number) ≡ true = grind (arith, nat_tests) in
    status_append origin [] before (e ∷ more) e.client e.number
    ∙ ap (λ b. cond b (outcome_in origin before e.client e.number) (status_after origin before (e ∷ more) e.client e.number)) none
    ∙ (λ i. cond (c i && m i) (status_next origin before e.request) (status_after origin (before ++ e ∷ []) more e.client e.number))

count_snoc : (client : ℕ) (log : List Entry) (e : Entry) → count_of client (log ++ e ∷ []) ≡ count_of client log + cond (e.client == client) 1 0
count_snoc client log e =
    sum_by-append (λ (x : Entry). cond (x.client == client) 1 0) log (e ∷ [])
    ∙ (let z : 0 + cond (e.client == client) 1 0 ≡ cond (e.client == client) 1 0 = omega arith in ap (λ n. count_of client log + n) z)

has_snoc : (client number : ℕ) (log : List Entry) (e : Entry) → has_submission client number (log ++ e ∷ []) ≡ (has_submission client number log || (is_numbered_so client number e || false))
has_snoc client number log e = list_any-append (is_numbered_so client number) log (e ∷ [])

recent_snoc : (origin : Origin) (log es : List Entry) (e : Entry) (kept : Recent) → recent_after origin log (es ++ e ∷ []) kept ≡ with_outcome (recent_after origin log es kept) e.client (version_next origin (log ++ es) e.request)
recent_snoc origin log [] e kept = ap (λ l. with_outcome kept e.client (version_next origin l e.request)) (sym (append-nil log))
recent_snoc origin log (x ∷ xs) e kept =
    let more : Recent = with_outcome kept x.client (version_next origin log x.request) in
    recent_snoc origin (log ++ x ∷ []) xs e more
    ∙ ap (λ l. with_outcome (recent_after origin (log ++ x ∷ []) xs more) e.client (version_next origin l e.request)) (append_assoc log (x ∷ []) xs)

-- what is kept of one entry more
pub recent_next : (origin : Origin) (log : List Entry) (e : Entry) → with_outcome (outcomes_of origin log) e.client (version_next origin log e.request) ≡ outcomes_of origin (log ++ e ∷ [])
recent_next origin log e = sym (recent_snoc origin [] log e (nothing_kept origin.config.places))

-- ---- the numbers of a client's submissions are those up to their count

pub record IsCounted (client : ℕ) (log : List Entry) : Type 0 where
  pub stands : (n : ℕ) → 0 < n → n ≤ count_of client log → has_submission client n log ≡ true
  pub above : (n : ℕ) → count_of client log < n → has_submission client n log ≡ false

or_at : (a b : Bool) → a ≡ true → (a || b) ≡ true
or_at a b is = rw is refl

or_none : (a b : Bool) → a ≡ false → b ≡ false → (a || b) ≡ false
or_none a b p q = rw (p, q) refl

counted_own : (client n : ℕ) (log : List Entry) (e : Entry) → e.client ≡ client → e.number ≡ n → has_submission client n (log ++ e ∷ []) ≡ true
counted_own client n log e is_client is_number =
    let c : (e.client == client) ≡ true = grind (arith, nat_tests) in
    let m : (e.number == n) ≡ true = grind (arith, nat_tests) in
    has_snoc client n log e ∙ rw (c, m) (or_true (has_submission client n log))
  where
    or_true : (a : Bool) → (a || true) ≡ true
    or_true true = refl
    or_true false = refl

counted_old : (client n : ℕ) (log : List Entry) (e : Entry) → has_submission client n log ≡ true → has_submission client n (log ++ e ∷ []) ≡ true
counted_old client n log e is = has_snoc client n log e ∙ or_at (has_submission client n log) (is_numbered_so client n e || false) is

counted_not : (client n : ℕ) (log : List Entry) (e : Entry) → has_submission client n log ≡ false → is_numbered_so client n e ≡ false → has_submission client n (log ++ e ∷ []) ≡ false
counted_not client n log e none other = has_snoc client n log e ∙ or_none (has_submission client n log) (is_numbered_so client n e || false) none (or_none (is_numbered_so client n e) false other refl)

pub count_same : (client : ℕ) (log : List Entry) (e : Entry) → (e.client == client) ≡ true → count_of client (log ++ e ∷ []) ≡ count_of client log + 1
count_same client log e is = count_snoc client log e ∙ ap (λ b. count_of client log + cond b 1 0) is

pub count_other : (client : ℕ) (log : List Entry) (e : Entry) → (e.client == client) ≡ false → count_of client (log ++ e ∷ []) ≡ count_of client log
count_other client log e is = count_snoc client log e ∙ ap (λ b. count_of client log + cond b 1 0) is ∙ (let z : count_of client log + 0 ≡ count_of client log = omega arith in z)

not_numbered : (client n : ℕ) (e : Entry) → (e.client == client) ≡ false → is_numbered_so client n e ≡ false
not_numbered client n e is = ap (λ b. b && (e.number == n)) is

counted_more : (client : ℕ) (log : List Entry) (e : Entry) → IsCounted client log → e.number ≡ count_of e.client log + 1 → (b : Bool) → (e.client == client) ≡ b → IsCounted client (log ++ e ∷ [])
counted_more client log e counted next true is =
    let same : e.client ≡ client = grind (arith, nat_tests) in
    let count : count_of client (log ++ e ∷ []) ≡ count_of client log + 1 = count_same client log e is in
    let own : e.number ≡ count_of client log + 1 = next ∙ ap (λ c. count_of c log + 1) same in
    record {
      stands = λ n low high. at n (n == count_of client log + 1) refl same own count low high;
      above = λ n high.
          let over : count_of client log < n = omega (arith, high, count) in
          let no : (e.number == n) ≡ false = apart e.number n (omega (arith, own, high, count)) in
          counted_not client n log e (counted.above n over) (ap (λ b. (e.client == client) && b) no ∙ and_false (e.client == client));
    }
  where
    and_false : (a : Bool) → (a && false) ≡ false
    and_false true = refl
    and_false false = refl

    apart : (m n : ℕ) → m < n → (m == n) ≡ false
    apart m n lt = grind (arith, nat_tests)

    at : (n : ℕ) (b : Bool) → (n == count_of client log + 1) ≡ b → e.client ≡ client → e.number ≡ count_of client log + 1 → count_of client (log ++ e ∷ []) ≡ count_of client log + 1 → 0 < n → n ≤ count_of client (log ++ e ∷ []) → has_submission client n (log ++ e ∷ []) ≡ true
    at n true eq same own count low high =
        let m : n ≡ count_of client log + 1 = grind (arith, nat_tests) in
        counted_own client n log e same (own ∙ sym m)
    at n false neq same own count low high =
        let other : n ≢ count_of client log + 1 = grind (arith, nat_tests) in
        counted_old client n log e (counted.stands n low (omega (arith, other, high, count)))
counted_more client log e counted next false is =
    let count : count_of client (log ++ e ∷ []) ≡ count_of client log = count_other client log e is in
    record {
      stands = λ n low high. counted_old client n log e (counted.stands n low (omega (arith, high, count)));
      above = λ n high. counted_not client n log e (counted.above n (omega (arith, high, count))) (not_numbered client n e is);
    }

-- ---- the slots

slot_apart : (c d m n : ℕ) → c ≢ d → slot_of c m ≢ slot_of d n
slot_apart c d m n other same = omega (arith, other, same)

slot_later : (c m n : ℕ) → m < n → n < m + KEPT_OUTCOMES → slot_of c m ≢ slot_of c n
slot_later c m n lt near same = omega (arith, lt, near, same)

slot_inside : (c m places : ℕ) → c < places → slot_of c m < places * KEPT_OUTCOMES
slot_inside c m places lt = omega (arith, lt)

pub record IsKept (origin : Origin) (client : ℕ) (log : List Entry) (kept : Recent) : Type 0 where
  pub count : slice_index kept.counts client ≡ count_of client log
  pub counts : length kept.counts ≡ origin.config.places
  pub size : length kept.versions ≡ origin.config.places * KEPT_OUTCOMES
  pub tells : (n : ℕ) → 0 < n → n ≤ count_of client log → count_of client log < n + KEPT_OUTCOMES →
      status_by (slice_index kept.versions (slot_of client (n - 1))) ≡ outcome_in origin log client n

told_next : (origin : Origin) (log : List Entry) (request : CommitRequest) → status_by (version_next origin log request) ≡ status_next origin log request
told_next origin log request = by (is_none (cause_next origin log request))
  where
    some : (n : ℕ) → (n + 1 == 0) ≡ false
    some n = grind (arith, nat_tests)

    by : (b : Bool) → status_by (cond b (version_of origin log + 1) 0) ≡ cond b (Committed (version_of origin log + 1)) Refused
    by true = ap (λ t. cond t Refused (Committed (version_of origin log + 1))) (some (version_of origin log))
    by false = refl

outcome_old : (origin : Origin) (log : List Entry) (e : Entry) (client n : ℕ) → has_submission client n log ≡ true → outcome_in origin (log ++ e ∷ []) client n ≡ outcome_in origin log client n
outcome_old origin log e client n is = status_snoc origin [] log e client n ∙ ap (λ b. cond b (outcome_in origin log client n) (status_after origin log (e ∷ []) client n)) is

outcome_own : (origin : Origin) (log : List Entry) (e : Entry) (client n : ℕ) → has_submission client n log ≡ false → e.client ≡ client → e.number ≡ n → outcome_in origin (log ++ e ∷ []) client n ≡ status_next origin log e.request
outcome_own origin log e client n none is_client is_number =
    let c : (e.client == client) ≡ true = grind (arith, nat_tests) in
    let m : (e.number == n) ≡ true = grind (arith, nat_tests) in
    status_snoc origin [] log e client n
    ∙ ap (λ b. cond b (outcome_in origin log client n) (status_after origin log (e ∷ []) client n)) none
    ∙ (λ i. cond (c i && m i) (status_next origin log e.request) Pending)

-- one entry more of another client leaves what is kept of this one
kept_other : (origin : Origin) (client : ℕ) (log : List Entry) (kept : Recent) (e : Entry) → IsKept origin client log kept → IsCounted client log → (e.client == client) ≡ false → IsKept origin client (log ++ e ∷ []) (with_outcome kept e.client (version_next origin log e.request))
kept_other origin client log kept e is counted other =
    let apart : client ≢ e.client = grind (arith, nat_tests) in
    let before : ℕ = slice_index kept.counts e.client in
    let version : ℕ = version_next origin log e.request in
    let count : count_of client (log ++ e ∷ []) ≡ count_of client log = count_other client log e other in
    record {
      count = get_or-set_other kept.counts e.client client (before + 1) 0 apart ∙ is.count ∙ sym count;
      counts = length-set kept.counts e.client (before + 1) ∙ is.counts;
      size = length-set kept.versions (slot_of e.client before) version ∙ is.size;
      tells = λ n low high near.
          let le : n ≤ count_of client log = omega (arith, high, count) in
          ap status_by (get_or-set_other kept.versions (slot_of e.client before) (slot_of client (n - 1)) version 0 (slot_apart client e.client (n - 1) before apart))
          ∙ is.tells n low le (omega (arith, near, count))
          ∙ sym (outcome_old origin log e client n (counted.stands n low le));
    }

kept_own : (origin : Origin) (client : ℕ) (log : List Entry) (kept : Recent) (e : Entry) → client < origin.config.places → IsKept origin client log kept → IsCounted client log → e.number ≡ count_of e.client log + 1 → e.client ≡ client → IsKept origin client (log ++ e ∷ []) (with_outcome kept client (version_next origin log e.request))
kept_own origin client log kept e inside is counted next same =
    let before : ℕ = slice_index kept.counts client in
    let version : ℕ = version_next origin log e.request in
    let test : (e.client == client) ≡ true = grind (arith, nat_tests) in
    let count : count_of client (log ++ e ∷ []) ≡ count_of client log + 1 = count_same client log e test in
    let counts : length kept.counts ≡ origin.config.places = is.counts in
    let was : before ≡ count_of client log = is.count in
    record {
      count = get_or-set_same kept.counts client (before + 1) 0 (omega (arith, inside, counts)) ∙ ap (λ n. n + 1) was ∙ sym count;
      counts = length-set kept.counts client (before + 1) ∙ counts;
      size = length-set kept.versions (slot_of client before) version ∙ is.size;
      tells = λ n low high near. at n (n == count_of client log + 1) refl was count low high near;
    }
  where
    at : (n : ℕ) (b : Bool) → (n == count_of client log + 1) ≡ b → slice_index kept.counts client ≡ count_of client log → count_of client (log ++ e ∷ []) ≡ count_of client log + 1 → 0 < n → n ≤ count_of client (log ++ e ∷ []) → count_of client (log ++ e ∷ []) < n + KEPT_OUTCOMES →
        status_by (slice_index (slice_set kept.versions (slot_of client (slice_index kept.counts client)) (version_next origin log e.request)) (slot_of client (n - 1))) ≡ outcome_in origin (log ++ e ∷ []) client n
    at n true eq was count low high near =
        let m : n ≡ count_of client log + 1 = grind (arith, nat_tests) in
        let place : n - 1 ≡ slice_index kept.counts client = omega (arith, m, was) in
        let size : length kept.versions ≡ origin.config.places * KEPT_OUTCOMES = is.size in
        let room : slot_of client (slice_index kept.counts client) < length kept.versions = subst (λ (l : ℕ). slot_of client (slice_index kept.counts client) < l) (sym size) (slot_inside client (slice_index kept.counts client) origin.config.places inside) in
        ap (λ k. status_by (slice_index (slice_set kept.versions (slot_of client (slice_index kept.counts client)) (version_next origin log e.request)) (slot_of client k))) place
        ∙ ap status_by (get_or-set_same kept.versions (slot_of client (slice_index kept.counts client)) (version_next origin log e.request) 0 room)
        ∙ told_next origin log e.request
        ∙ sym (outcome_own origin log e client n (counted.above n (omega (arith, m))) same (next ∙ ap (λ c. count_of c log + 1) same ∙ sym m))
    at n false neq was count low high near =
        let other : n ≢ count_of client log + 1 = grind (arith, nat_tests) in
        let le : n ≤ count_of client log = omega (arith, other, high, count) in
        ap status_by (get_or-set_other kept.versions (slot_of client (slice_index kept.counts client)) (slot_of client (n - 1)) (version_next origin log e.request) 0 (slot_later client (n - 1) (slice_index kept.counts client) (omega (arith, le, low, was)) (omega (arith, near, count, low, was))))
        ∙ is.tells n low le (omega (arith, near, count))
        ∙ sym (outcome_old origin log e client n (counted.stands n low le))

kept_more : (origin : Origin) (client : ℕ) (log : List Entry) (kept : Recent) (e : Entry) → client < origin.config.places → IsKept origin client log kept → IsCounted client log → e.number ≡ count_of e.client log + 1 → (b : Bool) → (e.client == client) ≡ b → IsKept origin client (log ++ e ∷ []) (with_outcome kept e.client (version_next origin log e.request))
kept_more origin client log kept e inside is counted next true test =
    let same : e.client ≡ client = grind (arith, nat_tests) in
    subst (λ (c : ℕ). IsKept origin client (log ++ e ∷ []) (with_outcome kept c (version_next origin log e.request))) (sym same) (kept_own origin client log kept e inside is counted next same)
kept_more origin client log kept e inside is counted next false test = kept_other origin client log kept e is counted test

-- ---- the whole log

both : (origin : Origin) (client : ℕ) (log es : List Entry) (kept : Recent) → client < origin.config.places → IsKept origin client log kept → IsCounted client log → are_in_turn log es ≡ true → IsKept origin client (log ++ es) (recent_after origin log es kept) × IsCounted client (log ++ es)
both origin client log [] kept inside is counted turn = subst (λ (l : List Entry). IsKept origin client l kept × IsCounted client l) (sym (append-nil log)) (is, counted)
both origin client log (e ∷ es) kept inside is counted turn =
    let test : (e.number == count_of e.client log + 1) ≡ true = left_true (e.number == count_of e.client log + 1) (are_in_turn (log ++ e ∷ []) es) turn in
    let next : e.number ≡ count_of e.client log + 1 = grind (arith, nat_tests) in
    let more : Recent = with_outcome kept e.client (version_next origin log e.request) in
    subst (λ (l : List Entry). IsKept origin client l (recent_after origin (log ++ e ∷ []) es more) × IsCounted client l) (append_assoc log (e ∷ []) es)
    (both origin client (log ++ e ∷ []) es more inside (kept_more origin client log kept e inside is counted next (e.client == client) refl) (counted_more client log e counted next (e.client == client) refl) (right_true (e.number == count_of e.client log + 1) (are_in_turn (log ++ e ∷ []) es) turn))

kept_first : (origin : Origin) (client : ℕ) → client < origin.config.places → IsKept origin client [] (nothing_kept origin.config.places)
kept_first origin client inside = record {
  count = get_or-replicate origin.config.places client 0 0 inside;
  counts = length-replicate origin.config.places 0;
  size = length-replicate (origin.config.places * KEPT_OUTCOMES) 0;
  tells = λ n low high near. absurd (omega (arith, low, high));
}

counted_first : (client : ℕ) → IsCounted client []
counted_first client = record { stands = λ n low high. absurd (omega (arith, low, high)); above = λ n high. refl }

pub counted_of : (client : ℕ) (log : List Entry) → are_in_turn [] log ≡ true → IsCounted client log
counted_of client log turn = all [] log (counted_first client) turn
  where
    all : (before es : List Entry) → IsCounted client before → are_in_turn before es ≡ true → IsCounted client (before ++ es)
    all before [] counted turn = subst (IsCounted client) (sym (append-nil before)) counted
    all before (e ∷ es) counted turn =
        let test : (e.number == count_of e.client before + 1) ≡ true = left_true (e.number == count_of e.client before + 1) (are_in_turn (before ++ e ∷ []) es) turn in
        let next : e.number ≡ count_of e.client before + 1 = grind (arith, nat_tests) in
        subst (IsCounted client) (append_assoc before (e ∷ []) es)
        (all (before ++ e ∷ []) es (counted_more client before e counted next (e.client == client) refl) (right_true (e.number == count_of e.client before + 1) (are_in_turn (before ++ e ∷ []) es) turn))

-- ---- what is read

pub pending_none : (origin : Origin) (log es : List Entry) (client number : ℕ) → has_submission client number es ≡ false → status_after origin log es client number ≡ Pending
pending_none origin log [] client number none = refl
pending_none origin log (x ∷ xs) client number none =
    ap (λ b. cond b (status_next origin log x.request) (status_after origin (log ++ x ∷ []) xs client number)) (or_left (is_numbered_so client number x) (has_submission client number xs) none)
    ∙ pending_none origin (log ++ x ∷ []) xs client number (or_right (is_numbered_so client number x) (has_submission client number xs) none)
  where
    or_left : (a b : Bool) → (a || b) ≡ false → a ≡ false
    or_left true b p = p
    or_left false b p = refl

    or_right : (a b : Bool) → (a || b) ≡ false → b ≡ false
    or_right true b p = absurd (cc)
    or_right false b p = p

read_by : (origin : Origin) (client number : ℕ) (log : List Entry) (kept : Recent) → 0 < number → IsKept origin client log kept → IsCounted client log → (a b : Bool) → nat_lt (slice_index kept.counts client) number ≡ a → nat_le (number + KEPT_OUTCOMES) (slice_index kept.counts client) ≡ b → read_status kept client number ≡ recent_outcome origin log client number
read_by origin client number log kept low is counted true b lt le =
    let count : slice_index kept.counts client ≡ count_of client log = is.count in
    let above : count_of client log < number = subst (λ (n : ℕ). n < number) count (grind (arith, nat_tests)) in
    let far : nat_le (number + KEPT_OUTCOMES) (count_of client log) ≡ false = too_far (count_of client log) above in
    ap (λ t. cond t Pending (cond (nat_le (number + KEPT_OUTCOMES) (slice_index kept.counts client)) Forgotten (status_by (slice_index kept.versions (slot_of client (number - 1)))))) lt
    ∙ sym (pending_none origin [] log client number (counted.above number above))
    ∙ sym (ap (λ t. cond t Forgotten (outcome_in origin log client number)) far)
  where
    too_far : (c : ℕ) → c < number → nat_le (number + KEPT_OUTCOMES) c ≡ false
    too_far c lt = grind (arith, nat_tests)
read_by origin client number log kept low is counted false true lt le =
    let count : slice_index kept.counts client ≡ count_of client log = is.count in
    ap (λ t. cond t Pending (cond (nat_le (number + KEPT_OUTCOMES) (slice_index kept.counts client)) Forgotten (status_by (slice_index kept.versions (slot_of client (number - 1)))))) lt
    ∙ ap (λ t. cond t Forgotten (status_by (slice_index kept.versions (slot_of client (number - 1))))) le
    ∙ sym (ap (λ t. cond t Forgotten (outcome_in origin log client number)) (ap (nat_le (number + KEPT_OUTCOMES)) (sym count) ∙ le))
read_by origin client number log kept low is counted false false lt le =
    let count : slice_index kept.counts client ≡ count_of client log = is.count in
    let upto : number ≤ count_of client log = subst (λ (n : ℕ). number ≤ n) count (grind (arith, nat_tests)) in
    let near : count_of client log < number + KEPT_OUTCOMES = subst (λ (n : ℕ). n < number + KEPT_OUTCOMES) count (grind (arith, nat_tests)) in
    ap (λ t. cond t Pending (cond (nat_le (number + KEPT_OUTCOMES) (slice_index kept.counts client)) Forgotten (status_by (slice_index kept.versions (slot_of client (number - 1)))))) lt
    ∙ ap (λ t. cond t Forgotten (status_by (slice_index kept.versions (slot_of client (number - 1))))) le
    ∙ is.tells number low upto near
    ∙ sym (ap (λ t. cond t Forgotten (outcome_in origin log client number)) (ap (nat_le (number + KEPT_OUTCOMES)) (sym count) ∙ le))

-- what is kept of a log tells what became of a client's submission of a number
pub read_is : (origin : Origin) (client number : ℕ) (log : List Entry) → client < origin.config.places → 0 < number → are_in_turn [] log ≡ true → read_status (outcomes_of origin log) client number ≡ recent_outcome origin log client number
read_is origin client number log inside low turn =
    let all = both origin client [] log (nothing_kept origin.config.places) inside (kept_first origin client inside) (counted_first client) turn in
    read_by origin client number log (outcomes_of origin log) low all.0 all.1 (nat_lt (slice_index (outcomes_of origin log).counts client) number) (nat_le (number + KEPT_OUTCOMES) (slice_index (outcomes_of origin log).counts client)) refl refl

-- one submission more, with its client's next number
pub in_turn_more : (before log : List Entry) (e : Entry) → are_in_turn before log ≡ true → e.number ≡ count_of e.client (before ++ log) + 1 → are_in_turn before (log ++ e ∷ []) ≡ true
in_turn_more before [] e turn next =
    let n : e.number ≡ count_of e.client before + 1 = next ∙ ap (λ l. count_of e.client l + 1) (append-nil before) in
    let test : (e.number == count_of e.client before + 1) ≡ true = grind (arith, nat_tests) in
    ap (λ b. b && true) test
in_turn_more before (x ∷ xs) e turn next =
    let here : (x.number == count_of x.client before + 1) ≡ true = left_true (x.number == count_of x.client before + 1) (are_in_turn (before ++ x ∷ []) xs) turn in
    let rest : are_in_turn (before ++ x ∷ []) (xs ++ e ∷ []) ≡ true = in_turn_more (before ++ x ∷ []) xs e (right_true (x.number == count_of x.client before + 1) (are_in_turn (before ++ x ∷ []) xs) turn) (next ∙ ap (λ l. count_of e.client l + 1) (sym (append_assoc before (x ∷ []) xs))) in
    (λ i. here i && rest i)

-- what is kept has each client of the configuration
after_length : (origin : Origin) (log es : List Entry) (kept : Recent) → length (recent_after origin log es kept).counts ≡ length kept.counts
after_length origin log [] kept = refl
after_length origin log (e ∷ es) kept =
    after_length origin (log ++ e ∷ []) es (with_outcome kept e.client (version_next origin log e.request))
    ∙ length-set kept.counts e.client (slice_index kept.counts e.client + 1)

pub counts_length : (origin : Origin) (log : List Entry) → length (outcomes_of origin log).counts ≡ origin.config.places
counts_length origin log = after_length origin [] log (nothing_kept origin.config.places) ∙ length-replicate origin.config.places 0
