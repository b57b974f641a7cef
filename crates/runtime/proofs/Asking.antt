-- What a client is told of a submission of its own, and which entry that is of.
use Rattle.std.proofs.Common.{◌≡◌, ◌≢◌, ℕ, ◌+◌, ◌≤◌, ◌==◌, Bool, true, false, ◌||◌, cond, is_none, nat_lt, nat_le, Some, None, List, [], ◌∷◌, ◌++◌, refl, sym, ap, ◌∙◌, subst, arith, append-nil, true≢false}
use Rattle.std.specs.Prelude.{MatchBool}
use Rattle.std.specs.List.{list_any}
use Rattle.std.proofs.lemmas.Bool.Decides.{nat_tests}
use Rattle.std.proofs.lemmas.List.Folds.{list_any-append}
use mathlib.Core.List.{IsPrefix}
use Rattle.runtime.specs.Origins.{Origin}
use Rattle.runtime.specs.declared.log_entry.Entry.{Entry}
use Rattle.runtime.specs.declared.recent_outcomes.TheConstants.{KEPT_OUTCOMES}
use Rattle.runtime.specs.declared.submission_status.SubmissionStatus.{SubmissionStatus}
use Rattle.runtime.specs.declared.submission_status.SubmissionStatus.TheVariants.{Committed, Refused, Pending, Forgotten, NotSubmitted}
use Rattle.runtime.specs.declared.worker_progress.Unsettled.{Unsettled}
use Rattle.runtime.specs.Builds.{HasAsked, IndexIn}
use Rattle.runtime.specs.Clients.{Knowledge}
use Rattle.runtime.specs.Logs.{cause_next, count_of, has_submission, is_once, version_of}
use Rattle.runtime.specs.Outcomes.{entry}
use Rattle.runtime.specs.Settles.{TellsOne, IsUnsettled}
use Rattle.runtime.specs.Submissions.{outcome_in, recent_outcome, status_after, status_next, told_status}
use Rattle.runtime.proofs.Beginnings.{prefix_self}
use Rattle.runtime.proofs.Counting.{once_apart}
use Rattle.runtime.proofs.Submissions.{is_numbered_so, pending_none}

-- ---- by what is kept

-- of a number that was given it is told what is kept
told_recent : (origin : Origin) (log : List Entry) (client last number : ℕ) → 1 ≤ number → number ≤ last → told_status origin log client last number ≡ recent_outcome origin log client number
told_recent origin log client last number low high =
    let some : (number == 0) ≡ false = grind (arith, nat_tests) in
    let given : nat_lt last number ≡ false = grind (arith, nat_tests) in
    λ i. cond (some i || given i) NotSubmitted (recent_outcome origin log client number)

known_by : (origin : Origin) (log : List Entry) (client number : ℕ) (status : SubmissionStatus) → status ≢ Forgotten → (b : Bool) → nat_le (number + KEPT_OUTCOMES) (count_of client log) ≡ b → status ≡ recent_outcome origin log client number → outcome_in origin log client number ≡ status
known_by origin log client number status kept true is told = absurd (kept (told ∙ ap (λ t. cond t Forgotten (outcome_in origin log client number)) is))
known_by origin log client number status kept false is told = sym (told ∙ ap (λ t. cond t Forgotten (outcome_in origin log client number)) is)

kept_outcome : (origin : Origin) (log : List Entry) (client number : ℕ) (status : SubmissionStatus) → status ≢ Forgotten → status ≡ recent_outcome origin log client number → outcome_in origin log client number ≡ status
kept_outcome origin log client number status kept told = known_by origin log client number status kept (nat_le (number + KEPT_OUTCOMES) (count_of client log)) refl told

next_decided : (why : Bool) (version : ℕ) → cond why (Committed version) Refused ≢ Pending
next_decided true version is = absurd (cc (is))
next_decided false version is = absurd (cc (is))

-- a pending one isn't there
pending_head : (origin : Origin) (log : List Entry) (x : Entry) (xs : List Entry) (client number : ℕ) (b : Bool) → is_numbered_so client number x ≡ b → (status_after origin (log ++ x ∷ []) xs client number ≡ Pending → has_submission client number xs ≡ false) →
    status_after origin log (x ∷ xs) client number ≡ Pending → has_submission client number (x ∷ xs) ≡ false
pending_head origin log x xs client number true at rest is =
    absurd (next_decided (is_none (cause_next origin log x.request)) (version_of origin log + 1) (sym (ap (λ t. cond t (status_next origin log x.request) (status_after origin (log ++ x ∷ []) xs client number)) at) ∙ is))
pending_head origin log x xs client number false at rest is =
    let others : status_after origin (log ++ x ∷ []) xs client number ≡ Pending = sym (ap (λ t. cond t (status_next origin log x.request) (status_after origin (log ++ x ∷ []) xs client number)) at) ∙ is in
    ap (λ t. t || has_submission client number xs) at ∙ rest others

pending_by : (origin : Origin) (log es : List Entry) (client number : ℕ) → status_after origin log es client number ≡ Pending → has_submission client number es ≡ false
pending_by origin log [] client number is = refl
pending_by origin log (x ∷ xs) client number is = pending_head origin log x xs client number (is_numbered_so client number x) refl (pending_by origin (log ++ x ∷ []) xs client number) is

-- a log tells of no number that it wasn't given
next_given : (why : Bool) (version : ℕ) → cond why (Committed version) Refused ≢ NotSubmitted
next_given true version is = absurd (cc (is))
next_given false version is = absurd (cc (is))

given_head : (origin : Origin) (log : List Entry) (x : Entry) (xs : List Entry) (client number : ℕ) (b : Bool) → is_numbered_so client number x ≡ b → status_after origin (log ++ x ∷ []) xs client number ≢ NotSubmitted → status_after origin log (x ∷ xs) client number ≢ NotSubmitted
given_head origin log x xs client number true at rest is =
    next_given (is_none (cause_next origin log x.request)) (version_of origin log + 1) (sym (ap (λ t. cond t (status_next origin log x.request) (status_after origin (log ++ x ∷ []) xs client number)) at) ∙ is)
given_head origin log x xs client number false at rest is =
    rest (sym (ap (λ t. cond t (status_next origin log x.request) (status_after origin (log ++ x ∷ []) xs client number)) at) ∙ is)

given_by : (origin : Origin) (log es : List Entry) (client number : ℕ) → status_after origin log es client number ≢ NotSubmitted
given_by origin log [] client number is = absurd (cc (is))
given_by origin log (x ∷ xs) client number is = given_head origin log x xs client number (is_numbered_so client number x) refl (given_by origin (log ++ x ∷ []) xs client number) is

-- one that is told of is
told_stands : (origin : Origin) (log : List Entry) (client number : ℕ) (status : SubmissionStatus) → outcome_in origin log client number ≡ status → status ≢ Pending → has_submission client number log ≡ true
told_stands origin log client number status told decided = by (has_submission client number log) refl
  where
    by : (b : Bool) → has_submission client number log ≡ b → has_submission client number log ≡ true
    by true is = is
    by false is = absurd (decided (sym told ∙ pending_none origin [] log client number is))

-- ---- by the log that ends with its entry

ends_with : (p : Entry → Bool) (xs : List Entry) (r : Entry) (rs before : List Entry) (e : Entry) → xs ++ r ∷ rs ≡ before ++ e ∷ [] → p e ≡ true → list_any p (r ∷ rs) ≡ true
ends_with p [] r rs before e same passes = ap (list_any p) same ∙ list_any-append p before (e ∷ []) ∙ last (list_any p before)
  where
    last : (b : Bool) → (b || (p e || false)) ≡ true
    last true = refl
    last false = ap (λ t. t || false) passes
ends_with p (x ∷ xs) r rs [] e same passes = absurd (no xs (let t : xs ++ r ∷ rs ≡ [] = cc (same) in t))
  where
    no : (ys : List Entry) → ys ++ r ∷ rs ≢ []
    no [] is = absurd (cc (is))
    no (y ∷ ys) is = absurd (cc (is))
ends_with p (x ∷ xs) r rs (b ∷ bs) e same passes = ends_with p xs r rs bs e (let t : xs ++ r ∷ rs ≡ bs ++ e ∷ [] = cc (same) in t) passes

-- a log that has the number begins with the one that ends with its entry, where either begins with the other
token_begins : (log before : List Entry) (e : Entry) (known : Bool) → MatchBool known (IsPrefix (before ++ e ∷ []) log) (IsPrefix log (before ++ e ∷ [])) → is_once (before ++ e ∷ []) ≡ true → has_submission e.client e.number log ≡ true → IsPrefix (before ++ e ∷ []) log
token_begins log before e true begins once there = begins
token_begins log before e false begins once there = by begins.0 begins.1
  where
    by : (rest : List Entry) → log ++ rest ≡ before ++ e ∷ [] → IsPrefix (before ++ e ∷ []) log
    by [] is = subst (λ (l : List Entry). IsPrefix l log) (sym (append-nil log) ∙ is) (prefix_self log)
    by (r ∷ rs) is =
        let once_all : is_once (log ++ r ∷ rs) ≡ true = subst (λ (l : List Entry). is_once l ≡ true) (sym is) once in
        let none : has_submission e.client e.number (r ∷ rs) ≡ false = once_apart log (r ∷ rs) e.client e.number once_all there in
        let own : is_numbered_so e.client e.number e ≡ true = own_number e in
        absurd (true≢false (sym (ends_with (is_numbered_so e.client e.number) log r rs before e is own) ∙ none))
      where
        own_number : (x : Entry) → is_numbered_so x.client x.number x ≡ true
        own_number x = (let c : (x.client == x.client) ≡ true = grind (arith, nat_tests) in let n : (x.number == x.number) ≡ true = grind (arith, nat_tests) in rw (c, n) refl)

-- ---- what the client is told

module _ (index : IndexIn) (a b : Knowledge) (one : Unsettled) (asked : HasAsked a b) (is : IsUnsettled index a one) (low : 1 ≤ one.number) (high : one.number ≤ a.last) (status : SubmissionStatus)
    (told : status ≡ told_status b.name.origin b.log a.number a.last one.number) where
  number_same : b.number ≡ a.number
  number_same = ap (λ (k : Knowledge). k.number) asked.1

  recent : status ≡ recent_outcome b.name.origin b.log b.number one.number
  recent =
      told ∙ told_recent b.name.origin b.log a.number a.last one.number low high
      ∙ ap (λ (n : ℕ). recent_outcome b.name.origin b.log n one.number) (sym number_same)

  -- it is forgotten
  pub told_forgotten : status ≡ Forgotten → recent_outcome b.name.origin b.log b.number one.number ≡ Forgotten
  told_forgotten is_so = sym recent ∙ is_so

  -- it was given
  pub told_given : status ≢ NotSubmitted
  told_given is_so = by (nat_le (one.number + KEPT_OUTCOMES) (count_of b.number b.log)) refl
    where
      by : (t : Bool) → nat_le (one.number + KEPT_OUTCOMES) (count_of b.number b.log) ≡ t → ⊥
      by true at = absurd (let no : NotSubmitted ≡ Forgotten = sym is_so ∙ recent ∙ ap (λ t. cond t Forgotten (outcome_in b.name.origin b.log b.number one.number)) at in cc (no))
      by false at = given_by b.name.origin [] b.log b.number one.number (sym (sym is_so ∙ recent ∙ ap (λ t. cond t Forgotten (outcome_in b.name.origin b.log b.number one.number)) at))

  -- it isn't there
  pub told_pending : status ≡ Pending → TellsOne b one None
  told_pending is_so = pending_by b.name.origin [] b.log b.number one.number (kept_outcome b.name.origin b.log b.number one.number Pending (λ no. absurd (cc (no))) (sym is_so ∙ recent))

  -- it is there, and the client's log begins with the one that ends with its entry
  begins_there : (known : Bool) → MatchBool known (IsPrefix one.prefix.log b.log) (IsPrefix b.log one.prefix.log) → is_once one.prefix.log ≡ true → has_submission b.number one.number b.log ≡ true → IsPrefix one.prefix.log b.log
  begins_there known begins once there =
      let e : Entry = entry a.number one.number is.0 is.1.0 in
      let before : List Entry = is.1.1.1.0 in
      let ends : one.prefix.log ≡ before ++ e ∷ [] = is.1.1.1.1 in
      subst (λ (l : List Entry). IsPrefix l b.log) (sym ends)
      (token_begins b.log before e known (subst (λ (l : List Entry). MatchBool known (IsPrefix l b.log) (IsPrefix b.log l)) ends begins) (subst (λ (l : List Entry). is_once l ≡ true) ends once)
      (subst (λ (n : ℕ). has_submission n one.number b.log ≡ true) number_same there))

  pub told_committed : (version : ℕ) (known : Bool) → status ≡ Committed version → MatchBool known (IsPrefix one.prefix.log b.log) (IsPrefix b.log one.prefix.log) → is_once one.prefix.log ≡ true → TellsOne b one (Some true)
  told_committed version known is_so begins once =
      let tells : outcome_in b.name.origin b.log b.number one.number ≡ Committed version = known_so in
      (begins_there known begins once (told_stands b.name.origin b.log b.number one.number (Committed version) tells (λ no. absurd (cc (no)))), (version, tells))
    where
      known_so : outcome_in b.name.origin b.log b.number one.number ≡ Committed version
      known_so = kept_outcome b.name.origin b.log b.number one.number (Committed version) (λ no. absurd (cc (no))) (sym is_so ∙ recent)

  pub told_refused : (known : Bool) → status ≡ Refused → MatchBool known (IsPrefix one.prefix.log b.log) (IsPrefix b.log one.prefix.log) → is_once one.prefix.log ≡ true → TellsOne b one (Some false)
  told_refused known is_so begins once =
      let tells : outcome_in b.name.origin b.log b.number one.number ≡ Refused = known_so in
      (begins_there known begins once (told_stands b.name.origin b.log b.number one.number Refused tells (λ no. absurd (cc (no)))), tells)
    where
      known_so : outcome_in b.name.origin b.log b.number one.number ≡ Refused
      known_so = kept_outcome b.name.origin b.log b.number one.number Refused (λ no. absurd (cc (no))) (sym is_so ∙ recent)
