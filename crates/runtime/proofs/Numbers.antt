-- Numbers of submissions, and the last ones.
use Rattle.std.proofs.Common.{◌≡◌, ◌≢◌, ℕ, zero, suc, ◌+◌, ◌<◌, ◌≤◌, ◌==◌, Bool, true, false, ◌&&◌, ◌||◌, List, [], ◌∷◌, ◌++◌, length, replicate, refl, sym, ap, ◌∙◌, subst, arith}
use Rattle.std.proofs.Common.{get_or-set_other, get_or-set_same}
use Rattle.std.specs.Prelude.{slice_index, slice_set}
use Rattle.std.proofs.lemmas.Bool.Decides.{nat_tests}
use Rattle.std.proofs.lemmas.List.Folds.{list_any-append}
use mathlib.Core.List.{IsPrefix}
use Rattle.kv_core.specs.declared.change.CommitRequest.{CommitRequest}
use Rattle.runtime.specs.declared.log_entry.Entry.{Entry}
use Rattle.runtime.specs.Traces.{Trace}
use Rattle.runtime.specs.Logs.{AreCounted, AreGiven, HasEarlier, count_of, has_submission}
use Rattle.runtime.specs.Outcomes.{next_entry}
use Rattle.runtime.proofs.Submissions.{count_other, count_same, is_numbered_so}

or_left : (a b : Bool) → a ≡ true → (a || b) ≡ true
or_left true b h = refl
or_left false b h = absurd (cc)

or_right : (a b : Bool) → b ≡ true → (a || b) ≡ true
or_right true b h = refl
or_right false b h = h

and_both : (a b : Bool) → a ≡ true → b ≡ true → (a && b) ≡ true
and_both a b p q = rw p q

same_number : (a b : ℕ) → a ≡ b → (a == b) ≡ true
same_number a b h = grind (arith, nat_tests)

pub number_begins : (client number : ℕ) (xs ys : List Entry) → IsPrefix xs ys → has_submission client number xs ≡ true → has_submission client number ys ≡ true
number_begins client number xs ys p h = subst (λ (l : List Entry). has_submission client number l ≡ true) p.1 (list_any-append (is_numbered_so client number) xs p.0 ∙ or_left (has_submission client number xs) (has_submission client number p.0) h)

pub number_of_last : (client number : ℕ) (xs : List Entry) (e : Entry) → e.client ≡ client → e.number ≡ number → has_submission client number (xs ++ e ∷ []) ≡ true
number_of_last client number xs e is_client is_number =
    let here : has_submission client number (e ∷ []) ≡ true = or_left (is_numbered_so client number e) false (and_both (e.client == client) (e.number == number) (same_number e.client client is_client) (same_number e.number number is_number)) in
    list_any-append (is_numbered_so client number) xs (e ∷ []) ∙ or_right (has_submission client number xs) (has_submission client number (e ∷ [])) here

-- ---- last numbers

zero_each : (n i : ℕ) → slice_index (replicate n 0) i ≡ 0
zero_each zero i = refl
zero_each (suc n) zero = refl
zero_each (suc n) (suc i) = zero_each n i

pub given_first : (last : List ℕ) (n : ℕ) → last ≡ replicate n 0 → AreGiven last []
given_first last n is = record { stands = λ client number above below. absurd (let none : slice_index last client ≡ 0 = ap (λ (l : List ℕ). slice_index l client) is ∙ zero_each n client in omega (arith, above, below, none)) }

-- the client's own numbers: the new one is the last entry's, and each other one was given before
own_at : (last : List ℕ) (client number : ℕ) (log : List Entry) (e : Entry) → e.client ≡ client → e.number ≡ number → number ≡ slice_index last client + 1 → AreGiven last log →
    (n : ℕ) (b : Bool) → (n == number) ≡ b → 0 < n → n ≤ number → has_submission client n (log ++ e ∷ []) ≡ true
own_at last client number log e is_client is_number next are n true same above upto =
    let eq : n ≡ number = grind (arith, nat_tests) in
    number_of_last client n log e is_client (is_number ∙ sym eq)
own_at last client number log e is_client is_number next are n false other above upto =
    let apart : n ≢ number = grind (arith, nat_tests) in
    number_begins client n log (log ++ e ∷ []) (e ∷ [], refl) (are.stands client n above (omega (arith, apart, upto, next)))

given_at : (last : List ℕ) (client number : ℕ) (log : List Entry) (e : Entry) → client < length last → e.client ≡ client → e.number ≡ number → number ≡ slice_index last client + 1 → AreGiven last log →
    (other n : ℕ) (b : Bool) → (other == client) ≡ b → 0 < n → n ≤ slice_index (slice_set last client number) other → has_submission other n (log ++ e ∷ []) ≡ true
given_at last client number log e inside is_client is_number next are other n true same above upto =
    let eq : client ≡ other = grind (arith, nat_tests) in
    let new : slice_index (slice_set last client number) client ≡ number = get_or-set_same last client number 0 inside in
    let most : n ≤ slice_index (slice_set last client number) client = subst (λ (c : ℕ). n ≤ slice_index (slice_set last client number) c) (sym eq) upto in
    subst (λ (c : ℕ). has_submission c n (log ++ e ∷ []) ≡ true) eq (own_at last client number log e is_client is_number next are n (n == number) refl above (omega (arith, new, most)))
given_at last client number log e inside is_client is_number next are other n false same above upto =
    let apart : other ≢ client = grind (arith, nat_tests) in
    let old : slice_index (slice_set last client number) other ≡ slice_index last other = get_or-set_other last client other number 0 apart in
    number_begins other n log (log ++ e ∷ []) (e ∷ [], refl) (are.stands other n above (omega (arith, upto, old)))

pub given_next : (last : List ℕ) (client number : ℕ) (log : List Entry) (e : Entry) → client < length last → e.client ≡ client → e.number ≡ number → number ≡ slice_index last client + 1 → AreGiven last log → AreGiven (slice_set last client number) (log ++ e ∷ [])
given_next last client number log e inside is_client is_number next are =
    record { stands = λ other n above upto. given_at last client number log e inside is_client is_number next are other n (other == client) refl above upto }

-- ---- how many there are

pub counted_none : (last : List ℕ) (n : ℕ) → last ≡ replicate n 0 → AreCounted last []
counted_none last n is = record { counts = λ client. ap (λ (l : List ℕ). slice_index l client) is ∙ zero_each n client }

count_at : (last : List ℕ) (client number : ℕ) (log : List Entry) (e : Entry) → client < length last → e.client ≡ client → number ≡ slice_index last client + 1 → AreCounted last log →
    (other : ℕ) (b : Bool) → (e.client == other) ≡ b → slice_index (slice_set last client number) other ≡ count_of other (log ++ e ∷ [])
count_at last client number log e inside is_client next are other true same =
    let eq : client ≡ other = sym is_client ∙ same_of e.client other same in
    let new : slice_index (slice_set last client number) client ≡ number = get_or-set_same last client number 0 inside in
    subst (λ (c : ℕ). slice_index (slice_set last client number) c ≡ number) eq new
    ∙ next
    ∙ ap (λ c. slice_index last c + 1) eq
    ∙ ap (λ n. n + 1) (are.counts other)
    ∙ sym (count_same other log e same)
  where
    same_of : (a b : ℕ) → (a == b) ≡ true → a ≡ b
    same_of a b h = grind (arith, nat_tests)
count_at last client number log e inside is_client next are other false apart =
    get_or-set_other last client other number 0 (other_of is_client apart)
    ∙ are.counts other
    ∙ sym (count_other other log e apart)
  where
    other_of : e.client ≡ client → (e.client == other) ≡ false → other ≢ client
    other_of is h = grind (arith, nat_tests)

pub counted_next : (last : List ℕ) (client number : ℕ) (log : List Entry) (e : Entry) → client < length last → e.client ≡ client → number ≡ slice_index last client + 1 → AreCounted last log → AreCounted (slice_set last client number) (log ++ e ∷ [])
counted_next last client number log e inside is_client next are =
    record { counts = λ other. count_at last client number log e inside is_client next are other (e.client == other) refl }

-- ---- earlier submissions

-- those of the entry that a client's next submission has
pub earlier_next : (last : List ℕ) (client : ℕ) (request : CommitRequest) (trace : Trace) (log : List Entry) → AreGiven last log → HasEarlier log (next_entry last client request trace)
earlier_next last client request trace log are = record { stands = λ number above below. are.stands client number above (omega (arith, below)) }

pub earlier_begins : (xs ys : List Entry) (e : Entry) → IsPrefix xs ys → HasEarlier xs e → HasEarlier ys e
earlier_begins xs ys e p has = record { stands = λ number above below. number_begins e.client number xs ys p (has.stands number above below) }
