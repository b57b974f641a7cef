-- The clients' places, and what one step changes of them.
use Rattle.std.proofs.Common.{◌≡◌, ℕ, ◌<◌, ◌≤◌, ◌==◌, Bool, true, false, cond, List, [], ◌∷◌, ◌++◌, length, get_or, map, filter, refl, sym, ap, subst, ◌∙◌, Option, Some, None, replicate, arith}
use Rattle.std.specs.Prelude.{is_some, slice_set}
use Rattle.std.proofs.lemmas.Bool.{eqb-true, eqb-false, ltb-false, true≢false}
use Rattle.std.proofs.lemmas.List.{get_or_default, get_or-replicate, get_or-set_same, get_or-set_other, set-get_or}
use Rattle.kv_core.specs.Map.{Map}
use Rattle.record_store.specs.Layout.{is_store_number}
use Rattle.schedule.specs.declared.step.TheConstants.{CLIENTS}
use Rattle.schedule.specs.declared.refusal.Refusal.TheVariants.{NoSuchStore}
use Rattle.schedule.specs.declared.reply.Reply.{Reply}
use Rattle.schedule.specs.declared.reply.Reply.TheVariants.{Refused}
use Rattle.schedule.specs.declared.database.OpenTransaction.{OpenTransaction}
use Rattle.schedule.specs.Past.{Attempt, Open, accepted, is_accepted}
use Rattle.schedule.specs.Contract.{OfClient, OfStore}
use Rattle.schedule.specs.Running.{IsOpen, IsPlace, ArePlaces}

-- ---- one place

pub place_none : (maps : ℕ → Map) (reported : ℕ) (o : Option Open) → IsPlace maps reported o None → o ≡ None
place_none maps reported None is = refl
place_none maps reported (Some open_now) is = absurd is

pub place_some : (maps : ℕ → Map) (reported : ℕ) (o : Option Open) (transaction : OpenTransaction) → IsPlace maps reported o (Some transaction) →
    (open_now : Open) × (o ≡ Some open_now) × IsOpen maps reported open_now transaction
place_some maps reported None transaction is = absurd is
place_some maps reported (Some open_now) transaction is = (open_now, refl, is)

-- a number is the same as itself
pub same_number : (n : ℕ) → (n == n) ≡ true
same_number n = by_test (n == n) refl
  where
    by_test : (b : Bool) → (n == n) ≡ b → b ≡ true
    by_test true is = refl
    by_test false is = absurd (eqb-false n n is refl)

-- what one client has open changes, and the others' stays
abbrev pub changed_at : ℕ → (Option Open → Option Open) → (ℕ → Option Open) → ℕ → Option Open
changed_at who change opens client = cond (who == client) (change (opens client)) (opens client)

-- its place is written
pub places_set : (maps : ℕ → Map) (reported who : ℕ) (change : Option Open → Option Open) (opens : ℕ → Option Open) (transactions : List (Option OpenTransaction)) (value : Option OpenTransaction) →
    who < length transactions → IsPlace maps reported (change (opens who)) value → ArePlaces maps reported opens transactions →
    ArePlaces maps reported (changed_at who change opens) (slice_set transactions who value)
places_set maps reported who change opens transactions value within is are client below = by_test (who == client) refl
  where
    by_test : (b : Bool) → (who == client) ≡ b → IsPlace maps reported (cond b (change (opens client)) (opens client)) (get_or (slice_set transactions who value) client None)
    by_test true same =
        let e : who ≡ client = eqb-true who client same in
        subst (λ n. IsPlace maps reported (change (opens n)) (get_or (slice_set transactions who value) n None)) e
        (subst (λ o. IsPlace maps reported (change (opens who)) o) (sym (get_or-set_same transactions who value None within)) is)
    by_test false differ =
        subst (λ o. IsPlace maps reported (opens client) o) (sym (get_or-set_other transactions who client value None (λ e. eqb-false who client differ (sym e)))) (are client below)

-- its place stays where the change is none
pub places_stay : (maps : ℕ → Map) (reported who : ℕ) (change : Option Open → Option Open) (opens : ℕ → Option Open) (transactions : List (Option OpenTransaction)) →
    (who < CLIENTS → change (opens who) ≡ opens who) → ArePlaces maps reported opens transactions → ArePlaces maps reported (changed_at who change opens) transactions
places_stay maps reported who change opens transactions same are client below = by_test (who == client) refl
  where
    by_test : (b : Bool) → (who == client) ≡ b → IsPlace maps reported (cond b (change (opens client)) (opens client)) (get_or transactions client None)
    by_test true is =
        let e : who ≡ client = eqb-true who client is in
        subst (λ o. IsPlace maps reported o (get_or transactions client None))
        (sym (subst (λ n. change (opens n) ≡ opens n) e (same (omega (arith, e, below))))) (are client below)
    by_test false is = are client below

-- writing nothing to an empty place changes nothing
pub places_same : (maps : ℕ → Map) (reported who : ℕ) (opens : ℕ → Option Open) (transactions : List (Option OpenTransaction)) → who < length transactions → get_or transactions who None ≡ None →
    ArePlaces maps reported opens transactions → ArePlaces maps reported opens (slice_set transactions who None)
places_same maps reported who opens transactions within closed are client below =
    subst (λ ts. IsPlace maps reported (opens client) (get_or ts client None)) (sym (ap (λ o. slice_set transactions who o) (sym closed) ∙ set-get_or transactions who None)) (are client below)

-- no client has anything open at the start
pub places_first : (maps : ℕ → Map) (reported : ℕ) (transactions : List (Option OpenTransaction)) → transactions ≡ replicate CLIENTS None → ArePlaces maps reported (λ client. None) transactions
places_first maps reported transactions is client below =
    subst (λ (o : Option OpenTransaction). IsPlace maps reported None o) (sym (ap (λ ts. get_or ts client None) is ∙ get_or-replicate CLIENTS client None None below)) tt

-- what was found at a place, whatever is given where there is none
pub place_found : (transactions : List (Option OpenTransaction)) (client : ℕ) (found : Option OpenTransaction) → client < length transactions → found ≡ get_or transactions client found → get_or transactions client None ≡ found
place_found transactions client found within is = get_or_default transactions client None found within ∙ sym is

pub none_from : {X : Type 0} (o : Option X) → is_some o ≡ false → o ≡ None
none_from None is = refl
none_from (Some x) is = absurd (true≢false is)

-- ---- which clients there are

pub client_there : (client : ℕ) (reply : Reply) (IsRight : Type 0) → client < CLIENTS → IsRight → OfClient client reply IsRight
client_there client reply IsRight below right = (λ _. right, λ none. absurd (let above : CLIENTS ≤ client = ltb-false client CLIENTS none in omega (arith, above, below)))

pub store_there : (number : ℕ) (reply : Reply) (IsRight : Type 0) → is_store_number number ≡ true → IsRight → OfStore number reply IsRight
store_there number reply IsRight lawful right = (λ _. right, λ none. absurd (true≢false (sym lawful ∙ none)))

-- a number that isn't one of a store
pub no_number : (number : ℕ) → (is_store_number number ≡ true → ⊥) → is_store_number number ≡ false
no_number number not_one = by_test (is_store_number number) refl
  where
    by_test : (b : Bool) → is_store_number number ≡ b → b ≡ false
    by_test true is = absurd (not_one is)
    by_test false is = refl

pub store_missing : (number : ℕ) (reply : Reply) (IsRight : Type 0) → is_store_number number ≡ false → reply ≡ Refused NoSuchStore → OfStore number reply IsRight
store_missing number reply IsRight none refused = (λ lawful. absurd (true≢false (sym lawful ∙ none)), λ _. refused)

-- ---- accepted commands

pub accepted-append : (attempts : List Attempt) (attempt : Attempt) → accepted (attempts ++ attempt ∷ []) ≡ accepted attempts ++ cond (is_accepted attempt.reply) (attempt.command ∷ []) []
accepted-append [] attempt = one (is_accepted attempt.reply)
  where
    one : (b : Bool) → map (λ (a : Attempt). a.command) (cond b (attempt ∷ []) []) ≡ cond b (attempt.command ∷ []) []
    one true = refl
    one false = refl
accepted-append (first ∷ attempts) attempt = by_test (is_accepted first.reply) (accepted-append attempts attempt)
  where
    by_test : (b : Bool) → accepted (attempts ++ attempt ∷ []) ≡ accepted attempts ++ cond (is_accepted attempt.reply) (attempt.command ∷ []) [] →
        map (λ (a : Attempt). a.command) (cond b (first ∷ filter (λ (a : Attempt). is_accepted a.reply) (attempts ++ attempt ∷ [])) (filter (λ (a : Attempt). is_accepted a.reply) (attempts ++ attempt ∷ [])))
        ≡ map (λ (a : Attempt). a.command) (cond b (first ∷ filter (λ (a : Attempt). is_accepted a.reply) attempts) (filter (λ (a : Attempt). is_accepted a.reply) attempts)) ++ cond (is_accepted attempt.reply) (attempt.command ∷ []) []
    by_test true rest = ap (λ cs. first.command ∷ cs) rest
    by_test false rest = rest
