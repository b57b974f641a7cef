-- Attempts at commands, one after another, in one transaction.
use Rattle.std.proofs.Common.{◌≡◌, ℕ, suc, ◌≤◌, Bool, true, false, not, cond, ◌==◌, ◌||◌, inl, inr, List, [], ◌∷◌, ◌++◌, length, refl, sym, ap, subst, ◌∙◌, Option, Some, None, append_assoc, append-nil, arith}
use Rattle.std.specs.Prelude.{filter, map, fold}
use Rattle.std.proofs.lemmas.Bool.{eqb-true, true≢false}
use Rattle.kv_core.specs.Range.{KeyRange}
use Rattle.kv_core.specs.Map.{Map, Agree, after_all}
use Rattle.kv_core.specs.Limits.{write_all_refusal}
use Rattle.kv_core.specs.declared.change.CommitRequest.{CommitRequest}
use Rattle.kv_core.specs.declared.change.Mutation.{Mutation}
use Rattle.kv_core.specs.declared.change.WriteError.{WriteError}
use Rattle.kv_core.specs.declared.change.WriteError.TheVariants as limits
use Rattle.kv_core.proofs.Changes.{after_all-append}
use Rattle.kv_core.specs.declared.snapshot.ReadError.{ReadError}
use Rattle.kv_core.specs.declared.snapshot.ReadError.TheVariants as reads
use Rattle.schedule.specs.Refusals.{read_reply}
use Rattle.schedule.specs.declared.refusal.Refusal.TheVariants.{FutureVersion, TooOld}
use Rattle.txn.specs.Reads.{seen}
use Rattle.txn.specs.Runs.{with_ranges}
use Rattle.txn.proofs.Running.{ran_because, ran_keeps, with_ranges_append}
use Rattle.schedule.specs.declared.step.Command.{Command}
use Rattle.schedule.specs.declared.reply.Reply.{Reply}
use Rattle.schedule.specs.declared.reply.Reply.TheVariants.{Refused}
use Rattle.record_store.specs.Layout.{is_store_number}
use Rattle.record_store.specs.Store.{Serial}
use Rattle.schedule.specs.Serve.{IsReply, effect, effects}
use Rattle.schedule.specs.Past.{Attempt, Open, accepted, is_accepted, is_changed, tells_change}
use Rattle.schedule.specs.Holds.{Stands}
use Rattle.schedule.specs.Reach.{opened_in, reach, writes}
use Rattle.schedule.specs.Performed.{IsLimit, IsLimited, IsReadRefusal, IsPerformedAt, IsPerformed}
use Rattle.schedule.specs.Contract.{attempted}
use Rattle.schedule.specs.Exact.{attempt_writes, commands_written, HaveAdded, IsSerialAt}
use Rattle.schedule.specs.Turns.{fresh_request, DidAt, DidAttempt, AreDone, IsOpenTransaction}

-- ---- one attempt

-- a limit is a refusal, and so is a refused read
limit_refuses : (error : WriteError) (answer : Reply) → IsLimit error answer → is_accepted answer ≡ false
limit_refuses limits.KeyOutside answer is = ap is_accepted is
limit_refuses limits.KeyTooLarge answer is = ap is_accepted is
limit_refuses limits.ValueTooLarge answer is = ap is_accepted is
limit_refuses limits.TransactionTooLarge answer is = ap is_accepted is
limit_refuses limits.Memory answer is = absurd is

read_refuses : (refuses : KeyRange → ReadError → Type 0) (within : List KeyRange) (answer : Reply) → IsReadRefusal refuses within answer → is_accepted answer ≡ false
read_refuses refuses within answer is = by_error is.error is.told
  where
    by_error : (error : ReadError) → read_reply error ≡ Some answer → is_accepted answer ≡ false
    by_error reads.FutureVersion told = let same : Refused FutureVersion ≡ answer = cc in ap is_accepted (sym same)
    by_error reads.TooOld told = let same : Refused TooOld ≡ answer = cc in ap is_accepted (sym same)
    by_error reads.Memory told = absurd (cc)

-- an accepted reply is the serial store's
replied_of : (limit : Option WriteError) (serial : Serial) (command : Command) (answer : Reply) → IsLimited limit serial command answer → is_accepted answer ≡ true → IsReply serial command answer
replied_of None serial command answer is yes_accepted = is
replied_of (Some error) serial command answer is yes_accepted = absurd (true≢false (sym yes_accepted ∙ limit_refuses error answer is))

did_at : (number : ℕ) {refuses : KeyRange → ReadError → Type 0} {before : List Mutation} (command : Command) (answer : Reply) (wrote : List Mutation) (ranges : List KeyRange) (m : Map) (serial : Serial) →
    IsPerformedAt number refuses command answer before wrote ranges m serial → DidAt number (record { command = command; reply = answer }) wrote ranges m serial
did_at number {refuses = refuses} {before = before} command answer wrote ranges m serial performed = record {
  replied = λ yes_accepted. elim performed.right [
    | inl served ↦ replied_of (write_all_refusal before (writes number m serial command)) serial command answer served yes_accepted
    | inr refused ↦ absurd (true≢false (sym yes_accepted ∙ read_refuses refuses (reach number (opened_in number serial) command m) answer refused))
  ];
  wrote = performed.wrote;
  holds = performed.holds;
  reads = performed.reads;
}

-- a command that was performed is an attempt that was made
pub performed_did : (number : ℕ) (maps : ℕ → Map) (refuses : KeyRange → ReadError → Type 0) (command : Command) (answer : Reply) (old new : CommitRequest) →
    IsPerformed number maps refuses command answer old new → DidAttempt number maps (record { command = command; reply = answer }) old new
performed_did number maps refuses command answer old new performed = record {
  added = performed.added;
  written = performed.written;
  changes = performed.changes;
  ran = ran_because performed.ran (λ m fact serial holds. did_at number command answer performed.written performed.added m serial (fact.1 serial holds));
}

-- ---- attempts in turn

-- one more attempt
pub done_append : (number : ℕ) (maps : ℕ → Map) (attempts : List Attempt) (attempt : Attempt) (old mid new : CommitRequest) →
    AreDone number maps attempts old mid → DidAttempt number maps attempt mid new → AreDone number maps (attempts ++ attempt ∷ []) old new
done_append number maps [] attempt old mid new same did = (new, subst (λ (t : CommitRequest). DidAttempt number maps attempt t new) (sym same) did, refl)
done_append number maps (first ∷ attempts) attempt old mid new (next, one, rest) did = (next, one, done_append number maps attempts attempt next mid new rest did)

-- the read version stays
pub done_version : (number : ℕ) (maps : ℕ → Map) (attempts : List Attempt) (old new : CommitRequest) → AreDone number maps attempts old new → new.read_version ≡ old.read_version
done_version number maps [] old new same = ap (λ (t : CommitRequest). t.read_version) (sym same)
done_version number maps (attempt ∷ attempts) old new (mid, did, rest) = done_version number maps attempts mid new rest ∙ did.ran.version

-- the map at the read version alone matters
did_elsewhere : (number : ℕ) (maps maps2 : ℕ → Map) (attempt : Attempt) (old new : CommitRequest) → maps old.read_version ≡ maps2 old.read_version → DidAttempt number maps attempt old new → DidAttempt number maps2 attempt old new
did_elsewhere number maps maps2 attempt old new same did = record {
  added = did.added;
  written = did.written;
  changes = did.changes;
  ran = record {
    version = did.ran.version;
    wrote = did.ran.wrote;
    reads = did.ran.reads;
    over = λ m agree. did.ran.over m (subst (λ (base : Map). Agree new.reads base m) (sym same) agree);
  };
}

pub done_elsewhere : (number : ℕ) (maps maps2 : ℕ → Map) (attempts : List Attempt) (old new : CommitRequest) → maps old.read_version ≡ maps2 old.read_version → AreDone number maps attempts old new → AreDone number maps2 attempts old new
done_elsewhere number maps maps2 [] old new same done = done
done_elsewhere number maps maps2 (attempt ∷ attempts) old new same (mid, did, rest) =
    (mid, did_elsewhere number maps maps2 attempt old mid same did, done_elsewhere number maps maps2 attempts mid new (ap maps did.ran.version ∙ same ∙ ap maps2 (sym did.ran.version)) rest)

-- what was read stays among what is read later
pub keeps_all : (number : ℕ) (maps : ℕ → Map) (attempts : List Attempt) (old new : CommitRequest) → AreDone number maps attempts old new →
    (m : Map) → Agree new.reads (maps new.read_version) m → Agree old.reads (maps old.read_version) m
keeps_all number maps [] old new same m agree = subst (λ (t : CommitRequest). Agree t.reads (maps t.read_version) m) (sym same) agree
keeps_all number maps (attempt ∷ attempts) old new (mid, did, rest) m agree =
    let later = keeps_all number maps attempts mid new rest m agree in
    λ key h. subst (λ v. Agree mid.reads (maps v) m) did.ran.version later key (ran_keeps did.ran key h)

-- what is there after attempts
abbrev pub after_attempts : Serial → List Attempt → Serial
after_attempts serial attempts = fold attempted serial attempts

-- over each map that agrees with what was read, each accepted command has its reply at what the earlier ones leave, and the map seen at the end holds what is there after them
pub done_serve : (number : ℕ) (maps : ℕ → Map) (attempts : List Attempt) (old new : CommitRequest) → AreDone number maps attempts old new →
    (m : Map) (serial : Serial) → Agree new.reads (maps new.read_version) m → Stands number (seen old m) serial → IsSerialAt serial attempts × Stands number (seen new m) (after_attempts serial attempts)
done_serve number maps [] old new same m serial agree holds = (tt, subst (λ (t : CommitRequest). Stands number (seen t m) serial) same holds)
done_serve number maps (attempt ∷ attempts) old new (mid, did, rest) m serial agree holds =
    let later = keeps_all number maps attempts mid new rest m agree in
    let at = did.ran.over m (subst (λ v. Agree mid.reads (maps v) m) did.ran.version later) serial holds in
    let is_seen : after_all did.written (seen old m) ≡ seen mid m = sym (ap (λ ms. after_all ms m) did.ran.wrote ∙ after_all-append old.mutations did.written m) in
    let after = done_serve number maps attempts mid new rest m (attempted serial attempt) agree (subst (λ (n : Map). Stands number n (attempted serial attempt)) is_seen at.holds) in
    ((at.replied, after.0), after.1)

-- ---- what a transaction wrote and read

abbrev has_some : List Mutation → Bool
has_some mutations = not (length mutations == 0)

not_none : (n : ℕ) → (suc n == 0) ≡ false
not_none n = by_test (suc n == 0) refl
  where
    by_test : (b : Bool) → (suc n == 0) ≡ b → b ≡ false
    by_test true is = let none : suc n ≡ 0 = eqb-true (suc n) 0 is in absurd (omega (arith, none))
    by_test false is = refl

has_some-append : (a b : List Mutation) → has_some (a ++ b) ≡ (has_some a || has_some b)
has_some-append [] b = refl
has_some-append (x ∷ a) b = ap not (not_none (length (a ++ b))) ∙ ap (λ b0. not b0 || has_some b) (sym (not_none (length a)))

or_assoc : (a b c : Bool) → ((a || b) || c) ≡ (a || (b || c))
or_assoc true b c = refl
or_assoc false b c = refl

twice : (b : Bool) → not (not b) ≡ b
twice true = refl
twice false = refl

or_nothing : (a : Bool) → a ≡ (a || false)
or_nothing true = refl
or_nothing false = refl

-- there are mutations where there were some, or where an attempt changed something
done_changed : (number : ℕ) (maps : ℕ → Map) (attempts : List Attempt) (old new : CommitRequest) → AreDone number maps attempts old new → has_some new.mutations ≡ (has_some old.mutations || is_changed attempts)
done_changed number maps [] old new same = ap (λ (t : CommitRequest). has_some t.mutations) (sym same) ∙ or_nothing (has_some old.mutations)
done_changed number maps (attempt ∷ attempts) old new (mid, did, rest) =
    done_changed number maps attempts mid new rest
    ∙ ap (λ b. b || is_changed attempts) (ap has_some did.ran.wrote ∙ has_some-append old.mutations did.written ∙ ap (λ b. has_some old.mutations || b) (ap not did.changes ∙ twice (tells_change attempt.reply)))
    ∙ or_assoc (has_some old.mutations) (tells_change attempt.reply) (is_changed attempts)

-- what is there after attempts is what the accepted commands make
pub attempts_effects : (serial : Serial) (attempts : List Attempt) → after_attempts serial attempts ≡ effects serial (accepted attempts)
attempts_effects serial [] = refl
attempts_effects serial (attempt ∷ attempts) = by_test (is_accepted attempt.reply) (attempts_effects (effect serial attempt.command) attempts) (attempts_effects serial attempts)
  where
    by_test : (b : Bool) → after_attempts (effect serial attempt.command) attempts ≡ effects (effect serial attempt.command) (accepted attempts) → after_attempts serial attempts ≡ effects serial (accepted attempts) →
        after_attempts (cond b (effect serial attempt.command) serial) attempts
        ≡ effects serial (map (λ (a : Attempt). a.command) (cond b (attempt ∷ filter (λ (a : Attempt). is_accepted a.reply) attempts) (filter (λ (a : Attempt). is_accepted a.reply) attempts)))
    by_test true yes_accepted otherwise = yes_accepted
    by_test false yes_accepted otherwise = otherwise

-- what was written is what the accepted commands write, over each map that agrees with what was read
pub done_writes : (number : ℕ) (maps : ℕ → Map) (attempts : List Attempt) (old new : CommitRequest) → AreDone number maps attempts old new →
    (m : Map) (serial : Serial) → Agree new.reads (maps new.read_version) m → Stands number (seen old m) serial → new.mutations ≡ old.mutations ++ commands_written number (seen old m) serial (accepted attempts)
done_writes number maps [] old new same m serial agree holds = ap (λ (t : CommitRequest). t.mutations) (sym same) ∙ sym (append-nil old.mutations)
done_writes number maps (attempt ∷ attempts) old new (mid, did, rest) m serial agree holds =
    let later = keeps_all number maps attempts mid new rest m agree in
    let at = did.ran.over m (subst (λ v. Agree mid.reads (maps v) m) did.ran.version later) serial holds in
    let is_seen : after_all did.written (seen old m) ≡ seen mid m = sym (ap (λ ms. after_all ms m) did.ran.wrote ∙ after_all-append old.mutations did.written m) in
    done_writes number maps attempts mid new rest m (attempted serial attempt) agree (subst (λ (n : Map). Stands number n (attempted serial attempt)) is_seen at.holds)
    ∙ ap (λ n. mid.mutations ++ commands_written number n (attempted serial attempt) (accepted attempts)) (sym is_seen ∙ ap (λ ms. after_all ms (seen old m)) at.wrote)
    ∙ ap (λ ms. ms ++ commands_written number (after_all (cond (is_accepted attempt.reply) (writes number (seen old m) serial attempt.command) []) (seen old m)) (attempted serial attempt) (accepted attempts)) (did.ran.wrote ∙ ap (λ ms. old.mutations ++ ms) at.wrote)
    ∙ append_assoc old.mutations (cond (is_accepted attempt.reply) (writes number (seen old m) serial attempt.command) []) (commands_written number (after_all (cond (is_accepted attempt.reply) (writes number (seen old m) serial attempt.command) []) (seen old m)) (attempted serial attempt) (accepted attempts))
    ∙ ap (λ ms. old.mutations ++ ms) (by_test (is_accepted attempt.reply))
  where
    by_test : (b : Bool) → cond b (writes number (seen old m) serial attempt.command) [] ++ commands_written number (after_all (cond b (writes number (seen old m) serial attempt.command) []) (seen old m)) (cond b (effect serial attempt.command) serial) (accepted attempts)
        ≡ commands_written number (seen old m) serial (map (λ (a : Attempt). a.command) (cond b (attempt ∷ filter (λ (a : Attempt). is_accepted a.reply) attempts) (filter (λ (a : Attempt). is_accepted a.reply) attempts)))
    by_test true = refl
    by_test false = refl

-- the ranges read are those before and those that the attempts added, over each map that agrees with what was read
pub done_reads : (number : ℕ) (maps : ℕ → Map) (attempts : List Attempt) (old new : CommitRequest) → AreDone number maps attempts old new →
    (m : Map) (serial : Serial) → Agree new.reads (maps new.read_version) m → Stands number (seen old m) serial →
    (ranges : List KeyRange) × HaveAdded number (seen old m) serial attempts ranges × (new.reads ≡ with_ranges ranges old.reads)
done_reads number maps [] old new same m serial agree holds = ([], refl, ap (λ (t : CommitRequest). t.reads) (sym same))
done_reads number maps (attempt ∷ attempts) old new (mid, did, rest) m serial agree holds =
    let later = keeps_all number maps attempts mid new rest m agree in
    let at = did.ran.over m (subst (λ v. Agree mid.reads (maps v) m) did.ran.version later) serial holds in
    let is_seen : after_all did.written (seen old m) ≡ seen mid m = sym (ap (λ ms. after_all ms m) did.ran.wrote ∙ after_all-append old.mutations did.written m) in
    let next : seen mid m ≡ after_all (attempt_writes number (seen old m) serial attempt) (seen old m) = sym is_seen ∙ ap (λ ms. after_all ms (seen old m)) at.wrote in
    let (others, have, are) = done_reads number maps attempts mid new rest m (attempted serial attempt) agree (subst (λ (n : Map). Stands number n (attempted serial attempt)) is_seen at.holds) in (
      did.added ++ others,
      (did.added, others, refl, at.reads, subst (λ n. HaveAdded number n (attempted serial attempt) attempts others) next have),
      are ∙ ap (with_ranges others) did.ran.reads ∙ sym (with_ranges_append did.added others old.reads),
    )

-- ---- open transactions

pub open_fresh : (maps : ℕ → Map) (reported store version : ℕ) → is_store_number store ≡ true → version ≤ reported → IsOpenTransaction maps reported (record { store = store; read_version = version; attempts = [] }) (fresh_request version)
open_fresh maps reported store version lawful below = record { store = lawful; at = refl; seen = below; done = refl }

pub open_grown : (maps : ℕ → Map) (reported : ℕ) (open_now : Open) (request new : CommitRequest) (refuses : KeyRange → ReadError → Type 0) (command : Command) (answer : Reply) →
    IsOpenTransaction maps reported open_now request → IsPerformed open_now.store maps refuses command answer request new →
    IsOpenTransaction maps reported (record open_now { attempts = open_now.attempts ++ (record { command = command; reply = answer }) ∷ [] }) new
open_grown maps reported open_now request new refuses command answer is performed = record {
  store = is.store;
  at = performed.ran.version ∙ is.at;
  seen = is.seen;
  done = done_append open_now.store maps open_now.attempts (record { command = command; reply = answer }) (fresh_request open_now.read_version) request new is.done (performed_did open_now.store maps refuses command answer request new performed);
}

pub open_changed : (maps : ℕ → Map) (reported : ℕ) (open_now : Open) (request : CommitRequest) → IsOpenTransaction maps reported open_now request → is_changed open_now.attempts ≡ not (length request.mutations == 0)
open_changed maps reported open_now request is = sym (done_changed open_now.store maps open_now.attempts (fresh_request open_now.read_version) request is.done)

pub open_elsewhere : (maps maps2 : ℕ → Map) (reported : ℕ) (open_now : Open) (request : CommitRequest) → ((v : ℕ) → v ≤ reported → maps v ≡ maps2 v) →
    IsOpenTransaction maps reported open_now request → IsOpenTransaction maps2 reported open_now request
open_elsewhere maps maps2 reported open_now request same is = record {
  store = is.store;
  at = is.at;
  seen = is.seen;
  done = done_elsewhere open_now.store maps maps2 open_now.attempts (fresh_request open_now.read_version) request (same open_now.read_version is.seen) is.done;
}

pub open_later : (maps : ℕ → Map) (reported later : ℕ) (open_now : Open) (request : CommitRequest) → reported ≤ later → IsOpenTransaction maps reported open_now request → IsOpenTransaction maps later open_now request
open_later maps reported later open_now request below is = record { store = is.store; at = is.at; seen = omega (arith, is.seen, below); done = is.done }
