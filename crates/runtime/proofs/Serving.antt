-- What stands in the type of a log: its history is legal, and its map at each version holds the serial store.
use Rattle.std.proofs.Common.{◌≡◌, ℕ, suc, ◌+◌, ◌-◌, ◌<◌, ◌≤◌, Bool, true, false, cond, not, ◌==◌, nat_lt, List, [], ◌∷◌, ◌++◌, length, map, Option, None, Some, inl, inr, refl, sym, ap, ◌∙◌, subst, arith, append-nil, true≢false}
use Rattle.std.proofs.lemmas.Bool.Decides.{nat_tests}
use Rattle.std.proofs.lemmas.List.{length-map}
use Rattle.std.proofs.lemmas.List.Elements.{All-contains, All-from_recursion}
use Rattle.std.specs.List.{AllByRecursion}
use Rattle.std.specs.Option.{option_or}
use mathlib.Core.List.{IsPrefix}
use Rattle.kv_core.specs.Map.{Map, Agree}
use Rattle.kv_core.specs.Range.{KeyRange, has_keys}
use Rattle.kv_core.specs.declared.change.CommitRequest.{CommitRequest}
use Rattle.kv_core.specs.declared.change.Mutation.{Mutation}
use Rattle.runtime.specs.Origins.{Origin, base_of, stores_before}
use Rattle.kv_core.specs.declared.snapshot.ReadError.{ReadError}
use Rattle.kv_core.specs.declared.snapshot.ReadError.TheVariants as reads
use Rattle.cluster_core.specs.Configuration.{first_server_over, first_tier_over}
use Rattle.cluster_core.specs.Decision.{Owned, owners, numbered, cut, is_committed, logged}
use Rattle.cluster_core.specs.History as histories
use Rattle.cluster_core.specs.History.{IsLegalOver}
use Rattle.cluster_core.specs.Tier.{ServerState, TierState, absorb_each, absorb_all, after_log, first_refusal, refusal, refusal_of, whole_map}
use Rattle.cluster_core.proofs.Legality.{committed_is_legal_over}
use Rattle.cluster_core.proofs.Versions.{rising-numbered}
use Rattle.schedule.specs.declared.step.Command.{Command}
use Rattle.schedule.specs.declared.reply.Reply.{Reply}
use Rattle.schedule.specs.declared.reply.Reply.TheVariants.{Stopped}
use Rattle.schedule.specs.Exact.{IsSerialAt}
use Rattle.schedule.specs.Past.{Attempt, Open, Submission, is_changed}
use Rattle.schedule.specs.Performed.{IsCommandStopped, IsPerformed, IsReadRefusal}
use Rattle.schedule.specs.Turns.{AreDone, AreSubmitted, DidAttempt, IsOpenTransaction, fresh_request}
use Rattle.schedule.proofs.Composed.{holds_committed, open_served, performed_right, serial_all}
use Rattle.schedule.proofs.Promised.{all_answered, exact_indexes}
use Rattle.schedule.proofs.Submitting.{numbered_length}
use Rattle.schedule.proofs.Turning.{done_append, open_changed, open_grown}
use Rattle.runtime.specs.declared.log_entry.Entry.{Entry}
use Rattle.runtime.specs.declared.performed.Performed.{Performed}
use Rattle.runtime.specs.Traces.{Trace}
use Rattle.runtime.specs.Logs.{requests_of, version_of, numbered_of, history_of, log_map, pipeline_of}
use Rattle.runtime.specs.Logs.{logged_mutations, log_tier, submissions_of, committed_at}
use Rattle.runtime.specs.Logs.{HoldsEach, IsHeadlineOf, IsSerialLog, IsWellFormedLog, IsOpenOver, IsServedLog}
use Rattle.runtime.specs.Traces.{attempts_of, opened, with_performed}
use Rattle.runtime.specs.Serves.{IsAnswer, stopped}
use Rattle.cluster_core.specs.Refusing.{MayRefuse}
use Rattle.txn.specs.Runs.{Ran}
use Rattle.txn.proofs.Running.{ran_because}
use Rattle.runtime.proofs.Entries.{map_begins, version_begins}
use Rattle.runtime.proofs.ServersOver.{tier_has_base}

-- ---- legal, holds, serial

reads_below : (maps : ℕ → Map) (reported last : ℕ) (subs : List Submission) (requests : List CommitRequest) → AreSubmitted maps reported last subs requests →
    AllByRecursion (λ (e : histories.Entry). e.request.read_version < e.version) (numbered last requests)
reads_below maps reported last [] [] are = tt
reads_below maps reported last [] (request ∷ requests) are = absurd are
reads_below maps reported last (one ∷ subs) [] are = absurd are
reads_below maps reported last (one ∷ subs) (request ∷ requests) are = (are.0.below, reads_below maps reported (last + 1) subs requests are.1)

pub legal_of : (origin : Origin) (log : List Entry) → IsWellFormedLog origin log → IsLegalOver (base_of origin) (history_of origin log)
legal_of origin log law =
    committed_is_legal_over (base_of origin) origin.config.resolver_splits (numbered_of origin log) (rising-numbered origin.config.start (requests_of log))
    (All-from_recursion (λ (e : histories.Entry). e.request.read_version < e.version) (numbered_of origin log) (reads_below (log_map origin log) (version_of origin log) origin.config.start (submissions_of origin log) (requests_of log) law.submitted))

-- the map at each version holds of each store what the accepted commands of its committed entries up to there give
pub holds_of : (origin : Origin) (log : List Entry) → IsWellFormedLog origin log → HoldsEach origin log
holds_of origin log law v below = holds_committed (base_of origin) (pipeline_of origin log) (submissions_of origin log) (stores_before origin) law.begun.holds (legal_of origin log law) law.submitted v below

-- version order is a serial order
pub serial_of : (origin : Origin) (log : List Entry) → IsWellFormedLog origin log → IsSerialLog origin log
serial_of origin log law = serial_all (base_of origin) (pipeline_of origin log) (submissions_of origin log) (stores_before origin) law.begun.holds (legal_of origin log law) law.submitted

-- the requests were those of open transactions
submitted_open : (maps : ℕ → Map) (reported last : ℕ) (subs : List Submission) (requests : List CommitRequest) → AreSubmitted maps reported last subs requests →
    AllByRecursion (λ (one : Submission). (request : CommitRequest) × IsOpenTransaction maps reported one.transaction request) subs
submitted_open maps reported last [] requests are = tt
submitted_open maps reported last (one ∷ subs) [] are = absurd are
submitted_open maps reported last (one ∷ subs) (request ∷ requests) are = ((request, are.0.open_as), submitted_open maps reported (last + 1) subs requests are.1)

-- each accepted command has its reply at its transaction's read version
pub served_of : (origin : Origin) (log : List Entry) → IsWellFormedLog origin log → IsServedLog origin log
served_of origin log law transaction (one, there, is) =
    let open_as = All-contains WasOpen (submissions_of origin log) one
    (All-from_recursion WasOpen (submissions_of origin log) (submitted_open (log_map origin log) (version_of origin log) origin.config.start (submissions_of origin log) (requests_of log) law.submitted)) there in
    subst (λ (t : Open). IsSerialAt (committed_at origin log t.store t.read_version) t.attempts) is
    (open_served (base_of origin) (pipeline_of origin log) (submissions_of origin log) (stores_before origin) law.begun.holds (legal_of origin log law) law.submitted one.transaction open_as.0 open_as.1)
  where
    WasOpen : Submission → Type 0
    WasOpen one = (request : CommitRequest) × IsOpenTransaction (log_map origin log) (version_of origin log) one.transaction request

-- the headline
pub headline_of : (origin : Origin) (log : List Entry) → IsWellFormedLog origin log → IsHeadlineOf origin log
headline_of origin log law = record {
  rows = λ transaction of_log. all_answered (committed_at origin log transaction.store transaction.read_version) transaction.attempts (served_of origin log law transaction of_log);
  indexes = λ number lawful version from upto. exact_indexes number (log_map origin log version) (committed_at origin log number version) ((holds_of origin log law version upto).each number lawful);
}

-- ---- what the servers that have pulled a log answer

log_length : (origin : Origin) (log : List Entry) → length (logged_mutations origin log) ≡ length (requests_of log)
log_length origin log = length-map (numbered_of origin log) (logged (is_committed origin.config.resolver_splits (numbered_of origin log))) ∙ numbered_length origin.config.start (requests_of log)

pub tier_map : (origin : Origin) (log : List Entry) (v : ℕ) → origin.config.start ≤ v → v ≤ version_of origin log → version_of origin log - v ≤ origin.config.window → whole_map (log_tier origin log) v ≡ log_map origin log v
tier_map origin log v from upto near = tier_has_base (base_of origin) origin.config (requests_of log) v from upto near

-- the servers of these owners stand at this version
abbrev AreAtVersion : ℕ → List Owned → List ServerState → Type 0
AreAtVersion n [] servers = Unit {0}
AreAtVersion n (owner ∷ others) [] = Unit {0}
AreAtVersion n (owner ∷ others) (server ∷ servers) = (server.version ≡ n) × AreAtVersion n others servers

pulled_each : (window n : ℕ) (ms : List Mutation) (os : List Owned) (ss : List ServerState) → AreAtVersion n os ss → AreAtVersion (n + 1) os (absorb_each window ms os ss)
pulled_each window n ms [] ss at = tt
pulled_each window n ms (owner ∷ others) [] at = tt
pulled_each window n ms (owner ∷ others) (server ∷ servers) at = (ap (λ k. k + 1) at.0, pulled_each window n ms others servers at.1)

pulled_log : (log : List (List Mutation)) (tier : TierState) (n : ℕ) → AreAtVersion n (owners tier.splits) tier.servers → AreAtVersion (n + length log) (owners tier.splits) (after_log log tier).servers
pulled_log [] tier n at = let e : n ≡ n + 0 = omega arith in subst (λ k. AreAtVersion k (owners tier.splits) tier.servers) e at
pulled_log (ms ∷ log) tier n at =
    let e : (n + 1) + length log ≡ n + suc (length log) = omega arith in
    subst (λ k. AreAtVersion k (owners tier.splits) (after_log log (absorb_all ms tier)).servers) e (pulled_log log (absorb_all ms tier) (n + 1) (pulled_each tier.window n ms (owners tier.splits) tier.servers at))

same_frame : (log : List (List Mutation)) (tier : TierState) → ((after_log log tier).splits ≡ tier.splits) × ((after_log log tier).window ≡ tier.window)
same_frame [] tier = (refl, refl)
same_frame (ms ∷ log) tier = same_frame log (absorb_all ms tier)

first_at : (base : Map) (start : ℕ) (os : List Owned) → AreAtVersion start os (map (first_server_over base start) os)
first_at base start [] = tt
first_at base start (owner ∷ others) = (refl, first_at base start others)

none_of : (window version v : ℕ) → v ≤ version → version - v ≤ window → cond (nat_lt version v) (Some reads.FutureVersion) (cond (nat_lt window (version - v)) (Some reads.TooOld) None) ≡ None
none_of window version v upto near =
    let one : nat_lt version v ≡ false = grind (arith, nat_tests) in
    let two : nat_lt window (version - v) ≡ false = grind (arith, nat_tests) in
    rw (one, two) refl

none_among : (window n v : ℕ) (range : KeyRange) (os : List Owned) (ss : List ServerState) → AreAtVersion n os ss → v ≤ n → n - v ≤ window → first_refusal window range v os ss ≡ None
none_among window n v range [] ss at upto near = refl
none_among window n v range (owner ∷ others) [] at upto near = refl
none_among window n v range (owner ∷ others) (server ∷ servers) at upto near =
    by_test (has_keys (cut owner range)) (refusal_of window server v) (none_of window server.version v (omega (arith, at.0, upto)) (omega (arith, at.0, near))) (none_among window n v range others servers at.1 upto near)
  where
    by_test : (b : Bool) (r : Option ReadError) → r ≡ None → first_refusal window range v others servers ≡ None →
        cond b (option_or r (first_refusal window range v others servers)) (first_refusal window range v others servers) ≡ None
    by_test true r here rest = ap (λ o. option_or o (first_refusal window range v others servers)) here ∙ rest
    by_test false r here rest = rest

-- servers that have pulled a log refuse no read at its versions within the window
pub tier_answers : (origin : Origin) (log : List Entry) (range : KeyRange) (v : ℕ) → v ≤ version_of origin log → version_of origin log - v ≤ origin.config.window → refusal (log_tier origin log) range v ≡ None
tier_answers origin log range v upto near =
    let frame = same_frame (logged_mutations origin log) (first_tier_over (base_of origin) origin.config) in
    let n = log_length origin log in
    (λ i. first_refusal (frame.1 i) range v (owners (frame.0 i)) (log_tier origin log).servers)
    ∙ none_among origin.config.window (origin.config.start + length (logged_mutations origin log)) v range (owners origin.config.storage_splits) (log_tier origin log).servers
    (pulled_log (logged_mutations origin log) (first_tier_over (base_of origin) origin.config) origin.config.start (first_at (base_of origin) origin.config.start (owners origin.config.storage_splits))) (omega (arith, n, upto)) (omega (arith, n, near))

-- ---- a command that was performed over servers that have pulled more than the transaction's log

-- where no read is refused, no reply is that of a refused read
unrefused : (refuses : KeyRange → ReadError → Type 0) (within : List KeyRange) (answer : Reply) → ((range : KeyRange) (error : ReadError) → refuses range error → ⊥) → IsReadRefusal refuses within answer → ⊥
unrefused refuses within answer none is = none is.refused.range is.error is.refused.refused

-- the map at the read version alone matters
ran_elsewhere : (maps maps2 : ℕ → Map) {added : List KeyRange} {old new : CommitRequest} {wrote : List Mutation} {Fact : Map → Type 0} → maps old.read_version ≡ maps2 old.read_version →
    Ran maps added old new wrote Fact → Ran maps2 added old new wrote Fact
ran_elsewhere maps maps2 {new = new} same ran = record {
  version = ran.version;
  wrote = ran.wrote;
  reads = ran.reads;
  over = λ m agree. ran.over m (subst (λ (base : Map). Agree new.reads base m) (sym same) agree);
}

performed_elsewhere : (number : ℕ) (maps maps2 : ℕ → Map) (refuses : KeyRange → ReadError → Type 0) (command : Command) (answer : Reply) (old new : CommitRequest) → maps old.read_version ≡ maps2 old.read_version →
    IsPerformed number maps refuses command answer old new → IsPerformed number maps2 refuses command answer old new
performed_elsewhere number maps maps2 refuses command answer old new same performed = record {
  opened = performed.opened;
  added = performed.added;
  written = performed.written;
  changes = performed.changes;
  ran = ran_elsewhere maps maps2 same performed.ran;
}

-- a command that stopped did what one does that has not read all
stopped_did : (number : ℕ) (maps : ℕ → Map) (command : Command) (old new : CommitRequest) → IsCommandStopped number maps command old new → DidAttempt number maps (record { command = command; reply = Stopped }) old new
stopped_did number maps command old new is = record {
  added = is.added;
  written = [];
  changes = refl;
  ran = ran_because is.ran (λ m part serial holds. record { replied = λ accepted_so. absurd (true≢false (sym accepted_so)); wrote = refl; holds = holds; reads = part.held serial holds });
}

attempts_more : (done : List Performed) (one : Performed) → attempts_of (done ++ one ∷ []) ≡ attempts_of done ++ (record { command = one.command; reply = one.reply }) ∷ []
attempts_more [] one = refl
attempts_more (x ∷ xs) one = ap (λ (l : List Attempt). (record { command = x.command; reply = x.reply }) ∷ l) (attempts_more xs one)

abbrev attempt_of : Performed → Attempt
attempt_of one = record { command = one.command; reply = one.reply }

did_elsewhere : (number : ℕ) (maps maps2 : ℕ → Map) (attempt : Attempt) (old new : CommitRequest) → maps old.read_version ≡ maps2 old.read_version → DidAttempt number maps attempt old new → DidAttempt number maps2 attempt old new
did_elsewhere number maps maps2 attempt old new same did = record { added = did.added; written = did.written; changes = did.changes; ran = ran_elsewhere maps maps2 same did.ran }

none_some : (o : Option ReadError) {e : ReadError} → o ≡ None → o ≡ Some e → ⊥
none_some None none some = cc
none_some (Some x) none some = cc

-- the map of servers that have pulled a longer log is the log's own at a version that they tell
pub same_map : (origin : Origin) (log ys : List Entry) (version : ℕ) → IsPrefix log ys → version ≤ version_of origin log → origin.config.start ≤ version → version_of origin ys - version ≤ origin.config.window →
    whole_map (log_tier origin ys) version ≡ log_map origin log version
same_map origin log ys version begins seen from near =
    tier_map origin ys version from (let l = version_begins origin log ys begins in omega (arith, seen, l)) near ∙ map_begins origin log ys version begins seen

-- the transaction's facts stand over its own log, and the reply is the serial store's for what it sees there
pub answers_right : (origin : Origin) (log ys : List Entry) (old new : CommitRequest) (trace : Trace) (command : Command) (answer : Reply) → IsWellFormedLog origin log → IsPrefix log ys → IsOpenOver origin log old trace → origin.config.start ≤ old.read_version →
    version_of origin ys - old.read_version ≤ origin.config.window → IsPerformed trace.store (whole_map (log_tier origin ys)) (λ range. MayRefuse (log_tier origin ys) range old.read_version) command answer old new →
    IsOpenOver origin log new (with_performed trace (record { command = command; reply = answer })) × IsAnswer origin log old trace command answer × (new.read_version ≡ old.read_version)
answers_right origin log ys old new trace command answer law begins over from near performed =
    let seen : old.read_version ≤ version_of origin log = over.seen in
    let reached : old.read_version ≤ version_of origin ys = let l = version_begins origin log ys begins in omega (arith, seen, l) in
    let same : whole_map (log_tier origin ys) old.read_version ≡ log_map origin log old.read_version = same_map origin log ys old.read_version begins seen from near in
    let here : IsPerformed trace.store (log_map origin log) (λ range. MayRefuse (log_tier origin ys) range old.read_version) command answer old new = performed_elsewhere trace.store (whole_map (log_tier origin ys)) (log_map origin log) _ command answer old new same performed in
    let grown = open_grown (log_map origin log) (version_of origin log) (opened old trace) old new (λ range. MayRefuse (log_tier origin ys) range old.read_version) command answer over here in
    let right = performed_right (base_of origin) (pipeline_of origin log) (submissions_of origin log) (stores_before origin) law.begun.holds (legal_of origin log law) law.submitted (opened old trace) old new (λ v range. MayRefuse (log_tier origin ys) range v) command answer over here in
    let version : new.read_version ≡ old.read_version = performed.ran.version in (
      subst (λ (o : Open). IsOpenTransaction (log_map origin log) (version_of origin log) o new) (λ i. record { store = trace.store; read_version = sym version i; attempts = sym (attempts_more trace.attempts.list (record { command = command; reply = answer })) i }) grown,
      elim right [
        | inl served ↦ served
        | inr refused ↦ absurd (unrefused (λ range. MayRefuse (log_tier origin ys) range old.read_version) _ answer (λ range error is. none_some (refusal (log_tier origin ys) range old.read_version) (tier_answers origin ys range old.read_version reached near) is) refused)
      ],
      version,
    )

-- the transaction goes on where a command stopped
pub stops_right : (origin : Origin) (log ys : List Entry) (old new : CommitRequest) (trace : Trace) (command : Command) → IsPrefix log ys → IsOpenOver origin log old trace → origin.config.start ≤ old.read_version →
    version_of origin ys - old.read_version ≤ origin.config.window → IsCommandStopped trace.store (whole_map (log_tier origin ys)) command old new →
    IsOpenOver origin log new (with_performed trace (stopped command)) × (new.mutations ≡ old.mutations) × (new.read_version ≡ old.read_version)
stops_right origin log ys old new trace command begins over from near is =
    let same : whole_map (log_tier origin ys) old.read_version ≡ log_map origin log old.read_version = same_map origin log ys old.read_version begins over.seen from near in
    let did = did_elsewhere trace.store (whole_map (log_tier origin ys)) (log_map origin log) (attempt_of (stopped command)) old new same (stopped_did trace.store (whole_map (log_tier origin ys)) command old new is) in
    let version : new.read_version ≡ old.read_version = is.ran.version in (
      record {
        store = over.store;
        at = refl;
        seen = subst (λ (v : ℕ). v ≤ version_of origin log) (sym version) over.seen;
        done = subst (λ (attempts : List Attempt). AreDone trace.store (log_map origin log) attempts (fresh_request new.read_version) new) (sym (attempts_more trace.attempts.list (stopped command)))
            (done_append trace.store (log_map origin log) (attempts_of trace.attempts.list) (attempt_of (stopped command)) (fresh_request new.read_version) old new
            (subst (λ (v : ℕ). AreDone trace.store (log_map origin log) (attempts_of trace.attempts.list) (fresh_request v) old) (sym version) over.done) did);
      },
      is.ran.wrote ∙ append-nil old.mutations,
      version,
    )

-- a transaction without mutations has changed nothing
pub unchanged : (origin : Origin) (log : List Entry) (request : CommitRequest) (trace : Trace) → IsOpenOver origin log request trace → request.mutations ≡ [] → is_changed (attempts_of trace.attempts.list) ≡ false
unchanged origin log request trace over none = open_changed (log_map origin log) (version_of origin log) (opened request trace) request over ∙ ap (λ (ms : List Mutation). not (length ms == 0)) none

none_of_none : (ms : List Mutation) → not (length ms == 0) ≡ false → ms ≡ []
none_of_none [] h = refl
none_of_none (m ∷ ms) h = let some : (suc (length ms) == 0) ≡ false = grind (arith, nat_tests) in absurd (true≢false (ap not (sym some) ∙ h))

-- one that has changed nothing has none
pub nothing_written : (origin : Origin) (log : List Entry) (request : CommitRequest) (trace : Trace) → IsOpenOver origin log request trace → is_changed (attempts_of trace.attempts.list) ≡ false → request.mutations ≡ []
nothing_written origin log request trace over none = none_of_none request.mutations (sym (open_changed (log_map origin log) (version_of origin log) (opened request trace) request over) ∙ none)
