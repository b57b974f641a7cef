-- What a step of a client replies and leaves, over plain values.
use Rattle.std.proofs.Common.{◌≡◌, ℕ, Bool, ◌<◌, ◌≤◌, true, false, cond, List, [], ◌∷◌, ◌++◌, length, get_or, refl, sym, ap, subst, subst₂, ◌∙◌, Option, Some, None, append-nil, arith}
use Rattle.std.specs.Prelude.{slice_set}
use Rattle.kv_core.specs.declared.change.CommitRequest.{CommitRequest}
use Rattle.schedule.specs.declared.refusal.Refusal.TheVariants.{NoSuchStore, NoTransaction}
use Rattle.cluster_core.specs.Cluster.{ClusterState, database_at, tier_of}
use Rattle.cluster_core.specs.History.{IsLegalOver}
use Rattle.cluster_core.specs.Roles.{history}
use Rattle.cluster_core.specs.Refusing.{MayRefuse}
use Rattle.record_store.specs.Layout.{is_store_number}
use Rattle.schedule.specs.declared.step.Command.{Command}
use Rattle.schedule.specs.declared.step.Step.TheVariants.{Begin, Perform, Commit, Abandon}
use Rattle.schedule.specs.declared.step.TheConstants.{CLIENTS}
use Rattle.schedule.specs.declared.reply.Reply.{Reply}
use Rattle.schedule.specs.declared.reply.Reply.TheVariants.{Begun, Done, Refused, Submitted}
use Rattle.schedule.specs.declared.database.Database.{Database}
use Rattle.schedule.specs.declared.database.OpenTransaction.{OpenTransaction}
use Rattle.schedule.specs.declared.database.Unreported.{Unreported}
use Rattle.schedule.specs.declared.transcript.CommitEntry.{CommitEntry}
use Rattle.schedule.specs.Past.{Past, Attempt, Open, Submission, grown, open_of, submitted_in, is_accepted, submission, submitted_after}
use Rattle.schedule.specs.Contract.{InTransaction, begin_reply, commit_reply}
use Rattle.schedule.specs.Exact.{IsReplyHeld}
use Rattle.schedule.specs.Performed.{IsPerformed}
use Rattle.schedule.specs.Standing.{cluster_stepped, commits_of}
use Rattle.txn.specs.Reads.{seen}
use Rattle.schedule.specs.Holds.{IsHeld, Stands}
use Rattle.schedule.specs.Known.{IsKnown, SeesSerial}
use Rattle.schedule.specs.Turns.{AreSubmitted, IsOpenTransaction, fresh_request}
use Rattle.schedule.specs.Running.{ArePlaces, IsOpen, IsPlace, IsPerformedBy, IsStanding, IsStandingAt, IsStepped, IsSubmit, StandsAfter, submitted_by}
use Rattle.schedule.proofs.Places.{accepted-append, changed_at, client_there, place_found, place_none, place_some, places_same, places_set, store_missing, store_there}
use Rattle.schedule.proofs.Composed.{command_right, open_sees_serial}
use Rattle.schedule.proofs.KnownStores.{none_known}
use Rattle.schedule.proofs.Turning.{open_fresh, open_grown}

-- only what clients have open changes
pub other_places : {c : ClusterState} {opens : ℕ → Option Open} {submissions : List Submission} {transactions : List (Option OpenTransaction)} {waiting : List Unreported} {entries : List CommitEntry} →
    (opens2 : ℕ → Option Open) (transactions2 : List (Option OpenTransaction)) →
    IsStandingAt c opens submissions transactions waiting entries → ArePlaces (database_at c) c.pipeline.reported opens2 transactions2 → IsStandingAt c opens2 submissions transactions2 waiting entries
other_places opens2 transactions2 s are = record {
  begun = s.begun;
  given = s.given;
  pulled = s.pulled;
  places = are;
  unreported = s.unreported;
  commits = s.commits;
  submitted = s.submitted;
}

-- nothing was submitted
pub none_added : (requests : List CommitRequest) → requests ≡ requests ++ []
none_added requests = sym (append-nil requests)

-- a client has a place
pub within_places : (d : Database) (client : ℕ) → client < CLIENTS → client < length d.transactions.items
within_places d client there = let places : d.transactions.len ≡ CLIENTS = d.place_each in let same : d.transactions.len ≡ length d.transactions.items = d.transactions.ok.0 in omega (arith, there, places, same)

-- a client's place was written, and all else stayed
pub record IsSet (old new : Database) (client : ℕ) (value : Option OpenTransaction) : Type 0 where
  pub cluster : new.cluster ≡ old.cluster
  pub transactions : new.transactions.items ≡ slice_set old.transactions.items client value
  pub unreported : new.unreported.items ≡ old.unreported.items
  pub commits : new.commits ≡ old.commits

pub standing_as : (opens : ℕ → Option Open) (submissions : List Submission) (d : Database) (c : ClusterState) (transactions : List (Option OpenTransaction)) (waiting : List Unreported) (entries : List CommitEntry) →
    d.cluster ≡ c → d.transactions.items ≡ transactions → d.unreported.items ≡ waiting → d.commits ≡ entries →
    IsStandingAt c opens submissions transactions waiting entries → IsStanding opens submissions d
standing_as opens submissions d c transactions waiting entries is_c is_ts is_ws is_es stands =
    subst (λ x. IsStandingAt x opens submissions d.transactions.items d.unreported.items d.commits) (sym is_c)
    (subst (λ x. IsStandingAt c opens submissions x d.unreported.items d.commits) (sym is_ts)
    (subst (λ x. IsStandingAt c opens submissions transactions x d.commits) (sym is_ws)
    (subst (λ x. IsStandingAt c opens submissions transactions waiting x) (sym is_es) stands)))

pub after_set : (old new : Database) (client : ℕ) (value : Option OpenTransaction) (change : Option Open → Option Open) (opens : ℕ → Option Open) (submissions : List Submission) →
    client < CLIENTS → IsSet old new client value → IsStanding opens submissions old → IsPlace (database_at old.cluster) old.cluster.pipeline.reported (change (opens client)) value →
    IsStanding (changed_at client change opens) submissions new
after_set old new client value change opens submissions there set s placed =
    standing_as (changed_at client change opens) submissions new old.cluster (slice_set old.transactions.items client value) old.unreported.items old.commits set.cluster set.transactions set.unreported set.commits
    (other_places (changed_at client change opens) (slice_set old.transactions.items client value) s
    (places_set (database_at old.cluster) old.cluster.pipeline.reported client change opens old.transactions.items value (within_places old client there) placed s.places))

-- what a client's place has
pub placed_at : (opens : ℕ → Option Open) (submissions : List Submission) (d : Database) (client : ℕ) (found : Option OpenTransaction) → client < CLIENTS → found ≡ get_or d.transactions.items client found →
    IsStanding opens submissions d → IsPlace (database_at d.cluster) d.cluster.pipeline.reported (opens client) found
placed_at opens submissions d client found there is s =
    subst (λ (o : Option OpenTransaction). IsPlace (database_at d.cluster) d.cluster.pipeline.reported (opens client) o) (place_found d.transactions.items client found (within_places d client there) is) (s.places client there)

-- nothing was submitted
pub same_requests : (old new : Database) → new.cluster ≡ old.cluster → new.cluster.pipeline.requests ≡ old.cluster.pipeline.requests ++ []
same_requests old new same = ap (λ (c : ClusterState). c.pipeline.requests) same ∙ none_added old.cluster.pipeline.requests

-- ---- begin

pub begin_steps : (old new : Database) (client number version : ℕ) (found : Option OpenTransaction) (transaction : OpenTransaction) → client < CLIENTS → is_store_number number ≡ true →
    found ≡ get_or old.transactions.items client found → found ≡ None → version ≡ old.cluster.pipeline.reported → transaction.store ≡ number → transaction.transaction ≡ fresh_request version → transaction.commands ≡ [] → transaction.opened ≡ None →
    IsSet old new client (Some transaction) → IsStepped (Begin client number) (Begun version) old new
begin_steps old new client number version found transaction there lawful is closed at in_store is_fresh none unopened set past s =
    let maps = database_at old.cluster in
    let placed : IsPlace maps old.cluster.pipeline.reported (open_of client past) None = subst (λ (o : Option OpenTransaction). IsPlace maps old.cluster.pipeline.reported (open_of client past) o) closed (placed_at _ _ old client found there is s) in
    let begun : Open = record { store = number; read_version = version; attempts = [] } in
    let now_open : IsOpen maps old.cluster.pipeline.reported begun transaction = record {
      store = in_store;
      done = subst (IsOpenTransaction maps old.cluster.pipeline.reported begun) (sym is_fresh) (open_fresh maps old.cluster.pipeline.reported number version lawful (omega (arith, at)));
      commands = none;
      known = none_known transaction.store maps transaction.opened transaction.transaction unopened;
    } in
    record {
      right = client_there client (Begun version) _ there (store_there number (Begun version) (Begun version ≡ begin_reply old.cluster (open_of client past)) lawful
          (ap Begun at ∙ sym (ap (begin_reply old.cluster) (place_none maps old.cluster.pipeline.reported (open_of client past) placed))));
      moved = λ more. sym set.cluster;
      added = [];
      grown = same_requests old new set.cluster;
      after = after_set old new client (Some transaction) (λ _. Some begun) (λ who. open_of who past) (submitted_in past) there set s now_open;
    }

-- there is no such store
pub begin_missing : (d : Database) (client number : ℕ) → client < CLIENTS → is_store_number number ≡ false → IsStepped (Begin client number) (Refused NoSuchStore) d d
begin_missing d client number there none past s = record {
  right = client_there client (Refused NoSuchStore) _ there (store_missing number (Refused NoSuchStore) (Refused NoSuchStore ≡ begin_reply d.cluster (open_of client past)) none refl);
  moved = λ more. refl;
  added = [];
  grown = none_added d.cluster.pipeline.requests;
  after = s;
}

-- ---- perform

-- an open transaction sees a store, or none
open_held : (c : ClusterState) → IsHeld c.base → (subs : List Submission) (open_now : Open) (transaction : OpenTransaction) → IsLegalOver c.base (history c.pipeline) →
    AreSubmitted (database_at c) c.pipeline.reported c.pipeline.start subs c.pipeline.requests → IsOpen (database_at c) c.pipeline.reported open_now transaction → SeesSerial transaction.store (database_at c) transaction.transaction
open_held c held subs open_now transaction legal are is =
    let sees = open_sees_serial c held.0 held.1 subs legal are open_now transaction.transaction is.done in (
      sees.0,
      subst (λ number. Stands number (seen transaction.transaction (database_at c transaction.transaction.read_version)) sees.0) (sym is.store)
          (subst (λ v. Stands open_now.store (seen transaction.transaction (database_at c v)) sees.0) (sym is.done.at) sees.1),
    )

pub perform_steps : (old new : Database) (stays_open : Bool) → (stays_open ≡ true → IsHeld old.cluster.base) → (client : ℕ) (command : Command) (reply : Reply) (found : Option OpenTransaction) (transaction after : OpenTransaction) → client < CLIENTS →
    found ≡ get_or old.transactions.items client found → found ≡ Some transaction → IsLegalOver old.cluster.base (history old.cluster.pipeline) → IsPerformedBy old.cluster stays_open command reply transaction after →
    IsSet old new client (Some after) → IsStepped (Perform client command) reply old new
perform_steps old new stays_open held client command reply found transaction after there is opened legal performed set past s =
    let maps = database_at old.cluster in
    let reported = old.cluster.pipeline.reported in
    let placed : IsPlace maps reported (open_of client past) (Some transaction) = subst (λ (o : Option OpenTransaction). IsPlace maps reported (open_of client past) o) opened (placed_at _ _ old client found there is s) in
    let (open_now, e, is_open) = place_some maps reported (open_of client past) transaction placed in
    let attempt : Attempt = record { command = command; reply = reply } in
    let here = subst (λ number. IsPerformed number maps (λ range. MayRefuse (tier_of old.cluster) range transaction.transaction.read_version) command reply transaction.transaction after.transaction) is_open.store performed.performed in
    let grows : IsOpen maps reported (record open_now { attempts = open_now.attempts ++ attempt ∷ [] }) after = record {
      store = performed.store ∙ is_open.store;
      done = open_grown maps reported open_now transaction.transaction after.transaction _ command reply is_open.done here;
      commands = performed.commands ∙ ap (λ cs. cs ++ cond (is_accepted reply) (command ∷ []) []) is_open.commands ∙ sym (accepted-append open_now.attempts attempt);
      known =
          subst (λ number. IsKnown number maps after.opened after.transaction) (sym performed.store)
          (performed.known (λ yes. open_held old.cluster (held yes) (submitted_in past) open_now transaction legal s.submitted is_open));
    } in
    record {
      right = client_there client reply _ there
          (subst (λ o. InTransaction o (λ now. IsReplyHeld old.cluster (commits_of old.cluster.pipeline (submitted_in past)) now command reply) reply) (sym e)
          (λ before holds. command_right old.cluster before holds (submitted_in past) legal s.submitted open_now transaction.transaction after.transaction command reply is_open.done here));
      moved = λ more. sym set.cluster;
      added = [];
      grown = same_requests old new set.cluster;
      after = after_set old new client (Some after) (grown attempt) (λ who. open_of who past) (submitted_in past) there set s
          (subst (λ o. IsPlace maps reported (grown attempt o) (Some after)) (sym e) grows);
    }

pub perform_none : (old new : Database) (client : ℕ) (command : Command) (found : Option OpenTransaction) → client < CLIENTS →
    found ≡ get_or old.transactions.items client found → found ≡ None → IsSet old new client found → IsStepped (Perform client command) (Refused NoTransaction) old new
perform_none old new client command found there is closed set past s =
    let maps = database_at old.cluster in
    let reported = old.cluster.pipeline.reported in
    let placed : IsPlace maps reported (open_of client past) None = subst (λ (o : Option OpenTransaction). IsPlace maps reported (open_of client past) o) closed (placed_at _ _ old client found there is s) in
    let e : open_of client past ≡ None = place_none maps reported (open_of client past) placed in
    let attempt : Attempt = record { command = command; reply = Refused NoTransaction } in
    record {
      right = client_there client (Refused NoTransaction) _ there
          (subst (λ o. InTransaction o (λ now. IsReplyHeld old.cluster (commits_of old.cluster.pipeline (submitted_in past)) now command (Refused NoTransaction)) (Refused NoTransaction)) (sym e) refl);
      moved = λ more. sym set.cluster;
      added = [];
      grown = same_requests old new set.cluster;
      after = after_set old new client found (grown attempt) (λ who. open_of who past) (submitted_in past) there set s
          (subst₂ (λ (o : Option Open) (f : Option OpenTransaction). IsPlace maps reported (grown attempt o) f) (sym e) (sym closed) tt);
    }

-- ---- abandon

abandon_done : (old new : Database) (client : ℕ) (found : Option OpenTransaction) (transaction : OpenTransaction) → client < CLIENTS → found ≡ get_or old.transactions.items client found →
    found ≡ Some transaction → IsSet old new client None → IsStepped (Abandon client) Done old new
abandon_done old new client found transaction there is opened set past s =
    let maps = database_at old.cluster in
    let reported = old.cluster.pipeline.reported in
    let placed : IsPlace maps reported (open_of client past) (Some transaction) = subst (λ (o : Option OpenTransaction). IsPlace maps reported (open_of client past) o) opened (placed_at _ _ old client found there is s) in
    let (open_now, e, is_open) = place_some maps reported (open_of client past) transaction placed in
    record {
      right = client_there client Done _ there (subst (λ o. InTransaction o (λ _. Done ≡ Done) Done) (sym e) refl);
      moved = λ more. sym set.cluster;
      added = [];
      grown = same_requests old new set.cluster;
      after = after_set old new client None (λ _. None) (λ who. open_of who past) (submitted_in past) there set s tt;
    }

abandon_none : (old new : Database) (client : ℕ) (found : Option OpenTransaction) → client < CLIENTS → found ≡ get_or old.transactions.items client found →
    found ≡ None → IsSet old new client None → IsStepped (Abandon client) (Refused NoTransaction) old new
abandon_none old new client found there is closed set past s =
    let maps = database_at old.cluster in
    let reported = old.cluster.pipeline.reported in
    let placed : IsPlace maps reported (open_of client past) None = subst (λ (o : Option OpenTransaction). IsPlace maps reported (open_of client past) o) closed (placed_at _ _ old client found there is s) in
    let e : open_of client past ≡ None = place_none maps reported (open_of client past) placed in
    record {
      right = client_there client (Refused NoTransaction) _ there (subst (λ o. InTransaction o (λ _. Refused NoTransaction ≡ Done) (Refused NoTransaction)) (sym e) refl);
      moved = λ more. sym set.cluster;
      added = [];
      grown = same_requests old new set.cluster;
      after =
          standing_as (λ who. open_of who past) (submitted_in past) new old.cluster (slice_set old.transactions.items client None) old.unreported.items old.commits set.cluster set.transactions set.unreported set.commits
          (other_places (λ who. open_of who past) (slice_set old.transactions.items client None) s
          (places_same maps reported client (λ who. open_of who past) old.transactions.items (within_places old client there) (place_found old.transactions.items client found (within_places old client there) is ∙ closed) s.places));
    }

pub abandon_steps : (old new : Database) (client : ℕ) (reply : Reply) (found : Option OpenTransaction) → client < CLIENTS → found ≡ get_or old.transactions.items client found →
    ((transaction : OpenTransaction) → found ≡ Some transaction → reply ≡ Done) → (found ≡ None → reply ≡ Refused NoTransaction) → IsSet old new client None → IsStepped (Abandon client) reply old new
abandon_steps old new client reply found there is done refused set = by_found found refl
  where
    by_found : (f : Option OpenTransaction) → found ≡ f → IsStepped (Abandon client) reply old new
    by_found None e = subst (λ r. IsStepped (Abandon client) r old new) (sym (refused e)) (abandon_none old new client found there is e set)
    by_found (Some transaction) e = subst (λ r. IsStepped (Abandon client) r old new) (sym (done transaction e)) (abandon_done old new client found transaction there is e set)

-- ---- commit

pub commit_none : (old new : Database) (client : ℕ) (found : Option OpenTransaction) → client < CLIENTS →
    found ≡ get_or old.transactions.items client found → found ≡ None → IsSet old new client None → IsStepped (Commit client) (Refused NoTransaction) old new
commit_none old new client found there is closed set past s =
    let maps = database_at old.cluster in
    let placed : IsPlace maps old.cluster.pipeline.reported (open_of client past) None = subst (λ (o : Option OpenTransaction). IsPlace maps old.cluster.pipeline.reported (open_of client past) o) closed (placed_at _ _ old client found there is s) in
    record {
      right = client_there client (Refused NoTransaction) _ there
          (subst (λ o. InTransaction o (λ now. Refused NoTransaction ≡ commit_reply old.cluster now) (Refused NoTransaction)) (sym (place_none maps old.cluster.pipeline.reported (open_of client past) placed)) refl);
      moved = λ more. sym set.cluster;
      added = [];
      grown = same_requests old new set.cluster;
      after = after_set old new client None (λ _. None) (λ who. open_of who past) (submitted_in past) there set s tt;
    }

submitted_same : (client : ℕ) (past : Past) (ended : Open) (reply : Reply) (before : List Submission) → open_of client past ≡ Some ended →
    submitted_by client ended reply before ≡ submitted_after (Commit client) reply past before
submitted_same client past ended (Submitted version) before e = ap (λ o. before ++ submission client version o) (sym e)
submitted_same client past ended reply before e = refl

-- an open transaction reads at a version that was reported
pub ended_seen : (old : Database) (client : ℕ) (found : Option OpenTransaction) (ended : OpenTransaction) → client < CLIENTS →
    found ≡ get_or old.transactions.items client found → found ≡ Some ended → (past : Past) × StandsAfter past old → ended.transaction.read_version ≤ old.cluster.pipeline.reported
ended_seen old client found ended there is opened (past, s) =
    let maps = database_at old.cluster in
    let reported = old.cluster.pipeline.reported in
    let placed : IsPlace maps reported (open_of client past) (Some ended) = subst (λ (o : Option OpenTransaction). IsPlace maps reported (open_of client past) o) opened (placed_at _ _ old client found there is s) in
    let (open_now, e, is_open) = place_some maps reported (open_of client past) ended placed in
    subst (λ version. version ≤ reported) (sym is_open.done.at) is_open.done.seen

-- what is known of an open transaction's store stands there
pub known_there : (old : Database) (client : ℕ) (found : Option OpenTransaction) (transaction : OpenTransaction) → client < CLIENTS →
    found ≡ get_or old.transactions.items client found → found ≡ Some transaction → (past : Past) × StandsAfter past old → IsKnown transaction.store (database_at old.cluster) transaction.opened transaction.transaction
known_there old client found transaction there is opened (past, s) =
    let maps = database_at old.cluster in
    let reported = old.cluster.pipeline.reported in
    let placed : IsPlace maps reported (open_of client past) (Some transaction) = subst (λ (o : Option OpenTransaction). IsPlace maps reported (open_of client past) o) opened (placed_at _ _ old client found there is s) in
    let (open_now, e, is_open) = place_some maps reported (open_of client past) transaction placed in
    is_open.known

pub commit_steps : (old mid new : Database) (client : ℕ) (reply : Reply) (found : Option OpenTransaction) (ended : OpenTransaction) → client < CLIENTS →
    found ≡ get_or old.transactions.items client found → found ≡ Some ended → IsSet old mid client None → IsSubmit client ended reply mid new → IsStepped (Commit client) reply old new
commit_steps old mid new client reply found ended there is opened set submits past s =
    let maps = database_at old.cluster in
    let reported = old.cluster.pipeline.reported in
    let placed : IsPlace maps reported (open_of client past) (Some ended) = subst (λ (o : Option OpenTransaction). IsPlace maps reported (open_of client past) o) opened (placed_at _ _ old client found there is s) in
    let (open_now, e, is_open) = place_some maps reported (open_of client past) ended placed in
    let between = after_set old mid client None (λ _. None) (λ who. open_of who past) (submitted_in past) there set s tt in
    let done = submits (changed_at client (λ _. None) (λ who. open_of who past)) (submitted_in past) open_now between (subst (λ (c : ClusterState). IsOpen (database_at c) c.pipeline.reported open_now ended) (sym set.cluster) is_open) in
    record {
      right = client_there client reply _ there (subst (λ o. InTransaction o (λ now. reply ≡ commit_reply old.cluster now) reply) (sym e) (done.right ∙ ap (λ c. commit_reply c open_now) set.cluster));
      moved = λ more. ap (cluster_stepped (new.cluster.pipeline.requests ++ more) (Commit client) reply) (sym set.cluster) ∙ done.moved more;
      added = done.added;
      grown = done.grown ∙ ap (λ (c : ClusterState). c.pipeline.requests ++ done.added) set.cluster;
      after = subst (λ subs. IsStanding (changed_at client (λ _. None) (λ who. open_of who past)) subs new) (submitted_same client past open_now reply (submitted_in past) e) done.after;
    }
