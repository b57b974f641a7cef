-- What the submitted transactions come to: the database holds of each store what is committed at each version, and nothing else, and version order is a serial order.
use Rattle.std.proofs.Common.{◌≡◌, ℕ, suc, ◌+◌, ◌-◌, ◌≤◌, Bool, true, false, cond, ◌&&◌, ◌==◌, ◌⊎◌, inl, inr, List, [], ◌∷◌, map, slice_get, refl, sym, ap, subst, ◌∙◌, Option, Some, None, arith, nat_le, is_none, fold}
use Rattle.std.specs.List.{All, AllByRecursion, filter}
use Rattle.std.specs.Option.{option_map_or}
use Rattle.std.specs.FinMap.{get}
use Rattle.std.proofs.lemmas.Bool.{le-leb, leb-true, true≢false}
use Rattle.std.proofs.lemmas.List.Elements.{recursion_from_All, All-from_recursion}
use Rattle.kv_core.specs.Range.{KeyRange}
use Rattle.kv_core.specs.Map.{Map, after_all}
use Rattle.kv_core.specs.declared.change.CommitRequest.{CommitRequest}
use Rattle.cluster_core.specs.Cluster.{ClusterState, database_at, tier_of}
use Rattle.cluster_core.specs.History.{Entry, map_over, IsRising, IsLegalOver}
use Rattle.cluster_core.specs.Decision.{numbered, cause, is_committed}
use Rattle.cluster_core.specs.Roles.{PipelineState, entries, history, outcome, told, told_of}
use Rattle.cluster_core.specs.Serial.{after_commands, AllReplied, Replays, state_at}
use Rattle.cluster_core.specs.Refusing.{MayRefuse}
use Rattle.cluster_core.proofs.Causes.{cause_decides}
use Rattle.cluster_core.proofs.Composition.{holds_at, replied_at}
use Rattle.cluster_core.proofs.Versions.{rising-filter, rising-numbered}
use Rattle.txn.specs.Reads.{seen}
use Rattle.schedule.specs.declared.step.Command.{Command}
use Rattle.schedule.specs.declared.reply.Reply.{Reply}
use Rattle.schedule.specs.declared.transcript.CommitEntry.{CommitEntry}
use Rattle.record_store.specs.Store.{Serial}
use Rattle.schedule.specs.Serve.{effects}
use Rattle.schedule.specs.Past.{Open, Submission, accepted}
use Rattle.schedule.specs.Holds.{HoldsAll, Stands, Stores}
use Rattle.schedule.specs.Reach.{opened_in, reach}
use Rattle.schedule.specs.Performed.{IsServed, IsReadRefusal, IsPerformed}
use Rattle.schedule.specs.Commits.{committed_over, is_of_upto, view_over}
use Rattle.schedule.specs.Standing.{is_told, is_listed, listed, commit_entry, commits_of}
use Rattle.schedule.specs.Contract.{EachRequest, HoldsCommitted, HoldsOver}
use Rattle.schedule.specs.Exact.{commands_written, AreReads, IsExactReply, IsExactRequest, IsSerial, IsSerialAt}
use Rattle.schedule.specs.Turns.{fresh_request, IsOpenTransaction, AreSubmitted}
use Rattle.schedule.proofs.Turning.{attempts_effects, done_serve, done_writes, done_reads}
use Rattle.schedule.proofs.OwnStore.{Replied, Turn, all_after, served, turned}

-- told to be committed is what has no cause against it
told_committed : (why : Option Rattle.cluster_core.specs.Decision.Cause) (version : ℕ) → is_told (told why version) ≡ is_none why
told_committed None version = refl
told_committed (Some why) version = refl

module _ (base : Map) (p : PipelineState) (subs : List Submission) where
  abbrev maps : ℕ → Map
  maps version = map_over base (history p) version

  abbrev turn_of : Submission → List Turn
  turn_of one = (one.transaction.store, one.transaction.attempts) ∷ []

  -- the turn of the submission of an entry
  abbrev commands_of : Entry → List Turn
  commands_of entry = option_map_or turn_of (slice_get subs (entry.version - p.start - 1)) []

  -- an entry and its submission
  record IsPair (entry : Entry) (one : Submission) : Type 0 where
    same_version : entry.version ≡ one.version
    commands : commands_of entry ≡ turn_of one
    open_as : IsOpenTransaction maps p.reported one.transaction entry.request
    same_end : is_told (outcome p one.version) ≡ is_committed p.splits (entries p) entry

  abbrev ArePairs : List Entry → List Submission → Type 0
  ArePairs [] [] = Unit {0}
  ArePairs (entry ∷ es) (one ∷ ss) = IsPair entry one × ArePairs es ss
  ArePairs es ss = ⊥

  pairs_from : (n : ℕ) (ss : List Submission) (requests : List CommitRequest) → AreSubmitted maps p.reported (p.start + n) ss requests →
      ((i : ℕ) → slice_get subs (n + i) ≡ slice_get ss i) → ((i : ℕ) → slice_get (entries p) (n + i) ≡ slice_get (numbered (p.start + n) requests) i) →
      ArePairs (numbered (p.start + n) requests) ss
  pairs_from n [] [] are in_subs in_entries = tt
  pairs_from n [] (request ∷ requests) are in_subs in_entries = absurd are
  pairs_from n (one ∷ ss) [] are in_subs in_entries = absurd are
  pairs_from n (one ∷ ss) (request ∷ requests) are in_subs in_entries = (
    record {
      same_version = sym at;
      commands = ap (λ place. option_map_or turn_of (slice_get subs place) []) place_is ∙ ap (λ o. option_map_or turn_of o []) (in_subs 0);
      open_as = are.0.open_as;
      same_end = ap (λ v. is_told (told_of p (slice_get (entries p) (v - p.start - 1)))) at
          ∙ ap (λ place. is_told (told_of p (slice_get (entries p) place))) place_is ∙ ap (λ o. is_told (told_of p o)) (in_entries 0)
          ∙ told_committed (cause p.splits (entries p) entry) entry.version ∙ sym (cause_decides p.splits (entries p) entry);
    },
    subst (λ last. ArePairs (numbered last requests) ss) (sym next)
        (pairs_from (suc n) ss requests (subst (λ last. AreSubmitted maps p.reported last ss requests) next are.1)
        (λ i. ap (slice_get subs) (shift i) ∙ in_subs (suc i))
        (λ i. ap (slice_get (entries p)) (shift i) ∙ in_entries (suc i) ∙ ap (λ last. slice_get (numbered last requests) i) next)),
  )
    where
      entry : Entry
      entry = record { version = p.start + n + 1; request = request }

      at : one.version ≡ p.start + n + 1
      at = are.0.given

      place_is : (p.start + n + 1) - p.start - 1 ≡ n + 0
      place_is = omega arith

      next : p.start + n + 1 ≡ p.start + suc n
      next = omega arith

      shift : (i : ℕ) → suc n + i ≡ n + suc i
      shift i = omega arith

  -- ---- what is there at a version, by the history and by the committed transactions

  abbrev after_entry : Stores → Entry → Stores
  after_entry stores entry = after_commands HoldsAll Replied turned stores (commands_of entry)

  abbrev after_commit : Serial → CommitEntry → Serial
  after_commit serial one = effects serial one.commands

  abbrev passing : List Entry → List Entry
  passing es = filter (is_committed p.splits (entries p)) es

  abbrev entries_upto : ℕ → List Entry → List Entry
  entries_upto v es = filter (λ (e : Entry). nat_le e.version v) (passing es)

  module _ (number : ℕ) where
    abbrev commits_upto : ℕ → List Submission → List CommitEntry
    commits_upto v ss = filter (is_of_upto number v) (map commit_entry (filter (is_listed p) ss))

    states_same : (v : ℕ) → v ≤ p.reported → (es : List Entry) (ss : List Submission) → ArePairs es ss → (stores : Stores) (serial : Serial) → stores number ≡ serial →
        fold after_entry stores (entries_upto v es) number ≡ fold after_commit serial (commits_upto v ss)
    states_same v below [] [] pairs stores serial same = same
    states_same v below [] (one ∷ ss) pairs stores serial same = absurd pairs
    states_same v below (entry ∷ es) [] pairs stores serial same = absurd pairs
    states_same v below (entry ∷ es) (one ∷ ss) (pair, pairs) stores serial same =
        ap (λ xs. fold after_entry stores xs number) (left (is_committed p.splits (entries p) entry))
        ∙ by_test (is_committed p.splits (entries p) entry) (nat_le entry.version v) (nat_le one.version p.reported) own shown step (states_same v below es ss pairs)
        ∙ (λ i. fold after_commit serial (cond (nat_le one.version p.reported && sym pair.same_end i) (cond (own && nat_le (pair.same_version i) v) (commit_entry one ∷ commits_upto v ss) (commits_upto v ss)) (commits_upto v ss)))
        ∙ ap (fold after_commit serial) (sym (right (nat_le one.version p.reported && is_told (outcome p one.version))))
      where
        own : Bool
        own = one.transaction.store == number

        left : (b : Bool) → filter (λ (e : Entry). nat_le e.version v) (cond b (entry ∷ passing es) (passing es)) ≡ cond b (cond (nat_le entry.version v) (entry ∷ entries_upto v es) (entries_upto v es)) (entries_upto v es)
        left true = refl
        left false = refl

        right : (b : Bool) → filter (is_of_upto number v) (map commit_entry (cond b (one ∷ filter (is_listed p) ss) (filter (is_listed p) ss)))
            ≡ cond b (cond (own && nat_le one.version v) (commit_entry one ∷ commits_upto v ss) (commits_upto v ss)) (commits_upto v ss)
        right true = refl
        right false = refl

        shown : nat_le entry.version v ≡ true → nat_le one.version p.reported ≡ true
        shown h = let at : entry.version ≡ one.version = pair.same_version in let e : entry.version ≤ v = leb-true entry.version v h in le-leb one.version p.reported (omega (arith, at, e, below))

        step : after_entry stores entry number ≡ cond own (after_commit serial (commit_entry one)) serial
        step =
            ap (λ turns. after_commands HoldsAll Replied turned stores turns number) pair.commands
            ∙ ap (λ t. cond own t (stores number)) (attempts_effects (stores number) one.transaction.attempts)
            ∙ ap (λ s. cond own (after_commit s (commit_entry one)) s) same

        by_test : (b u r w : Bool) → (u ≡ true → r ≡ true) → after_entry stores entry number ≡ cond w (after_commit serial (commit_entry one)) serial →
            ((t : Stores) (s : Serial) → t number ≡ s → fold after_entry t (entries_upto v es) number ≡ fold after_commit s (commits_upto v ss)) →
            fold after_entry stores (cond b (cond u (entry ∷ entries_upto v es) (entries_upto v es)) (entries_upto v es)) number
            ≡ fold after_commit serial (cond (r && b) (cond (w && u) (commit_entry one ∷ commits_upto v ss) (commits_upto v ss)) (commits_upto v ss))
        by_test false u true w so now rest = rest stores serial same
        by_test false u false w so now rest = rest stores serial same
        by_test true true true true so now rest = rest (after_entry stores entry) (after_commit serial (commit_entry one)) now
        by_test true true true false so now rest = rest (after_entry stores entry) serial now
        by_test true true false w so now rest = absurd (true≢false (sym (so refl)))
        by_test true false true true so now rest = rest stores serial same
        by_test true false true false so now rest = rest stores serial same
        by_test true false false w so now rest = rest stores serial same

  -- ---- the submissions of a cluster whose history is legal

  module _ (before : Stores) (held : HoldsAll base before) (legal : IsLegalOver base (history p)) (are : AreSubmitted maps p.reported p.start subs p.requests) where
    pairs_now : ArePairs (entries p) subs
    pairs_now = subst (λ last. ArePairs (numbered last p.requests) subs) (sym here)
        (pairs_from 0 subs p.requests (subst (λ last. AreSubmitted maps p.reported last subs p.requests) here are) (λ i. ap (slice_get subs) (none_added i)) (λ i. ap (slice_get (entries p)) (none_added i) ∙ ap (λ last. slice_get (numbered last p.requests) i) here))
      where
        none_added : (i : ℕ) → 0 + i ≡ i
        none_added i = omega arith

        here : p.start ≡ p.start + 0
        here = omega arith

    one_replays : (entry : Entry) (one : Submission) → IsPair entry one → Replays HoldsAll Replied turned commands_of base (history p) entry
    one_replays entry one pair m stores holds agree =
        let open_as = pair.open_as in (
          subst (AllReplied HoldsAll Replied turned stores) (sym pair.commands) ((served maps one.transaction entry.request p.reported open_as m stores holds agree).0, tt),
          subst (λ turns. HoldsAll (after_all entry.request.mutations m) (after_commands HoldsAll Replied turned stores turns)) (sym pair.commands) (all_after maps one.transaction entry.request p.reported open_as m stores holds agree),
        )

    each_replays : (es : List Entry) (ss : List Submission) → ArePairs es ss → AllByRecursion (Replays HoldsAll Replied turned commands_of base (history p)) (passing es)
    each_replays [] [] pairs = tt
    each_replays [] (one ∷ ss) pairs = absurd pairs
    each_replays (entry ∷ es) [] pairs = absurd pairs
    each_replays (entry ∷ es) (one ∷ ss) (pair, pairs) = by_test (is_committed p.splits (entries p) entry) (one_replays entry one pair) (each_replays es ss pairs)
      where
        by_test : (b : Bool) → Replays HoldsAll Replied turned commands_of base (history p) entry → AllByRecursion (Replays HoldsAll Replied turned commands_of base (history p)) (passing es) →
            AllByRecursion (Replays HoldsAll Replied turned commands_of base (history p)) (cond b (entry ∷ passing es) (passing es))
        by_test true now rest = (now, rest)
        by_test false now rest = rest

    replays : All (Replays HoldsAll Replied turned commands_of base (history p)) (history p)
    replays = All-from_recursion (Replays HoldsAll Replied turned commands_of base (history p)) (history p) (each_replays (entries p) subs pairs_now)

    rising : IsRising (history p)
    rising = rising-filter (is_committed p.splits (entries p)) (entries p) (rising-numbered p.start p.requests)

    -- what is there of each store at a version, by the history
    abbrev stores_at : ℕ → Stores
    stores_at v = state_at HoldsAll Replied turned commands_of before (history p) v

    state_is : (number v : ℕ) → v ≤ p.reported → stores_at v number ≡ committed_over before number (commits_of p subs) v
    state_is number v below = states_same number v below (entries p) subs pairs_now before (before number) refl

    -- HOLDS: the map at each version up to the last reported one holds of each store what is committed there, and nothing else
    pub holds_committed : (v : ℕ) → v ≤ p.reported → HoldsOver before (commits_of p subs) v (maps v)
    holds_committed v below =
        let all = holds_at HoldsAll Replied turned commands_of base before held (history p) rising legal replays v in
        record { each = λ number lawful. subst (Stands number (maps v)) (state_is number v below) (all.each number lawful); nothing_else = all.nothing_else }

    -- SERIAL: each listed transaction has its replies just before its version
    serial_each : (es : List Entry) (ss : List Submission) → ArePairs es ss →
        AllByRecursion (λ (e : Entry). AllReplied HoldsAll Replied turned (stores_at (e.version - 1)) (commands_of e)) (passing es) →
        AllByRecursion (λ (one : Submission). IsSerialAt (committed_over before one.transaction.store (commits_of p subs) (one.version - 1)) one.transaction.attempts) (filter (is_listed p) ss)
    serial_each [] [] pairs all = tt
    serial_each [] (one ∷ ss) pairs all = absurd pairs
    serial_each (entry ∷ es) [] pairs all = absurd pairs
    serial_each (entry ∷ es) (one ∷ ss) (pair, pairs) all =
        subst (λ b. AllByRecursion Y (cond (nat_le one.version p.reported && b) (one ∷ filter (is_listed p) ss) (filter (is_listed p) ss))) (sym pair.same_end)
        (by_test (is_committed p.splits (entries p) entry) (nat_le one.version p.reported) refl all (serial_each es ss pairs))
      where
        X : Entry → Type 0
        X e = AllReplied HoldsAll Replied turned (stores_at (e.version - 1)) (commands_of e)

        Y : Submission → Type 0
        Y s = IsSerialAt (committed_over before s.transaction.store (commits_of p subs) (s.version - 1)) s.transaction.attempts

        here : nat_le one.version p.reported ≡ true → X entry → Y one
        here h x =
            let below : one.version ≤ p.reported = leb-true one.version p.reported h in
            let at : entry.version ≡ one.version = pair.same_version in
            subst (λ s. IsSerialAt s one.transaction.attempts) (ap (λ v. stores_at (v - 1) one.transaction.store) at ∙ state_is one.transaction.store (one.version - 1) (omega (arith, below)))
            (subst (AllReplied HoldsAll Replied turned (stores_at (entry.version - 1))) pair.commands x).0

        by_test : (b r : Bool) → nat_le one.version p.reported ≡ r → AllByRecursion X (cond b (entry ∷ passing es) (passing es)) → (AllByRecursion X (passing es) → AllByRecursion Y (filter (is_listed p) ss)) →
            AllByRecursion Y (cond (r && b) (one ∷ filter (is_listed p) ss) (filter (is_listed p) ss))
        by_test false true is every rest = rest every
        by_test false false is every rest = rest every
        by_test true true is every rest = (here is every.0, rest every.1)
        by_test true false is every rest = rest every.1

    pub serial_all : All (λ (one : Submission). IsSerialAt (committed_over before one.transaction.store (commits_of p subs) (one.version - 1)) one.transaction.attempts) (listed p subs)
    serial_all = All-from_recursion (λ (one : Submission). IsSerialAt (committed_over before one.transaction.store (commits_of p subs) (one.version - 1)) one.transaction.attempts) (listed p subs)
        (serial_each (entries p) subs pairs_now
        (recursion_from_All (λ (e : Entry). AllReplied HoldsAll Replied turned (stores_at (e.version - 1)) (commands_of e)) (history p)
        (replied_at HoldsAll Replied turned commands_of base before held (history p) rising legal replays)))

    -- OPEN: what an open transaction wrote and read, and what it sees
    open_writes : (open_now : Open) (request : CommitRequest) → IsOpenTransaction maps p.reported open_now request → request.mutations ≡ commands_written open_now.store (maps open_now.read_version) (committed_over before open_now.store (commits_of p subs) open_now.read_version) (accepted open_now.attempts)
    open_writes open_now request is =
        done_writes open_now.store maps open_now.attempts (fresh_request open_now.read_version) request is.done (maps open_now.read_version) (committed_over before open_now.store (commits_of p subs) open_now.read_version)
        (λ key h. ap (λ v. get (maps v) key) is.at) ((holds_committed open_now.read_version is.seen).each open_now.store is.store)

    open_reads : (open_now : Open) (request : CommitRequest) → IsOpenTransaction maps p.reported open_now request → AreReads open_now.store (maps open_now.read_version) (committed_over before open_now.store (commits_of p subs) open_now.read_version) open_now.attempts request.reads
    open_reads open_now request is =
        let (ranges, have, are_these) = done_reads open_now.store maps open_now.attempts (fresh_request open_now.read_version) request is.done (maps open_now.read_version) (committed_over before open_now.store (commits_of p subs) open_now.read_version)
        (λ k h. ap (λ v. get (maps v) k) is.at) ((holds_committed open_now.read_version is.seen).each open_now.store is.store) in
        record { added = ranges; each = have; are = are_these }

    -- what it sees at its read version is its store, or none
    pub open_sees : (open_now : Open) (request : CommitRequest) → IsOpenTransaction maps p.reported open_now request → Stands open_now.store (seen request (maps open_now.read_version)) (view_over before (commits_of p subs) open_now)
    open_sees open_now request is =
        subst (Stands open_now.store (seen request (maps open_now.read_version))) (attempts_effects (committed_over before open_now.store (commits_of p subs) open_now.read_version) open_now.attempts)
        (done_serve open_now.store maps open_now.attempts (fresh_request open_now.read_version) request is.done (maps open_now.read_version) (committed_over before open_now.store (commits_of p subs) open_now.read_version)
        (λ key h. ap (λ v. get (maps v) key) is.at) ((holds_committed open_now.read_version is.seen).each open_now.store is.store)).1

    -- SERVED: each accepted command of an open transaction has its reply at what the transaction sees
    pub open_served : (open_now : Open) (request : CommitRequest) → IsOpenTransaction maps p.reported open_now request → IsSerialAt (committed_over before open_now.store (commits_of p subs) open_now.read_version) open_now.attempts
    open_served open_now request is =
        (done_serve open_now.store maps open_now.attempts (fresh_request open_now.read_version) request is.done (maps open_now.read_version) (committed_over before open_now.store (commits_of p subs) open_now.read_version)
        (λ key h. ap (λ v. get (maps v) key) is.at) ((holds_committed open_now.read_version is.seen).each open_now.store is.store)).0

    -- REQUESTS: each is that of its submission
    requests_each : (last : ℕ) (ss : List Submission) (requests : List CommitRequest) → AreSubmitted maps p.reported last ss requests → EachRequest (IsExactRequest maps before (commits_of p subs)) ss requests
    requests_each last [] [] each = tt
    requests_each last [] (request ∷ requests) each = absurd each
    requests_each last (one ∷ ss) [] each = absurd each
    requests_each last (one ∷ ss) (request ∷ requests) each = (
      record {
        read_version = each.0.open_as.at;
        reads = open_reads one.transaction request each.0.open_as;
        mutations = open_writes one.transaction request each.0.open_as;
      },
      requests_each (last + 1) ss requests each.1,
    )

    pub requests_all : EachRequest (IsExactRequest maps before (commits_of p subs)) subs p.requests
    requests_all = requests_each p.start subs p.requests are

    -- a reply that was right over every map is right by what the transaction sees
    pub performed_right : (open_now : Open) (request new : CommitRequest) (refuses : ℕ → KeyRange → Rattle.kv_core.specs.declared.snapshot.ReadError.ReadError → Type 0) (command : Command) (answer : Reply) →
        IsOpenTransaction maps p.reported open_now request → IsPerformed open_now.store maps (refuses request.read_version) command answer request new →
        IsServed open_now.store (after_all (commands_written open_now.store (maps open_now.read_version) (committed_over before open_now.store (commits_of p subs) open_now.read_version) (accepted open_now.attempts)) (maps open_now.read_version))
        (commands_written open_now.store (maps open_now.read_version) (committed_over before open_now.store (commits_of p subs) open_now.read_version) (accepted open_now.attempts)) (view_over before (commits_of p subs) open_now) command answer
        ⊎ IsReadRefusal (refuses open_now.read_version) (reach open_now.store (opened_in open_now.store (view_over before (commits_of p subs) open_now)) command
        (after_all (commands_written open_now.store (maps open_now.read_version) (committed_over before open_now.store (commits_of p subs) open_now.read_version) (accepted open_now.attempts)) (maps open_now.read_version))) answer
    performed_right open_now request new refuses command answer is performed =
        let same : maps request.read_version ≡ maps open_now.read_version = ap maps is.at in
        let over = performed.ran.over (maps open_now.read_version) (λ key h. ap (λ m. get m key) same) in
        let at = over.1 (view_over before (commits_of p subs) open_now) (open_sees open_now request is) in
        elim at.right [
          | inl served ↦ inl (subst (λ written. IsServed open_now.store (after_all written (maps open_now.read_version)) written (view_over before (commits_of p subs) open_now) command answer) (open_writes open_now request is) served)
          | inr refused ↦ inr (subst (λ written. IsReadRefusal (refuses open_now.read_version) (reach open_now.store (opened_in open_now.store (view_over before (commits_of p subs) open_now)) command (after_all written (maps open_now.read_version))) answer) (open_writes open_now request is)
              (subst (λ v. IsReadRefusal (refuses v) (reach open_now.store (opened_in open_now.store (view_over before (commits_of p subs) open_now)) command (seen request (maps open_now.read_version))) answer) is.at refused))
        ]

-- ---- as the clauses of a schedule say it

module _ (c : ClusterState) (before : Stores) (held : HoldsAll c.base before) (subs : List Submission) (legal : IsLegalOver c.base (history c.pipeline))
    (are : AreSubmitted (database_at c) c.pipeline.reported c.pipeline.start subs c.pipeline.requests) where
  pub command_right : (open_now : Open) (request new : CommitRequest) (command : Command) (answer : Reply) → IsOpenTransaction (database_at c) c.pipeline.reported open_now request →
      IsPerformed open_now.store (database_at c) (λ range. MayRefuse (tier_of c) range request.read_version) command answer request new →
      IsExactReply before c (commits_of c.pipeline subs) open_now command answer
  command_right open_now request new command answer is performed =
      performed_right c.base c.pipeline subs before held legal are open_now request new (λ version range. MayRefuse (tier_of c) range version) command answer is performed

  -- what an open transaction sees at its read version is a store, or none
  pub open_sees_serial : (open_now : Open) (request : CommitRequest) → IsOpenTransaction (database_at c) c.pipeline.reported open_now request →
      (serial : Serial) × Stands open_now.store (seen request (database_at c open_now.read_version)) serial
  open_sees_serial open_now request is = (view_over before (commits_of c.pipeline subs) open_now, open_sees c.base c.pipeline subs before held legal are open_now request is)

  pub holds_all : HoldsCommitted before c (commits_of c.pipeline subs)
  holds_all version from upto = holds_committed c.base c.pipeline subs before held legal are version upto

  pub is_serial : IsSerial before c (commits_of c.pipeline subs) subs
  is_serial = serial_all c.base c.pipeline subs before held legal are

  pub are_requests : EachRequest (IsExactRequest (database_at c) before (commits_of c.pipeline subs)) subs c.pipeline.requests
  are_requests = requests_all c.base c.pipeline subs before held legal are
