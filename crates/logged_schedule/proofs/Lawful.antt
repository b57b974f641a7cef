-- A lawful log goes on lawfully with what a schedule over it has committed, and comes to the schedule's database.
use Rattle.std.proofs.Common.{◌≡◌, ◌∙◌, ◌&&◌, ℕ, suc, ◌+◌, ◌-◌, ◌<◌, ◌≤◌, Bool, true, false, cond, inl, inr, List, [], ◌∷◌, ◌++◌, Option, Some, None, is_none, map, nat_le, slice_get, refl, sym, ap, subst, subst₂, append-nil, append_assoc, arith}
use Rattle.std.specs.List.{AllByRecursion, filter}
use Rattle.std.specs.Option.{option_map_or}
use Rattle.std.proofs.lemmas.List.{map-append}
use Rattle.std.proofs.lemmas.List.Elements.{recursion_from_All, All-from_recursion, All-filter}
use Rattle.kv_core.specs.Limits.{write_all_refusal}
use Rattle.kv_core.specs.Map.{Map, Agree, after_all}
use Rattle.kv_core.specs.declared.change.CommitRequest.{CommitRequest}
use Rattle.cluster_core.specs.Cluster.{ClusterState, database_at}
use Rattle.cluster_core.specs.Decision.{Cause, cause, is_committed, numbered}
use Rattle.cluster_core.specs.History as histories
use Rattle.cluster_core.specs.History.{IsLegalEntryOver, IsLegalOver, IsRising, map_over, replay, until}
use Rattle.cluster_core.specs.Roles.{PipelineState, entries, history, outcome, told, told_of}
use Rattle.cluster_core.proofs.Causes.{cause_decides}
use Rattle.cluster_core.proofs.Legality.{committed_is_legal_over, up}
use Rattle.cluster_core.proofs.Versions.{above-numbered, fold-push, rising-filter, rising-numbered, until-none, until-suc}
use Rattle.record_store.specs.Layout.{is_store_number}
use Rattle.schedule.specs.declared.transcript.CommitEntry.{CommitEntry}
use Rattle.schedule.specs.Contract.{EachRequest}
use Rattle.schedule.specs.Exact.{IsExactRequest, commands_written}
use Rattle.schedule.specs.Holds.{HoldsAll, Stands, Stores}
use Rattle.schedule.specs.Past.{Submission, accepted, submitted_in}
use Rattle.schedule.specs.Serve.{effects}
use Rattle.schedule.specs.Standing.{commits_of, is_listed, is_told}
use Rattle.schedule.specs.Turns.{AreSubmitted, IsOpenTransaction, fresh_request}
use Rattle.schedule.proofs.Composed.{are_requests}
use Rattle.schedule.proofs.RunSteps.{run_base}
use Rattle.schedule.proofs.Turning.{after_attempts, attempts_effects, done_serve, done_writes}
use Rattle.command_log.specs.declared.entry.Entry.{Entry}
use Rattle.replay.specs.Commands.{commands_of}
use Rattle.replay.specs.Logged.{AreReplayable, ComeInOrder, Database, empty_database, last_version, log_database, with_commands}
use Rattle.replay.proofs.Histories.{served_again}
use Rattle.replay.proofs.Logs.{changes_suffice}
use Rattle.replay.proofs.Replays.{in_order_append, logged_append, replayable_append}
use Rattle.replay.proofs.Stores.{holds_after}
use Rattle.logged_schedule.specs.Entries.{logged_as, logged_in}
use Rattle.logged_schedule.specs.Laws.{LogsGoOn}
use Rattle.logged_schedule.specs.Runs.{IsHeldLog, first_in, past_in}
use Rattle.logged_schedule.proofs.Fitting.{fit_done}
use Rattle.logged_schedule.proofs.Limits.{Fits}
use Rattle.logged_schedule.proofs.Listed.{logs_commits}
use Rattle.logged_schedule.proofs.Looking.{written_suffice}
use Rattle.logged_schedule.proofs.Rising.{state_start}

-- told to be committed is what has no cause against it
told_committed : (why : Option Cause) (version : ℕ) → is_told (told why version) ≡ is_none why
told_committed None version = refl
told_committed (Some why) version = refl

-- each request is the one whose writes meet no limit
abbrev Free : CommitRequest → Type 0
Free request = write_all_refusal [] request.mutations ≡ None

free_each : (c : ClusterState) (before : Stores) (subs : List Submission) (requests : List CommitRequest) →
    EachRequest (IsExactRequest (database_at c) before (commits_of c.pipeline subs)) subs requests → AllByRecursion (λ (one : Submission). Fits before c (commits_of c.pipeline subs) one.transaction) subs → AllByRecursion Free requests
free_each c before subs requests are fits = by_each (commits_of c.pipeline subs) subs requests are fits
  where
    by_each : (commits : List CommitEntry) (ss : List Submission) (rs : List CommitRequest) → EachRequest (IsExactRequest (database_at c) before commits) ss rs →
        AllByRecursion (λ (one : Submission). Fits before c commits one.transaction) ss → AllByRecursion Free rs
    by_each commits [] [] are fits = tt
    by_each commits [] (request ∷ rs) are fits = absurd are
    by_each commits (one ∷ ss) [] are fits = absurd are
    by_each commits (one ∷ ss) (request ∷ rs) are fits = (subst (λ ms. write_all_refusal [] ms ≡ None) (sym are.0.mutations) fits.0.1, by_each commits ss rs are.1 fits.1)

-- what was submitted reads below its version
below_each : (maps : ℕ → Map) (reported last : ℕ) (subs : List Submission) (requests : List CommitRequest) → AreSubmitted maps reported last subs requests → AllByRecursion (λ (e : histories.Entry). e.request.read_version < e.version) (numbered last requests)
below_each maps reported last [] [] are = tt
below_each maps reported last [] (request ∷ requests) are = absurd are
below_each maps reported last (one ∷ subs) [] are = absurd are
below_each maps reported last (one ∷ subs) (request ∷ requests) are = (are.0.below, below_each maps reported (last + 1) subs requests are.1)

module _ (base : Map) (p : PipelineState) (subs : List Submission) where
  abbrev maps : ℕ → Map
  maps version = map_over base (history p) version

  -- ---- requests and their submissions

  -- an entry of the history and its submission
  record IsPair (e : histories.Entry) (one : Submission) : Type 0 where
    at : e.version ≡ one.version
    found : slice_get subs (e.version - p.start - 1) ≡ Some one
    open_as : IsOpenTransaction maps p.reported one.transaction e.request
    same_end : is_told (outcome p one.version) ≡ is_committed p.splits (entries p) e
    free : Free e.request

  abbrev ArePairs : List histories.Entry → List Submission → Type 0
  ArePairs [] [] = Unit {0}
  ArePairs (e ∷ es) (one ∷ ss) = IsPair e one × ArePairs es ss
  ArePairs es ss = ⊥

  pairs_from : (n : ℕ) (ss : List Submission) (requests : List CommitRequest) → AreSubmitted maps p.reported (p.start + n) ss requests → AllByRecursion Free requests →
      ((i : ℕ) → slice_get subs (n + i) ≡ slice_get ss i) → ((i : ℕ) → slice_get (entries p) (n + i) ≡ slice_get (numbered (p.start + n) requests) i) →
      ArePairs (numbered (p.start + n) requests) ss
  pairs_from n [] [] are free in_subs in_entries = tt
  pairs_from n [] (request ∷ requests) are free in_subs in_entries = absurd are
  pairs_from n (one ∷ ss) [] are free in_subs in_entries = absurd are
  pairs_from n (one ∷ ss) (request ∷ requests) are free in_subs in_entries = (
    record {
      at = sym at;
      found = ap (slice_get subs) place_is ∙ in_subs 0;
      open_as = are.0.open_as;
      same_end = ap (λ v. is_told (told_of p (slice_get (entries p) (v - p.start - 1)))) at
          ∙ ap (λ place. is_told (told_of p (slice_get (entries p) place))) place_is ∙ ap (λ o. is_told (told_of p o)) (in_entries 0)
          ∙ told_committed (cause p.splits (entries p) e) e.version ∙ sym (cause_decides p.splits (entries p) e);
      free = free.0;
    },
    subst (λ last. ArePairs (numbered last requests) ss) (sym next)
        (pairs_from (suc n) ss requests (subst (λ last. AreSubmitted maps p.reported last ss requests) next are.1) free.1
        (λ i. ap (slice_get subs) (shift i) ∙ in_subs (suc i))
        (λ i. ap (slice_get (entries p)) (shift i) ∙ in_entries (suc i) ∙ ap (λ last. slice_get (numbered last requests) i) next)),
  )
    where
      e : histories.Entry
      e = record { version = p.start + n + 1; request = request }

      at : one.version ≡ p.start + n + 1
      at = are.0.given

      place_is : (p.start + n + 1) - p.start - 1 ≡ n + 0
      place_is = omega arith

      next : p.start + n + 1 ≡ p.start + suc n
      next = omega arith

      shift : (i : ℕ) → suc n + i ≡ n + suc i
      shift i = omega arith

  -- ---- the history, and what is logged of it

  abbrev passing : List histories.Entry → List histories.Entry
  passing es = filter (is_committed p.splits (entries p)) es

  abbrev nothing : Entry
  nothing = record { version = 0; client = 0; number = 0; store = 0; changes = [] }

  -- the entry that is logged of one of the history
  abbrev entry_of : histories.Entry → Entry
  entry_of e = option_map_or logged_as (slice_get subs (e.version - p.start - 1)) nothing

  -- it is legal, and there is a submission of it
  abbrev Sound : histories.Entry → Type 0
  Sound e = (one : Submission) × IsPair e one × IsLegalEntryOver base (history p) e

  sound_each : (es : List histories.Entry) (ss : List Submission) → ArePairs es ss → AllByRecursion (IsLegalEntryOver base (history p)) (passing es) → AllByRecursion Sound (passing es)
  sound_each [] [] pairs legal = tt
  sound_each [] (one ∷ ss) pairs legal = absurd pairs
  sound_each (e ∷ es) [] pairs legal = absurd pairs
  sound_each (e ∷ es) (one ∷ ss) (pair, pairs) legal = by_test (is_committed p.splits (entries p) e) legal (sound_each es ss pairs)
    where
      by_test : (b : Bool) → AllByRecursion (IsLegalEntryOver base (history p)) (cond b (e ∷ passing es) (passing es)) → (AllByRecursion (IsLegalEntryOver base (history p)) (passing es) → AllByRecursion Sound (passing es)) →
          AllByRecursion Sound (cond b (e ∷ passing es) (passing es))
      by_test true now rest = ((one, pair, now.0), rest now.1)
      by_test false now rest = rest now

  -- what is logged of the history up to the last reported version is what is listed
  listed_each : (es : List histories.Entry) (ss : List Submission) → ArePairs es ss → map entry_of (until p.reported (passing es)) ≡ map logged_as (filter (is_listed p) ss)
  listed_each [] [] pairs = refl
  listed_each [] (one ∷ ss) pairs = absurd pairs
  listed_each (e ∷ es) [] pairs = absurd pairs
  listed_each (e ∷ es) (one ∷ ss) (pair, pairs) = both (listed_each es ss pairs)
    where
      behind : List Entry
      behind = map entry_of (until p.reported (passing es))

      after : List Entry
      after = map logged_as (filter (is_listed p) ss)

      entry_is : entry_of e ≡ logged_as one
      entry_is = ap (λ o. option_map_or logged_as o nothing) pair.found

      left : (b : Bool) → map entry_of (until p.reported (cond b (e ∷ passing es) (passing es))) ≡ cond b (cond (nat_le e.version p.reported) (entry_of e ∷ behind) behind) behind
      left false = refl
      left true = by_version (nat_le e.version p.reported)
        where
          by_version : (u : Bool) → map entry_of (cond u (e ∷ until p.reported (passing es)) (until p.reported (passing es))) ≡ cond u (entry_of e ∷ behind) behind
          by_version true = refl
          by_version false = refl

      middle : (b r : Bool) → cond b (cond r (logged_as one ∷ after) after) after ≡ cond (r && b) (logged_as one ∷ after) after
      middle true true = refl
      middle true false = refl
      middle false true = refl
      middle false false = refl

      right : (b : Bool) → map logged_as (cond b (one ∷ filter (is_listed p) ss) (filter (is_listed p) ss)) ≡ cond b (logged_as one ∷ after) after
      right true = refl
      right false = refl

      both : behind ≡ after → map entry_of (until p.reported (passing (e ∷ es))) ≡ map logged_as (filter (is_listed p) (one ∷ ss))
      both rest =
          left (is_committed p.splits (entries p) e)
          ∙ (λ i. cond (is_committed p.splits (entries p) e) (cond (nat_le (pair.at i) p.reported) (entry_is i ∷ behind) behind) behind)
          ∙ (λ i. cond (sym pair.same_end i) (cond (nat_le one.version p.reported) (logged_as one ∷ rest i) (rest i)) (rest i))
          ∙ middle (is_told (outcome p one.version)) (nat_le one.version p.reported)
          ∙ sym (right (nat_le one.version p.reported && is_told (outcome p one.version)))

  -- ---- one version more

  -- the entries come to this map, which holds their stores
  record Comes (v : ℕ) (log : List Entry) (m : Map) : Type 0 where
    same : (log_database log).map ≡ m
    held : HoldsAll (log_database log).map (log_database log).stores
    in_order : ComeInOrder 0 log
    last : last_version 0 log ≤ v
    replayable : AreReplayable empty_database log

  one_more : (v : ℕ) (log : List Entry) → Comes v log (maps v) → (e : histories.Entry) → e.version ≡ v + 1 → (one : Submission) → IsPair e one → IsLegalEntryOver base (history p) e → Comes (v + 1) (log ++ logged_as one ∷ []) (after_all e.request.mutations (maps v))
  one_more v log comes e given one pair legal =
      let request = e.request in
      let transaction = one.transaction in
      let attempts = transaction.attempts in
      let entry = logged_as one in
      let number = transaction.store in
      let d = log_database log in
      let serial = d.stores number in
      let commands = accepted attempts in
      let open_as = pair.open_as in
      let store_is : is_store_number number ≡ true = open_as.store in
      let low : e.version - 1 ≡ v = omega (arith, given) in
      let agree : Agree request.reads (maps request.read_version) d.map = subst (λ n. Agree request.reads (maps request.read_version) n) (ap maps low ∙ sym comes.same) legal.1 in
      let here : Stands number d.map serial = comes.held.each number store_is in
      let served = done_serve number maps attempts (fresh_request transaction.read_version) request open_as.done d.map serial agree here in
      let written : request.mutations ≡ commands_written number d.map serial commands = done_writes number maps attempts (fresh_request transaction.read_version) request open_as.done d.map serial agree here in
      let again = served_again number d.map [] serial attempts served.0 (subst (λ ms. write_all_refusal [] ms ≡ None) written pair.free) in
      let suffice : commands_written number d.map serial (commands_of entry.changes) ≡ request.mutations = written_suffice number d.map serial commands ∙ sym written in
      let store_now : effects serial (commands_of entry.changes) ≡ after_attempts serial attempts = changes_suffice serial commands ∙ sym (attempts_effects serial attempts) in
      let own : Stands number (after_all (commands_written number d.map serial (commands_of entry.changes)) d.map) (effects serial (commands_of entry.changes)) =
      subst₂ (λ ms s. Stands number (after_all ms d.map) s) (sym suffice) (sym store_now) served.1 in
      let all : HoldsAll (with_commands d number (commands_of entry.changes)).map (with_commands d number (commands_of entry.changes)).stores = holds_after number d.map d.stores (commands_of entry.changes) store_is comes.held own in
      let last_now : log_database (log ++ entry ∷ []) ≡ with_commands d number (commands_of entry.changes) = logged_append log entry in
      let at : e.version ≡ one.version = pair.at in
      let above : last_version 0 log ≤ v = comes.last in
      record {
        same = ap (λ (e : Database). e.map) last_now ∙ ap (λ ms. after_all ms d.map) suffice ∙ ap (after_all request.mutations) comes.same;
        held = subst (λ (e : Database). HoldsAll e.map e.stores) (sym last_now) all;
        in_order = in_order_append 0 log entry comes.in_order (omega (arith, above, at, given)) store_is;
        last = let ends : last_version 0 (log ++ entry ∷ []) ≡ one.version = fold-push (λ last (e : Entry). e.version) 0 log entry in omega (arith, ends, at, given);
        replayable = replayable_append empty_database log entry comes.replayable again;
      }

  -- ---- all versions

  module _ (before : List Entry) (begun : IsHeldLog before) (is_base : base ≡ (log_database before).map) (from : last_version 0 before ≤ p.start) (sound : AllByRecursion Sound (history p)) where
    rising : IsRising (history p)
    rising = rising-filter (is_committed p.splits (entries p)) (entries p) (rising-numbered p.start p.requests)

    -- the log at a version
    abbrev log_at : ℕ → List Entry
    log_at v = before ++ map entry_of (until v (history p))

    abbrev Here : ℕ → Type 0
    Here v = Comes v (log_at v) (maps v)

    none : until p.start (history p) ≡ []
    none = until-none p.start p.start (history p) (omega arith)
        (recursion_from_All (λ (later : histories.Entry). p.start < later.version) (history p)
        (All-filter (is_committed p.splits (entries p)) (λ (later : histories.Entry). p.start < later.version) (entries p)
        (All-from_recursion (λ (later : histories.Entry). p.start < later.version) (entries p) (above-numbered p.start p.start p.requests (omega arith)))))

    at_first : Here p.start
    at_first =
        subst (λ es. Comes p.start (before ++ map entry_of es) (replay base es)) (sym none)
        (subst (λ log. Comes p.start log base) (sym (append-nil before))
        (record { same = sym is_base; held = begun.holds; in_order = begun.lawful.in_order; last = from; replayable = begun.lawful.replayable }))

    step : (v : ℕ) → Here v → Here (v + 1)
    step v here =
        elim (until-suc Sound v (history p) rising sound) [
          | inl same ↦
              subst₂ (Comes (v + 1)) (ap (λ es. before ++ map entry_of es) (sym same)) (ap (replay base) (sym same))
              (record { same = here.same; held = here.held; in_order = here.in_order; last = (let most : last_version 0 (log_at v) ≤ v = here.last in omega (arith, most)); replayable = here.replayable })
          | inr found ↦
              let w = found.0 in
              let one = found.2.0 in
              let map_now : maps (v + 1) ≡ after_all w.request.mutations (maps v) = ap (replay base) found.3 ∙ fold-push (λ m (entry : histories.Entry). after_all entry.request.mutations m) base (until v (history p)) w in
              let entry_is : entry_of w ≡ logged_as one = ap (λ o. option_map_or logged_as o nothing) found.2.1.found in
              let log_now : log_at (v + 1) ≡ log_at v ++ logged_as one ∷ [] =
              ap (λ es. before ++ map entry_of es) found.3 ∙ ap (λ log. before ++ log) (map-append entry_of (until v (history p)) (w ∷ []) ∙ ap (λ e. map entry_of (until v (history p)) ++ e ∷ []) entry_is)
              ∙ sym (append_assoc before (map entry_of (until v (history p))) (logged_as one ∷ [])) in
              subst₂ (Comes (v + 1)) (sym log_now) (sym map_now) (one_more v (log_at v) here w found.1 one found.2.1 found.2.2)
        ]

    everywhere : (v : ℕ) → p.start ≤ v → Here v
    everywhere v above = up Here p.start at_first (λ v _. step v) v above

-- ---- what a schedule over a lawful log has committed

pub logs_go_on : LogsGoOn
logs_go_on run state begun from has none = (
  record {
    lawful = record { in_order = here.in_order; replayable = here.replayable };
    holds = here.held;
  },
  here.same,
)
  where
    c : ClusterState
    c = state.database.cluster

    p : PipelineState
    p = c.pipeline

    subs : List Submission
    subs = submitted_in (past_in run)

    stores : Stores
    stores = (log_database run.before).stores

    is_base : c.base ≡ (log_database run.before).map
    is_base = run_base (first_in run) run.steps run.replies state.database has.0

    held : HoldsAll c.base stores
    held = subst (λ m. HoldsAll m stores) (sym is_base) begun.holds

    are : AreSubmitted (database_at c) p.reported p.start subs p.requests
    are = has.0.stands.submitted

    legal : IsLegalOver c.base (history p)
    legal =
        committed_is_legal_over c.base p.splits (entries p) (rising-numbered p.start p.requests)
        (All-from_recursion (λ (e : histories.Entry). e.request.read_version < e.version) (entries p) (below_each (database_at c) p.reported p.start subs p.requests are))

    free : AllByRecursion Free p.requests
    free = free_each c stores subs p.requests (are_requests c stores held subs legal are) (fit_done stores (log_database run.before).map run.config run.steps run.replies state begun.holds has none).given

    none_added : (i : ℕ) → 0 + i ≡ i
    none_added i = omega arith

    at_start : p.start ≡ p.start + 0
    at_start = omega arith

    pairs : ArePairs c.base p subs (entries p) subs
    pairs = subst (λ last. ArePairs c.base p subs (numbered last p.requests) subs) (sym at_start)
        (pairs_from c.base p subs 0 subs p.requests (subst (λ last. AreSubmitted (database_at c) p.reported last subs p.requests) at_start are) free
        (λ i. ap (slice_get subs) (none_added i)) (λ i. ap (slice_get (entries p)) (none_added i) ∙ ap (λ last. slice_get (numbered last p.requests) i) at_start))

    sound : AllByRecursion (Sound c.base p subs) (history p)
    sound = sound_each c.base p subs (entries p) subs pairs (recursion_from_All (IsLegalEntryOver c.base (history p)) (history p) legal)

    start_is : p.start ≡ run.config.start
    start_is = state_start (first_in run) run.steps run.replies state has

    begins : last_version 0 run.before ≤ p.start
    begins = omega (arith, from, start_is)

    at_end : p.start ≤ p.reported
    at_end = has.0.stands.begun

    logged : run.before ++ map (entry_of c.base p subs) (until p.reported (history p)) ≡ run.before ++ logged_in (past_in run)
    logged = ap (λ es. run.before ++ es) (listed_each c.base p subs (entries p) subs pairs ∙ sym (logs_commits (log_database run.before).map run.config run.steps run.replies state has none))

    here : Comes c.base p subs p.reported (run.before ++ logged_in (past_in run)) (database_at c p.reported)
    here = subst (λ log. Comes c.base p subs p.reported log (database_at c p.reported)) logged (everywhere c.base p subs run.before begun is_base begins sound p.reported at_end)
