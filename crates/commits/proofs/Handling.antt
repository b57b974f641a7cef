-- How far the roles have come as they handle a version more, one after another.
use Rattle.std.proofs.Common.{◌≡◌, ◌∙◌, Bool, ℕ, zero, suc, ◌+◌, ◌-◌, ◌<◌, ◌≤◌, ◌%◌, true, nat_lt, Option, None, Some, List, [], ◌∷◌, ◌++◌, All, IsNone, ap, arith, cond, get_or, length, length-append, map, refl, subst, sym}
use Rattle.std.proofs.lemmas.Bool.{and_from, lt-ltb, true≢false}
use Rattle.std.proofs.Math.Nat.{mod-lt}
use Rattle.std.proofs.lemmas.List.{get_or-map, get_or_default, length-map}
use Rattle.std.proofs.lemmas.List.Elements.{All-get_or, All-map}
use Rattle.std.specs.List.{list_all, slice_get}
use Rattle.std.specs.Option.{option_map}
use Rattle.kv_core.specs.declared.change.CommitRequest.{CommitRequest}
use Rattle.cluster_core.specs.declared.answers.Reported.{Reported}
use Rattle.cluster_core.specs.declared.answers.Reported.TheVariants.{NothingToDo as Idle}
use Rattle.cluster_core.specs.declared.answers.Work.{Work}
use Rattle.cluster_core.specs.declared.answers.Work.TheVariants.{Done, NothingToDo}
use Rattle.cluster_core.specs.Cluster.{ClusterState, Did, HasPulled, IsAllPulled, IsReadable, IsSomeBehind, log_of, with_pipeline, without_servers}
use Rattle.cluster_core.specs.History.{Entry}
use Rattle.cluster_core.specs.Roles.{AreInOrder, PipelineState, all_handled, append, entries, is_caught_up, may_append, may_report, may_resolve, outcome, raised, report, resolve, submit, submit_refusal, submitted, told_of}
use Rattle.cluster_core.proofs.Bridge.{entry_of, numbered_at}
use Rattle.cluster_core.proofs.ClusterSteps.{none_from}
use Rattle.commits.specs.Holds.{IsHeldAt, first_handled, first_raised, newest, verdict, with_handled}

-- one clock more is raised
raised_suc : (clocks : List ℕ) (i : ℕ) → i < length clocks → first_raised (suc i) clocks ≡ raised (first_raised i clocks) i
raised_suc [] i inside = absurd (omega (arith, inside))
raised_suc (clock ∷ clocks) zero inside = refl
raised_suc (clock ∷ clocks) (suc i) inside = ap (λ rest. (clock + 1) ∷ rest) (raised_suc clocks i (omega (arith, inside)))

raised_next : (clocks : List ℕ) (i : ℕ) → i < length clocks → first_raised (i + 1) clocks ≡ raised (first_raised i clocks) i
raised_next clocks i inside =
    let next : i + 1 ≡ suc i = omega arith in
    ap (λ n. first_raised n clocks) next ∙ raised_suc clocks i inside

-- the clock that comes next is as it was
next_clock : (clocks : List ℕ) (i : ℕ) → get_or (first_raised i clocks) i 0 ≡ get_or clocks i 0
next_clock [] zero = refl
next_clock [] (suc i) = refl
next_clock (clock ∷ clocks) zero = refl
next_clock (clock ∷ clocks) (suc i) = next_clock clocks i

-- all are raised
all_raised : (clocks : List ℕ) → first_raised (length clocks) clocks ≡ map (λ clock. clock + 1) clocks
all_raised [] = refl
all_raised (clock ∷ clocks) = ap (λ rest. (clock + 1) ∷ rest) (all_raised clocks)

-- each clock that a test passes
pub all_past : (n : ℕ) (clocks : List ℕ) → All (λ clock. n < clock) clocks → list_all (λ clock. nat_lt n clock) clocks ≡ true
all_past n [] all = refl
all_past n (clock ∷ clocks) all =
    and_from _ _ (lt-ltb n clock (all 0 0 (omega arith))) (all_past n clocks (λ k d below. all (suc k) d (omega (arith, below))))

-- one resolver more has answered
pub resolved_next : (c now new : ClusterState) (r : ℕ) (work : Work) → r < length c.pipeline.resolved → All (λ clock. clock < submitted c.pipeline) c.pipeline.resolved →
    now ≡ with_handled r 0 c → Did work (may_resolve now.pipeline r) now new (with_pipeline (resolve r now.pipeline) now) → new ≡ with_handled (r + 1) 0 c
resolved_next c now new r Done inside waiting was did =
    did.1 ∙ ap (λ s. with_pipeline (resolve r s.pipeline) s) was
    ∙ (λ i. record c { pipeline = record c.pipeline { resolved = sym (raised_next c.pipeline.resolved r inside) i } })
resolved_next c now new r NothingToDo inside waiting was did =
    let p = c.pipeline in
    let clock : get_or p.resolved r 0 < submitted p = All-get_or (λ clock. clock < submitted p) p.resolved r 0 inside waiting in
    let may : may_resolve now.pipeline r ≡ true =
    ap (λ s. may_resolve s.pipeline r) was ∙ ap (λ n. nat_lt n (submitted p)) (next_clock p.resolved r) ∙ lt-ltb _ _ clock in
    absurd (true≢false (sym may ∙ did.0))

-- one log more has the next version
pub appended_next : (c now new : ClusterState) (l : ℕ) (work : Work) → l < length c.pipeline.logged →
    All (λ log. All (λ clock. log < clock) c.pipeline.resolved) c.pipeline.logged →
    now ≡ with_handled 0 l c → Did work (may_append now.pipeline l) now new (with_pipeline (append l now.pipeline) now) → new ≡ with_handled 0 (l + 1) c
appended_next c now new l Done inside waiting was did =
    did.1 ∙ ap (λ s. with_pipeline (append l s.pipeline) s) was
    ∙ (λ i. record c { pipeline = record c.pipeline { logged = sym (raised_next c.pipeline.logged l inside) i } })
appended_next c now new l NothingToDo inside waiting was did =
    let p = c.pipeline in
    let past : All (λ clock. get_or p.logged l 0 < clock) p.resolved = All-get_or (λ log. All (λ clock. log < clock) p.resolved) p.logged l 0 inside waiting in
    let may : may_append now.pipeline l ≡ true =
    ap (λ s. may_append s.pipeline l) was
    ∙ ap (λ n. list_all (λ clock. nat_lt n clock) p.resolved) (next_clock p.logged l)
    ∙ all_past (get_or p.logged l 0) p.resolved past in
    absurd (true≢false (sym may ∙ did.0))

-- a step of a pipeline alone is one of the cluster without servers
pub did-alone : (work : Work) (may : Bool) (old new next : PipelineState) → Did work may old new next →
    Did work may (without_servers old) (without_servers new) (without_servers next)
did-alone Done may old new next did = (did.0, ap without_servers did.1)
did-alone NothingToDo may old new next did = (did.0, ap without_servers did.1)

-- clocks that stand at one version, each raised
same_raised : (clocks : List ℕ) (v w : ℕ) → v + 1 ≡ w → All (λ clock. clock ≡ v) clocks → map (λ clock. clock + 1) clocks ≡ map (λ _. w) clocks
same_raised [] v w next all = refl
same_raised (clock ∷ clocks) v w next all =
    let first : clock + 1 ≡ w = ap (λ n. n + 1) (all 0 0 (omega arith)) ∙ next in
    λ i. first i ∷ same_raised clocks v w next (λ k d below. all (suc k) d (omega (arith, below))) i

-- what is told doesn't depend on the clocks
pub told-any : (p : PipelineState) (resolved logged : List ℕ) (reported : ℕ) (entry : Option Entry) →
    told_of (record p { resolved = resolved; logged = logged; reported = reported }) entry ≡ told_of p entry
told-any p resolved logged reported None = refl
told-any p resolved logged reported (Some entry) = refl

last_there : {X : Type 0} (xs : List X) (x : X) → slice_get (xs ++ x ∷ []) (length xs) ≡ Some x
last_there [] x = refl
last_there (y ∷ xs) x = last_there xs x

-- behind the report each log has all that was submitted
log-clock : (c new : ClusterState) (request : CommitRequest) (old : PipelineState) → c.pipeline ≡ all_handled (submit request old) → 1 ≤ length c.pipeline.logged →
    HasPulled c new → (k : ℕ) → log_of new k ≡ submitted (submit request old)
log-clock c new request old handled logs pulled k =
    let is : new.pipeline ≡ all_handled (submit request old) = pulled.pipeline ∙ handled in
    let count : length new.pipeline.logged ≡ length old.logged = ap (λ p. length p.logged) is ∙ length-map old.logged (λ _. submitted (submit request old)) in
    let same : length c.pipeline.logged ≡ length new.pipeline.logged = sym (ap (λ p. length p.logged) pulled.pipeline) in
    let place : (k % length new.pipeline.logged) < length new.pipeline.logged = mod-lt k (omega (arith, same, logs)) in
    ap (λ p. get_or p.logged (k % length new.pipeline.logged) 0) is
    ∙ get_or-map (λ _. submitted (submit request old)) old.logged (k % length new.pipeline.logged) 0 0 (omega (arith, place, count))

-- once every server has all that its log has, what is reported can be read
pub now-readable : (c new : ClusterState) (request : CommitRequest) (old : PipelineState) → c.pipeline ≡ all_handled (submit request old) → 1 ≤ length c.pipeline.logged →
    HasPulled c new → IsAllPulled new → IsReadable new
now-readable c new request old handled logs pulled all k d inside =
    let clock = log-clock c new request old handled logs pulled k in
    let reported : new.pipeline.reported ≡ submitted (submit request old) = ap (λ p. p.reported) (pulled.pipeline ∙ handled) in
    let whole = all k inside in
    let any = get_or_default new.pulled k d 0 inside in
    omega (arith, clock, reported, whole, any)

-- behind the report some server lacks something still
pub behind-unread : (c new : ClusterState) (request : CommitRequest) (old : PipelineState) → c.pipeline ≡ all_handled (submit request old) → 1 ≤ length c.pipeline.logged →
    HasPulled c new → IsSomeBehind new → ¬ IsReadable new
behind-unread c new request old handled logs pulled behind readable =
    let s = behind.0 in
    let clock = log-clock c new request old handled logs pulled s in
    let reported : new.pipeline.reported ≡ submitted (submit request old) = ap (λ p. p.reported) (pulled.pipeline ∙ handled) in
    let less = behind.2 in
    let most = All-get_or (λ n. new.pipeline.reported ≤ n) new.pulled s 0 behind.1 readable in
    omega (arith, clock, reported, less, most)

-- servers that stood have pulled nothing, and what they pull later counts from there
pub has-stood : (old new : ClusterState) → new ≡ with_pipeline new.pipeline old → HasPulled (with_pipeline new.pipeline old) new
has-stood old new stood =
    subst (λ s. HasPulled s new) stood (record { base = refl; pipeline = refl; splits = refl; count = refl; on = λ s. omega arith; within = λ s. omega arith })

pub has-moved : (old mid new : ClusterState) → mid ≡ with_pipeline mid.pipeline old → HasPulled mid new → HasPulled (with_pipeline new.pipeline old) new
has-moved old mid new stood pulled = subst (λ s. HasPulled s new) (stood ∙ ap (λ p. with_pipeline p old) (sym pulled.pipeline)) pulled

-- servers that stand through each of two steps stand through both
pub stood-both : (old mid new : ClusterState) → mid ≡ with_pipeline mid.pipeline old → new ≡ with_pipeline new.pipeline mid → new ≡ with_pipeline new.pipeline old
stood-both old mid new one two = two ∙ ap (with_pipeline new.pipeline) one

pub stood-from : (old new : ClusterState) (p : PipelineState) → new ≡ with_pipeline p old → new ≡ with_pipeline new.pipeline old
stood-from old new p is = is ∙ ap (λ q. with_pipeline q old) (sym (ap (λ c. c.pipeline) is))

-- one version more is submitted, and its entry is the last one
pub submitted-more : (old : PipelineState) (request : CommitRequest) → submitted (submit request old) ≡ submitted old + 1
submitted-more old request = let more : length (old.requests ++ request ∷ []) ≡ length old.requests + 1 = length-append old.requests (request ∷ []) in omega (arith, more)

pub outcome-last : (old : PipelineState) (request : CommitRequest) → outcome (submit request old) (submitted (submit request old)) ≡ verdict request (submit request old)
outcome-last old request =
    let given = submit request old in
    let next = submitted-more old request in
    let place : submitted given - given.start - 1 ≡ length old.requests = omega (arith, next) in
    let version : old.start + length old.requests + 1 ≡ submitted given = sym next in
    let entry : slice_get (entries given) (submitted given - given.start - 1) ≡ Some (newest request given) =
    ap (slice_get (entries given)) place
    ∙ numbered_at given.start given.requests (length old.requests)
    ∙ ap (option_map (entry_of given.start (length old.requests))) (last_there old.requests request)
    ∙ ap (λ v. Some (record { version = v; request = request })) version in
    ap (told_of given) entry

-- one commit, from a state that is caught up
module _ (old : PipelineState) (request : CommitRequest) (order : AreInOrder old) (caught : is_caught_up old) where
  abbrev given : PipelineState
  given = submit request old

  abbrev settled : PipelineState
  settled = first_handled (length old.resolved) (length old.logged) given

  pub submitted-next : submitted (submit request old) ≡ submitted old + 1
  submitted-next = submitted-more old request

  resolved_level : All (λ clock. clock ≡ submitted old) old.resolved
  resolved_level = λ k d below.
      let least = order.appended 0 0 order.some_log in
      let after = order.answered 0 0 order.some_log k d below in
      let most = order.given k d below in
      omega (arith, caught, least, after, most)

  logged_level : All (λ clock. clock ≡ submitted old) old.logged
  logged_level = λ k d below.
      let least = order.appended k d below in
      let after = order.answered k d below 0 0 order.some_resolver in
      let most = order.given 0 0 order.some_resolver in
      omega (arith, caught, least, after, most)

  -- no resolver has answered for the request
  pub unresolved : All (λ clock. clock < submitted (submit request old)) old.resolved
  unresolved = λ k d below. let most = order.given k d below in omega (arith, submitted-next, most)

  -- no log has it
  pub unlogged : All (λ log. All (λ clock. log < clock) (first_raised (length old.resolved) old.resolved)) old.logged
  unlogged = λ k d below.
      let log = get_or old.logged k d in
      subst (All (λ clock. log < clock)) (sym (all_raised old.resolved))
      (All-map (λ clock. log < clock) (λ clock. clock + 1) old.resolved (λ j e inside. let after = order.answered k d below j e inside in omega (arith, after)))

  pub may_tell : may_report (first_handled (length old.resolved) (length old.logged) (submit request old)) ≡ true
  may_tell =
      ap (list_all (λ clock. nat_lt old.reported clock)) (all_raised old.logged)
      ∙ all_past old.reported (map (λ clock. clock + 1) old.logged)
      (All-map (λ clock. old.reported < clock) (λ clock. clock + 1) old.logged (λ k d below. let least = order.appended k d below in omega (arith, least)))

  pub all_done : report (first_handled (length old.resolved) (length old.logged) (submit request old)) ≡ all_handled (submit request old)
  all_done =
      let next : submitted old + 1 ≡ submitted given = sym submitted-next in
      let resolved = all_raised old.resolved ∙ same_raised old.resolved (submitted old) (submitted given) next resolved_level in
      let logged = all_raised old.logged ∙ same_raised old.logged (submitted old) (submitted given) next logged_level in
      let reported : old.reported + 1 ≡ submitted given = omega (arith, caught, next) in
      λ i. record given { resolved = resolved i; logged = logged i; reported = reported i }

  pub outcome-done : outcome (first_handled (length old.resolved) (length old.logged) (submit request old)) (old.reported + 1) ≡ outcome (all_handled (submit request old)) (submitted (submit request old))
  outcome-done =
      let version : old.reported + 1 ≡ submitted given = omega (arith, caught, submitted-next) in
      let entry = slice_get (entries given) (submitted given - given.start - 1) in
      ap (outcome settled) version
      ∙ told-any given settled.resolved settled.logged settled.reported entry
      ∙ sym (told-any given (all_handled given).resolved (all_handled given).logged (all_handled given).reported entry)

  -- what is told at the end is the verdict on the request
  pub verdict-done : outcome (all_handled (submit request old)) (submitted (submit request old)) ≡ verdict request (all_handled (submit request old))
  verdict-done =
      let entry = slice_get (entries given) (submitted given - given.start - 1) in
      told-any given (all_handled given).resolved (all_handled given).logged (all_handled given).reported entry ∙ outcome-last old request

-- one commit of a cluster whose pipeline is caught up
module _ (old : ClusterState) (request : CommitRequest) (order : AreInOrder old.pipeline) (caught : is_caught_up old.pipeline) where
  abbrev begun : ClusterState
  begun = with_pipeline (submit request old.pipeline) old

  -- what stands where memory ran out
  abbrev IsHeld : ClusterState → Type 0
  IsHeld new =
      (submit_refusal old.pipeline request.read_version ≡ None)
      × ((resolvers logs : ℕ) × IsHeldAt request old.pipeline new.pipeline resolvers logs) × (new ≡ with_pipeline new.pipeline old)

  -- its resolvers stopped at one of them
  pub held_resolving : (now new : ClusterState) → now ≡ begun → IsNone (submit_refusal old.pipeline request.read_version) →
      (count : ℕ) × (count < length now.pipeline.resolved) × (new ≡ with_handled count 0 now) → IsHeld new
  held_resolving now new was allowed held =
      let below : held.0 < length old.pipeline.resolved = subst (λ s. held.0 < length s.pipeline.resolved) was held.1 in
      let is : new ≡ with_handled held.0 0 begun = held.2 ∙ ap (with_handled held.0 0) was in
      let log = order.some_log in (
        none_from (submit_refusal old.pipeline request.read_version) allowed,
        (
          held.0,
          0,
          record { stands = ap (λ s. s.pipeline) is; some_resolvers = omega (arith, below); some_logs = omega (arith, log); in_order = λ _. refl },
        ),
        stood-from old new _ is,
      )

  -- all resolvers have answered
  module _ (now mid : ClusterState) (was : now ≡ begun) (resolved : mid ≡ with_handled (length now.pipeline.resolved) 0 now) where
    mid-is : mid ≡ with_handled (length old.pipeline.resolved) 0 begun
    mid-is = resolved ∙ ap (λ s. with_handled (length s.pipeline.resolved) 0 s) was

    pub waiting : All (λ log. All (λ clock. log < clock) mid.pipeline.resolved) mid.pipeline.logged
    waiting = subst (λ s. All (λ log. All (λ clock. log < clock) s.pipeline.resolved) s.pipeline.logged) (sym mid-is) (unlogged old.pipeline request order caught)

    -- its logs stopped at one of them
    pub held_appending : (new : ClusterState) → IsNone (submit_refusal old.pipeline request.read_version) →
        (count : ℕ) × (count < length mid.pipeline.logged) × (new ≡ with_handled 0 count mid) → IsHeld new
    held_appending new allowed held =
        let below : held.0 < length old.pipeline.logged = subst (λ s. held.0 < length s.pipeline.logged) mid-is held.1 in
        let is : new ≡ with_handled (length old.pipeline.resolved) held.0 begun = held.2 ∙ ap (with_handled 0 held.0) mid-is in (
          none_from (submit_refusal old.pipeline request.read_version) allowed,
          (
            length old.pipeline.resolved,
            held.0,
            record { stands = ap (λ s. s.pipeline) is; some_resolvers = omega arith; some_logs = below; in_order = λ less. absurd (omega (arith, less)) },
          ),
          stood-from old new _ is,
        )

    -- all logs have the request too, and it is reported
    module _ (last new : ClusterState) (result : Reported) (logged : last ≡ with_handled 0 (length mid.pipeline.logged) mid)
        (told : result ≡ cond (may_report last.pipeline) (outcome last.pipeline (last.pipeline.reported + 1)) Idle)
        (step : new ≡ cond (may_report last.pipeline) (with_pipeline (report last.pipeline) last) last) where
      abbrev settling : PipelineState
      settling = first_handled (length old.pipeline.resolved) (length old.pipeline.logged) (submit request old.pipeline)

      last-is : last ≡ with_pipeline settling old
      last-is = logged ∙ ap (λ s. with_handled 0 (length s.pipeline.logged) s) mid-is

      new-as : new ≡ with_pipeline (all_handled (submit request old.pipeline)) old
      new-as =
          step ∙ ap (λ s. cond (may_report s.pipeline) (with_pipeline (report s.pipeline) s) s) last-is
          ∙ ap (λ b. cond b (with_pipeline (report settling) old) (with_pipeline settling old)) (may_tell old.pipeline request order caught)
          ∙ ap (λ p. with_pipeline p old) (all_done old.pipeline request order caught)

      pub new-is : new.pipeline ≡ all_handled (submit request old.pipeline)
      new-is = ap (λ s. s.pipeline) new-as

      pub servers-stood : new ≡ with_pipeline new.pipeline old
      servers-stood = stood-from old new _ new-as

      pub logs-there : 1 ≤ length new.pipeline.logged
      logs-there =
          let count : length new.pipeline.logged ≡ length old.pipeline.logged =
          ap (λ p. length p.logged) new-is ∙ length-map old.pipeline.logged (λ _. submitted (submit request old.pipeline)) in
          let log = order.some_log in
          omega (arith, count, log)

      result-is : result ≡ outcome (all_handled (submit request old.pipeline)) (submitted (submit request old.pipeline))
      result-is =
          told ∙ ap (λ s. cond (may_report s.pipeline) (outcome s.pipeline (s.pipeline.reported + 1)) Idle) last-is
          ∙ ap (λ b. cond b (outcome settling (old.pipeline.reported + 1)) Idle) (may_tell old.pipeline request order caught)
          ∙ outcome-done old.pipeline request order caught

      pub result-told : result ≡ outcome new.pipeline (submitted new.pipeline)
      result-told = result-is ∙ ap (λ p. outcome p (submitted p)) (sym new-is)

      pub result-decided : result ≡ verdict request new.pipeline
      result-decided = result-is ∙ verdict-done old.pipeline request order caught ∙ ap (verdict request) (sym new-is)
