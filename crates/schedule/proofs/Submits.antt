-- What the submission of an ended transaction replies and leaves, over plain values.
use Rattle.std.proofs.Common.{◌≡◌, ℕ, ◌+◌, ◌-◌, ◌≤◌, ◌==◌, Bool, true, false, not, cond, List, [], ◌∷◌, ◌++◌, length, drop, get_or, map, take, refl, sym, ap, subst, ◌∙◌, Option, Some, None, ◌⊎◌, inl, inr, length-append, arith}
use Rattle.std.proofs.Math.Seq.{take-append_seam}
use Rattle.std.proofs.lemmas.Bool.{eqb-true}
use Rattle.std.proofs.lemmas.List.{drop-append-le, map-append}
use Rattle.kv_core.specs.Map.{Map}
use Rattle.kv_core.specs.declared.change.CommitRequest.{CommitRequest}
use Rattle.kv_core.specs.declared.change.Mutation.{Mutation}
use Rattle.cluster_core.specs.declared.answers.SubmitError.{SubmitError}
use Rattle.cluster_core.specs.declared.answers.SubmitError.TheVariants as submitting
use Rattle.cluster_core.specs.Cluster.{ClusterState, database_at, with_pipeline}
use Rattle.cluster_core.specs.Roles.{PipelineState, submit, submit_refusal, submitted}
use Rattle.schedule.specs.declared.refusal.Refusal.{Refusal}
use Rattle.schedule.specs.declared.refusal.Refusal.TheVariants.{TooOld, VersionsExhausted}
use Rattle.schedule.specs.declared.reply.Reply.TheVariants.{ReadOnly, Refused, Submitted}
use Rattle.schedule.specs.declared.database.Database.{Database}
use Rattle.schedule.specs.declared.database.OpenTransaction.{OpenTransaction}
use Rattle.schedule.specs.declared.database.Unreported.{Unreported}
use Rattle.schedule.specs.declared.transcript.CommitEntry.{CommitEntry}
use Rattle.schedule.specs.Past.{Open, Submission}
use Rattle.schedule.specs.Contract.{commit_reply, submit_reply}
use Rattle.schedule.specs.Standing.{with_next}
use Rattle.schedule.specs.Running.{IsOpen, IsPlace, IsStanding, IsStandingAt, Submits, kept, submitted_by}
use Rattle.schedule.proofs.ClientSteps.{none_added, same_requests, standing_as}
use Rattle.schedule.proofs.Submitting.{commits_submitted, maps_submitted, submitted_length, submitted_more, submitted_versions}
use Rattle.schedule.proofs.KnownStores.{known_elsewhere}
use Rattle.schedule.proofs.Turning.{open_changed, open_elsewhere}

-- ---- what a commit replies

some_mutations : (mutations : List Mutation) → (mutations ≡ [] → ⊥) → not (length mutations == 0) ≡ true
some_mutations [] some = absurd (some refl)
some_mutations (mutation ∷ mutations) some = by_test (length (mutation ∷ mutations) == 0) refl
  where
    by_test : (b : Bool) → (length (mutation ∷ mutations) == 0) ≡ b → not b ≡ true
    by_test true is = let none : length (mutation ∷ mutations) ≡ 0 = eqb-true (length (mutation ∷ mutations)) 0 is in absurd (omega (arith, none))
    by_test false is = refl

read_only : (c : ClusterState) (ended : Open) (transaction : OpenTransaction) → IsOpen (database_at c) c.pipeline.reported ended transaction → transaction.transaction.mutations ≡ [] → ReadOnly ≡ commit_reply c ended
read_only c ended transaction is none =
    sym (ap (λ b. cond b (submit_reply c.pipeline (submit_refusal c.pipeline ended.read_version)) ReadOnly)
    (open_changed (database_at c) c.pipeline.reported ended transaction.transaction is.done ∙ ap (λ ms. not (length ms == 0)) none))

changing : (c : ClusterState) (ended : Open) (transaction : OpenTransaction) (o : Option SubmitError) → IsOpen (database_at c) c.pipeline.reported ended transaction → (transaction.transaction.mutations ≡ [] → ⊥) →
    submit_refusal c.pipeline transaction.transaction.read_version ≡ o → submit_reply c.pipeline o ≡ commit_reply c ended
changing c ended transaction o is some refused =
    sym (ap (λ b. cond b (submit_reply c.pipeline (submit_refusal c.pipeline ended.read_version)) ReadOnly) (open_changed (database_at c) c.pipeline.reported ended transaction.transaction is.done ∙ some_mutations transaction.transaction.mutations some)
    ∙ ap (submit_reply c.pipeline) (ap (submit_refusal c.pipeline) (sym is.done.at) ∙ refused))

-- ---- nothing was submitted

pub nothing_submitted : (opens : ℕ → Option Open) (submissions : List Submission) (client : ℕ) (ended : Open) (transaction : OpenTransaction) (d : Database) → IsStanding opens submissions d →
    IsOpen (database_at d.cluster) d.cluster.pipeline.reported ended transaction → transaction.transaction.mutations ≡ [] → Submits opens submissions client ended ReadOnly d d
nothing_submitted opens submissions client ended transaction d s is none = record {
  right = read_only d.cluster ended transaction is none;
  moved = λ more. refl;
  added = [];
  grown = none_added d.cluster.pipeline.requests;
  after = s;
}

-- the reply to a refused submission
abbrev pub submit_refused : SubmitError → Refusal
submit_refused submitting.TooOld = TooOld
submit_refused other = VersionsExhausted

same_refusal : (p : PipelineState) (error : SubmitError) → submit_reply p (Some error) ≡ Refused (submit_refused error)
same_refusal p submitting.TooOld = refl
same_refusal p submitting.VersionsExhausted = refl
same_refusal p submitting.Memory = refl

-- a refusal that isn't for memory is the one that the pipeline says
pub refusal_is : (o : Option SubmitError) (error known : SubmitError) → (known ≡ submitting.Memory → ⊥) → error ≡ known → (error ≡ submitting.Memory) ⊎ (o ≡ Some error) → o ≡ Some known
refusal_is o error known not_memory is (inl memory) = absurd (not_memory (sym is ∙ memory))
refusal_is o error known not_memory is (inr refused) = refused ∙ ap Some is

pub refused_submission : (opens : ℕ → Option Open) (submissions : List Submission) (client : ℕ) (ended : Open) (transaction : OpenTransaction) (error : SubmitError) (old new : Database) → IsStanding opens submissions old →
    IsOpen (database_at old.cluster) old.cluster.pipeline.reported ended transaction → (transaction.transaction.mutations ≡ [] → ⊥) →
    submit_refusal old.cluster.pipeline transaction.transaction.read_version ≡ Some error → new.cluster ≡ old.cluster →
    new.transactions.items ≡ old.transactions.items → new.unreported.items ≡ old.unreported.items → new.commits ≡ old.commits →
    Submits opens submissions client ended (Refused (submit_refused error)) old new
refused_submission opens submissions client ended transaction error old new s is some refused cluster transactions waiting entries = record {
  right = sym (same_refusal old.cluster.pipeline error) ∙ changing old.cluster ended transaction (Some error) is some refused;
  moved = λ more. sym cluster;
  added = [];
  grown = same_requests old new cluster;
  after = standing_as opens submissions new old.cluster old.transactions.items old.unreported.items old.commits cluster transactions waiting entries s;
}

-- ---- a submission

place_elsewhere : (maps maps2 : ℕ → Map) (reported : ℕ) (o : Option Open) (value : Option OpenTransaction) → ((v : ℕ) → v ≤ reported → maps v ≡ maps2 v) → IsPlace maps reported o value → IsPlace maps2 reported o value
place_elsewhere maps maps2 reported None None same is = tt
place_elsewhere maps maps2 reported None (Some transaction) same is = absurd is
place_elsewhere maps maps2 reported (Some open_now) None same is = absurd is
place_elsewhere maps maps2 reported (Some open_now) (Some transaction) same is = record {
  store = is.store;
  done = open_elsewhere maps maps2 reported open_now transaction.transaction same is.done;
  commands = is.commands;
  known =
      known_elsewhere transaction.store maps maps2 transaction.opened transaction.transaction (same transaction.transaction.read_version (subst (λ v. v ≤ reported) (sym is.done.at) is.done.seen)) is.known;
}

pub one_longer : {X : Type 0} (xs : List X) (x : X) → length (xs ++ x ∷ []) ≡ length xs + 1
one_longer xs x = length-append xs (x ∷ [])

standing_submitted : (c : ClusterState) (opens : ℕ → Option Open) (submissions : List Submission) (transactions : List (Option OpenTransaction)) (waiting : List Unreported) (entries : List CommitEntry)
    (client version : ℕ) (ended : Open) (transaction : OpenTransaction) → IsStandingAt c opens submissions transactions waiting entries → IsOpen (database_at c) c.pipeline.reported ended transaction → version ≡ submitted c.pipeline + 1 →
    IsStandingAt (with_pipeline (submit transaction.transaction c.pipeline) c) opens (submissions ++ (record { version = version; client = client; transaction = ended }) ∷ []) transactions
    (waiting ++ (record { client = client; store = transaction.store; read_version = transaction.transaction.read_version; commands = transaction.commands }) ∷ []) entries
standing_submitted c opens submissions transactions waiting entries client version ended transaction s is is_next =
    let p = c.pipeline in
    let request = transaction.transaction in
    let one : Submission = record { version = version; client = client; transaction = ended } in
    let longer : length (p.requests ++ request ∷ []) ≡ length p.requests + 1 = one_longer p.requests request in
    let counted : length submissions ≡ length p.requests = submitted_length (database_at c) p.reported p.start submissions p.requests s.submitted in
    let given : p.reported ≤ p.start + length p.requests = s.given in
    let behind : p.reported - p.start ≤ length submissions = omega (arith, counted, given) in
    record {
      begun = s.begun;
      given = omega (arith, longer, given);
      pulled = λ k d within. let below : get_or c.pulled k d ≤ p.start + length p.requests = s.pulled k d within in omega (arith, longer, below);
      places = λ who there. place_elsewhere (database_at c) (database_at (with_pipeline (submit request p) c)) p.reported (opens who) (get_or transactions who None) (λ v h. maps_submitted c.base p request v (omega (arith, h, given))) (s.places who there);
      unreported =
          ap (λ ws. ws ++ (record { client = client; store = transaction.store; read_version = request.read_version; commands = transaction.commands }) ∷ []) s.unreported
          ∙ (λ i. map kept (drop (p.reported - p.start) submissions) ++ (record { client = client; store = is.store i; read_version = is.done.at i; commands = is.commands i }) ∷ [])
          ∙ sym (map-append kept (drop (p.reported - p.start) submissions) (one ∷ []))
          ∙ ap (map kept) (sym (drop-append-le (p.reported - p.start) submissions (one ∷ []) behind));
      commits = s.commits ∙ sym (commits_submitted p request submissions one (submitted_versions (database_at c) p.reported p.start submissions p.requests s.submitted) counted s.given is_next);
      submitted = submitted_more c.base p submissions version client ended request s.submitted s.given is_next is.done;
    }

-- the cluster takes the next request
moved_submitted : (c : ClusterState) (request : CommitRequest) (more : List CommitRequest) → with_pipeline (with_next ((c.pipeline.requests ++ request ∷ []) ++ more) c.pipeline) c ≡ with_pipeline (submit request c.pipeline) c
moved_submitted c request more =
    let longer = c.pipeline.requests ++ request ∷ [] in
    ap (λ (rs : List CommitRequest). with_pipeline (record c.pipeline { requests = rs }) c) (ap (λ n. take n (longer ++ more)) (sym (one_longer c.pipeline.requests request)) ∙ take-append_seam longer more)

pub one_submitted : (opens : ℕ → Option Open) (submissions : List Submission) (client version : ℕ) (ended : Open) (transaction : OpenTransaction) (old new : Database) → IsStanding opens submissions old →
    IsOpen (database_at old.cluster) old.cluster.pipeline.reported ended transaction → (transaction.transaction.mutations ≡ [] → ⊥) →
    submit_refusal old.cluster.pipeline transaction.transaction.read_version ≡ None → new.cluster ≡ with_pipeline (submit transaction.transaction old.cluster.pipeline) old.cluster → version ≡ submitted new.cluster.pipeline →
    new.transactions.items ≡ old.transactions.items → new.unreported.items ≡ old.unreported.items ++ (record { client = client; store = transaction.store; read_version = transaction.transaction.read_version; commands = transaction.commands }) ∷ [] →
    new.commits ≡ old.commits → Submits opens submissions client ended (Submitted version) old new
one_submitted opens submissions client version ended transaction old new s is some allowed cluster at transactions waiting entries =
    let p = old.cluster.pipeline in
    let request = transaction.transaction in
    let is_next : version ≡ submitted p + 1 = at ∙ ap (λ (c : ClusterState). submitted c.pipeline) cluster ∙ ap (λ n. p.start + n) (one_longer p.requests request) ∙ omega arith in
    record {
      right = ap Submitted is_next ∙ changing old.cluster ended transaction None is some allowed;
      moved = λ more. ap (λ (c : ClusterState). with_pipeline (with_next (c.pipeline.requests ++ more) p) old.cluster) cluster ∙ moved_submitted old.cluster request more ∙ sym cluster;
      added = request ∷ [];
      grown = ap (λ (c : ClusterState). c.pipeline.requests) cluster;
      after = standing_as opens (submitted_by client ended (Submitted version) submissions) new (with_pipeline (submit request p) old.cluster) old.transactions.items
          (old.unreported.items ++ (record { client = client; store = transaction.store; read_version = request.read_version; commands = transaction.commands }) ∷ []) old.commits cluster transactions waiting entries
          (standing_submitted old.cluster opens submissions old.transactions.items old.unreported.items old.commits client version ended transaction s is is_next);
    }
