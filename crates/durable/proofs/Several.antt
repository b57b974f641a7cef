-- Transactions that are committed one after another.
use Rattle.std.proofs.Common.{◌≡◌, ℕ, suc, ◌+◌, ◌<◌, true, false, inl, inr, List, [], ◌∷◌, ◌++◌, length, take, refl, sym, ap, subst, subst₂, ◌∙◌, append-nil, append_assoc, arith}
use Rattle.std.proofs.lemmas.Bool.{cases_lt, true≢false}
use Rattle.std.proofs.lemmas.List.{length-append, take_at}
use Rattle.journal.specs.Device.{LeavesOnly}
use Rattle.journal.proofs.Moments.{joined, started, weaker}
use Rattle.journal.specs.declared.device.Device.{Ghosts}
use Rattle.command_log.specs.declared.entry.Entry.{Entry}
use Rattle.replay.specs.Commands.{commands_of}
use Rattle.replay.specs.Replaying.{AreUndone, Image}
use Rattle.durable.specs.declared.database.Durable.{Durable}
use Rattle.durable.specs.declared.error.CommitError.{CommitError}
use Rattle.durable.specs.declared.error.CommitError.TheVariants.{Memory, Refused, Full, Exhausted, Closed, Unknown, Starved, Unseen}
use Rattle.durable.specs.declared.request.Request.{Request}
use Rattle.durable.specs.declared.request.Committed.{Committed}
use Rattle.durable.specs.Keeping.{Base, HasNoRoom, HasFirst, HasLogOf, HasOnDisk, HasOneOrNone, IsCommitted, KeepsLog, entries_after, entry_at}
use Rattle.durable.specs.Stopping.{IsStoppedBehind, StopsAt}
use Rattle.durable.specs.Refusals.{IsUncommitted}
use Rattle.durable.specs.Standing.{IsUnchanged, image_of, log_device, takes_commits}

-- ---- entries of requests

length_entries : (version : ℕ) (requests : List Request) → length (entries_after version requests) ≡ length requests
length_entries version [] = refl
length_entries version (request ∷ requests) = ap suc (length_entries (version + 1) requests)

entries_split : (version : ℕ) (first rest : List Request) → entries_after version (first ++ rest) ≡ entries_after version first ++ entries_after (version + length first) rest
entries_split version [] rest = ap (λ v. entries_after v rest) (omega arith)
entries_split version (request ∷ first) rest =
    ap (λ es. entry_at (version + 1) request ∷ es) (entries_split (version + 1) first rest ∙ ap (λ v. entries_after (version + 1) first ++ entries_after v rest) (omega arith))

-- the entries of the first requests are the first of all
first_entries : (version : ℕ) (first rest : List Request) → take (length first) (entries_after version (first ++ rest)) ≡ entries_after version first
first_entries version first rest =
    ap (take (length first)) (entries_split version first rest) ∙ take_at (entries_after version first) (entries_after (version + length first) rest) (length first) (length_entries version first)

one_more : (version : ℕ) (entries : List Entry) (first : List Request) (request : Request) → (entries ++ entries_after version first) ++ entry_at (version + length first + 1) request ∷ [] ≡ entries ++ entries_after version (first ++ request ∷ [])
one_more version entries first request =
    append_assoc entries (entries_after version first) (entry_at (version + length first + 1) request ∷ []) ∙ ap (λ es. entries ++ es) (sym (entries_split version first (request ∷ [])))

-- ---- the loop

module _ {D : Type 0} (seen : D → List ℕ) (may_leave : D → List ℕ → Type 0) (moment : D → ℕ) (left_since : D → ℕ → List ℕ → Type 0) where
  -- the first of all requests are committed, and these are left
  pub record HasCommitted (old : D) (before : Image) (all rest : List Request) (place : ℕ) (now : D) (image : Image) : Type 0 where
    pub first : List Request
    pub split : first ++ rest ≡ all
    pub at : place ≡ length first
    pub version : image.version ≡ before.version + length first
    pub keeps : (base : Base) (entries : List Entry) → KeepsLog seen may_leave base entries old before → KeepsLog seen may_leave base (entries ++ entries_after before.version first) now image
    pub leaves : (base : Base) (entries : List Entry) → KeepsLog seen may_leave base entries old before → LeavesOnly moment left_since old now (HasFirst base entries (entries_after before.version all))

  pub none_yet : (only_now : (file : D) (c : List ℕ) → left_since file (moment file) c → may_leave file c) (old : D) (before : Image) (all : List Request) → HasCommitted old before all all 0 old before
  none_yet only_now old before all = record {
    first = [];
    split = refl;
    at = refl;
    version = omega arith;
    keeps = λ base entries keeps. subst (λ es. KeepsLog seen may_leave base es old before) (sym (append-nil entries)) keeps;
    leaves = λ base entries keeps.
        started moment left_since old (HasFirst base entries (entries_after before.version all))
        (λ c left. (0, omega arith, subst₂ (HasLogOf base) (sym (keeps.durable c (only_now old c left))) (sym (append-nil entries)) keeps.file));
  }

  -- with one more or without it the file has the first ones
  has_first : (base : Base) (version : ℕ) (entries : List Entry) (first : List Request) (request : Request) (rest all : List Request) → first ++ request ∷ rest ≡ all → (c : List ℕ) →
      HasOneOrNone base (entries ++ entries_after version first) (entry_at (version + length first + 1) request) c → HasFirst base entries (entries_after version all) c
  has_first base version entries first request rest all split c (inl before) =
      let count = length first in
      let total : length (entries_after version all) ≡ length all = length_entries version all in
      let longer : length all ≡ length first + suc (length rest) = ap length (sym split) ∙ length-append first (request ∷ rest) in
      let are : take count (entries_after version all) ≡ entries_after version first = ap (λ rs. take count (entries_after version rs)) (sym split) ∙ first_entries version first (request ∷ rest) in
      (count, omega (arith, total, longer), subst (λ es. HasLogOf base c (entries ++ es)) (sym are) before)
  has_first base version entries first request rest all split c (inr after) =
      let longer_first = first ++ request ∷ [] in
      let again : longer_first ++ rest ≡ all = append_assoc first (request ∷ []) rest ∙ split in
      let count = length longer_first in
      let total : length (entries_after version all) ≡ length all = length_entries version all in
      let longer : length all ≡ length longer_first + length rest = ap length (sym again) ∙ length-append longer_first rest in
      let are : take count (entries_after version all) ≡ entries_after version longer_first = ap (λ rs. take count (entries_after version rs)) (sym again) ∙ first_entries version longer_first rest in
      (count, omega (arith, total, longer), subst (λ es. HasLogOf base c (entries ++ es)) (sym are) (subst (HasLogOf base c) (one_more version entries first request) after))

  -- a crash leaves the first ones, also while the next one is committed
  pub leaves_more : (old now new : D) (before image : Image) (all rest : List Request) (place : ℕ) (request : Request) → HasCommitted old before all (request ∷ rest) place now image →
      ((base : Base) (entries : List Entry) → KeepsLog seen may_leave base entries now image → LeavesOnly moment left_since now new (HasOneOrNone base entries (entry_at (image.version + 1) request))) →
      (base : Base) (entries : List Entry) → KeepsLog seen may_leave base entries old before → LeavesOnly moment left_since old new (HasFirst base entries (entries_after before.version all))
  leaves_more old now new before image all rest place request so_far any_moment base entries keeps =
      let first = so_far.first in
      let P = HasFirst base entries (entries_after before.version all) in
      let here = any_moment base (entries ++ entries_after before.version first) (so_far.keeps base entries keeps) in
      let named = subst (λ v. LeavesOnly moment left_since now new (HasOneOrNone base (entries ++ entries_after before.version first) (entry_at (v + 1) request))) so_far.version here in
      joined moment left_since old now new P (so_far.leaves base entries keeps)
      (weaker moment left_since now new (HasOneOrNone base (entries ++ entries_after before.version first) (entry_at (before.version + length first + 1) request)) P
      (has_first base before.version entries first request rest all so_far.split) named)

  -- one more is committed
  pub committed_more : (old now new : D) (before image next : Image) (all rest : List Request) (place : ℕ) (request : Request) (done : Committed) → HasCommitted old before all (request ∷ rest) place now image →
      ((base : Base) (entries : List Entry) → KeepsLog seen may_leave base entries now image → IsCommitted seen may_leave base entries image.version request done new next) →
      ((base : Base) (entries : List Entry) → KeepsLog seen may_leave base entries now image → LeavesOnly moment left_since now new (HasOneOrNone base entries (entry_at (image.version + 1) request))) →
      done.version ≡ image.version + 1 → next.version ≡ done.version → HasCommitted old before all rest (place + 1) new next
  committed_more old now new before image next all rest place request done so_far committed any_moment given version =
      let first = so_far.first in
      record {
        first = first ++ request ∷ [];
        split = append_assoc first (request ∷ []) rest ∙ so_far.split;
        at = let more : length (first ++ request ∷ []) ≡ length first + 1 = length-append first (request ∷ []) in omega (arith, more, so_far.at);
        version = let more : length (first ++ request ∷ []) ≡ length first + 1 = length-append first (request ∷ []) in omega (arith, more, version, given, so_far.version);
        keeps = λ base entries keeps.
            let kept = (committed base (entries ++ entries_after before.version first) (so_far.keeps base entries keeps)).keeps in
            subst (λ es. KeepsLog seen may_leave base es new next) (one_more before.version entries first request)
            (subst (λ v. KeepsLog seen may_leave base ((entries ++ entries_after before.version first) ++ entry_at (v + 1) request ∷ []) new next) so_far.version kept);
        leaves = leaves_more old now new before image all rest place request so_far any_moment;
      }

  -- all are committed
  pub all_committed : (old now : D) (before image : Image) (all : List Request) (place : ℕ) → HasCommitted old before all [] place now image → (base : Base) (entries : List Entry) → KeepsLog seen may_leave base entries old before →
      KeepsLog seen may_leave base (entries ++ entries_after before.version all) now image
  all_committed old now before image all place so_far base entries keeps =
      subst (λ rs. KeepsLog seen may_leave base (entries ++ entries_after before.version rs) now image) (sym (append-nil so_far.first) ∙ so_far.split) (so_far.keeps base entries keeps)

-- ---- the end

module _ {D : Type 0} {G : Ghosts D} (seen : D → List ℕ) (may_leave : D → List ℕ → Type 0) (moment : D → ℕ) (left_since : D → ℕ → List ℕ → Type 0) where
  still : (base : Base) (entries : List Entry) (old new : Durable D G) → IsUnchanged old new → KeepsLog seen may_leave base entries (log_device old) (image_of old) → KeepsLog seen may_leave base entries (log_device new) (image_of new)
  still base entries old new same keeps = subst₂ (λ d i. KeepsLog seen may_leave base entries d i) (sym same.device) (sym same.image) keeps

  why_stopped : (base : Base) (entries : List Entry) (request : Request) (error : CommitError) (old new : Durable D G) → KeepsLog seen may_leave base entries (log_device old) (image_of old) → IsUncommitted error request old new →
      (error ≡ Full → HasNoRoom (seen (log_device old)) (image_of old).version request) → (error ≡ Unseen → HasOnDisk seen may_leave base (entries ++ entry_at ((image_of old).version + 1) request ∷ []) (log_device new)) →
      IsStoppedBehind seen may_leave base entries (image_of old).version request error (log_device new) (image_of new)
  why_stopped base entries request Memory old new keeps is full unseen = still base entries old new is keeps
  why_stopped base entries request (Refused error) old new keeps is full unseen =
      (still base entries old new is.0 keeps, subst (λ m. AreUndone request.store m (commands_of request.changes) error) keeps.logged.map is.1)
  why_stopped base entries request Full old new keeps is full unseen = (still base entries old new is keeps, subst (λ d. HasNoRoom (seen d) (image_of old).version request) (sym is.device) (full refl))
  why_stopped base entries request Exhausted old new keeps is full unseen = (still base entries old new is.0 keeps, is.1)
  why_stopped base entries request Closed old new keeps is full unseen = still base entries old new is.0 keeps
  why_stopped base entries request Unknown old new keeps is full unseen = tt
  why_stopped base entries request Starved old new keeps is full unseen = tt
  why_stopped base entries request Unseen old new keeps is full unseen = unseen refl

  -- the next one isn't committed
  pub stopped_there : (first_db now new : Durable D G) (all rest : List Request) (place : ℕ) (request : Request) (error : CommitError) →
      HasCommitted seen may_leave moment left_since (log_device first_db) (image_of first_db) all (request ∷ rest) place (log_device now) (image_of now) → IsUncommitted error request now new →
      (error ≡ Full → HasNoRoom (seen (log_device now)) (image_of now).version request) →
      (error ≡ Unseen → (base : Base) (entries : List Entry) → KeepsLog seen may_leave base entries (log_device now) (image_of now) → HasOnDisk seen may_leave base (entries ++ entry_at ((image_of now).version + 1) request ∷ []) (log_device new)) →
      (base : Base) (entries : List Entry) → KeepsLog seen may_leave base entries (log_device first_db) (image_of first_db) →
      StopsAt seen may_leave base entries (image_of first_db).version all (record { place = place; error = error }) (log_device new) (image_of new)
  stopped_there first_db now new all rest place request error so_far is full unseen base entries keeps =
      let first = so_far.first in
      let version = (image_of first_db).version in
      let longer = entries ++ entries_after version first in
      let here = so_far.keeps base entries keeps in
      record {
        first = first;
        request = request;
        others = rest;
        split = sym so_far.split;
        at = sym so_far.at;
        stopped =
            subst (λ v. IsStoppedBehind seen may_leave base longer v request error (log_device new) (image_of new)) so_far.version
            (why_stopped base longer request error now new here is full (λ hidden. unseen hidden base longer here));
      }

  was_closed : (request : Request) (error : CommitError) (old new : Durable D G) → error ≡ Closed → IsUncommitted error request old new → takes_commits old ≡ false
  was_closed request Memory old new is uncommitted = absurd (cc)
  was_closed request (Refused error) old new is uncommitted = absurd (cc)
  was_closed request Full old new is uncommitted = absurd (cc)
  was_closed request Exhausted old new is uncommitted = absurd (cc)
  was_closed request Closed old new is uncommitted = uncommitted.1
  was_closed request Unknown old new is uncommitted = absurd (cc)
  was_closed request Starved old new is uncommitted = absurd (cc)
  was_closed request Unseen old new is uncommitted = absurd (cc)

  -- a database that was open stays so while transactions are committed
  pub closed_at_first : (first_db now new : Durable D G) (place : ℕ) (request : Request) (error : CommitError) → (0 < place → takes_commits now ≡ true) → (place ≡ 0 → takes_commits now ≡ takes_commits first_db) →
      IsUncommitted error request now new → error ≡ Closed → (place ≡ 0) × (takes_commits first_db ≡ false)
  closed_at_first first_db now new place request error open_since same_first uncommitted is = elim (cases_lt 0 place) [
    | inl some ↦ absurd (true≢false (sym (open_since some) ∙ was_closed request error now new is uncommitted))
    | inr none ↦ at_first (omega (arith, none))
  ]
    where
      at_first : place ≡ 0 → (place ≡ 0) × (takes_commits first_db ≡ false)
      at_first none = (none, sym (same_first none) ∙ was_closed request error now new is uncommitted)
