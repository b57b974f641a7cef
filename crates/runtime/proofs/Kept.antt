-- What is kept of a log, and what is on the disk after a request.
use Rattle.std.proofs.Common.{◌≡◌, ◌⊎◌, ℕ, ◌+◌, ◌≤◌, Bool, true, false, List, [], ◌∷◌, ◌++◌, Option, Some, None, cond, inl, inr, refl, sym, ap, ◌∙◌, subst, subst₂, true≢false, append-nil, append_assoc, get_or-set_same}
use Rattle.std.specs.Prelude.{is_none, slice_index, Result, Ok, Err, MatchResult, MatchBool, IfSome}
use Rattle.std.specs.Bool.{OnTrue}
use Rattle.runtime.specs.Origins.{Origin}
use Rattle.cluster_core.specs.Decision.{Cause}
use Rattle.command_log.specs.declared.change.Change.{Change}
use Rattle.command_log.specs.declared.entry.Entry.{Entry as KeptEntry}
use Rattle.journal.specs.Device.{LeavesOnly}
use Rattle.journal.proofs.Moments.{started}
use Rattle.runtime.specs.declared.log_entry.Entry.{Entry}
use Rattle.runtime.specs.declared.outcome.Outcome.{Outcome}
use Rattle.runtime.specs.declared.outcome.Outcome.TheVariants.{Committed, Conflict, TooOld, VersionsExhausted, Unknown, Memory}
use Rattle.runtime.specs.CommitStates.{CommitView, IsHandled, commit_view}
use mathlib.Core.List.{IsPrefix}
use Rattle.runtime.specs.History.{Name, Prefix}
use Rattle.runtime.specs.Keeping.{IsBatchOrNone, IsOutcomeKnown, IsOn, IsSafe, IsStored, Keeps, IsOnDisk, is_kept, kept_beyond, kept_at, kept_by, kept_entry, kept_next, kept_of}
use Rattle.runtime.specs.declared.keeping.Keeping.{Keeping}
use Rattle.runtime.specs.declared.keeping.Keeping.TheVariants.{Off, On, Closed}
use Rattle.runtime.specs.Logs.{cause_next, version_of}
use Rattle.runtime.specs.Outcomes.{decided}
use Rattle.runtime.specs.Traces.{changes_of}

-- ---- what is kept of a longer log

kept_append : (origin : Origin) (log xs ys : List Entry) → kept_beyond origin log (xs ++ ys) ≡ kept_beyond origin log xs ++ kept_beyond origin (log ++ xs) ys
kept_append origin log [] ys = ap (λ l. kept_beyond origin l ys) (sym (append-nil log))
kept_append origin log (x ∷ xs) ys =
    let head : List KeptEntry = kept_next origin log x in
    let own : List KeptEntry = kept_beyond origin (log ++ x ∷ []) xs in
    ap (λ l. head ++ l) (kept_append origin (log ++ x ∷ []) xs ys)
    ∙ ap (λ l. head ++ (own ++ kept_beyond origin l ys)) (append_assoc log (x ∷ []) xs)
    ∙ sym (append_assoc head own (kept_beyond origin (log ++ x ∷ xs) ys))

kept_longer : (origin : Origin) (log more : List Entry) → kept_of origin (log ++ more) ≡ kept_of origin log ++ kept_beyond origin log more
kept_longer origin log more = ap (λ l. origin.before ++ l) (kept_append origin [] log more) ∙ sym (append_assoc origin.before (kept_beyond origin [] log) (kept_beyond origin log more))

committed_by : (why : Option Cause) (next version : ℕ) → decided why next ≡ Committed version → (is_none why ≡ true) × (next ≡ version)
committed_by None next version is = (refl, cc (is))
committed_by (Some why) next version is = absurd (cc (is))

refused_by : (why : Option Cause) (next seen : ℕ) (range : _) → decided why next ≡ Conflict seen range → is_none why ≡ false
refused_by None next seen range is = absurd (cc (is))
refused_by (Some why) next seen range is = refl

kept_if : (b c : Bool) (entry : KeptEntry) → b ≡ c → cond b (entry ∷ []) [] ≡ cond c (entry ∷ []) []
kept_if b c entry is = ap (λ t. cond t (entry ∷ []) []) is

kept_committed : (origin : Origin) (log : List Entry) (e : Entry) (version : ℕ) → decided (cause_next origin log e.request) (version_of origin log + 1) ≡ Committed version → kept_next origin log e ≡ kept_at version e ∷ []
kept_committed origin log e version is =
    let p = committed_by (cause_next origin log e.request) (version_of origin log + 1) version is in
    kept_if (is_none (cause_next origin log e.request)) true (kept_at (version_of origin log + 1) e) p.0 ∙ ap (λ v. kept_at v e ∷ []) p.1

kept_refused : (origin : Origin) (log : List Entry) (e : Entry) (seen : ℕ) (range : _) → decided (cause_next origin log e.request) (version_of origin log + 1) ≡ Conflict seen range → kept_next origin log e ≡ []
kept_refused origin log e seen range is =
    kept_if (is_none (cause_next origin log e.request)) false (kept_at (version_of origin log + 1) e) (refused_by (cause_next origin log e.request) (version_of origin log + 1) seen range is)

-- ---- what a request adds

-- so much is kept of what the log has more, and nothing is in flight
pub record IsGrown (old new : CommitView) (batch : List KeptEntry) : Type 0 where
  pub more : List Entry
  pub log : new.log ≡ old.log ++ more
  pub due : new.due ≡ new.log
  pub kept : kept_beyond old.name.origin old.log more ≡ batch

-- nothing more
grown_none : (old new : CommitView) → old.due ≡ old.log → new.log ≡ old.due → new.due ≡ old.due → IsGrown old new []
grown_none old new idle log due = record { more = []; log = log ∙ idle ∙ sym (append-nil old.log); due = due ∙ sym log; kept = refl }

grown_stays : (old new : CommitView) → old.due ≡ old.log → new.log ≡ old.log → new.due ≡ old.due → IsGrown old new []
grown_stays old new idle log due = record { more = []; log = log ∙ sym (append-nil old.log); due = due ∙ idle ∙ sym log; kept = refl }

grown_entry : (old new : CommitView) (e : Entry) (batch : List KeptEntry) → old.due ≡ old.log → new.log ≡ old.due ++ e ∷ [] → new.due ≡ old.due ++ e ∷ [] → kept_next old.name.origin old.log e ≡ batch → IsGrown old new batch
grown_entry old new e batch idle log due kept =
    record { more = e ∷ []; log = log ∙ ap (λ l. l ++ e ∷ []) idle; due = due ∙ sym log; kept = append-nil (kept_next old.name.origin old.log e) ∙ kept }

-- what is kept of a committed one has the number that its client was given
kept_number : (old new : CommitView) (e : Entry) (version number store : ℕ) (changes : List Change) → IsHandled old new e (Committed version) → old.due ≡ old.log → number ≡ slice_index new.last e.client → store ≡ e.trace.store → changes ≡ changes_of e.trace.attempts.list →
    kept_next old.name.origin old.log e ≡ kept_by (Committed version) e.client number store changes
kept_number old new e version number store changes h idle numbered in_store are =
    let own : number ≡ e.number = numbered ∙ ap (λ (l : List ℕ). slice_index l e.client) h.numbers.0 ∙ get_or-set_same old.last e.client e.number 0 h.numbers.1 in
    kept_committed old.name.origin old.log e version (subst (λ (l : List Entry). decided (cause_next old.name.origin l e.request) (version_of old.name.origin l + 1) ≡ Committed version) idle h.reason)
    ∙ (λ i. kept_entry version e.client (sym own i) (sym in_store i) (sym are i) ∷ [])

kept_conflict : (old new : CommitView) (e : Entry) (seen : ℕ) (range : _) → IsHandled old new e (Conflict seen range) → old.due ≡ old.log → kept_next old.name.origin old.log e ≡ []
kept_conflict old new e seen range h idle =
    kept_refused old.name.origin old.log e seen range (subst (λ (l : List Entry). decided (cause_next old.name.origin l e.request) (version_of old.name.origin l + 1) ≡ Conflict seen range) idle h.reason)

pub grown : (old new : CommitView) (e : Entry) (outcome : Outcome) (number store : ℕ) (changes : List Change) → IsHandled old new e outcome → old.due ≡ old.log → number ≡ slice_index new.last e.client → store ≡ e.trace.store → changes ≡ changes_of e.trace.attempts.list →
    IsOutcomeKnown outcome → IsGrown old new (kept_by outcome e.client number store changes)
grown old new e (Committed version) number store changes h idle numbered in_store are known =
    grown_entry old new e _ idle h.added.0 h.added.1 (kept_number old new e version number store changes h idle numbered in_store are)
grown old new e (Conflict seen range) number store changes h idle numbered in_store are known =
    grown_entry old new e [] idle h.added.0 h.added.1 (kept_conflict old new e seen range h idle)
grown old new e TooOld number store changes h idle numbered in_store are known = grown_none old new idle h.added.0 h.added.1
grown old new e VersionsExhausted number store changes h idle numbered in_store are known = grown_none old new idle h.added.0 h.added.1
grown old new e Unknown number store changes h idle numbered in_store are known = absurd known
grown old new e Memory number store changes h idle numbered in_store are known = elim h.added [
  | inl finishes ↦ grown_none old new idle finishes.0 finishes.1
  | inr stays ↦ grown_stays old new idle stays.0 stays.1
]

-- ---- what is shown

-- all entries are shown to readers
abbrev pub all_shown : CommitView → CommitView
all_shown s = commit_view s.name s.log s.log s.due s.last

-- a publish shows all entries, or what was shown
pub shown_or_not : {A B : Type 0} (old new : CommitView) (r : Result A B) → MatchResult r (λ _. new ≡ all_shown old) (λ _. new ≡ old) → (new ≡ all_shown old) ⊎ (new ≡ old)
shown_or_not old new (Ok one) is = inl is
shown_or_not old new (Err error) is = inr is

pub shown_name : (old new : CommitView) → (new ≡ all_shown old) ⊎ (new ≡ old) → new.name ≡ old.name
shown_name old new (inl is) = ap (λ (s : CommitView). s.name) is
shown_name old new (inr is) = ap (λ (s : CommitView). s.name) is

-- ---- what is on the disk then

module _ {E : Type 0} (has : E → List KeptEntry → Type 0) where
  -- nothing was added yet
  pub on_first : (state : CommitView) (waiting : List KeptEntry) (end : E) → state.published ≡ [] → state.log ≡ [] → state.due ≡ [] → waiting ≡ [] → has end state.name.origin.before → IsOn has state waiting end
  on_first state waiting end published log due none file = record {
    stored = [];
    rest = [];
    begins = subst (λ (l : List Entry). IsPrefix l []) (sym published) ([], refl);
    log = log;
    kept = subst (has end) (sym (append-nil state.name.origin.before)) file;
    waits = none;
    idle = due ∙ sym log;
  }

  -- a request was handed in, and what is kept of it waits
  pub adds_on : (old new : CommitView) (waiting after batch : List KeptEntry) (end : E) → IsOn has old waiting end → new.name ≡ old.name → new.published ≡ old.published → IsGrown old new batch → after ≡ waiting ++ batch → IsOn has new after end
  adds_on old new waiting after batch end on name published g is =
      let origin : Origin = old.name.origin in
      let stored : List Entry = on.stored in
      let whole : new.log ≡ stored ++ (on.rest ++ g.more) = g.log ∙ ap (λ l. l ++ g.more) on.log ∙ append_assoc stored on.rest g.more in
      let more : batch ≡ kept_beyond origin (stored ++ on.rest) g.more = sym g.kept ∙ ap (λ l. kept_beyond origin l g.more) on.log in
      let all : after ≡ kept_beyond origin stored (on.rest ++ g.more) =
      is ∙ (λ i. on.waits i ++ more i) ∙ sym (kept_append origin stored on.rest g.more) in
      record {
        stored = stored;
        rest = on.rest ++ g.more;
        begins = subst (λ (l : List Entry). IsPrefix l stored) (sym published) on.begins;
        log = whole;
        kept = subst (λ (n : Name). has end (kept_of n.origin stored)) (sym name) on.kept;
        waits = subst (λ (n : Name). after ≡ kept_beyond n.origin stored (on.rest ++ g.more)) (sym name) all;
        idle = g.due;
      }

  -- all that is kept of the whole log, once what waits is kept
  kept_all : (state : CommitView) (waiting : List KeptEntry) (end now : E) → IsOn has state waiting end → ((before : List KeptEntry) → has end before → has now (before ++ waiting)) → has now (kept_of state.name.origin state.log)
  kept_all state waiting end now on keeps =
      let origin : Origin = state.name.origin in
      let own : List KeptEntry = kept_of origin on.stored in
      let all : own ++ waiting ≡ kept_of origin state.log = ap (λ l. own ++ l) on.waits ∙ sym (kept_longer origin on.stored on.rest) ∙ ap (kept_of origin) (sym on.log) in
      subst (has now) all (keeps own on.kept)

  -- so it goes on, whether all entries are shown to readers then or not
  pub keeps_on : (old new : CommitView) (waiting : List KeptEntry) (after : List KeptEntry) (end now : E) → IsOn has old waiting end → ((before : List KeptEntry) → has end before → has now (before ++ waiting)) → after ≡ [] → (new ≡ all_shown old) ⊎ (new ≡ old) → IsOn has new after now
  keeps_on old new waiting after end now on keeps none (inl is) =
      subst (λ (s : CommitView). IsOn has s after now) (sym is)
      (record { stored = old.log; rest = []; begins = ([], append-nil old.log); log = sym (append-nil old.log); kept = kept_all old waiting end now on keeps; waits = none; idle = on.idle })
  keeps_on old new waiting after end now on keeps none (inr is) =
      subst (λ (s : CommitView). IsOn has s after now) (sym is)
      (record { stored = old.log; rest = []; begins = upto; log = sym (append-nil old.log); kept = kept_all old waiting end now on keeps; waits = none; idle = on.idle })
    where
      upto : IsPrefix old.published old.log
      upto = (on.begins.0 ++ on.rest, sym (append_assoc old.published on.begins.0 on.rest) ∙ ap (λ l. l ++ on.rest) on.begins.1 ∙ sym on.log)

  module _ (may_leave : E → List ℕ → Type 0) (is_log : List ℕ → List KeptEntry → Type 0) where
    -- while entries are kept, what readers see is safe
    pub safe_on : (state : CommitView) (waiting : List KeptEntry) (end : E) → ((end : E) (entries : List KeptEntry) (file : List ℕ) → has end entries → may_leave end file → is_log file entries) → IsOn has state waiting end → IsSafe may_leave is_log state.name.origin state.published end
    safe_on state waiting end law on file left =
        let origin : Origin = state.name.origin in
        let tail : List KeptEntry = kept_beyond origin state.published on.begins.0 in
        let split : kept_of origin on.stored ≡ kept_of origin state.published ++ tail = ap (kept_of origin) (sym on.begins.1) ∙ kept_longer origin state.published on.begins.0 in
        (tail, subst (is_log file) split (law end (kept_of origin on.stored) file on.kept left))

    -- so it may be closed before anything is written
    pub closes_unwritten : (old new : CommitView) (waiting : List KeptEntry) (end : E) → ((end : E) (entries : List KeptEntry) (file : List ℕ) → has end entries → may_leave end file → is_log file entries) → IsOn has old waiting end → new.name ≡ old.name → new.published ≡ old.published →
        IsSafe may_leave is_log new.name.origin new.published end
    closes_unwritten old new waiting end law on name published =
        subst₂ (λ (n : Name) (l : List Entry). IsSafe may_leave is_log n.origin l end) (sym name) (sym published) (safe_on old waiting end law on)

  module _ (may_leave : E → List ℕ → Type 0) (moment : E → ℕ) (left_since : E → ℕ → List ℕ → Type 0) (is_log : List ℕ → List KeptEntry → Type 0) where
    -- or after it isn't known what was written: what readers see is kept
    pub closes : (state : CommitView) (waiting : List KeptEntry) (end now : E) → IsOn has state waiting end → ((before : List KeptEntry) → has end before → LeavesOnly moment left_since end now (IsBatchOrNone is_log before waiting)) →
        ((t : ℕ) (file : List ℕ) → t ≤ moment now → may_leave now file → left_since now t file) → IsSafe may_leave is_log state.name.origin state.published now
    closes state waiting end now on run counts file left = by_case (ran.each file (counts (moment end) file ran.later left))
      where
        own : List KeptEntry
        own = kept_of state.name.origin state.published

        tail : List KeptEntry
        tail = kept_beyond state.name.origin state.published on.begins.0

        split : kept_of state.name.origin on.stored ≡ own ++ tail
        split = ap (kept_of state.name.origin) (sym on.begins.1) ∙ kept_longer state.name.origin state.published on.begins.0

        ran : LeavesOnly moment left_since end now (IsBatchOrNone is_log (kept_of state.name.origin on.stored) waiting)
        ran = run (kept_of state.name.origin on.stored) on.kept

        by_case : IsBatchOrNone is_log (kept_of state.name.origin on.stored) waiting file → (more : List KeptEntry) × is_log file (own ++ more)
        by_case (inl without) = (tail, subst (is_log file) split without)
        by_case (inr all) = (tail ++ waiting, subst (is_log file) (ap (λ l. l ++ waiting) split ∙ append_assoc own tail waiting) all)

    -- what a crash leaves where nothing is kept
    pub leaves_none : ((end : E) (file : List ℕ) → left_since end (moment end) file → may_leave end file) → ((end : E) (entries : List KeptEntry) (file : List ℕ) → has end entries → may_leave end file → is_log file entries) → (end : E) (before batch : List KeptEntry) → has end before →
        LeavesOnly moment left_since end end (IsBatchOrNone is_log before batch)
    leaves_none only_now leaves end before batch had = started moment left_since end (IsBatchOrNone is_log before batch) (λ file left. inl (leaves end before file had (only_now end file left)))

-- ---- what readers see

module _ {E : Type 0} (may_leave : E → List ℕ → Type 0) (is_log : List ℕ → List KeptEntry → Type 0) where
  -- what is safe of a log is of each beginning of it
  pub safe_shorter : (origin : Origin) (log longer : List Entry) (end : E) → IsPrefix log longer → IsSafe may_leave is_log origin longer end → IsSafe may_leave is_log origin log end
  safe_shorter origin log longer end upto safe file left =
      let own : List KeptEntry = kept_of origin log in
      let tail : List KeptEntry = kept_beyond origin log upto.0 in
      let split : kept_of origin longer ≡ own ++ tail = ap (kept_of origin) (sym upto.1) ∙ kept_longer origin log upto.0 in
      let all = safe file left in
      (tail ++ all.0, subst (is_log file) (ap (λ l. l ++ all.0) split ∙ append_assoc own tail all.0) all.1)

  stands_safe : (has : E → List KeptEntry → Type 0) (keeping : Keeping) (state : CommitView) (waiting : List KeptEntry) (end : E) → ((end : E) (entries : List KeptEntry) (file : List ℕ) → has end entries → may_leave end file → is_log file entries) → IsOnDisk has may_leave is_log keeping state waiting end → is_kept keeping ≡ true →
      IsSafe may_leave is_log state.name.origin state.published end
  stands_safe has Off state waiting end law stands is = absurd (true≢false (sym is))
  stands_safe has On state waiting end law stands is = safe_on has may_leave is_log state waiting end law stands
  stands_safe has Closed state waiting end law stands is = stands

  -- where entries are kept, what readers see is safe
  pub safe_shown : (has : E → List KeptEntry → Type 0) (keeping : Keeping) (state : CommitView) (waiting : List KeptEntry) (end : E) → ((end : E) (entries : List KeptEntry) (file : List ℕ) → has end entries → may_leave end file → is_log file entries) → Keeps has may_leave is_log keeping state waiting end → is_kept keeping ≡ true →
      IsSafe may_leave is_log state.name.origin state.published end
  safe_shown has keeping state waiting end law keeps is = stands_safe has keeping state waiting end law keeps.1 is

  -- and so is each log that they see
  pub safe_seen : (has : E → List KeptEntry → Type 0) (keeping : Keeping) (state : CommitView) (waiting : List KeptEntry) (end : E) (prefix : Prefix) → ((end : E) (entries : List KeptEntry) (file : List ℕ) → has end entries → may_leave end file → is_log file entries) → Keeps has may_leave is_log keeping state waiting end →
      prefix.name ≡ state.name → IsPrefix prefix.log state.published → state.name.kept ≡ true → IsSafe may_leave is_log prefix.name.origin prefix.log end
  safe_seen has keeping state waiting end prefix law keeps named upto kept =
      subst (λ (n : Name). IsSafe may_leave is_log n.origin prefix.log end) (sym named)
      (safe_shorter state.name.origin prefix.log state.published end upto (safe_shown has keeping state waiting end law keeps (keeps.0 ∙ kept)))

  -- so it is where a test says that they do
  pub safe_if : (seen : Bool) (shorter longer : Type 0) (safe : Type 0) → MatchBool seen shorter longer → (shorter → safe) → OnTrue seen safe
  safe_if true shorter longer safe is by = by is
  safe_if false shorter longer safe is by = tt

  -- what is safe now is stored
  pub stored_if : (seen : Bool) (log : Option Prefix) (end : E) → OnTrue seen (IfSome log (λ l. l.name.kept ≡ true → IsSafe may_leave is_log l.name.origin l.log end)) → OnTrue seen (IfSome log (IsStored may_leave is_log))
  stored_if false log end safe = tt
  stored_if true None end safe = tt
  stored_if true (Some l) end safe = λ kept. (end, safe kept)
