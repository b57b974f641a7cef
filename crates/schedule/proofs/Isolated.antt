-- Requests of other stores disturb none, so that they don't matter to whether one is committed.
use Rattle.std.proofs.Common.{◌≡◌, ℕ, suc, ◌+◌, ◌-◌, ◌==◌, ◌&&◌, Bool, true, false, not, cond, nat_lt, List, [], ◌∷◌, inl, inr, slice_get, reverse, refl, sym, ap, subst, ◌∙◌, Some, arith}
use Rattle.std.specs.Prelude.{filter, nat_le}
use Rattle.std.specs.List.{AllByRecursion, list_all, list_any}
use Rattle.std.proofs.lemmas.Bool.{or_left, or_right, true≢false}
use Rattle.std.proofs.lemmas.List.Elements.{All-contains, All-from_recursion}
use Rattle.tuple_codec.specs.Subspace.{BeginsWith}
use Rattle.kv_core.specs.Change.{write_ranges}
use Rattle.kv_core.specs.Map.{Map}
use Rattle.kv_core.specs.Range.{KeyRange, contains, covers}
use Rattle.kv_core.specs.declared.change.CommitRequest.{CommitRequest}
use Rattle.kv_core.proofs.Lists.{filter-reverse}
use Rattle.kv_core.proofs.Pairs.{All-reverse}
use Rattle.cluster_core.specs.Decision.{Owned, agreed_above, agrees, disturbs, earlier, meets_within, numbered, writes_in}
use Rattle.cluster_core.specs.History.{Entry, until}
use Rattle.cluster_core.specs.Roles.{PipelineState, entries}
use Rattle.cluster_core.proofs.Ownership.{meets_within-gives}
use Rattle.record_store.specs.Layout.{is_store_number, store_prefix}
use Rattle.record_store.proofs.Stores.{apart}
use Rattle.schedule.specs.declared.transcript.CommitEntry.{CommitEntry}
use Rattle.schedule.specs.Commits.{committed_over}
use Rattle.schedule.specs.Holds.{Stores}
use Rattle.schedule.specs.Contract.{EachRequest}
use Rattle.schedule.specs.Isolated.{IsIsolated, store_of}
use Rattle.schedule.specs.Past.{Submission}
use Rattle.schedule.specs.Right.{IsRightRequest}
use Rattle.schedule.specs.Turns.{AreSubmitted}
use Rattle.schedule.proofs.Places.{same_number}
use Rattle.schedule.proofs.Submitting.{store_here, submitted_versions}
use Rattle.schedule.proofs.Within.{read_within, written_within}
use Rattle.schedule.proofs.Written.{or_cases}

-- ---- who disturbs another shares a key with it

writes_shared : (owner : Owned) (range : KeyRange) (writes : List KeyRange) → list_any (λ write. meets_within owner write range) writes ≡ true → (key : List ℕ) × (covers writes key ≡ true) × (contains range key ≡ true)
writes_shared owner range [] is = absurd (cc)
writes_shared owner range (write ∷ writes) is = elim (or_cases (meets_within owner write range) (list_any (λ one. meets_within owner one range) writes) is) [
  | inl here ↦ let at = meets_within-gives owner write range here in (at.0, or_left (contains write at.0) (covers writes at.0) at.2, at.3)
  | inr later ↦ let at = writes_shared owner range writes later in (at.0, or_right (contains write at.0) (covers writes at.0) at.1, at.2)
]

reads_shared : (owner : Owned) (writer : CommitRequest) (reads : List KeyRange) → list_any (λ range. writes_in owner range writer) reads ≡ true → (key : List ℕ) × (covers (write_ranges writer.mutations) key ≡ true) × (covers reads key ≡ true)
reads_shared owner writer [] is = absurd (cc)
reads_shared owner writer (range ∷ reads) is = elim (or_cases (writes_in owner range writer) (list_any (λ one. writes_in owner one writer) reads) is) [
  | inl here ↦ let at = writes_shared owner range (write_ranges writer.mutations) here in (at.0, at.1, or_left (contains range at.0) (covers reads at.0) at.2)
  | inr later ↦ let at = reads_shared owner writer reads later in (at.0, at.1, or_right (contains range at.0) (covers reads at.0) at.2)
]

-- ---- lists of which a test keeps a part

-- what holds of each holds of those that are kept
kept_each : {X : Type 0} (P : X → Type 0) (keeps : X → Bool) (xs : List X) → AllByRecursion P xs → AllByRecursion P (filter keeps xs)
kept_each P keeps [] all = tt
kept_each P keeps (x ∷ xs) all = by_test (keeps x) (kept_each P keeps xs all.1)
  where
    by_test : (b : Bool) → AllByRecursion P (filter keeps xs) → AllByRecursion P (cond b (x ∷ filter keeps xs) (filter keeps xs))
    by_test true others = (all.0, others)
    by_test false others = others

-- two tests, in either order
kept_twice : {X : Type 0} (p q : X → Bool) (xs : List X) → filter p (filter q xs) ≡ filter q (filter p xs)
kept_twice p q [] = refl
kept_twice p q (x ∷ xs) = by_tests (p x) (q x) refl refl (kept_twice p q xs)
  where
    after_p : (b : Bool) → p x ≡ b → (more : List _) → filter p (x ∷ more) ≡ cond b (x ∷ filter p more) (filter p more)
    after_p b is more = ap (λ c. cond c (x ∷ filter p more) (filter p more)) is

    after_q : (b : Bool) → q x ≡ b → (more : List _) → filter q (x ∷ more) ≡ cond b (x ∷ filter q more) (filter q more)
    after_q b is more = ap (λ c. cond c (x ∷ filter q more) (filter q more)) is

    by_tests : (b c : Bool) → p x ≡ b → q x ≡ c → filter p (filter q xs) ≡ filter q (filter p xs) → filter p (filter q (x ∷ xs)) ≡ filter q (filter p (x ∷ xs))
    by_tests true true is_p is_q others = ap (filter p) (after_q true is_q xs) ∙ after_p true is_p (filter q xs) ∙ ap (λ ys. x ∷ ys) (others) ∙ sym (ap (filter q) (after_p true is_p xs) ∙ after_q true is_q (filter p xs))
    by_tests true false is_p is_q others = ap (filter p) (after_q false is_q xs) ∙ others ∙ sym (ap (filter q) (after_p true is_p xs) ∙ after_q false is_q (filter p xs))
    by_tests false true is_p is_q others = ap (filter p) (after_q true is_q xs) ∙ after_p false is_p (filter q xs) ∙ others ∙ sym (ap (filter q) (after_p false is_p xs))
    by_tests false false is_p is_q others = ap (filter p) (after_q false is_q xs) ∙ others ∙ sym (ap (filter q) (after_p false is_p xs))

-- all pass where those that are kept do, and the others do anyway
all_kept : {X : Type 0} (passes keeps : X → Bool) (P : X → Type 0) (xs : List X) → ((x : X) → P x → keeps x ≡ false → passes x ≡ true) → AllByRecursion P xs → list_all passes (filter keeps xs) ≡ list_all passes xs
all_kept passes keeps P [] so all = refl
all_kept passes keeps P (x ∷ xs) so all = by_test (keeps x) refl (all_kept passes keeps P xs so all.1)
  where
    by_test : (b : Bool) → keeps x ≡ b → list_all passes (filter keeps xs) ≡ list_all passes xs → list_all passes (cond b (x ∷ filter keeps xs) (filter keeps xs)) ≡ (passes x && list_all passes xs)
    by_test true is others = ap (λ b. passes x && b) others
    by_test false is others = others ∙ ap (λ b. b && list_all passes xs) (sym (so x all.0 is))

-- ---- entries of submissions

module _ (subs : List Submission) where
  abbrev own_store : Entry → ℕ
  own_store entry = store_of subs entry.version

  -- the entry reads and writes in its store
  record IsWithin (entry : Entry) : Type 0 where
    lawful : is_store_number (own_store entry) ≡ true
    reads : (key : List ℕ) → covers entry.request.reads key ≡ true → BeginsWith (store_prefix (own_store entry)) key
    writes : (key : List ℕ) → covers (write_ranges entry.request.mutations) key ≡ true → BeginsWith (store_prefix (own_store entry)) key

  undisturbed : (owner : Owned) (newer entry : Entry) → IsWithin newer → IsWithin entry → (own_store newer ≡ own_store entry → ⊥) → disturbs owner newer.request entry.request ≡ false
  undisturbed owner newer entry one other differ = by_test (disturbs owner newer.request entry.request) refl
    where
      by_test : (b : Bool) → disturbs owner newer.request entry.request ≡ b → b ≡ false
      by_test false is = refl
      by_test true is =
          let at = reads_shared owner newer.request entry.request.reads is in
          absurd (differ (apart (own_store newer) (own_store entry) at.0 one.lawful other.lawful (one.writes at.0 at.1) (other.reads at.0 at.2)))

  module _ (owner : Owned) (number : ℕ) where
    abbrev keeps : Entry → Bool
    keeps entry = own_store entry == number

    abbrev passes : Entry → Entry → Bool
    passes entry newer = not (disturbs owner newer.request entry.request)

    agreed_each : (v : ℕ) (es : List Entry) → AllByRecursion IsWithin es → AllByRecursion IsWithin (agreed_above owner v es)
    agreed_each v [] all = tt
    agreed_each v (entry ∷ es) all = by_test (nat_lt v entry.version && list_all (passes entry) (agreed_above owner entry.request.read_version es)) (agreed_each v es all.1)
      where
        by_test : (b : Bool) → AllByRecursion IsWithin (agreed_above owner v es) → AllByRecursion IsWithin (cond b (entry ∷ agreed_above owner v es) (agreed_above owner v es))
        by_test true others = (all.0, others)
        by_test false others = others

    -- an entry of the store passes among those of the store just where it passes among all
    same_pass : (entry : Entry) (xs : List Entry) → keeps entry ≡ true → IsWithin entry → AllByRecursion IsWithin xs → list_all (passes entry) (filter keeps xs) ≡ list_all (passes entry) xs
    same_pass entry xs own is all = all_kept (passes entry) keeps IsWithin xs (λ newer within foreign.
        ap not (undisturbed owner newer entry within is (λ same. true≢false (sym (ap (λ n. n == number) same ∙ own) ∙ foreign)))) all

    agreed_kept : (v : ℕ) (es : List Entry) → AllByRecursion IsWithin es → agreed_above owner v (filter keeps es) ≡ filter keeps (agreed_above owner v es)
    agreed_kept v [] all = refl
    agreed_kept v (entry ∷ es) all = by_test (keeps entry) refl (agreed_kept v es all.1) (agreed_kept entry.request.read_version es all.1)
      where
        mine : Bool
        mine = nat_lt v entry.version && list_all (passes entry) (agreed_above owner entry.request.read_version es)

        rest : List Entry
        rest = agreed_above owner v es

        seen_by : List Entry → List Entry
        seen_by xs = agreed_above owner entry.request.read_version xs

        outside : (b : Bool) → keeps entry ≡ false → filter keeps rest ≡ filter keeps (cond b (entry ∷ rest) rest)
        outside true foreign = ap (λ b. cond b (entry ∷ filter keeps rest) (filter keeps rest)) (sym foreign)
        outside false foreign = refl

        inside : (b : Bool) → keeps entry ≡ true → cond b (entry ∷ filter keeps rest) (filter keeps rest) ≡ filter keeps (cond b (entry ∷ rest) rest)
        inside true own = ap (λ b. cond b (entry ∷ filter keeps rest) (filter keeps rest)) (sym own)
        inside false own = refl

        by_test : (b : Bool) → keeps entry ≡ b → agreed_above owner v (filter keeps es) ≡ filter keeps rest → seen_by (filter keeps es) ≡ filter keeps (seen_by es) →
            agreed_above owner v (cond b (entry ∷ filter keeps es) (filter keeps es)) ≡ filter keeps (cond mine (entry ∷ rest) rest)
        by_test false foreign same same_seen = same ∙ outside mine foreign
        by_test true own same same_seen =
            (λ i. cond (nat_lt v entry.version && (ap (list_all (passes entry)) same_seen ∙ same_pass entry (agreed_above owner entry.request.read_version es) own all.0 (agreed_each entry.request.read_version es all.1)) i) (entry ∷ same i) (same i))
            ∙ inside mine own

    earlier_kept : (es : List Entry) (v : ℕ) → earlier (filter keeps es) v ≡ filter keeps (earlier es v)
    earlier_kept es v = ap reverse (kept_twice (λ (e : Entry). nat_le e.version (v - 1)) keeps es) ∙ sym (filter-reverse keeps (until (v - 1) es))

    same_agreement : (es : List Entry) (entry : Entry) → AllByRecursion IsWithin es → IsWithin entry → keeps entry ≡ true → agrees owner es entry ≡ agrees owner (filter keeps es) entry
    same_agreement es entry all is own =
        sym (same_pass entry (agreed_above owner entry.request.read_version before) own is (agreed_each entry.request.read_version before within))
        ∙ ap (list_all (passes entry)) (sym (agreed_kept entry.request.read_version before within))
        ∙ ap (λ xs. list_all (passes entry) (agreed_above owner entry.request.read_version xs)) (sym (earlier_kept es entry.version))
      where
        before : List Entry
        before = earlier es entry.version

        within : AllByRecursion IsWithin before
        within = All-reverse IsWithin (until (entry.version - 1) es) (kept_each IsWithin (λ (e : Entry). nat_le e.version (entry.version - 1)) es all)

  -- each entry is within its store where its request is within the reach of its submission's commands
  module _ (maps : ℕ → Map) (reported start : ℕ) (at_first : Stores) (commits : List CommitEntry) where
    abbrev own_store_at : ℕ → Submission → Type 0
    own_store_at version one = store_of subs version ≡ one.transaction.store

    each_within : (n : ℕ) (ss : List Submission) (requests : List CommitRequest) → AreSubmitted maps reported (start + n) ss requests → EachRequest (IsRightRequest at_first commits) ss requests →
        ((i : ℕ) (one : Submission) → slice_get ss i ≡ Some one → own_store_at (start + (n + i) + 1) one) → AllByRecursion IsWithin (numbered (start + n) requests)
    each_within n [] [] are right at = tt
    each_within n [] (request ∷ requests) are right at = absurd are
    each_within n (one ∷ ss) [] are right at = absurd are
    each_within n (one ∷ ss) (request ∷ requests) are right at = (
      record {
        lawful = subst (λ k. is_store_number k ≡ true) (sym here) are.0.open_as.store;
        reads = λ key inside. subst (λ k. BeginsWith (store_prefix k) key) (sym here)
            (read_within one.transaction.store key (committed_over at_first one.transaction.store commits one.transaction.read_version) one.transaction.attempts (right.0.reads key inside));
        writes = λ key inside. subst (λ k. BeginsWith (store_prefix k) key) (sym here)
            (written_within one.transaction.store key (committed_over at_first one.transaction.store commits one.transaction.read_version) one.transaction.attempts (right.0.writes key inside));
      },
      subst (λ last. AllByRecursion IsWithin (numbered last requests)) (sym next)
          (each_within (suc n) ss requests (subst (λ last. AreSubmitted maps reported last ss requests) next are.1) right.1
          (λ i other is. subst (λ k. own_store_at (start + k + 1) other) (shift i) (at (suc i) other is))),
    )
      where
        here : store_of subs (start + n + 1) ≡ one.transaction.store
        here = subst (λ k. store_of subs (start + k + 1) ≡ one.transaction.store) none (at 0 one refl)
          where
            none : n + 0 ≡ n
            none = omega arith

        next : start + n + 1 ≡ start + suc n
        next = omega arith

        shift : (i : ℕ) → n + suc i ≡ suc n + i
        shift i = omega arith

pub isolated_in : (maps : ℕ → Map) (at_first : Stores) (commits : List CommitEntry) (p : PipelineState) (subs : List Submission) → AreSubmitted maps p.reported p.start subs p.requests → EachRequest (IsRightRequest at_first commits) subs p.requests → IsIsolated p subs
isolated_in maps at_first commits p subs are right owner entry there =
    same_agreement subs owner (store_of subs entry.version) (entries p) entry within
    (All-contains (IsWithin subs) (entries p) entry (All-from_recursion (IsWithin subs) (entries p) within) there) (same_number (store_of subs entry.version))
  where
    here : p.start ≡ p.start + 0
    here = omega arith

    none : (i : ℕ) → i ≡ 0 + i
    none i = omega arith

    within : AllByRecursion (IsWithin subs) (entries p)
    within = subst (λ last. AllByRecursion (IsWithin subs) (numbered last p.requests)) (sym here)
        (each_within subs maps p.reported p.start at_first commits 0 subs p.requests (subst (λ last. AreSubmitted maps p.reported last subs p.requests) here are) right
        (λ i one is. subst (λ k. store_of subs (p.start + k + 1) ≡ one.transaction.store) (none i) (store_here p.start subs i one (submitted_versions maps p.reported p.start subs p.requests are) is)))
