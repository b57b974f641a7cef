-- What open transactions and submissions have written meets no limit, since each of their accepted commands met none.
use Rattle.std.proofs.Common.{◌≡◌, ◌∙◌, ◌==◌, ◌&&◌, ℕ, ◌≤◌, Bool, true, false, cond, List, [], ◌∷◌, ◌++◌, Option, Some, None, inl, inr, nat_le, fold, refl, sym, ap, subst, subst₂, append-nil, append_assoc, arith}
use Rattle.std.specs.Prelude.{map}
use Rattle.std.specs.List.{filter}
use Rattle.std.specs.Option.{option_or}
use Rattle.std.proofs.lemmas.Bool.{and_parts, le-leb, leb-true, true≢false}
use Rattle.std.proofs.lemmas.List.{map-append}
use Rattle.std.proofs.lemmas.List.Elements.{filter-append}
use Rattle.kv_core.specs.Limits.{write_all_refusal, write_refusal}
use Rattle.kv_core.specs.Map.{Map, after_all}
use Rattle.kv_core.specs.Range.{KeyRange}
use Rattle.kv_core.specs.declared.change.Mutation.{Mutation}
use Rattle.kv_core.specs.declared.change.WriteError.{WriteError}
use Rattle.kv_core.specs.declared.change.WriteError.TheVariants as limits
use Rattle.kv_core.specs.declared.snapshot.ReadError.{ReadError}
use Rattle.kv_core.specs.declared.snapshot.ReadError.TheVariants as reads
use Rattle.kv_core.proofs.Changes.{after_all-append}
use Rattle.cluster_core.specs.Cluster.{ClusterState, database_at}
use Rattle.record_store.specs.Store.{Serial}
use Rattle.schedule.specs.declared.refusal.Refusal.TheVariants.{FutureVersion, TooOld}
use Rattle.schedule.specs.declared.reply.Reply.{Reply}
use Rattle.schedule.specs.declared.reply.Reply.TheVariants.{Refused}
use Rattle.schedule.specs.declared.step.Command.{Command}
use Rattle.schedule.specs.declared.transcript.CommitEntry.{CommitEntry}
use Rattle.schedule.specs.Commits.{committed_over, is_of_upto}
use Rattle.schedule.specs.Exact.{IsReplyHeld, commands_written}
use Rattle.schedule.specs.Holds.{HoldsAll, Stores}
use Rattle.schedule.specs.Past.{Attempt, Open, Submission, accepted, is_accepted}
use Rattle.schedule.specs.Performed.{IsLimit, IsLimited, IsReadRefusal}
use Rattle.schedule.specs.Reach.{writes}
use Rattle.schedule.specs.Refusals.{read_reply}
use Rattle.schedule.specs.Serve.{effect, effects}
use Rattle.schedule.specs.Standing.{commit_entry}

-- ---- one command

-- a limit is a refusal, and so is a refused read
limit_refuses : (error : WriteError) (answer : Reply) → IsLimit error answer → is_accepted answer ≡ false
limit_refuses limits.KeyOutside answer is = ap is_accepted is
limit_refuses limits.KeyTooLarge answer is = ap is_accepted is
limit_refuses limits.ValueTooLarge answer is = ap is_accepted is
limit_refuses limits.TransactionTooLarge answer is = ap is_accepted is
limit_refuses limits.Memory answer is = absurd is

read_refuses : (refuses : KeyRange → ReadError → Type 0) (within : List KeyRange) (answer : Reply) → IsReadRefusal refuses within answer → is_accepted answer ≡ false
read_refuses refuses within answer is = by_error is.error is.told
  where
    by_error : (error : ReadError) → read_reply error ≡ Some answer → is_accepted answer ≡ false
    by_error reads.FutureVersion told = let same : Refused FutureVersion ≡ answer = cc in ap is_accepted (sym same)
    by_error reads.TooOld told = let same : Refused TooOld ≡ answer = cc in ap is_accepted (sym same)
    by_error reads.Memory told = absurd (cc)

no_limit : (limit : Option WriteError) (serial : Serial) (command : Command) (answer : Reply) → IsLimited limit serial command answer → is_accepted answer ≡ true → limit ≡ None
no_limit None serial command answer is yes_accepted = refl
no_limit (Some error) serial command answer is yes_accepted = absurd (true≢false (sym yes_accepted ∙ limit_refuses error answer is))

neither : {X : Type 0} (a b : Option X) → option_or a b ≡ None → (a ≡ None) × (b ≡ None)
neither None b is = (refl, is)
neither (Some x) b is = absurd (cc)

-- writes that meet none, and others behind them
fits_both : (before a b : List Mutation) → write_all_refusal before a ≡ None → write_all_refusal (before ++ a) b ≡ None → write_all_refusal before (a ++ b) ≡ None
fits_both before [] b first second = subst (λ ms. write_all_refusal ms b ≡ None) (append-nil before) second
fits_both before (x ∷ a) b first second =
    let both = neither (write_refusal before x) (write_all_refusal (before ++ x ∷ []) a) first in
    ap (λ o. option_or o (write_all_refusal (before ++ x ∷ []) (a ++ b))) both.0 ∙ fits_both (before ++ x ∷ []) a b both.1 (subst (λ ms. write_all_refusal ms b ≡ None) (sym (append_assoc before (x ∷ []) a)) second)

-- what commands write, and one behind them
written_more : (number : ℕ) (m : Map) (serial : Serial) (commands : List Command) (command : Command) →
    commands_written number m serial (commands ++ command ∷ []) ≡ commands_written number m serial commands ++ writes number (after_all (commands_written number m serial commands) m) (effects serial commands) command
written_more number m serial [] command = append-nil (writes number m serial command)
written_more number m serial (first ∷ commands) command =
    let wrote = writes number m serial first in
    let next = after_all wrote m in
    let rest = commands_written number next (effect serial first) commands in
    ap (λ ms. wrote ++ ms) (written_more number next (effect serial first) commands command)
    ∙ sym (append_assoc wrote rest (writes number (after_all rest next) (effects (effect serial first) commands) command))
    ∙ ap (λ n. (wrote ++ rest) ++ writes number n (effects (effect serial first) commands) command) (sym (after_all-append wrote rest m))

abbrev command_of : Attempt → Command
command_of attempt = attempt.command

abbrev passes : Attempt → Bool
passes attempt = is_accepted attempt.reply

-- what an open transaction has written meets none
abbrev pub Fits : Stores → ClusterState → List CommitEntry → Open → Type 0
Fits before c commits open_now =
    (open_now.read_version ≤ c.pipeline.reported)
    × (write_all_refusal [] (commands_written open_now.store (database_at c open_now.read_version) (committed_over before open_now.store commits open_now.read_version) (accepted open_now.attempts)) ≡ None)

abbrev pub with_attempt : Command → Reply → Open → Open
with_attempt command reply open_now = record open_now { attempts = open_now.attempts ++ record { command = command; reply = reply } ∷ [] }

-- nor does it with one command more
pub fits_more : (before : Stores) (c : ClusterState) (commits : List CommitEntry) (open_now : Open) (command : Command) (reply : Reply) → HoldsAll c.base before → Fits before c commits open_now →
    (is_accepted reply ≡ true → IsReplyHeld c commits open_now command reply) → Fits before c commits (with_attempt command reply open_now)
fits_more before c commits open_now command reply held (seen, fits) right = (seen, by_test (is_accepted reply) refl)
  where
    number : ℕ
    number = open_now.store

    m : Map
    m = database_at c open_now.read_version

    serial : Serial
    serial = committed_over before number commits open_now.read_version

    attempt : Attempt
    attempt = record { command = command; reply = reply }

    so_far : List Command
    so_far = accepted open_now.attempts

    written : List Mutation
    written = commands_written number m serial so_far

    Free : List Command → Type 0
    Free commands = write_all_refusal [] (commands_written number m serial commands) ≡ None

    now : accepted (open_now.attempts ++ attempt ∷ []) ≡ so_far ++ map command_of (cond (is_accepted reply) (attempt ∷ []) [])
    now = ap (map command_of) (filter-append passes open_now.attempts (attempt ∷ [])) ∙ map-append command_of (filter passes open_now.attempts) (cond (is_accepted reply) (attempt ∷ []) [])

    by_test : (b : Bool) → is_accepted reply ≡ b → Free (accepted (open_now.attempts ++ attempt ∷ []))
    by_test false is = subst Free (sym (now ∙ ap (λ b. so_far ++ map command_of (cond b (attempt ∷ []) [])) is ∙ append-nil so_far)) fits
    by_test true is =
        subst Free (sym (now ∙ ap (λ b. so_far ++ map command_of (cond b (attempt ∷ []) [])) is))
        (elim (right is before held) [
          | inl served ↦
              subst (λ ms. write_all_refusal [] ms ≡ None) (sym (written_more number m serial so_far command))
              (fits_both [] written (writes number (after_all written m) (effects serial so_far) command) fits
              (no_limit (write_all_refusal written (writes number (after_all written m) (effects serial so_far) command)) (effects serial so_far) command reply served is))
          | inr refused ↦ absurd (true≢false (sym is ∙ read_refuses _ _ reply refused))
        ])

-- ---- a later cluster

-- the cluster is a later one: what was there at the versions that were reported stays
pub record Stays (before : Stores) (c : ClusterState) (commits : List CommitEntry) (d : ClusterState) (later : List CommitEntry) : Type 0 where
  pub reported : c.pipeline.reported ≤ d.pipeline.reported
  pub maps : (v : ℕ) → v ≤ c.pipeline.reported → database_at c v ≡ database_at d v
  pub stores : (number v : ℕ) → v ≤ c.pipeline.reported → committed_over before number commits v ≡ committed_over before number later v

pub fits_later : (before : Stores) (c d : ClusterState) (commits later : List CommitEntry) (open_now : Open) → Stays before c commits d later → Fits before c commits open_now → Fits before d later open_now
fits_later before c d commits later open_now stays (seen, fits) = (
  (let up : c.pipeline.reported ≤ d.pipeline.reported = stays.reported in omega (arith, up, seen)),
  subst₂ (λ m serial. write_all_refusal [] (commands_written open_now.store m serial (accepted open_now.attempts)) ≡ None) (stays.maps open_now.read_version seen) (stays.stores open_now.store open_now.read_version seen) fits,
)

-- what is committed up to a version is so however much more is reported
abbrev pub listed_upto : (Submission → Bool) → ℕ → List Submission → List Submission
listed_upto told_now r subs = filter (λ one. nat_le one.version r && told_now one) subs

abbrev upto : (number v : ℕ) → (Submission → Bool) → ℕ → List Submission → List CommitEntry
upto number v told_now r subs = filter (is_of_upto number v) (map commit_entry (listed_upto told_now r subs))

same_entries : (number v : ℕ) (told_now : Submission → Bool) (r s : ℕ) (subs : List Submission) → v ≤ r → r ≤ s → upto number v told_now r subs ≡ upto number v told_now s subs
same_entries number v told_now r s [] low high = refl
same_entries number v told_now r s (one ∷ subs) low high = push r ∙ by_own (is_of_upto number v (commit_entry one)) refl (same_entries number v told_now r s subs low high) ∙ sym (push s)
  where
    own : Bool
    own = is_of_upto number v (commit_entry one)

    behind : ℕ → List CommitEntry
    behind x = upto number v told_now x subs

    chosen : Bool → Bool → List CommitEntry → List CommitEntry
    chosen b o entries = cond b (cond o (commit_entry one ∷ entries) entries) entries

    push : (x : ℕ) → upto number v told_now x (one ∷ subs) ≡ chosen (nat_le one.version x && told_now one) own (behind x)
    push x = by_listed (nat_le one.version x && told_now one)
      where
        by_listed : (b : Bool) → filter (is_of_upto number v) (map commit_entry (cond b (one ∷ listed_upto told_now x subs) (listed_upto told_now x subs))) ≡ chosen b own (behind x)
        by_listed true = refl
        by_listed false = refl

    either : (b : Bool) (entries : List CommitEntry) → chosen b false entries ≡ entries
    either true entries = refl
    either false entries = refl

    by_own : (o : Bool) → own ≡ o → behind r ≡ behind s → chosen (nat_le one.version r && told_now one) own (behind r) ≡ chosen (nat_le one.version s && told_now one) own (behind s)
    by_own false is rest =
        ap (λ o. chosen (nat_le one.version r && told_now one) o (behind r)) is ∙ either (nat_le one.version r && told_now one) (behind r) ∙ rest
        ∙ sym (ap (λ o. chosen (nat_le one.version s && told_now one) o (behind s)) is ∙ either (nat_le one.version s && told_now one) (behind s))
    by_own true is rest =
        let below : one.version ≤ v = leb-true one.version v (and_parts (one.transaction.store == number) (nat_le one.version v) is).1 in
        ap (λ b. chosen (b && told_now one) own (behind r)) (le-leb one.version r (omega (arith, below, low)))
        ∙ ap (chosen (told_now one) own) rest
        ∙ sym (ap (λ b. chosen (b && told_now one) own (behind s)) (le-leb one.version s (omega (arith, below, low, high))))

pub same_stores : (before : Stores) (number v : ℕ) (told_now : Submission → Bool) (r s : ℕ) (subs : List Submission) → v ≤ r → r ≤ s →
    committed_over before number (map commit_entry (listed_upto told_now r subs)) v ≡ committed_over before number (map commit_entry (listed_upto told_now s subs)) v
same_stores before number v told_now r s subs low high = ap (fold (λ (serial : Serial) (one : CommitEntry). effects serial one.commands) (before number)) (same_entries number v told_now r s subs low high)
