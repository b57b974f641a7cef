-- What waits for its report, and what is told to be committed, over plain values.
use Rattle.std.proofs.Common.{◌≡◌, ◌∙◌, ℕ, suc, ◌+◌, ◌<◌, ◌≤◌, Bool, true, false, List, [], ◌∷◌, ◌++◌, Option, Some, None, length, drop, get_or, option_to_list, ap, refl, sym, subst, append-nil, append_assoc, nat_lt, arith, drop-cons}
use Rattle.std.specs.Prelude.{map}
use Rattle.std.proofs.lemmas.Bool.{ltb-true, ltb-false}
use Rattle.std.proofs.lemmas.List.{map-append, drop-map}
use Rattle.schedule.specs.declared.reply.Report.{Report}
use Rattle.schedule.specs.declared.reply.Report.TheVariants.{Committed, Conflict, Unknown}
use Rattle.schedule.specs.declared.reply.Reply.{Reply}
use Rattle.schedule.specs.declared.reply.Reply.TheVariants as answers
use Rattle.schedule.specs.declared.step.Step.{Step}
use Rattle.schedule.specs.declared.step.Step.TheVariants.{Commit}
use Rattle.schedule.specs.declared.step.TheConstants.{CLIENTS}
use Rattle.schedule.specs.Past.{Open, Past, Submission, open_of, submission, submitted_after}
use Rattle.command_log.specs.declared.entry.Entry.{Entry}
use Rattle.logged_schedule.specs.Entries.{logged_as, newly_logged, reports_in, told_first, waiting_in}
use Rattle.logged_schedule.specs.Followed.{DoesFollow, IsFollowed}
use Rattle.logged_schedule.specs.Following.{AreOpen, Changed, SubmitsOfClients, entries_by}
use Rattle.logged_schedule.specs.declared.following.Following.{Following}
use Rattle.logged_schedule.proofs.Places.{kept_of}

-- which are told goes by their places alone
pub told_first-map : {X Y : Type 0} (f : X → Y) (reports : List Report) (waiting : List X) → told_first reports (map f waiting) ≡ map f (told_first reports waiting)
told_first-map f [] waiting = refl
told_first-map f (Committed client version ∷ reports) [] = refl
told_first-map f (Conflict client seen range ∷ reports) [] = refl
told_first-map f (Unknown client ∷ reports) [] = refl
told_first-map f (Committed client version ∷ reports) (one ∷ waiting) = ap (λ rest. f one ∷ rest) (told_first-map f reports waiting)
told_first-map f (Conflict client seen range ∷ reports) (one ∷ waiting) = told_first-map f reports waiting
told_first-map f (Unknown client ∷ reports) (one ∷ waiting) = told_first-map f reports waiting

-- the entry that a commit submits is that of the submission
pub submitted_entry : (client version : ℕ) (before : Option Open) → entries_by client (answers.Submitted version) (kept_of before) ≡ map logged_as (submission client version before)
submitted_entry client version None = refl
submitted_entry client version (Some open_now) = refl

-- nothing waits
none_left : {X : Type 0} (reports : List Report) → [] ≡ told_first {X = X} reports []
none_left [] = refl
none_left (Committed client version ∷ reports) = refl
none_left (Conflict client seen range ∷ reports) = refl
none_left (Unknown client ∷ reports) = refl

-- one report, and then the others
pub told_first-next : {X : Type 0} (report : Report) (reports : List Report) (waiting : List X) → told_first (report ∷ reports) waiting ≡ told_first (report ∷ []) waiting ++ told_first reports (drop 1 waiting)
told_first-next (Committed client version) [] [] = refl
told_first-next (Conflict client seen range) [] [] = refl
told_first-next (Unknown client) [] [] = refl
told_first-next (Committed client version) (report ∷ reports) [] = none_left (report ∷ reports)
told_first-next (Conflict client seen range) (report ∷ reports) [] = none_left (report ∷ reports)
told_first-next (Unknown client) (report ∷ reports) [] = none_left (report ∷ reports)
told_first-next (Committed client version) reports (one ∷ waiting) = refl
told_first-next (Conflict client seen range) reports (one ∷ waiting) = refl
told_first-next (Unknown client) reports (one ∷ waiting) = refl

-- the reports so far, and one more
pub told_further : (reports : List Report) (i : ℕ) (report : Report) (waiting left told longer all : List Entry) (next : Option Entry) → i < length reports → report ≡ get_or reports i report → longer ≡ told ++ option_to_list next →
    option_to_list next ≡ told_first (report ∷ []) waiting → left ≡ drop 1 waiting → told ++ told_first (drop i reports) waiting ≡ all → longer ++ told_first (drop (i + 1) reports) left ≡ all
told_further reports i report waiting left told longer all next within is now is_next is_left so_far =
    let next_place : suc i ≡ i + 1 = omega arith in
    let first : drop i reports ≡ report ∷ drop (i + 1) reports = drop-cons reports i report within ∙ (λ j. sym is j ∷ drop (next_place j) reports) in
    ap (λ es. es ++ told_first (drop (i + 1) reports) left) now ∙ append_assoc told (option_to_list next) (told_first (drop (i + 1) reports) left)
    ∙ ap (λ es. told ++ es) ((λ j. is_next j ++ told_first (drop (i + 1) reports) (is_left j)) ∙ sym (told_first-next report (drop (i + 1) reports) waiting))
    ∙ ap (λ rs. told ++ told_first rs waiting) (sym first) ∙ so_far

-- ---- what waits

unsubmitted : (client : ℕ) (waiting : List Submission) (old new : List Entry) → old ≡ map logged_as waiting → (client < CLIENTS → new ≡ old ++ []) → (CLIENTS ≤ client → new ≡ old) → new ≡ map logged_as waiting
unsubmitted client waiting old new are there away = by_test (nat_lt client CLIENTS) refl
  where
    by_test : (b : Bool) → nat_lt client CLIENTS ≡ b → new ≡ map logged_as waiting
    by_test true e = there (ltb-true client CLIENTS e) ∙ append-nil old ∙ are
    by_test false e = away (ltb-false client CLIENTS e) ∙ are

-- what waits after a commit
pub commit_waits : (past : Past) (places : List (Option Changed)) (client : ℕ) (reply : Reply) (waiting : List Submission) (old new : List Entry) → AreOpen past places → SubmitsOfClients (Commit client) reply → old ≡ map logged_as waiting →
    (client < CLIENTS → new ≡ old ++ entries_by client reply (get_or places client None)) → (CLIENTS ≤ client → new ≡ old) → new ≡ map logged_as (submitted_after (Commit client) reply past waiting)
commit_waits past places client (answers.Submitted version) waiting old new opens of are there away =
    let within : client < CLIENTS = of client version refl refl in
    there within ∙ (λ i. are i ++ entries_by client (answers.Submitted version) (opens client within i))
    ∙ ap (λ es. map logged_as waiting ++ es) (submitted_entry client version (open_of client past))
    ∙ sym (map-append logged_as waiting (submission client version (open_of client past)))
commit_waits past places client (answers.Begun v) waiting old new opens of are there away = unsubmitted client waiting old new are there away
commit_waits past places client answers.Done waiting old new opens of are there away = unsubmitted client waiting old new are there away
commit_waits past places client answers.SavedNew waiting old new opens of are there away = unsubmitted client waiting old new are there away
commit_waits past places client (answers.SavedOver cells) waiting old new opens of are there away = unsubmitted client waiting old new are there away
commit_waits past places client (answers.Found cells) waiting old new opens of are there away = unsubmitted client waiting old new are there away
commit_waits past places client answers.Absent waiting old new opens of are there away = unsubmitted client waiting old new are there away
commit_waits past places client answers.Removed waiting old new opens of are there away = unsubmitted client waiting old new are there away
commit_waits past places client (answers.Rows rows) waiting old new opens of are there away = unsubmitted client waiting old new are there away
commit_waits past places client (answers.Planned plan) waiting old new opens of are there away = unsubmitted client waiting old new are there away
commit_waits past places client (answers.Indexed state) waiting old new opens of are there away = unsubmitted client waiting old new are there away
commit_waits past places client (answers.State state) waiting old new opens of are there away = unsubmitted client waiting old new are there away
commit_waits past places client (answers.Total total) waiting old new opens of are there away = unsubmitted client waiting old new are there away
commit_waits past places client (answers.Built records range) waiting old new opens of are there away = unsubmitted client waiting old new are there away
commit_waits past places client answers.Finished waiting old new opens of are there away = unsubmitted client waiting old new are there away
commit_waits past places client answers.ReadOnly waiting old new opens of are there away = unsubmitted client waiting old new are there away
commit_waits past places client answers.Nothing waiting old new opens of are there away = unsubmitted client waiting old new are there away
commit_waits past places client (answers.Reported reports) waiting old new opens of are there away = unsubmitted client waiting old new are there away
commit_waits past places client (answers.Refused refusal) waiting old new opens of are there away = unsubmitted client waiting old new are there away
commit_waits past places client (answers.Corrupt key) waiting old new opens of are there away = unsubmitted client waiting old new are there away
commit_waits past places client answers.Stopped waiting old new opens of are there away = unsubmitted client waiting old new are there away

-- what is told to be committed
pub told_newly : (past : Past) (step : Step) (reply : Reply) (old told : List Entry) → old ≡ map logged_as (waiting_in past) → told ≡ told_first (reports_in step reply) old → told ≡ newly_logged past step reply
told_newly past step reply old told are is = is ∙ ap (told_first (reports_in step reply)) are ∙ told_first-map logged_as (reports_in step reply) (waiting_in past)

-- what waits after the reports of a reply
pub waits_still : (past : Past) (step : Step) (reply : Reply) (old left : List Entry) → old ≡ map logged_as (waiting_in past) → left ≡ drop (length (reports_in step reply)) old → left ≡ map logged_as (drop (length (reports_in step reply)) (waiting_in past))
waits_still past step reply old left are is = is ∙ ap (drop (length (reports_in step reply))) are ∙ drop-map logged_as (length (reports_in step reply)) (waiting_in past)

-- a step that is followed
pub noted : (past : Past) (step : Step) (reply : Reply) (before after : Following) (places : List (Option Changed)) (left told : List Entry) → IsFollowed past before → SubmitsOfClients step reply →
    told ≡ told_first (reports_in step reply) before.waiting.items → left ≡ drop (length (reports_in step reply)) before.waiting.items → places ≡ before.places.items → (AreOpen past places → AreOpen ((step, reply) ∷ past) after.places.items) →
    ((waiting : List Submission) → AreOpen past places → SubmitsOfClients step reply → left ≡ map logged_as waiting → after.waiting.items ≡ map logged_as (submitted_after step reply past waiting)) → DoesFollow past step reply told after
noted past step reply before after places left told follows of is_told is_left same opens waits =
    let open_still : AreOpen past places = subst (AreOpen past) (sym same) follows.places in
    record {
      told_so = told_newly past step reply before.waiting.items told follows.waiting is_told;
      follows = record {
        places = opens open_still;
        waiting = waits (drop (length (reports_in step reply)) (waiting_in past)) open_still of (waits_still past step reply before.waiting.items left follows.waiting is_left);
      };
    }
