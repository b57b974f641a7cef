-- Which submissions reports tell of, over plain values.
use Rattle.std.proofs.Common.{◌≡◌, ◌∙◌, ◌&&◌, ℕ, zero, suc, ◌+◌, ◌-◌, ◌<◌, ◌≤◌, Bool, true, cond, List, [], ◌∷◌, ◌++◌, Option, Some, None, length, take, drop, ap, refl, sym, subst, arith, nat_le}
use Rattle.std.specs.List.{filter, range_with_len}
use Rattle.std.proofs.lemmas.Bool.{le-leb, lt-leb}
use Rattle.cluster_core.specs.declared.answers.Reported.{Reported}
use Rattle.cluster_core.specs.declared.answers.Reported.TheVariants.{Committed, Conflict, NothingToDo}
use Rattle.cluster_core.specs.Decision.{Cause}
use Rattle.cluster_core.specs.Roles.{PipelineState, entries, outcome, submitted, told, told_of}
use Rattle.schedule.specs.declared.reply.Report.{Report}
use Rattle.schedule.specs.declared.step.Step.TheVariants as steps
use Rattle.schedule.specs.Contract.{client_of, report_to, reports_of, reports_reply}
use Rattle.schedule.specs.Past.{Submission}
use Rattle.schedule.specs.Standing.{is_reported, is_told, listed}
use Rattle.schedule.proofs.ReportSteps.{slice_some}
use Rattle.schedule.proofs.Submitting.{AreVersioned, numbered_length}
use Rattle.logged_schedule.specs.Entries.{reports_in, told_first}

-- ---- versions

-- a submission is told to be committed
abbrev pub told_so : PipelineState → Submission → Bool
told_so p one = is_told (outcome p one.version)

told_something : (why : Option Cause) (version : ℕ) → told why version ≡ NothingToDo → ⊥
told_something None version is = cc
told_something (Some why) version is = cc

pub some_outcome : (p : PipelineState) (v : ℕ) → p.start < v → v ≤ submitted p → outcome p v ≡ NothingToDo → ⊥
some_outcome p v above upto nothing =
    let count : length (entries p) ≡ length p.requests = numbered_length p.start p.requests in
    let (entry, is, rest) = slice_some (entries p) (v - p.start - 1) (omega (arith, count, above, upto)) in
    told_something _ entry.version (sym (ap (told_of p) is) ∙ nothing)

pub versions_more : (last : ℕ) (subs : List Submission) (new : Submission) → AreVersioned last subs → new.version ≡ last + length subs + 1 → AreVersioned last (subs ++ new ∷ [])
versions_more last [] new are at = (let n : new.version ≡ last + 1 = omega (arith, at) in n, tt)
versions_more last (one ∷ subs) new are at = (are.0, versions_more (last + 1) subs new are.1 (omega (arith, at)))

pub versions_left : (last k : ℕ) (subs : List Submission) → AreVersioned last subs → AreVersioned (last + k) (drop k subs)
versions_left last zero subs are = subst (λ v. AreVersioned v subs) (let n : last ≡ last + 0 = omega arith in n) are
versions_left last (suc k) [] are = tt
versions_left last (suc k) (one ∷ subs) are = subst (λ v. AreVersioned v (drop k subs)) (let n : last + 1 + k ≡ last + suc k = omega arith in n) (versions_left (last + 1) k subs are.1)

none_upto : (told_now : Submission → Bool) (r last : ℕ) (subs : List Submission) → r ≤ last → AreVersioned last subs → filter (λ one. nat_le one.version r && told_now one) subs ≡ []
none_upto told_now r last [] above are = refl
none_upto told_now r last (one ∷ subs) above are =
    let at : one.version ≡ last + 1 = are.0 in
    (λ i. cond (lt-leb one.version r (omega (arith, at, above)) i && told_now one) (one ∷ filter (λ one. nat_le one.version r && told_now one) subs) (filter (λ one. nat_le one.version r && told_now one) subs))
    ∙ none_upto told_now r (last + 1) subs (omega (arith, above)) are.1

-- those up to a version are the first
upto_first : (told_now : Submission → Bool) (last k : ℕ) (subs : List Submission) → AreVersioned last subs → filter (λ one. nat_le one.version (last + k) && told_now one) subs ≡ filter told_now (take k subs)
upto_first told_now last zero subs are = none_upto told_now (last + 0) last subs (omega arith) are
upto_first told_now last (suc k) [] are = refl
upto_first told_now last (suc k) (one ∷ subs) are =
    let at : one.version ≡ last + 1 = are.0 in
    let e : (last + 1) + k ≡ last + suc k = omega arith in
    let tail : filter (λ one. nat_le one.version (last + suc k) && told_now one) subs ≡ filter told_now (take k subs) = subst (λ r. filter (λ one. nat_le one.version r && told_now one) subs ≡ filter told_now (take k subs)) e (upto_first told_now (last + 1) k subs are.1) in
    λ i. cond (le-leb one.version (last + suc k) (omega (arith, at)) i && told_now one) (one ∷ tail i) (tail i)

pub listed_first : (p : PipelineState) (subs : List Submission) → p.start ≤ p.reported → AreVersioned p.start subs → listed p subs ≡ filter (told_so p) (take (p.reported - p.start) subs)
listed_first p subs from are =
    let e : p.start + (p.reported - p.start) ≡ p.reported = omega (arith, from) in
    subst (λ r. filter (λ one. nat_le one.version r && told_so p one) subs ≡ filter (told_so p) (take (p.reported - p.start) subs)) e (upto_first (told_so p) p.start (p.reported - p.start) subs are)

-- ---- reports, one after another

tell_one : (p : PipelineState) (client v : ℕ) (one : Submission) (rest : List Submission) (reports : List Report) (o : Reported) → outcome p v ≡ o → one.version ≡ v → (o ≡ NothingToDo → ⊥) →
    (told_first (report_to client o ++ reports) (one ∷ rest) ≡ cond (told_so p one) (one ∷ told_first reports rest) (told_first reports rest)) × (length (report_to client o ++ reports) ≡ suc (length reports))
tell_one p client v one rest reports (Committed w) is at some = (sym (ap (λ o. cond (is_told o) (one ∷ told_first reports rest) (told_first reports rest)) (ap (outcome p) at ∙ is)), refl)
tell_one p client v one rest reports (Conflict seen range) is at some = (sym (ap (λ o. cond (is_told o) (one ∷ told_first reports rest) (told_first reports rest)) (ap (outcome p) at ∙ is)), refl)
tell_one p client v one rest reports NothingToDo is at some = absurd (some refl)

pub tells : (p : PipelineState) (subs : List Submission) (from m : ℕ) (rest : List Submission) → AreVersioned from rest → p.start ≤ from → m ≤ length rest → from + m ≤ submitted p →
    (told_first (reports_of p subs (range_with_len (from + 1) m)) rest ≡ filter (told_so p) (take m rest)) × (length (reports_of p subs (range_with_len (from + 1) m)) ≡ m)
tells p subs from zero rest are above within upto = (refl, refl)
tells p subs from (suc m) [] are above within upto = absurd (omega (arith, within))
tells p subs from (suc m) (one ∷ rest) are above within upto =
    let more = tells p subs (from + 1) m rest are.1 (omega (arith, above)) (omega (arith, within)) (omega (arith, upto)) in
    let first = tell_one p (client_of subs (from + 1)) (from + 1) one rest (reports_of p subs (range_with_len (from + 1 + 1) m)) (outcome p (from + 1)) refl are.0 (some_outcome p (from + 1) (omega (arith, above)) (omega (arith, upto))) in
    (first.0 ∙ ap (λ ss. cond (told_so p one) (one ∷ ss) ss) more.0, first.1 ∙ ap suc more.1)

pub reported_some : (reports : List Report) → 0 < length reports → is_reported (reports_reply reports) ≡ true
reported_some [] some = absurd (omega (arith, some))
reported_some (one ∷ others) some = refl

pub back_report : (reports : List Report) → reports_in steps.Report (reports_reply reports) ≡ reports
back_report [] = refl
back_report (one ∷ others) = refl

pub back_settle : (reports : List Report) → reports_in steps.Settle (reports_reply reports) ≡ reports
back_settle [] = refl
back_settle (one ∷ others) = refl
