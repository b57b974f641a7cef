-- What clients have open after one more step, over plain values.
use Rattle.std.proofs.Common.{◌≡◌, ◌∙◌, ℕ, ◌<◌, ◌≤◌, ◌==◌, Bool, true, false, cond, List, [], ◌∷◌, ◌++◌, Option, Some, None, Result, Ok, Err, OnOk, ◌⊎◌, inl, inr, length, get_or, ap, refl, sym, subst, append-nil, arith, nat_lt, eq-eqb}
use Rattle.std.specs.Prelude.{slice_set, map}
use Rattle.std.specs.Option.{option_map}
use Rattle.std.specs.List.{cons_option, filter}
use Rattle.std.proofs.lemmas.Bool.{eqb-true, eqb-false, ltb-true, ltb-false}
use Rattle.std.proofs.lemmas.List.{get_or-set_same, get_or-set_other, map-append, set-set}
use Rattle.std.proofs.lemmas.List.Elements.{filter-append, filter_map-append}
use Rattle.command_log.specs.declared.change.Change.{Change}
use Rattle.replay.specs.Commands.{change_of}
use Rattle.schedule.specs.declared.reply.Reply.{Reply}
use Rattle.schedule.specs.declared.reply.Reply.TheVariants.{Begun, Done}
use Rattle.schedule.specs.declared.step.Command.{Command}
use Rattle.schedule.specs.declared.step.Command.TheVariants as commands
use Rattle.schedule.specs.declared.step.Step.{Step}
use Rattle.schedule.specs.declared.step.Step.TheVariants.{Begin, Perform, Commit, Abandon, Execute}
use Rattle.schedule.specs.declared.step.Step.TheVariants as steps
use Rattle.schedule.specs.declared.step.TheConstants.{CLIENTS}
use Rattle.schedule.specs.Past.{Attempt, Open, Past, accepted, execution, grown, is_accepted, kept_plan, open_after, open_of}
use Rattle.planner.specs.Asked.{AskedPlan}
use Rattle.logged_schedule.specs.Entries.{logged_changes}
use Rattle.logged_schedule.specs.Following.{AreOpen, Changed, changed_further, changed_in}

-- what is kept of an open transaction, where there is one
abbrev pub kept_of : Option Open → Option Changed
kept_of transaction = option_map changed_in transaction

not_same : (a b : ℕ) → (a ≡ b → ⊥) → (a == b) ≡ false
not_same a b differ = by_test (a == b) refl
  where
    by_test : (t : Bool) → (a == b) ≡ t → t ≡ false
    by_test true same = absurd (differ (eqb-true a b same))
    by_test false is = refl

-- two clauses at once
pub on_ok_both : {T E P Q R : Type 0} (r : Result T E) → OnOk r P → OnOk r Q → (P → Q → R) → OnOk r R
on_ok_both (Ok x) p q both = both p q
on_ok_both (Err e) p q both = tt

-- ---- places

-- a client's place is written, where there is such a client
pub record IsWritten (places written : List (Option Changed)) (who : ℕ) (value : Option Changed) : Type 0 where
  pub there : who < CLIENTS → written ≡ slice_set places who value
  pub away : CLIENTS ≤ who → written ≡ places

-- what one client has open changes so, and what the others have stays
pub places_written : (past longer : Past) (places written : List (Option Changed)) (who : ℕ) (value : Option Changed) → length places ≡ CLIENTS → IsWritten places written who value →
    (who < CLIENTS → value ≡ kept_of (open_of who longer)) → ((client : ℕ) → (who ≡ client → ⊥) → kept_of (open_of client longer) ≡ kept_of (open_of client past)) → AreOpen past places → AreOpen longer written
places_written past longer places written who value count is now others are client below = by_test (who == client) refl
  where
    elsewhere : (who ≡ client → ⊥) → (b : Bool) → nat_lt who CLIENTS ≡ b → get_or written client None ≡ kept_of (open_of client longer)
    elsewhere differ true e =
        ap (λ ps. get_or ps client None) (is.there (ltb-true who CLIENTS e)) ∙ get_or-set_other places who client value None (λ same. differ (sym same)) ∙ are client below ∙ sym (others client differ)
    elsewhere differ false e = ap (λ ps. get_or ps client None) (is.away (ltb-false who CLIENTS e)) ∙ are client below ∙ sym (others client differ)

    by_test : (b : Bool) → (who == client) ≡ b → get_or written client None ≡ kept_of (open_of client longer)
    by_test true same =
        let e : who ≡ client = eqb-true who client same in
        let within : who < CLIENTS = omega (arith, e, below) in
        subst (λ n. get_or written n None ≡ kept_of (open_of n longer)) e
        (ap (λ ps. get_or ps who None) (is.there within) ∙ get_or-set_same places who value None (omega (arith, within, count)) ∙ now within)
    by_test false differ = elsewhere (eqb-false who client differ) (nat_lt who CLIENTS) refl

-- what each client has open stays
pub places_stay : (past longer : Past) (places : List (Option Changed)) → ((client : ℕ) → kept_of (open_of client longer) ≡ kept_of (open_of client past)) → AreOpen past places → AreOpen longer places
places_stay past longer places same are client below = are client below ∙ sym (same client)

-- a step of one client that changes what it has open by a function
abbrev ChangesBy : ℕ → (Option Open → Option Open) → Past → Past → Type 0
ChangesBy who change past longer = (client : ℕ) → open_of client longer ≡ cond (who == client) (change (open_of client past)) (open_of client past)

changed_here : (past longer : Past) (who : ℕ) (change : Option Open → Option Open) → ChangesBy who change past longer → kept_of (change (open_of who past)) ≡ kept_of (open_of who longer)
changed_here past longer who change is = sym (ap kept_of (is who) ∙ ap (λ b. kept_of (cond b (change (open_of who past)) (open_of who past))) (eq-eqb who who refl))

unchanged_there : (past longer : Past) (who : ℕ) (change : Option Open → Option Open) → ChangesBy who change past longer → (client : ℕ) → (who ≡ client → ⊥) → kept_of (open_of client longer) ≡ kept_of (open_of client past)
unchanged_there past longer who change is client differ = ap kept_of (is client) ∙ ap (λ b. kept_of (cond b (change (open_of client past)) (open_of client past))) (not_same who client differ)

-- ---- begin, commit, abandon

pub begun : (past : Past) (places written : List (Option Changed)) (who store version : ℕ) → length places ≡ CLIENTS → IsWritten places written who (Some (store, [])) → AreOpen past places →
    AreOpen ((Begin who store, Begun version) ∷ past) written
begun past places written who store version count is are =
    let change : Option Open → Option Open = λ before. Some (record { store = store; read_version = version; attempts = [] }) in
    let changes : ChangesBy who change past ((Begin who store, Begun version) ∷ past) = λ client. refl in
    places_written past ((Begin who store, Begun version) ∷ past) places written who (Some (store, [])) count is
    (λ _. changed_here past ((Begin who store, Begun version) ∷ past) who change changes) (unchanged_there past ((Begin who store, Begun version) ∷ past) who change changes) are

pub committed : (past : Past) (places written : List (Option Changed)) (who : ℕ) (reply : Reply) → length places ≡ CLIENTS → IsWritten places written who None → AreOpen past places →
    AreOpen ((Commit who, reply) ∷ past) written
committed past places written who reply count is are =
    let change : Option Open → Option Open = λ before. None in
    let changes : ChangesBy who change past ((Commit who, reply) ∷ past) = λ client. refl in
    places_written past ((Commit who, reply) ∷ past) places written who None count is
    (λ _. changed_here past ((Commit who, reply) ∷ past) who change changes) (unchanged_there past ((Commit who, reply) ∷ past) who change changes) are

pub abandoned : (past : Past) (places written : List (Option Changed)) (who : ℕ) → length places ≡ CLIENTS → IsWritten places written who None → AreOpen past places →
    AreOpen ((Abandon who, Done) ∷ past) written
abandoned past places written who count is are =
    let change : Option Open → Option Open = λ before. None in
    let changes : ChangesBy who change past ((Abandon who, Done) ∷ past) = λ client. refl in
    places_written past ((Abandon who, Done) ∷ past) places written who None count is
    (λ _. changed_here past ((Abandon who, Done) ∷ past) who change changes) (unchanged_there past ((Abandon who, Done) ∷ past) who change changes) are

-- ---- commands

-- the changes among accepted commands, with one attempt more
changes_more : (attempts : List Attempt) (attempt : Attempt) (b : Bool) → is_accepted attempt.reply ≡ b →
    logged_changes (accepted (attempts ++ attempt ∷ [])) ≡ logged_changes (accepted attempts) ++ logged_changes (cond b (attempt.command ∷ []) [])
changes_more attempts attempt b is =
    ap (λ xs. logged_changes (map (λ (a : Attempt). a.command) xs)) (filter-append (λ (a : Attempt). is_accepted a.reply) attempts (attempt ∷ []))
    ∙ ap logged_changes (map-append (λ (a : Attempt). a.command) (filter (λ (a : Attempt). is_accepted a.reply) attempts) (cond (is_accepted attempt.reply) (attempt ∷ []) []))
    ∙ filter_map-append change_of (accepted attempts) (map (λ (a : Attempt). a.command) (cond (is_accepted attempt.reply) (attempt ∷ []) []))
    ∙ ap (λ cs. logged_changes (accepted attempts) ++ logged_changes cs) (ap (λ t. map (λ (a : Attempt). a.command) (cond t (attempt ∷ []) [])) is ∙ one b)
  where
    one : (t : Bool) → map (λ (a : Attempt). a.command) (cond t (attempt ∷ []) []) ≡ cond t (attempt.command ∷ []) []
    one true = refl
    one false = refl

grown_accepted : (command : Command) (reply : Reply) (before : Option Open) → is_accepted reply ≡ true →
    changed_further command (kept_of before) ≡ kept_of (grown (record { command = command; reply = reply }) before)
grown_accepted command reply None is = refl
grown_accepted command reply (Some open_now) is =
    ap (λ cs. Some (open_now.store, cs)) (sym (changes_more open_now.attempts (record { command = command; reply = reply }) true is))

-- where nothing is changed by it, what is kept stays
grown_same : (command : Command) (reply : Reply) (before : Option Open) → (is_accepted reply ≡ true → change_of command ≡ None) →
    kept_of (grown (record { command = command; reply = reply }) before) ≡ kept_of before
grown_same command reply None looks = refl
grown_same command reply (Some open_now) looks = by_test (is_accepted reply) refl
  where
    same : (b : Bool) → is_accepted reply ≡ b → logged_changes (cond b (command ∷ []) []) ≡ [] →
        kept_of (grown (record { command = command; reply = reply }) (Some open_now)) ≡ kept_of (Some open_now)
    same b is none =
        ap (λ cs. Some (open_now.store, cs))
        (changes_more open_now.attempts (record { command = command; reply = reply }) b is ∙ ap (λ cs. logged_changes (accepted open_now.attempts) ++ cs) none ∙ append-nil (logged_changes (accepted open_now.attempts)))

    by_test : (b : Bool) → is_accepted reply ≡ b → kept_of (grown (record { command = command; reply = reply }) (Some open_now)) ≡ kept_of (Some open_now)
    by_test true is = same true is (ap (λ (o : Option Change). cons_option o []) (looks is))
    by_test false is = same false is refl

pub performed : (past : Past) (places written : List (Option Changed)) (who : ℕ) (command : Command) (reply : Reply) → length places ≡ CLIENTS → is_accepted reply ≡ true →
    IsWritten places written who (changed_further command (get_or places who None)) → AreOpen past places → AreOpen ((Perform who command, reply) ∷ past) written
performed past places written who command reply count accepts is are =
    let change : Option Open → Option Open = grown (record { command = command; reply = reply }) in
    let longer : Past = (Perform who command, reply) ∷ past in
    let changes : ChangesBy who change past longer = λ client. refl in
    places_written past longer places written who (changed_further command (get_or places who None)) count is
    (λ within. ap (changed_further command) (are who within) ∙ grown_accepted command reply (open_of who past) accepts ∙ changed_here past longer who change changes)
    (unchanged_there past longer who change changes) are

-- what is taken and put back
pub put_back : (places taken written : List (Option Changed)) (who : ℕ) (command : Command) (before after : Changed) → taken ≡ slice_set places who None → written ≡ slice_set taken who (Some after) → Some before ≡ get_or places who None →
    after ≡ (before.0, before.1 ++ logged_changes (command ∷ [])) → written ≡ slice_set places who (changed_further command (get_or places who None))
put_back places taken written who command before after is_taken is_written had is =
    is_written ∙ ap (λ ps. slice_set ps who (Some after)) is_taken ∙ set-set places who None (Some after) ∙ ap (slice_set places who) (ap (λ c. Some c) is ∙ ap (changed_further command) had)

-- a command that changed nothing
looked_same : (past : Past) (who : ℕ) (command : Command) (reply : Reply) → (is_accepted reply ≡ true → change_of command ≡ None) → (client : ℕ) (before : Option Open) →
    kept_of (open_after client (Perform who command) reply before) ≡ kept_of before
looked_same past who command reply looks client before = by_test (who == client)
  where
    by_test : (b : Bool) → kept_of (cond b (grown (record { command = command; reply = reply }) before) before) ≡ kept_of before
    by_test true = grown_same command reply before looks
    by_test false = refl

pub refused : (past : Past) (places : List (Option Changed)) (who : ℕ) (command : Command) (reply : Reply) → is_accepted reply ≡ false → AreOpen past places → AreOpen ((Perform who command, reply) ∷ past) places
refused past places who command reply not_accepted are =
    places_stay past ((Perform who command, reply) ∷ past) places
    (λ client. looked_same past who command reply (λ accepts. absurd (let no : true ≡ false = sym accepts ∙ not_accepted in cc)) client (open_of client past)) are

pub executed : (past : Past) (places : List (Option Changed)) (who : ℕ) (reply : Reply) → AreOpen past places → AreOpen ((Execute who, reply) ∷ past) places
executed past places who reply are = places_stay past ((Execute who, reply) ∷ past) places (λ client. by_plan client (kept_plan who past)) are
  where
    by_plan : (client : ℕ) (plan : Option AskedPlan) → kept_of (open_after client (execution who plan) reply (open_of client past)) ≡ kept_of (open_of client past)
    by_plan client None = refl
    by_plan client (Some plan) = looked_same past who (commands.Execute plan) reply (λ _. refl) client (open_of client past)

-- a step that opens and ends no transaction, and performs at most what a client keeps
abbrev IsQuiet : Step → Type 0
IsQuiet step =
    ((client : ℕ) × (step ≡ Execute client)) ⊎ (((r : ℕ) × (step ≡ steps.Resolve r)) ⊎ (((l : ℕ) × (step ≡ steps.Log l)) ⊎ (((s : ℕ) × (step ≡ steps.Pull s)) ⊎ ((step ≡ steps.Report) ⊎ ((step ≡ steps.Lost) ⊎ (step ≡ steps.Settle))))))

pub quiet : (past : Past) (places : List (Option Changed)) (step : Step) (reply : Reply) → IsQuiet step → AreOpen past places → AreOpen ((step, reply) ∷ past) places
quiet past places step reply (inl (client, is)) are = subst (λ s. AreOpen ((s, reply) ∷ past) places) (sym is) (executed past places client reply are)
quiet past places step reply (inr (inl (r, is))) are = subst (λ s. AreOpen ((s, reply) ∷ past) places) (sym is) are
quiet past places step reply (inr (inr (inl (l, is)))) are = subst (λ s. AreOpen ((s, reply) ∷ past) places) (sym is) are
quiet past places step reply (inr (inr (inr (inl (s, is))))) are = subst (λ s. AreOpen ((s, reply) ∷ past) places) (sym is) are
quiet past places step reply (inr (inr (inr (inr (inl is))))) are = subst (λ s. AreOpen ((s, reply) ∷ past) places) (sym is) are
quiet past places step reply (inr (inr (inr (inr (inr (inl is)))))) are = subst (λ s. AreOpen ((s, reply) ∷ past) places) (sym is) are
quiet past places step reply (inr (inr (inr (inr (inr (inr is)))))) are = subst (λ s. AreOpen ((s, reply) ∷ past) places) (sym is) are
