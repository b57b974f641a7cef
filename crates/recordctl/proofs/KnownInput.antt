-- What is read of an input whose bytes are known.
use Rattle.std.specs.Prelude.{MatchOption, OnOk}
use Rattle.std.proofs.Common.{◌≡◌, subst, ◌⊎◌, inl, inr, ℕ, ◌≤◌, ◌+◌, Bool, true, false, nat_le, refl, ap, List, [], ◌++◌, length, take, Option, Some, None, option_map, IfSome, IfOk, IfErr, Result, Ok, Err, String, string_bytes, Global, ◌∙◌, sym, arith}
use Rattle.std.proofs.lemmas.Bool.Decides.{nat_tests}
use Rattle.std.proofs.lemmas.List.{length-take, take_all}
use Rattle.cluster_core.specs.declared.answers.Config.{Config}
use Rattle.cluster_core.specs.Configuration.{first_cluster}
use Rattle.schedule.specs.Stepwise.{HasDone, StepwiseState}
use Rattle.schedule.specs.declared.step.Step.{Step}
use Rattle.logged_schedule.proofs.Rising.{none_held}
use Rattle.shell.specs.Further.{HasDoneNext, IsOfStepsOver}
use Rattle.recordctl.specs.declared.run.Begun.{Begun}
use Rattle.recordctl.specs.declared.run.Stopped.{Stopped}
use Rattle.recordctl.specs.declared.fault.Fault.{Fault}
use Rattle.recordctl.specs.declared.fault.Fault.TheVariants.{OutOfMemory, CannotRead, BadScript, BadConfig, BadArgument, Refused, RefusedSchema, RefusedQuery, SortNotServed, GaveUp, RefusedCommand, Corrupt}
use Rattle.json_forms.specs.Json.{value_in}
use Rattle.script.specs.Script.{IsScript}
use Rattle.planner.specs.Asked.{AskedPlan}
use Rattle.explain.specs.Planning.{IsPlanAskedBy}
use Rattle.command_line.specs.declared.request.PlanForm.{PlanForm}
use Rattle.recordctl.specs.PlanLines.{IsShownPlan, explains_plan}
use Rattle.recordctl.specs.Racing.{IsRaced, explains_raced}
use Rattle.recordctl.specs.Run.{IsBegunOf, IsRunOf, IsRunOver, explains_run}
use Rattle.serde_json.specs.Data.{Data}
use Rattle.script_check.specs.Good.{IsGood, IsRunnable, file_form_in, is_good_as}
use Rattle.script_check.specs.declared.file_form.FileForm.{FileForm}
use Rattle.script_check.specs.declared.file_form.FileForm.TheVariants as forms

-- no more than so many bytes are read
pub front_is_read : (known : Option (List ℕ)) (most : ℕ) (before after : List ℕ) → before ≡ []
    → IfSome (option_map (take most) known) (λ front. after ≡ before ++ front) → IfSome known (λ text. after ≡ take most text)
front_is_read None most before after empty h = h
front_is_read (Some text) most before after empty h = rw empty at h

no_value : (text : List ℕ) → nat_le (length text) 4000000 ≡ false → value_in text ≡ None
no_value text e = rw e

too_long : (text : List ℕ) (most : ℕ) → nat_le (length text) most ≡ false → nat_le (length (take (most + 1) text)) most ≡ false
too_long text most e = let k = length-take (most + 1) text in grind (arith, nat_tests)

-- what is read has the value of all
pub value_of_front : (text : List ℕ) → value_in (take 4000001 text) ≡ value_in text
value_of_front text = by (nat_le (length text) 4000000) refl
  where
    by : (b : Bool) → nat_le (length text) 4000000 ≡ b → value_in (take 4000001 text) ≡ value_in text
    by true e = let fits : length text ≤ 4000001 = grind (arith, nat_tests) in ap value_in (take_all 4000001 text fits)
    by false e = no_value (take 4000001 text) (too_long text 4000000 e) ∙ sym (no_value text e)

script_moved : (a b : List ℕ) → value_in a ≡ value_in b → (config : Config) (steps : List Step) → IsScript a config steps → IsScript b config steps
script_moved a b e config steps h = record { config_read = rw e at h.config_read; steps_read = rw e at h.steps_read }

explained_moved : (a b : List ℕ) → value_in a ≡ value_in b → (fault : Fault) → explains_run a fault → explains_run b fault
explained_moved a b e OutOfMemory h = tt
explained_moved a b e CannotRead h = h
explained_moved a b e (BadConfig why) h = (h.0, h.1, script_moved a b e h.0 h.1 h.2, h.3)
explained_moved a b e (BadScript number) h = rw e at h
explained_moved a b e BadArgument h = h
explained_moved a b e (Refused kind at) h = h
explained_moved a b e (RefusedSchema why) h = h
explained_moved a b e (RefusedQuery why) h = h
explained_moved a b e SortNotServed h = h
explained_moved a b e GaveUp h = h
explained_moved a b e (RefusedCommand why) h = h
explained_moved a b e Corrupt h = h

-- what is said of the bytes that are read is so of the whole input
pub begun_of_front : (known : Option (List ℕ)) (bytes : List ℕ) (begun : Begun) → IfSome known (λ text. bytes ≡ take 4000001 text) → IsBegunOf bytes begun → IfSome known (λ text. IsBegunOf text begun)
begun_of_front None bytes begun h is = tt
begun_of_front (Some text) bytes begun h is =
    record { script = script_moved bytes text (ap value_in h ∙ value_of_front text) begun.config begun.steps.items is.script; done = is.done; allowed = is.allowed }

-- what a script that is begun has run, once its steps are done over an empty database
pub run_of_begun : (known : Option (List ℕ)) (begun : Begun) (N : Type 0) (before : StepwiseState) (result : Result StepwiseState Stopped) → IfSome known (λ text. IsBegunOf text begun) → (N → before ≡ begun.database) → IfOk result (HasDoneNext begun.steps.items before)
    → IfOk result (λ after. N → IfSome known (λ text. IsRunOf text after))
run_of_begun None begun N before (Ok after) is same next = λ _. tt
run_of_begun None begun N before (Err why) is same next = tt
run_of_begun (Some text) begun N before (Err why) is same next = tt
run_of_begun (Some text) begun N before (Ok after) is same next =
    λ none.
    let (more, done) = next (first_cluster begun.config) [] [] (subst (HasDone begun.config [] []) (sym (same none)) is.done) in
    record { config = begun.config; steps = begun.steps.items; replies = more; script = is.script; done = done; allowed = is.allowed }

-- so it is over a database of some steps
pub run_over_begun : (known : Option (List ℕ)) (begun : Begun) (before : StepwiseState) (result : Result StepwiseState Stopped) → IfSome known (λ text. IsBegunOf text begun) → (HasDone begun.config [] [] begun.database → (start : ℕ) × IsOfStepsOver begun.config start before)
    → IfOk result (HasDoneNext begun.steps.items before) → IfOk result (λ after. IfSome known (λ text. IsRunOver text after))
run_over_begun None begun before (Ok after) is some next = tt
run_over_begun None begun before (Err why) is some next = tt
run_over_begun (Some text) begun before (Err why) is some next = tt
run_over_begun (Some text) begun before (Ok after) is some next =
    let (start, (steps, replies, (log, held, done))) = some is.done in
    let (more, longer) = next _ steps replies done in
    record { config = begun.config; start = start; before = steps; steps = begun.steps.items; replies = replies ++ more; script = is.script; done = (log, held, longer); allowed = is.allowed }

-- a script that is begun can be run
pub runnable_begun : (known : Option (List ℕ)) (begun : Begun) → IfSome known (λ text. IsBegunOf text begun) → IfSome known IsRunnable
runnable_begun None begun is = tt
runnable_begun (Some text) begun is = record { config = begun.config; steps = begun.steps.items; script = is.script; allowed = is.allowed }

-- an empty database is one of no steps
pub steps_none : (config : Config) (state : StepwiseState) → HasDone config [] [] state → (start : ℕ) × IsOfStepsOver config start state
steps_none config state done = (config.start, ([], [], ([], none_held, done)))

pub explained_of_front : (known : Option (List ℕ)) (bytes : List ℕ) (fault : Fault) → IfSome known (λ text. bytes ≡ take 4000001 text) → explains_run bytes fault → IfSome known (λ text. explains_run text fault)
explained_of_front None bytes fault h is = tt
explained_of_front (Some text) bytes fault h is = explained_moved bytes text (ap value_in h ∙ value_of_front text) fault is

asked_moved : (a b : List ℕ) → value_in a ≡ value_in b → (plan : AskedPlan) → IsPlanAskedBy a plan → IsPlanAskedBy b plan
asked_moved a b e plan is = record { asked = is.asked; read = rw e at is.read; plan_of_asked = is.plan_of_asked }

untold_moved : (a b : List ℕ) → value_in a ≡ value_in b → (fault : Fault) → explains_plan a fault → explains_plan b fault
untold_moved a b e fault (inl memory) = inl memory
untold_moved a b e fault (inr told) = inr (told.0, rw e at told.1, told.2)

-- the same of the plan that is asked for
pub shown_of_front : (form : PlanForm) (known : Option (List ℕ)) (bytes : List ℕ) (r : Result (String Global) Fault) → IfSome known (λ text. bytes ≡ take 4000001 text) → IfOk r (λ printed. IsShownPlan form bytes (string_bytes printed))
    → IfOk r (λ printed. IfSome known (λ text. IsShownPlan form text (string_bytes printed)))
shown_of_front form known bytes (Err fault) h is = tt
shown_of_front form None bytes (Ok printed) h is = tt
shown_of_front form (Some text) bytes (Ok printed) h is = record { plan = is.plan; asked = asked_moved bytes text (ap value_in h ∙ value_of_front text) is.plan is.asked; is = is.is }

pub no_plan_of_front : (known : Option (List ℕ)) (bytes : List ℕ) (r : Result (String Global) Fault) → IfSome known (λ text. bytes ≡ take 4000001 text) → IfErr r (λ fault. explains_plan bytes fault)
    → IfErr r (λ fault. (fault ≡ CannotRead) ⊎ IfSome known (λ text. explains_plan text fault))
no_plan_of_front known bytes (Ok line) h is = tt
no_plan_of_front None bytes (Err fault) h is = inr tt
no_plan_of_front (Some text) bytes (Err fault) h is = inr (untold_moved bytes text (ap value_in h ∙ value_of_front text) fault is)

raced_moved : (a b : List ℕ) → value_in a ≡ value_in b → IsRaced a → IsRaced b
raced_moved a b e is = record { race = is.race; read = rw e at is.read; allowed = is.allowed }

unraced_moved : (a b : List ℕ) → value_in a ≡ value_in b → (fault : Fault) → explains_raced a fault → explains_raced b fault
unraced_moved a b e OutOfMemory h = tt
unraced_moved a b e CannotRead h = h
unraced_moved a b e (BadConfig why) h = (h.0, rw e at h.1, h.2)
unraced_moved a b e (BadScript number) h = (h.0, rw e at h.1)
unraced_moved a b e BadArgument h = h
unraced_moved a b e (Refused kind at) h = h
unraced_moved a b e (RefusedSchema why) h = h
unraced_moved a b e (RefusedQuery why) h = h
unraced_moved a b e SortNotServed h = h
unraced_moved a b e GaveUp h = (h.0, rw e at h.1)
unraced_moved a b e (RefusedCommand why) h = (h.0, rw e at h.1)
unraced_moved a b e Corrupt h = (h.0, rw e at h.1)

-- the same of a race
pub raced_of_front : (known : Option (List ℕ)) (bytes : List ℕ) (r : Result (String Global) Fault) → IfSome known (λ text. bytes ≡ take 4000001 text) → OnOk r (IsRaced bytes) → OnOk r (IfSome known IsRaced)
raced_of_front known bytes (Err fault) h is = tt
raced_of_front None bytes (Ok lines) h is = tt
raced_of_front (Some text) bytes (Ok lines) h is = raced_moved bytes text (ap value_in h ∙ value_of_front text) is

pub unraced_of_front : (known : Option (List ℕ)) (bytes : List ℕ) (r : Result (String Global) Fault) → IfSome known (λ text. bytes ≡ take 4000001 text) → IfErr r (λ fault. explains_raced bytes fault)
    → IfErr r (λ fault. (fault ≡ CannotRead) ⊎ IfSome known (λ text. explains_raced text fault))
unraced_of_front known bytes (Ok lines) h is = tt
unraced_of_front None bytes (Err fault) h is = inr tt
unraced_of_front (Some text) bytes (Err fault) h is = inr (unraced_moved bytes text (ap value_in h ∙ value_of_front text) fault is)

-- where nothing is read
pub unread : (known : Option (List ℕ)) (fault : Fault) → (fault ≡ CannotRead) ⊎ (fault ≡ OutOfMemory) → (fault ≡ CannotRead) ⊎ IfSome known (λ text. explains_run text fault)
unread known fault (inl e) = inl e
unread None fault (inr e) = inr tt
unread (Some text) fault (inr e) = inr (rw e tt)

good_as_moved : (a b : List ℕ) → value_in a ≡ value_in b → (form : FileForm) → is_good_as a form → is_good_as b form
good_as_moved a b e forms.Script is = record { config = is.config; steps = is.steps; script = script_moved a b e is.config is.steps is.script; allowed = is.allowed }
good_as_moved a b e forms.Race is = record { race = is.race; read = rw e at is.read; places = is.places; allowed = is.allowed }
good_as_moved a b e forms.Plan is = rw e at is

good_moved : (a b : List ℕ) → value_in a ≡ value_in b → IsGood a → IsGood b
good_moved a b e is = subst (λ value. MatchOption value ⊥ (λ d. is_good_as b (file_form_in d))) e (by (value_in a) is)
  where
    by : (value : Option Data) → MatchOption value ⊥ (λ d. is_good_as a (file_form_in d)) → MatchOption value ⊥ (λ d. is_good_as b (file_form_in d))
    by None h = h
    by (Some d) h = good_as_moved a b e (file_form_in d) h

-- nothing is wrong with the whole input where nothing is with what is read
pub good_of_front : (known : Option (List ℕ)) (bytes : List ℕ) → IfSome known (λ text. bytes ≡ take 4000001 text) → IsGood bytes → IfSome known IsGood
good_of_front None bytes h is = tt
good_of_front (Some text) bytes h is = good_moved bytes text (ap value_in h ∙ value_of_front text) is
