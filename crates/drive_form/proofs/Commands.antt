-- The commands of a text, and why a text has none.
use Rattle.std.proofs.Common.{◌≡◌, ℕ, List, [], ◌∷◌, ◌++◌, Option, Some, None, inl, inr, refl, sym, ap, subst, ◌∙◌, append-nil}
use Rattle.std.specs.Prelude.{MatchOption, option_and_then}
use Rattle.std.specs.Option.{option_map}
use Rattle.cluster_core.specs.declared.answers.Config.{Config}
use Rattle.schedule.specs.declared.step.Command.{Command}
use Rattle.schedule.specs.declared.step.Step.{Step}
use Rattle.schedule.specs.declared.step.Step.TheVariants.{Perform}
use Rattle.script.specs.declared.error.ScriptError.{ScriptError}
use Rattle.script.specs.declared.error.ScriptError.TheVariants.{BadScript, OutOfMemory}
use Rattle.script.specs.Steps.{step_in}
use Rattle.script.specs.Script.{IsFirstBadStep, IsScript, explains_script, script_in}
use Rattle.drive_form.specs.declared.error.FormError.{FormError}
use Rattle.drive_form.specs.declared.error.FormError.TheVariants as errors
use Rattle.drive_form.specs.Refused.{ExplainsSteps, ExplainsText, of_script}
use Rattle.drive_form.specs.Spelled.{AreCommands}

-- all steps are done
pub commands_all : (all rest : List Step) (commands : List Command) → rest ≡ [] → ((more : List Command) → AreCommands rest more → AreCommands all (commands ++ more)) → AreCommands all commands
commands_all all rest commands none kept =
    subst (λ x. AreCommands all x) (append-nil commands) (kept [] (subst (λ steps. AreCommands steps []) (sym none) tt))

-- steps of which one is no command aren't all commands
not_command : (step : Step) (rest : List Step) (more : List Command) → ((client : ℕ) (command : Command) → step ≡ Perform client command → ⊥) → AreCommands (step ∷ rest) more → ⊥
not_command (Perform client command) rest more other are = other client command refl
not_command step rest [] other are = are
not_command step rest (command ∷ more) other are = are

-- what is read of values one after another isn't read where the rest of them isn't
never : {A : Type 0} (found : Option A) (rest : Option (List A)) → rest ≡ None → option_and_then (λ one. option_map (λ more. one ∷ more) rest) found ≡ None
never None rest none = refl
never (Some one) rest none = ap (option_map (λ more. one ∷ more)) none

-- nor where one of them is bad
none_after : {D A : Type 0} (f : D → Option A) (each : List D → Option (List A)) → ((d : D) (ds : List D) → each (d ∷ ds) ≡ option_and_then (λ one. option_map (λ more. one ∷ more) (each ds)) (f d)) →
    (good rest : List D) (bad : D) → f bad ≡ None → each (good ++ bad ∷ rest) ≡ None
none_after f each turn [] rest bad none = turn bad rest ∙ ap (option_and_then (λ one. option_map (λ more. one ∷ more) (each rest))) none
none_after f each turn (d ∷ ds) rest bad none = turn d (ds ++ bad ∷ rest) ∙ never (f d) (each (ds ++ bad ∷ rest)) (none_after f each turn ds rest bad none)

-- values with a bad one after some
abbrev HaveBad : {D A : Type 0} → (D → Option A) → List D → Type 0
HaveBad {D} f ds = (good rest : List D) × (bad : D) × (ds ≡ good ++ bad ∷ rest) × (f bad ≡ None)

-- what is so of what is found, if anything is
match_by : {D : Type 0} (P Q : List D → Type 0) (found : Option (List D)) → ((ds : List D) → P ds → Q ds) → MatchOption found ⊥ P → MatchOption found ⊥ Q
match_by P Q None so is = is
match_by P Q (Some ds) so is = so ds is

-- values with a bad one aren't read
bad_unread : {D A : Type 0} (f : D → Option A) (each : List D → Option (List A)) (found : Option (List D)) (all : List A) → ((d : D) (ds : List D) → each (d ∷ ds) ≡ option_and_then (λ one. option_map (λ more. one ∷ more) (each ds)) (f d)) →
    MatchOption found ⊥ (HaveBad f) → option_and_then each found ≡ Some all → ⊥
bad_unread f each None all turn bad read = bad
bad_unread f each (Some ds) all turn (good, rest, bad, whole, none) read =
    let clash : Some all ≡ None = sym read ∙ ap each whole ∙ none_after f each turn good rest bad none in
    cc

-- why a text is no script is why it has no commands
pub text_unread : (text : List ℕ) (why : ScriptError) → explains_script text why → ExplainsText text (of_script why)
text_unread text OutOfMemory why = tt
text_unread text (BadScript number) (inl none) = λ commands (config, steps, script, are). let clash : Some config ≡ None = sym script.config_read ∙ none.1 in cc
text_unread text (BadScript number) (inr bad) = λ commands (config, steps, script, are).
    bad_unread step_in _ (script_in text) steps (λ d ds. refl) (match_by (λ ds. IsFirstBadStep ds number) (HaveBad step_in) (script_in text) (λ ds first. (first.good, first.rest, first.bad, first.whole, first.none)) bad.1)
    script.steps_read

-- steps of a text that aren't commands
pub steps_unread : (text : List ℕ) (config : Config) (steps : List Step) (error : FormError) → IsScript text config steps → ExplainsSteps steps error → ExplainsText text error
steps_unread text config steps errors.OutOfMemory script why = tt
steps_unread text config steps errors.BadForm script why = why
steps_unread text config steps errors.BadCommand script why = λ commands (config2, steps2, script2, are).
    let same : steps2 ≡ steps = cc (script.steps_read, script2.steps_read) in
    why commands (subst (λ all. AreCommands all commands) same are)
