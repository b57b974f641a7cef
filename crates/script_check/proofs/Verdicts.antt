-- What the answers of readers say of a text.
use Rattle.std.proofs.Common.{◌≡◌, ◌⊎◌, ◌↔◌, ◌<◌, arith, inl, inr, length, ℕ, List, [], ◌∷◌, ◌++◌, Option, Some, None, option_map, option_and_then, sym, ap, subst, refl, ◌∙◌}
use Rattle.std.specs.Prelude.{MatchOption}
use Rattle.serde_json.specs.Data.{Data}
use Rattle.cluster_core.proofs.InOrder.{nothing_is}
use Rattle.schedule.specs.declared.step.Step.{Step}
use Rattle.json_forms.specs.Json.{each_in}
use Rattle.json_forms.proofs.Each.{each_append}
use Rattle.script.specs.Script.{IsFirstBadStep, explains_script, script_in}
use Rattle.script.specs.Steps.{step_in}
use Rattle.script.specs.declared.error.ScriptError.TheVariants.{BadScript}
use Rattle.json_forms.specs.Json.{value_in}
use Rattle.script_check.specs.Good.{IsGood, IsRunnable, file_form_in, is_good_as}
use Rattle.script_check.specs.declared.file_form.FileForm.{FileForm}

no_back : {A : Type 0} (front : Option (List A)) → option_and_then (λ a. option_map (λ b. a ++ b) None) front ≡ None
no_back None = refl
no_back (Some a) = refl

each_bad : {A : Type 0} (f : Data → Option A) (good : List Data) (bad : Data) (rest : List Data) → f bad ≡ None → each_in f (good ++ bad ∷ rest) ≡ None
each_bad f good bad rest e =
    each_append f good (bad ∷ rest)
    ∙ ap (λ ys. option_and_then (λ a. option_map (λ b. a ++ b) ys) (each_in f good)) (ap (option_and_then (λ one. option_map (λ more. one ∷ more) (each_in f rest))) e)
    ∙ no_back (each_in f good)

no_steps : (items : Option (List Data)) (number : ℕ) (steps : List Step) → MatchOption items ⊥ (λ ds. IsFirstBadStep ds number) → option_and_then (each_in step_in) items ≡ Some steps → ⊥
no_steps None number steps h e = h
no_steps (Some ds) number steps h e = nothing_is (sym (ap (each_in step_in) h.whole ∙ each_bad step_in h.good h.bad h.rest h.none) ∙ e)

-- a text that is refused as a script is none
pub no_script : (text : List ℕ) (number : ℕ) → explains_script text (BadScript number) → IsRunnable text → ⊥
no_script text number (inl h) is = nothing_is (sym h.1 ∙ is.script.config_read)
no_script text number (inr h) is = no_steps (script_in text) number is.steps h.1 is.script.steps_read

good_in : (text : List ℕ) (value : Option Data) (form : FileForm) → Some form ≡ option_map file_form_in value → is_good_as text form → MatchOption value ⊥ (λ d. is_good_as text (file_form_in d))
good_in text None form e h = nothing_is (sym e)
good_in text (Some d) form e h = subst (λ o. MatchOption o ⊥ (λ f. is_good_as text f)) e h

good_out : (text : List ℕ) (value : Option Data) (form : FileForm) → Some form ≡ option_map file_form_in value → MatchOption value ⊥ (λ d. is_good_as text (file_form_in d)) → is_good_as text form
good_out text None form e h = absurd h
good_out text (Some d) form e h = subst (λ o. MatchOption o ⊥ (λ f. is_good_as text f)) (sym e) h

-- a text is good as what it is taken for
pub good_both : (text : List ℕ) (form : FileForm) → Some form ≡ option_map file_form_in (value_in text) → (is_good_as text form → IsGood text) × (IsGood text → is_good_as text form)
good_both text form e = (good_in text (value_in text) form e, good_out text (value_in text) form e)

-- where something is told, and the text isn't good, nothing is told exactly where it is good
pub some_wrong : {A : Type 0} (items : List A) (good : Type 0) → 0 < length items → (good → ⊥) → (items ≡ []) ↔ good
some_wrong items good some bad = (λ none. absurd (omega (arith, some, ap length none)), λ is. absurd (bad is))
