-- The first bad step of a script.
use Rattle.std.proofs.Common.{◌≡◌, ℕ, suc, ◌+◌, ◌<◌, List, ◌∷◌, ◌++◌, length, get_or, take, drop, map, Some, None, sym, ap, ◌∙◌, arith}
use Rattle.std.proofs.Math.Seq.{split_at}
use Rattle.std.proofs.lemmas.List.{length-map, length-take, map-append}
use Rattle.serde_json.specs.View.{view}
use Rattle.serde_json.specs.declared.value.Value.{Value}
use Rattle.script.specs.declared.error.ScriptError.{ScriptError}
use Rattle.script.specs.declared.error.ScriptError.TheVariants.{OutOfMemory, BadScript}
use Rattle.schedule.specs.declared.step.Step.{Step}
use Rattle.json_forms.specs.Json.{each_in}
use Rattle.script.specs.Steps.{step_in}
use Rattle.script.specs.Script.{explains_step, explains_steps, IsFirstBadStep}

first_bad : (vs : List Value) (i : ℕ) (v : Value) (steps : List Step) (number : ℕ) → i < length vs → v ≡ get_or vs i v → each_in step_in (map view (take i vs)) ≡ Some steps → number ≡ i + 1 → step_in (view v) ≡ None
    → IsFirstBadStep (map view vs) number
first_bad vs i v steps number h at before place e = record {
  good = map view (take i vs);
  bad = view v;
  rest = map view (drop (suc i) vs);
  whole = ap (map view) (split_at vs i v h) ∙ map-append view (take i vs) _ ∙ ap (λ one. map view (take i vs) ++ view one ∷ map view (drop (suc i) vs)) (sym at);
  before = rw before;
  none = e;
  place = simp length-map (let k = length-take i vs in omega arith);
}

-- the error of a step is the error of the steps, where those before it are read
pub step_explained : (vs : List Value) (i : ℕ) (v : Value) (steps : List Step) (error : ScriptError) → i < length vs → v ≡ get_or vs i v → each_in step_in (map view (take i vs)) ≡ Some steps
    → explains_step (view v) (i + 1) error → explains_steps (map view vs) error
step_explained vs i v steps OutOfMemory h at before x = tt
step_explained vs i v steps (BadScript number) h at before x = first_bad vs i v steps number h at before x.0 x.1
