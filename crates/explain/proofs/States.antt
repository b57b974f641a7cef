-- States of indexes, read one at a time.
use Rattle.std.proofs.Common.{◌≡◌, ◌∙◌, ℕ, List, [], ◌∷◌, ◌++◌, Option, Some, None, option_map, refl, ap, append_assoc}
use Rattle.serde_json.specs.Data.{Data, Members, member}
use Rattle.metadata.specs.declared.index.State.{State}
use Rattle.explain.specs.File.{named_state_in, states_beside}
use Rattle.explain.specs.declared.file.NamedState.{NamedState}

-- one state more is read
pub state_read : (done : List NamedState) (name : List ℕ) (d : Data) (ms : Members) (state : State) (all : Option (List NamedState)) → named_state_in d ≡ Some state
    → option_map (λ more. done ++ more) (states_beside (member name d ms)) ≡ all → option_map (λ more. (done ++ record { name = name; state = state } ∷ []) ++ more) (states_beside ms) ≡ all
state_read done name d ms state all e h = by (states_beside ms) refl
  where
    by : (rest : Option (List NamedState)) → states_beside ms ≡ rest → option_map (λ more. (done ++ record { name = name; state = state } ∷ []) ++ more) rest ≡ all
    by None is = rw (e, is) at h
    by (Some more) is = ap Some (append_assoc done (record { name = name; state = state } ∷ []) more) ∙ rw (e, is) at h
