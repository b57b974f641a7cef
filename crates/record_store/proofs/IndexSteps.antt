-- How the code goes through indexes and states, step by step.
use Rattle.std.proofs.Common.{◌≡◌, ℕ, Bool, true, false, cond, ◌==◌, List, [], ◌∷◌, refl, sym, ap, ◌∙◌, Option, Some, unwrap_or}
use Rattle.std.specs.Prelude.{find}
use Rattle.std.specs.Option.{option_map}
use Rattle.std.specs.Map.{lookup}
use Rattle.metadata.specs.declared.index.State.{State}
use Rattle.metadata.specs.declared.index.State.TheVariants.{Readable}
use Rattle.record_store.specs.Store.{state_in}

-- ---- states

-- the state listed for a number is that of the first pair with it
lookup_find : (states : List (ℕ × State)) (number : ℕ) → lookup (λ own. own == number) states ≡ option_map (λ (one : ℕ × State). one.1) (find (λ (one : ℕ × State). one.0 == number) states)
lookup_find [] number = refl
lookup_find (one ∷ states) number = by_test (one.0 == number) (lookup_find states number)
  where
    by_test : (b : Bool) → lookup (λ own. own == number) states ≡ option_map (λ (one : ℕ × State). one.1) (find (λ (one : ℕ × State). one.0 == number) states) →
        cond b (Some one.1) (lookup (λ own. own == number) states) ≡ option_map (λ (one : ℕ × State). one.1) (cond b (Some one) (find (λ (one : ℕ × State). one.0 == number) states))
    by_test true rest = refl
    by_test false rest = rest

pub state_found : (states : List (ℕ × State)) (number : ℕ) (found : Option (ℕ × State)) → found ≡ find (λ (one : ℕ × State). one.0 == number) states →
    unwrap_or (option_map (λ (one : ℕ × State). one.1) found) Readable ≡ state_in states number
state_found states number found is = ap (λ o. unwrap_or (option_map (λ (one : ℕ × State). one.1) o) Readable) is ∙ ap (λ o. unwrap_or o Readable) (sym (lookup_find states number))
