-- What goes home after a request: the numbers of the other clients are as they were.
use Rattle.std.proofs.Common.{◌≡◌, ◌≢◌, ℕ, List, Some, sym, ap, ◌∙◌, subst, get_or-set_other}
use Rattle.std.specs.Prelude.{slice_index}
use Rattle.runtime.specs.declared.commit_lock.KeyHolder.{KeyHolder}
use Rattle.runtime.specs.declared.log_entry.Entry.{Entry}
use Rattle.runtime.specs.declared.outcome.Outcome.{Outcome}
use Rattle.runtime.specs.declared.outcome.Outcome.TheVariants.{Committed, Conflict, TooOld, VersionsExhausted, Unknown, Memory}
use Rattle.runtime.specs.CommitLocks.{MayReturn, taken_by}
use Rattle.runtime.specs.Outcomes.{GivesOne}

pub others_stay : (old new : List ℕ) (e : Entry) (outcome : Outcome) → GivesOne old new e outcome → (client : ℕ) → client ≢ e.client → slice_index new client ≡ slice_index old client
others_stay old new e (Committed version) gives client other = ap (λ (l : List ℕ). slice_index l client) gives.0 ∙ get_or-set_other old e.client client e.number 0 other
others_stay old new e (Conflict seen range) gives client other = ap (λ (l : List ℕ). slice_index l client) gives.0 ∙ get_or-set_other old e.client client e.number 0 other
others_stay old new e TooOld gives client other = ap (λ (l : List ℕ). slice_index l client) gives
others_stay old new e VersionsExhausted gives client other = ap (λ (l : List ℕ). slice_index l client) gives
others_stay old new e Unknown gives client other = ap (λ (l : List ℕ). slice_index l client) gives.0 ∙ get_or-set_other old e.client client e.number 0 other
others_stay old new e Memory gives client other = ap (λ (l : List ℕ). slice_index l client) gives

-- so the client's holder may put the value back
pub returns_by : {T : Type 0} (last_of : T → List ℕ) (v w : KeyHolder T) (x : T) (client : ℕ) (numbers : List ℕ) → v ≡ taken_by x w → w.client ≡ Some client → ((other : ℕ) → other ≢ client → slice_index numbers other ≡ slice_index (last_of x) other) → MayReturn last_of v numbers
returns_by {T} last_of v w x client numbers is own stays =
    subst (λ (h : KeyHolder T). MayReturn last_of h numbers) (sym is) (λ other differs. stays other (λ same. differs (own ∙ ap Some (sym same))))
