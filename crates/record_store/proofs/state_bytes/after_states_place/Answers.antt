use Rattle.std.proofs.Common.{◌≡◌, ◌++◌, ℤ, subst}
use Rattle.std.specs.Prelude.{MatchOption}
use Rattle.tuple_codec.specs.Spelling.{int_spelling}
use Rattle.tuple_codec.specs.Subspace.{BeginsWith}
use Rattle.record_store.proofs.StateSteps.{in_place_or_not, no_prefix}
use Rattle.record_store.proofs.state_bytes.after_states_place.Goals as goal

pub returns-in-Some : goal.returns-in-Some
returns-in-Some c =
    in_place_or_not c.args.prefix.now c.args.key.now c.in-Some.rest.now c.in-Some.ensures c.strip_int.result
    (subst (λ (z : ℤ). MatchOption c.strip_int.result (BeginsWith (int_spelling z) c.in-Some.rest.now → ⊥) (λ x. c.in-Some.rest.now ≡ int_spelling z ++ x.now)) c.from.ensures c.strip_int.ensures)

pub returns-in-None : goal.returns-in-None
returns-in-None c = no_prefix c.args.prefix.now c.args.key.now c.in-None.ensures
