use Rattle.std.proofs.Common.{IfSome, List, ℕ, subst}
use Rattle.std.specs.Option.{IsSomeAnd}
use Rattle.record_store.specs.declared.known.Written.{Written}
use Rattle.record_store.specs.Reading.{AreStates}
use Rattle.record_store.proofs.KnownStates.{of_known}
use Rattle.record_store.proofs.known.KnownSchema.states_of.Goals as goal

pub returns-in-Some-clause-found : goal.returns-in-Some-clause-found
returns-in-Some-clause-found c =
    of_known (λ (last : Written). last.schema.value) c.args.prefix.now c.args.schema.now c.args.pairs.items c.in-Some.states.items c.args.self.now.written c.requires.known
    (subst (λ (ps : List (List ℕ × List ℕ)). IsSomeAnd c.args.self.now.written (λ (last : Written). AreStates c.args.prefix.now last.schema.value.indexes ps c.in-Some.states.items)) c.as_slice.ensures.value
    (subst (λ found. IfSome found (λ states. IsSomeAnd c.args.self.now.written (λ (last : Written). AreStates c.args.prefix.now last.schema.value.indexes c.as_slice.result.now states.items))) c.in-Some.is c.in_ok-states.ensures))
