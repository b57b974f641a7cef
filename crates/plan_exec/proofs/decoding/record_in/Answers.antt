use Rattle.std.proofs.Common.{◌≡◌, ◌∙◌, ◌++◌, List, ℕ, Option, Result, Ok, Err, IfOk, IfSome, ap, sym, subst}
use Rattle.std.specs.Option.{IfNone}
use Rattle.metadata.specs.declared.definition.TypeDefinition.{TypeDefinition}
use Rattle.metadata.specs.Record.{Record}
use Rattle.metadata.specs.Stored.{IsOfNoRecord, IsStoredAs}
use Rattle.record_store.specs.Layout.{place}
use Rattle.metadata.specs.Layout.{Pair}
use Rattle.planner.specs.Layout.{stored_record}
use Rattle.plan_exec.proofs.ReadAs.{decoded, read_elsewhere}
use Rattle.plan_exec.proofs.decoding.record_in.Goals as goal

so : {E : Type 0} (prefix : List ℕ) (t : TypeDefinition) (pair : Pair) (rest value : List ℕ) (result : Result (Option Record) E) → value ≡ pair.1 → pair.0 ≡ place prefix 1 ++ rest →
    IfOk result (λ found. IfSome found (IsStoredAs t rest value)) → IfOk result (λ found. IfNone found (IsOfNoRecord t rest value)) → IfOk result (λ found. found ≡ stored_record prefix t pair)
so prefix t pair rest value (Ok found) same begins some none =
    decoded prefix t pair rest found begins (subst (λ v. IfSome found (IsStoredAs t rest v)) same some) (subst (λ v. IfNone found (IsOfNoRecord t rest v)) same none)
so prefix t pair rest value (Err e) same begins some none = tt

pub returns-in-Some : goal.returns-in-Some
returns-in-Some c =
    so c.args.store.now.prefix c.args.definition.now.value c.args.pair.now c.in-Some.primary_key.now c.as_slice-value.result.now c.decode_shared.result c.as_slice-value.ensures
    (sym c.as_slice-key.ensures ∙ c.in-Some.ensures ∙ ap (λ k. k ++ c.in-Some.primary_key.now) c.requires) c.decode_shared.ensures.found c.decode_shared.ensures.none

pub returns-in-None : goal.returns-in-None
returns-in-None c =
    read_elsewhere c.args.store.now.prefix c.args.definition.now.value c.args.pair.now
    (λ begins. c.in-None.ensures (begins.0, c.as_slice-key.ensures ∙ begins.1 ∙ ap (λ k. k ++ begins.0) (sym c.requires)))
