use Rattle.std.proofs.Common.{◌∙◌, sym}
use Rattle.metadata.proofs.StoredOnce.{found_stored, none_of_few, none_of_other_key, none_of_refused}
use Rattle.metadata.proofs.definition.TypeDefinition.cells_in.Goals as goal

pub returns-in-Err-clause-none : goal.returns-in-Err-clause-none
returns-in-Err-clause-none c =
    none_of_refused _ _ c.args.value.now c.in-Some.stored c.in-Some-2.cells c.in-Err.field-0 (rw c.in-Some.is at c.in_ok-stored.ensures.found) (sym c.in_ok-cells.ensures ∙ c.in-Some-2.is)
    c.in-Err.ensures.refused

pub returns-then-not-is_key-clause-none : goal.returns-then-not-is_key-clause-none
returns-then-not-is_key-clause-none c =
    none_of_other_key _ c.args.primary_key.now c.args.value.now c.in-Some.stored c.in-Some-2.cells (rw c.in-Some.is at c.in_ok-stored.ensures.found) (sym c.in_ok-cells.ensures ∙ c.in-Some-2.is)
    (rw c.if-not-is_key.true at c.is_key.ensures)

pub returns-in_default-2-clause-none : goal.returns-in_default-2-clause-none
returns-in_default-2-clause-none c =
    none_of_few _ _ c.args.value.now c.in-Some.stored (rw c.in-Some.is at c.in_ok-stored.ensures.found) (sym c.in_ok-cells.ensures ∙ c.in_default-2.is)

pub returns-clause-found : goal.returns-clause-found
returns-clause-found c =
    found_stored _ c.args.primary_key.now c.args.value.now c.in-Some.stored c.in-Some-2.cells (rw c.in-Some.is at c.in_ok-stored.ensures.found) (sym c.in_ok-cells.ensures ∙ c.in-Some-2.is) c.in-Ok.ensures.made
    (rw c.if-not-is_key.false at c.is_key.ensures)
