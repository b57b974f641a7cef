use Rattle.std.proofs.Common.{◌∙◌, ◌++◌, ◌≤◌, ap, arith, length, pos, subst, sym}
use Rattle.metadata.specs.declared.cells.Cell.TheVariants.{Int}
use Rattle.metadata.specs.Stored.{BeginsWithCell}
use Rattle.plan_exec.specs.Packing.{ArePiecesAt}
use Rattle.plan_exec.proofs.Pieces.{stands_whole}
use Rattle.plan_exec.proofs.packing.is_whole.Goals as goal

pub returns : goal.returns
returns c = λ so.
    let r = c.args.records.now in
    let value = c.as_slice-value.result.now in
    let primary = c.in-Some.primary_key.now in
    let key = c.in-Some-after_number.key.now in
    let begins = sym c.as_slice-2.ensures ∙ (rw c.in-Some.is at c.behind.ensures) ∙ ap (λ f. f ++ primary) (c.as_slice.ensures.value ∙ r.fronted) in
    let first : r.definition.value.first_fields ≤ length c.as_slice-kinds.result.now =
    omega (arith, c.if-deref-kinds.false, ap (λ t. t.first_fields) c.deref-2.ensures) in
    let numbered = subst (λ t. BeginsWithCell (Int (pos t.number)) key primary) c.deref.ensures (rw c.in-Some-after_number.is at c.after_number.ensures.told) in
    let keyed = subst (λ places. ArePiecesAt value places key) (c.as_slice-3.ensures ∙ ap (λ t. t.key) c.deref-3.ensures) (c.in_ok-are.ensures so) in
    stands_whole r.store.now.prefix r.definition.value c.args.pair.now c.as_slice-kinds.result.now value primary key c.as_slice-value.ensures
    (c.as_slice-kinds.ensures.value ∙ r.typed) first (c.in_ok-are_all.ensures c.if-not-branch.false) begins numbered keyed
