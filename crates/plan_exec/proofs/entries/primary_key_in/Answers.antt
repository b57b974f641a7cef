use Rattle.std.proofs.Common.{◌∙◌, ap, arith, length, sym}
use Rattle.plan_exec.proofs.EntryPacks.{key_behind, no_key_behind, none_behind, none_of_columns}
use Rattle.plan_exec.proofs.entries.primary_key_in.Goals as goal

pub returns-then-len-as_slice : goal.returns-then-len-as_slice
returns-then-len-as_slice c =
    none_of_columns c.args.definition.now c.args.index.now c.args.bytes.now c.args.form.now.columns.items c.requires.columns (λ e. c.if-len-as_slice.true (omega (arith, e, c.len.ensures, c.args.form.now.columns.ok.0, ap length c.as_slice.ensures)))

pub returns-in_default : goal.returns-in_default
returns-in_default c =
    none_behind c.args.definition.now c.args.index.now c.args.bytes.now c.as_slice-2.result.now (c.as_slice-2.ensures.value ∙ c.requires.columns)
    (omega (arith, c.if-len-as_slice.false, c.len.ensures, c.args.form.now.columns.ok.0, ap length c.as_slice.ensures, ap length c.as_slice-2.ensures.value)) (rw c.in_default.is at c.in_ok-rest.ensures)

pub returns-then-branch : goal.returns-then-branch
returns-then-branch c =
    key_behind c.args.definition.now c.args.index.now c.args.bytes.now c.as_slice-2.result.now (c.as_slice-2.ensures.value ∙ c.requires.columns)
    (omega (arith, c.if-len-as_slice.false, c.len.ensures, c.args.form.now.columns.ok.0, ap length c.as_slice.ensures, ap length c.as_slice-2.ensures.value)) c.in-Some.rest.now (rw c.in-Some.is at c.in_ok-rest.ensures) (sym c.in_ok-is_primary_key.ensures ∙ c.if-branch.true)

pub returns-else-branch : goal.returns-else-branch
returns-else-branch c =
    no_key_behind c.args.definition.now c.args.index.now c.args.bytes.now c.as_slice-2.result.now (c.as_slice-2.ensures.value ∙ c.requires.columns)
    (omega (arith, c.if-len-as_slice.false, c.len.ensures, c.args.form.now.columns.ok.0, ap length c.as_slice.ensures, ap length c.as_slice-2.ensures.value)) c.in-Some.rest.now (rw c.in-Some.is at c.in_ok-rest.ensures) (sym c.in_ok-is_primary_key.ensures ∙ c.if-branch.false)
