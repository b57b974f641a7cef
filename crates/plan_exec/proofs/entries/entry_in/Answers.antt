use Rattle.std.proofs.Common.{◌≡◌, ◌∙◌, ◌==◌, ap, arith, drop, length, sym}
use Rattle.metadata.specs.Layout.{entries_prefix}
use Rattle.plan_exec.proofs.EntryPacks.{entry_there, the_entry}
use Rattle.plan_exec.proofs.entries.entry_in.Goals as goal

pub new-requires : goal.new-requires
new-requires c =
    let count : c.len.result ≡ length (entries_prefix c.args.store.now.prefix c.args.index.now.number) = omega (arith, c.len.ensures, c.args.form.now.front.ok.0, ap length c.requires.front) in
    entry_there c.args.store.now.prefix c.args.definition.now c.args.index.now c.args.pair.now c.after-bytes.result.now
    (c.after-bytes.ensures ∙ (λ i. drop (count i) (c.as_slice-key.ensures i)))
    (sym (c.is_empty.ensures ∙ ap (λ bs. length bs == 0) c.as_slice.ensures) ∙ c.if-not-is_empty.false)
    c.in-Some.primary_key.now (rw c.in-Some.is at c.in_ok-primary_key.ensures) c.in_ok-copy-in-Some.field-0 c.as_slice-key.result.now c.in_ok-copy-in-Some.ensures c.as_slice-key.ensures

pub returns-in_ok-copy-in-Some : goal.returns-in_ok-copy-in-Some
returns-in_ok-copy-in-Some c =
    let count : c.len.result ≡ length (entries_prefix c.args.store.now.prefix c.args.index.now.number) = omega (arith, c.len.ensures, c.args.form.now.front.ok.0, ap length c.requires.front) in
    the_entry c.args.store.now.prefix c.args.definition.now c.args.index.now c.args.pair.now c.after-bytes.result.now
    (c.after-bytes.ensures ∙ (λ i. drop (count i) (c.as_slice-key.ensures i)))
    (sym (c.is_empty.ensures ∙ ap (λ bs. length bs == 0) c.as_slice.ensures) ∙ c.if-not-is_empty.false)
    c.in-Some.primary_key.now (rw c.in-Some.is at c.in_ok-primary_key.ensures) c.in_ok-copy-in-Some.field-0 c.as_slice-key.result.now c.in_ok-copy-in-Some.ensures c.as_slice-key.ensures c.new.result c.new.ensures
