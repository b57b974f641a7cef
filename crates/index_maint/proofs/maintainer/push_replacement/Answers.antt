use Rattle.std.proofs.Common.{◌≡◌, ◌∷◌, [], ◌++◌, ◌∙◌, true, false, rules, append-nil, append_assoc, sym, ap}
use Rattle.std.specs.Ordering.{is_eq}
use Rattle.kv_core.specs.Bytes.{key_cmp}
use Rattle.index_maint.proofs.EntryKeys.{both_written, nothing_written}
use Rattle.index_maint.proofs.maintainer.push_replacement.Goals as goal

pub returns-then-is_eq : goal.returns-then-is_eq
returns-then-is_eq c =
    let tie : is_eq (key_cmp c.in_ok-gone.gone c.in_ok-come.come) ≡ true = search rules in
    sym (append-nil c.args.mutations.now.items)
    ∙ ap (λ ms. c.args.mutations.now.items ++ ms)
    (sym (nothing_written c.args.prefix.now c.args.index.now c.args.old.now c.args.new.now c.in_ok-gone.gone c.in_ok-come.come c.in_ok-gone.ensures.key c.in_ok-come.ensures.key
    c.in_ok-gone.ensures.items c.in_ok-come.ensures.items tie))

pub returns : goal.returns
returns c =
    let apart : is_eq (key_cmp c.in_ok-gone.gone c.in_ok-come.come) ≡ false = search rules in
    c.in_ok-push-2.ensures.items ∙ ap (λ ms. ms ++ c.set.result ∷ []) c.in_ok-push.ensures.items
    ∙ append_assoc c.args.mutations.now.items (c.in_ok-clear.field-0 ∷ []) (c.set.result ∷ [])
    ∙ ap (λ ms. c.args.mutations.now.items ++ ms)
    ((λ i. c.in_ok-clear.ensures i ∷ c.set.ensures i ∷ [])
    ∙ sym (both_written c.args.prefix.now c.args.index.now c.args.old.now c.args.new.now c.in_ok-gone.gone c.in_ok-come.come c.in_ok-gone.ensures.key c.in_ok-come.ensures.key apart))
