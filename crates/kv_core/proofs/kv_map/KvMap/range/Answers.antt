use Rattle.std.proofs.Common.{◌≡◌, ◌∙◌, true, false, sym, ap, subst, IfOk}
use Rattle.kv_core.specs.Read.{read_of}
use Rattle.kv_core.proofs.Stored.{read-stored}
use Rattle.kv_core.proofs.kv_map.KvMap.range.Goals as goal

pub returns-then-reverse : goal.returns-then-reverse
returns-then-reverse c =
    subst (λ xs. IfOk c.last_pairs.result (λ pairs. pairs.items ≡ xs))
    (read-stored c.args.self.now c.self.inside.pairs.entries c.self.view_is c.last_pairs.ensures.ordered c.args.range.now c.args.limit true
    ∙ ap (read_of c.args.self.now c.args.range.now c.args.limit) (sym c.if-reverse.true))
    c.last_pairs.ensures.pairs

pub returns-else-reverse : goal.returns-else-reverse
returns-else-reverse c =
    subst (λ xs. IfOk c.first_pairs.result (λ pairs. pairs.items ≡ xs))
    (read-stored c.args.self.now c.self.inside.pairs.entries c.self.view_is c.first_pairs.ensures.ordered c.args.range.now c.args.limit false
    ∙ ap (read_of c.args.self.now c.args.range.now c.args.limit) (sym c.if-reverse.false))
    c.first_pairs.ensures.pairs
