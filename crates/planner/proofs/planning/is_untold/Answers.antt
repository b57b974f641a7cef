use Rattle.std.proofs.Common.{ap, sym, ◌∙◌, arith, length, map, take, drop, ◌∷◌, ◌-◌}
use Rattle.planner.specs.Match.{name_at}
use Rattle.planner.specs.View.{conjunct_of}
use Rattle.query.proofs.Nodes.{first_and_rest}
use Rattle.planner.proofs.ByField.{untold}
use Rattle.planner.proofs.planning.is_untold.Goals as goal

pub returns-in-len1-up : goal.returns-in-len1-up
returns-in-len1-up c = λ e.
    let names = map (name_at c.args.t.now) (take (length c.args.columns.now - 1) (drop 1 c.args.columns.now)) in
    untold c.name_at.result.now names (map (name_at c.args.t.now) c.args.columns.now) (map conjunct_of c.args.conjuncts.now) c.on_field-own.result.now
    (ap (map (name_at c.args.t.now)) (first_and_rest c.args.columns.now 0 (omega (arith, c.in-len1-up.len_at_least))) ∙ ap (λ n. n ∷ names) (sym c.name_at.ensures))
    c.on_field-own.ensures (sym c.is_empty.ensures ∙ e)
