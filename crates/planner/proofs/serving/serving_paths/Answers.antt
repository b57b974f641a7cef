use Rattle.std.proofs.Common.{ap, sym, subst, ◌∙◌, ◌++◌, ◌∷◌, [], map}
use Rattle.planner.specs.ByField.{SaysTheSame}
use Rattle.planner.specs.Match.{along, paths, primary, serves}
use Rattle.std.specs.Prelude.{filter}
use Rattle.planner.specs.Planned.{matched_paths}
use Rattle.planner.specs.View.{conjunct_of, matched_of}
use Rattle.planner.proofs.Bodies.{serving_step}
use Rattle.planner.proofs.ByField.{serving_same}
use Rattle.planner.proofs.serving.serving_paths.Goals as goal

pub returns : goal.returns
returns c =
    let t = c.args.t.now in
    let sort = c.args.sort.now in
    let indexes = map (λ i. i.now) c.args.indexes.now in
    let told = map conjunct_of c.as_slice-told.result.now in
    let along_all = matched_paths t told (filter (serves t told sort) (map along indexes)) in
    c.in_ok-add_serving_indexes.ensures
    ∙ ap (λ w. w ++ along_all) (c.in_ok-add_serving.ensures ∙ ap (λ w. map matched_of w ++ matched_paths t told (filter (serves t told sort) (primary ∷ []))) c.new-serving.ensures.items)
    ∙ serving_step t told sort primary (map along indexes)
    ∙ serving_same t (paths indexes) sort (map conjunct_of c.args.conjuncts.now) told
    (subst (λ w. SaysTheSame (map conjunct_of w) (map conjunct_of c.args.conjuncts.now)) (sym c.as_slice-told.ensures.value) c.in_ok-sorted.ensures.same)
