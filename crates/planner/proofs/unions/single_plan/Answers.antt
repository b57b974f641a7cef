use Rattle.std.proofs.Common.{ap, sym, subst, subst₂, ◌≡◌, ◌∙◌, map}
use Rattle.std.specs.Prelude.{IfOk}
use Rattle.query.specs.Filter.{conjuncts}
use Rattle.query.specs.View.{filter_of}
use Rattle.planner.specs.ByField.{SaysTheSame}
use Rattle.planner.specs.Match.{numbered_filters}
use Rattle.planner.specs.Planned.{path_draft}
use Rattle.planner.specs.View.{conjunct_of, draft_of, match_of, matched_of, path_of}
use Rattle.planner.proofs.ByField.{single_same}
use Rattle.planner.proofs.unions.single_plan.Goals as goal

pub returns : goal.returns
returns c =
    let t = c.args.t.now in
    let indexes = map (λ i. i.now) c.args.indexes.now in
    let cs = numbered_filters (conjuncts (filter_of c.args.filter.now)) in
    let told = map conjunct_of c.as_slice-told.result.now in
    let best = c.keep_longest.new.best in
    let same : SaysTheSame told cs =
    subst₂ SaysTheSame (sym (ap (map conjunct_of) c.as_slice-told.ensures.value)) (ap (map conjunct_of) c.as_slice.ensures.value ∙ c.in_ok-all.ensures) c.in_ok-sorted.ensures.same in
    subst (λ d. IfOk c.path_draft.result (λ draft. draft_of draft ≡ d))
    (ap (λ w. path_draft t indexes w (path_of best.path) (match_of best.columns)) (ap (map conjunct_of) c.as_slice-2.ensures.value ∙ c.in_ok-all.ensures)
    ∙ single_same t indexes cs told (match_of c.in_ok-columns.columns) (matched_of best) same c.in_ok-columns.ensures c.in_ok-keep_longest.ensures)
    c.path_draft.ensures
