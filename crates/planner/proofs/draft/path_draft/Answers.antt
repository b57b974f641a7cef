use Rattle.std.proofs.Common.{◌≡◌, ◌∙◌, ap, sym, subst, map}
use Rattle.std.specs.Prelude.{IfOk}
use Rattle.planner.specs.Planned.{path_draft}
use Rattle.planner.specs.View.{conjunct_of, draft_of, match_of, path_of}
use Rattle.planner.proofs.ByField.{index_same}
use Rattle.planner.proofs.draft.path_draft.Goals as goal

pub returns-in-Along : goal.returns-in-Along
returns-in-Along c =
    let t = c.args.t.now in
    let indexes = map (λ i. i.now) c.args.indexes.now in
    let cs = map conjunct_of c.args.conjuncts.now in
    subst (λ d. IfOk c.along_index.result (λ draft. draft_of draft ≡ d))
    (index_same t indexes cs (map conjunct_of c.args.by_field.now) c.in-Along.index.now (match_of c.args.m) c.requires.same
    ∙ ap (λ p. path_draft t indexes cs (path_of p) (match_of c.args.m)) (sym c.in-Along.is))
    c.along_index.ensures
