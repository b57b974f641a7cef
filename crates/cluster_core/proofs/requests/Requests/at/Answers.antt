use Rattle.std.proofs.Common.{◌∙◌, ◌-◌, ◌≤◌, List, ap, get_or, subst, sym}
use Rattle.kv_core.specs.declared.change.CommitRequest.{CommitRequest}
use Rattle.cluster_core.specs.Requests.{RequestList}
use Rattle.cluster_core.proofs.Forgetting.{item_drop}
use Rattle.cluster_core.proofs.requests.Requests.at.Goals as goal

pub returns : goal.returns
returns c =
    let f = c.self.inside in
    let d : CommitRequest = c.index.result.now in
    let from = subst (λ (r : RequestList). r.forgotten ≤ c.args.place) (sym c.self.view_is) c.requires.kept in
    c.index.ensures ∙ ap (λ (xs : List CommitRequest). get_or xs (c.args.place - f.forgotten) d) c.self.invariant.0
    ∙ item_drop f.forgotten f.past.list c.args.place d from
    ∙ ap (λ (r : RequestList). get_or r.all c.args.place d) c.self.view_is
