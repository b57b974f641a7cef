use Rattle.std.proofs.Common.{◌∙◌, ◌+◌, ◌-◌, ◌≤◌, ap, arith, length, subst, sym}
use Rattle.std.proofs.lemmas.List.{length-drop}
use Rattle.cluster_core.specs.Roles.{PipelineState, done_with, forget, kept, submitted}
use Rattle.cluster_core.proofs.pipeline.Pipeline.forget.Goals as goal

pub forget_before-requires-clause-from : goal.forget_before-requires-clause-from
forget_before-requires-clause-from c = c.done_with.ensures.forgotten

pub forget_before-requires-clause-upto : goal.forget_before-requires-clause-upto
forget_before-requires-clause-upto c = subst (λ n. n ≤ done_with c.args.self.now) (sym c.done_with.ensures.value) (omega arith)

pub returns-clause-step : goal.returns-clause-step
returns-clause-step c = c.forget_before.ensures ∙ ap (λ n. record c.args.self.now { forgotten = n }) c.done_with.ensures.value

pub returns-clause-bound : goal.returns-clause-bound
returns-clause-bound c =
    let p = c.args.self.now in
    let left = length-drop (done_with p) p.requests in
    let upto : length (kept (forget p)) ≤ p.window + (submitted p - p.reported) = omega (arith, left) in
    subst (λ (q : PipelineState). length (kept q) ≤ q.window + (submitted q - q.reported)) (sym (returns-clause-step c)) upto

pub returns-clause-roles : goal.returns-clause-roles
returns-clause-roles c =
    let is = returns-clause-step c in
    record { resolvers = ap (λ (p : PipelineState). length p.resolved) is; logs = ap (λ (p : PipelineState). length p.logged) is }
