use Rattle.commits.proofs.GoingOn.{IsResolving}
use Rattle.commits.proofs.finishing.resolve_rest.Given as goal

abbrev pub invariant-loop-r : goal.invariant-loop-r
invariant-loop-r l = IsResolving l.initial.pipeline l.r l.pipeline
