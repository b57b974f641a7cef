use Rattle.commits.proofs.GoingOn.{IsAppending}
use Rattle.commits.proofs.finishing.append_rest.Given as goal

abbrev pub invariant-loop-l : goal.invariant-loop-l
invariant-loop-l l = IsAppending l.initial.pipeline l.l l.pipeline
