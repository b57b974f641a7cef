use Rattle.drive.proofs.Resting.{left_between}
use Rattle.drive.proofs.wanted.rest_between.Goals as goal

pub returns-clause-left : goal.returns-clause-left
returns-clause-left c =
    left_between c.args.covered.now c.args.range.now c.in_ok-rest.field-0 c.in-Some.rest c.rest_reverse.result c.in-Some.is c.in_ok-rest.ensures.some
    c.in_ok-rest.ensures.left c.rest_reverse.ensures.some c.rest_reverse.ensures.left c.rest_reverse.ensures.begin
