use Rattle.plan_exec.proofs.Levels.{given_known, given_unknown}
use Rattle.plan_exec.proofs.level.Level.find_head.Goals as goal
use Rattle.plan_exec.proofs.level.Level.find_head.Goals.{then-is_none+in_ok-self+in-Some-1, then-is_none+in_ok-self+in-None-1, else-is_none}

pub returns-clause-given : goal.returns-clause-given
returns-clause-given g c = elim c.if-is_none.branch [
  | then-is_none+in_ok-self+in-Some-1 w ↦ rw (w.self-is, w.tx-is) (given_unknown c.args.self.now.head w.in_ok-self.field-0 (g.R.Stream.course c.args.self.now.stream) (g.R.Stream.course w.next.new.self) w.if-is_none.ensures w.in_ok-self.ensures.given)
  | then-is_none+in_ok-self+in-None-1 w ↦ rw (w.self-is, w.tx-is) (given_unknown c.args.self.now.head w.in_ok-self.field-0 (g.R.Stream.course c.args.self.now.stream) (g.R.Stream.course w.next.new.self) w.if-is_none.ensures w.in_ok-self.ensures.given)
  | else-is_none w ↦ rw (w.self-is, w.tx-is) (given_known c.args.self.now.head (g.R.Stream.course c.args.self.now.stream) w.if-is_none.ensures)
]
