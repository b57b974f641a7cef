use Rattle.shell.proofs.scripts.do_shown.Goals as goal

pub steps-preserved : goal.steps-preserved
steps-preserved g c start so_far = c.in_ok-schedule.ensures.further start (c.steps.invariant start so_far)
