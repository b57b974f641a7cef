use Rattle.script_check.proofs.verdict.verdict_as.Goals as goal

pub returns-in-Script : goal.returns-in-Script
returns-in-Script c = rw c.in-Script.is c.on_script.ensures

pub returns-in-Race : goal.returns-in-Race
returns-in-Race c = rw c.in-Race.is c.on_race.ensures

pub returns-in-Plan : goal.returns-in-Plan
returns-in-Plan c = rw c.in-Plan.is c.on_plan.ensures
