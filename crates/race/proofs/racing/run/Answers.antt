use Rattle.race.proofs.racing.run.Goals as goal

pub returns-clause-err : goal.returns-clause-err
returns-clause-err g c = c.ended.ensures.err c.args.race.now.config
