use Rattle.range_set.proofs.Joined.{apart_told, joins_told}
use Rattle.range_set.proofs.ranges.Ranges.insertion.Goals as goal

pub returns-in_err-mutations-clause-joins : goal.returns-in_err-mutations-clause-joins
returns-in_err-mutations-clause-joins c = λ m. joins_told c.args.place.now c.args.range.now c.args.self.now m c.range_known.ensures

pub returns-in_err-mutations-clause-apart : goal.returns-in_err-mutations-clause-apart
returns-in_err-mutations-clause-apart c = λ m. apart_told c.args.place.now c.args.range.now c.args.self.now m c.range_known.ensures

pub returns-clause-joins : goal.returns-clause-joins
returns-clause-joins c = λ m. joins_told c.args.place.now c.args.range.now c.args.self.now m c.range_known.ensures

pub returns-clause-apart : goal.returns-clause-apart
returns-clause-apart c = λ m. apart_told c.args.place.now c.args.range.now c.args.self.now m c.range_known.ensures
