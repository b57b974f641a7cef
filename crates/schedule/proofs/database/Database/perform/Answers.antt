use Rattle.std.proofs.Common.{arith, refl}
use Rattle.schedule.proofs.ClientSteps.{known_there, perform_none, perform_steps}
use Rattle.schedule.proofs.database.Database.perform.Goals as goal

pub returns-in_ok-reply-in-Some : goal.returns-in_ok-reply-in-Some
returns-in_ok-reply-in-Some c =
    perform_steps c.args.self.now _ c.args.stays_open c.requires.held c.args.client c.args.command.now c.in_ok-reply-in-Some.reply c.index_mut.result.now c.in-Some.transaction c.perform.new.self (omega arith) c.index_mut.ensures.value
    c.in-Some.is c.laws_of.ensures.legal c.in_ok-reply-in-Some.ensures
    (record { cluster = refl; transactions = refl; unreported = refl; commits = refl })

pub returns-in-None : goal.returns-in-None
returns-in-None c =
    perform_none c.args.self.now _ c.args.client c.args.command.now c.index_mut.result.now (omega arith) c.index_mut.ensures.value c.in-None.is
    (record { cluster = refl; transactions = refl; unreported = refl; commits = refl })

pub perform-requires : goal.perform-requires
perform-requires c = known_there c.args.self.now c.args.client c.index_mut.result.now c.in-Some.transaction (omega arith) c.index_mut.ensures.value c.in-Some.is c.requires.stands
