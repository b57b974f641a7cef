use Rattle.std.proofs.Common.{ap, arith, refl, slice_set, sym, ◌∙◌}
use Rattle.schedule.proofs.ClientSteps.{commit_none, commit_steps, ended_seen}
use Rattle.schedule.proofs.database.Database.commit.Goals as goal

pub returns-in_ok-reply-in-Some : goal.returns-in_ok-reply-in-Some
returns-in_ok-reply-in-Some c =
    commit_steps c.args.self.now _ _ c.args.client c.in_ok-reply-in-Some.reply c.index_mut.result.now c.in-Some.ended (omega arith) c.index_mut.ensures.value
    (sym c.take.ensures.value ∙ c.in-Some.is) (record { cluster = refl; transactions = ap (λ o. slice_set c.args.self.now.transactions.items c.args.client o) c.take.ensures.after; unreported = refl; commits = refl }) c.in_ok-reply-in-Some.ensures

pub returns-in-None : goal.returns-in-None
returns-in-None c =
    commit_none c.args.self.now _ c.args.client c.index_mut.result.now (omega arith) c.index_mut.ensures.value (sym c.take.ensures.value ∙ c.in-None.is)
    (record { cluster = refl; transactions = ap (λ o. slice_set c.args.self.now.transactions.items c.args.client o) c.take.ensures.after; unreported = refl; commits = refl })

pub submit-requires : goal.submit-requires
submit-requires c =
    ended_seen c.args.self.now c.args.client c.index_mut.result.now c.in-Some.ended (omega arith) c.index_mut.ensures.value (sym c.take.ensures.value ∙ c.in-Some.is) c.requires
