use Rattle.std.proofs.Common.{◌≡◌, Some, false, inl, refl, sym, subst}
use Rattle.std.proofs.lemmas.Result.{err_from_is_err_and}
use Rattle.runtime.specs.declared.answers.RunError.{RunError}
use Rattle.runtime.specs.declared.answers.RunError.TheVariants.{GaveUp}
use Rattle.runtime.specs.declared.retrying.Failure.TheVariants as failures
use Rattle.runtime.specs.Runs.{AttemptFails, FailsSo, IsLost, IsRefusal}
use Rattle.runtime.specs.Settles.{IsProgress}
use Rattle.runtime.specs.Works.{CommitsRound, EndsWork, Works}
use Rattle.runtime.proofs.RunAttempts.{follows_self, follows_trans}
use Rattle.runtime.proofs.RoundEnds.{always, committed_before, counts_ends, counts_progress, counts_round, ended_of, failed_before, failed_ends, failed_progress, failed_round}
use Rattle.runtime.proofs.RoundEnds.{lost_before, lost_ends, lost_of, lost_progress, lost_round, refused_before, refused_ends, refused_of, refused_progress, tokens_kept, tokens_more}
use Rattle.runtime.proofs.Taking.{ends_committed, ends_stopped, ends_unentered, ends_untold, failed_by, takes_found}
use Rattle.runtime.proofs.Unsettled.{asked_follows}
use Rattle.runtime.proofs.Works.{index_committed, index_failed, index_lost, index_refused}
use Rattle.runtime.proofs.index_worker.take_round.Goals as goal

-- ---- no memory to begin it

pub returns-in_err-reserve-clause-follows : goal.returns-in_err-reserve-clause-follows
returns-in_err-reserve-clause-follows g c = follows_self c.args.client.now

pub returns-in_err-reserve-clause-ended : goal.returns-in_err-reserve-clause-ended
returns-in_err-reserve-clause-ended g c start is =
    let told = err_from_is_err_and c.from_residual.result c.from_residual.ensures.1 in
    rw (told.1, told.2) (inl (refl, refl))

-- ---- it is committed

pub settle-requires : goal.settle-requires
settle-requires g c = record { names = tokens_kept c.args.client.now c.attempt-ended.new.client c.args.progress.now (record { built = c.args.progress.now.built; marked = c.args.progress.now.marked; lost = c.reserve.new.self }) c.attempt-ended.ensures.follows c.reserve.ensures.items c.requires.names }

pub returns-in_err-settle-in-Ok-clause-follows : goal.returns-in_err-settle-in-Ok-clause-follows
returns-in_err-settle-in-Ok-clause-follows g c = follows_trans c.attempt-ended.ensures.follows (asked_follows c.attempt-ended.new.client c.settle.new.client c.settle.ensures.asked)

pub returns-in_err-settle-in-Ok-clause-ended : goal.returns-in_err-settle-in-Ok-clause-ended
returns-in_err-settle-in-Ok-clause-ended g c start is =
    let told = err_from_is_err_and c.from_residual-in_err-settle-in-Ok.result c.from_residual-in_err-settle-in-Ok.ensures.1 in
    let commits : CommitsRound c.args.store (Works g.G.Gate.passed) (c.args.worker.now, c.args.client.now) c.in-Ok.round (c.attempt-ended.new.body, c.attempt-ended.new.client) = (c.in-Ok.field-0-1, c.in-Ok.ensures.done) in
    let before : IsProgress (c.args.store, c.args.worker.now.index) start c.attempt-ended.new.client c.args.client.now.last (record { built = c.args.progress.now.built; marked = c.args.progress.now.marked; lost = c.reserve.new.self }) =
    committed_before c.args.store g.G.Gate.passed c.args.worker.now c.attempt-ended.new.body start c.args.client.now c.attempt-ended.new.client c.args.progress.now (record { built = c.args.progress.now.built; marked = c.args.progress.now.marked; lost = c.reserve.new.self }) c.attempt-ended.ensures.follows c.submissions.ensures.well_formed refl refl c.reserve.ensures.items is c.in-Ok.round commits in
    let why : EndsWork c.args.store (Works g.G.Gate.passed) c.args.worker.now.index start (c.args.worker.now, c.args.client.now) c.in_err-settle-in-Ok.field-0.0 (c.attempt-ended.new.body, c.settle.new.client) =
    ends_committed c.args.store (Works g.G.Gate.passed) (c.args.worker.now, c.args.client.now) (c.attempt-ended.new.body, c.attempt-ended.new.client) (c.attempt-ended.new.body, c.settle.new.client) refl c.settle.ensures.asked c.args.worker.now.index start c.in_err-settle-in-Ok.field-0.0 c.in-Ok.round commits
    (c.in_err-settle-in-Ok.ensures.settled (c.args.store, c.args.worker.now.index) start c.args.client.now.last before) in
    rw (told.1, told.2) why

pub returns-in-Ok-clause-follows : goal.returns-in-Ok-clause-follows
returns-in-Ok-clause-follows g c = follows_trans c.attempt-ended.ensures.follows (asked_follows c.attempt-ended.new.client c.settle.new.client c.settle.ensures.asked)

pub returns-in-Ok-clause-index : goal.returns-in-Ok-clause-index
returns-in-Ok-clause-index g c = always c.count.result (index_committed c.args.store g.G.Gate.passed c.args.worker.now c.attempt-ended.new.body c.in-Ok.round c.args.client.now c.attempt-ended.new.client (c.in-Ok.field-0-1, c.in-Ok.ensures.done))

pub returns-in-Ok-clause-round : goal.returns-in-Ok-clause-round
returns-in-Ok-clause-round g c =
    counts_round c.args.store g.G.Gate.passed c.args.worker.now c.attempt-ended.new.body c.args.client.now c.args.client.now c.attempt-ended.new.client c.settle.new.client c.settle.new.progress c.count.new.self c.attempt-ended.ensures.follows c.settle.ensures.asked
    c.count.result c.in-Ok.round (c.in-Ok.field-0-1, c.in-Ok.ensures.done) c.count.ensures.counted

pub returns-in-Ok-clause-progress : goal.returns-in-Ok-clause-progress
returns-in-Ok-clause-progress g c start is =
    let commits : CommitsRound c.args.store (Works g.G.Gate.passed) (c.args.worker.now, c.args.client.now) c.in-Ok.round (c.attempt-ended.new.body, c.attempt-ended.new.client) = (c.in-Ok.field-0-1, c.in-Ok.ensures.done) in
    counts_progress c.args.store g.G.Gate.passed c.args.worker.now c.attempt-ended.new.body start c.args.client.now c.attempt-ended.new.client c.settle.new.client c.settle.new.progress c.count.new.self c.attempt-ended.ensures.follows c.settle.ensures.asked
    c.count.result c.in-Ok.round commits c.in_ok-settle-in-Ok.ensures.well_formed
    (c.in_ok-settle-in-Ok.ensures.settled (c.args.store, c.args.worker.now.index) start c.args.client.now.last
    (committed_before c.args.store g.G.Gate.passed c.args.worker.now c.attempt-ended.new.body start c.args.client.now c.attempt-ended.new.client c.args.progress.now (record { built = c.args.progress.now.built; marked = c.args.progress.now.marked; lost = c.reserve.new.self }) c.attempt-ended.ensures.follows c.submissions.ensures.well_formed refl refl c.reserve.ensures.items is c.in-Ok.round commits))
    c.count.ensures.lost c.count.ensures.counted

pub returns-in-Ok-clause-ended : goal.returns-in-Ok-clause-ended
returns-in-Ok-clause-ended g c start is =
    let commits : CommitsRound c.args.store (Works g.G.Gate.passed) (c.args.worker.now, c.args.client.now) c.in-Ok.round (c.attempt-ended.new.body, c.attempt-ended.new.client) = (c.in-Ok.field-0-1, c.in-Ok.ensures.done) in
    counts_ends c.args.store g.G.Gate.passed c.args.worker.now c.attempt-ended.new.body start c.args.client.now c.attempt-ended.new.client c.settle.new.client c.settle.new.progress c.count.new.self c.attempt-ended.ensures.follows c.settle.ensures.asked
    c.count.result c.in-Ok.round commits c.in_ok-settle-in-Ok.ensures.well_formed
    (c.in_ok-settle-in-Ok.ensures.settled (c.args.store, c.args.worker.now.index) start c.args.client.now.last
    (committed_before c.args.store g.G.Gate.passed c.args.worker.now c.attempt-ended.new.body start c.args.client.now c.attempt-ended.new.client c.args.progress.now (record { built = c.args.progress.now.built; marked = c.args.progress.now.marked; lost = c.reserve.new.self }) c.attempt-ended.ensures.follows c.submissions.ensures.well_formed refl refl c.reserve.ensures.items is c.in-Ok.round commits))
    c.count.ensures.counted

-- ---- it isn't known what became of it

pub settle-requires-in-Err-Lost-default-Some : goal.settle-requires-in-Err-Lost-default-Some
settle-requires-in-Err-Lost-default-Some g c =
    let same : c.in-Err-Lost-default-Some.field-0 ≡ failures.Lost c.in-Err-Lost-default-Some.round c.in-Err-Lost-default-Some.field-0-1 = c.in-Err-Lost-default-Some.field-0-is in
    let token : c.in-Err-Lost-default-Some.field-0-1 ≡ Some c.in-Err-Lost-default-Some.prefix = c.in-Err-Lost-default-Some.field-0-1-is in
    let lost : IsLost c.args.store (Works g.G.Gate.passed) (c.args.worker.now, c.args.client.now) c.in-Err-Lost-default-Some.round (Some c.in-Err-Lost-default-Some.prefix) (c.attempt-ended.new.body, c.attempt-ended.new.client) =
    lost_of c.args.store (Works g.G.Gate.passed) (c.args.worker.now, c.args.client.now) (c.attempt-ended.new.body, c.attempt-ended.new.client) c.attempt-ended.result c.attempt-ended.ensures.failed c.in-Err-Lost-default-Some.field-0 c.in-Err-Lost-default-Some.is c.in-Err-Lost-default-Some.round c.in-Err-Lost-default-Some.field-0-1 (Some c.in-Err-Lost-default-Some.prefix) same token in
    record { names = tokens_more c.args.store g.G.Gate.passed c.args.worker.now c.attempt-ended.new.body c.args.client.now c.attempt-ended.new.client c.args.progress.now (record { built = c.args.progress.now.built; marked = c.args.progress.now.marked; lost = c.reserve.new.self }) c.attempt-ended.ensures.follows c.reserve.ensures.items (record { built = c.args.progress.now.built; marked = c.args.progress.now.marked; lost = c.push_reserved.new.self }) (record { number = c.submissions-number.result; round = c.in-Err-Lost-default-Some.round; prefix = c.in-Err-Lost-default-Some.prefix }) lost c.push_reserved.ensures.items c.requires.names }

pub returns-in-Err-Lost-default-Some-clause-follows : goal.returns-in-Err-Lost-default-Some-clause-follows
returns-in-Err-Lost-default-Some-clause-follows g c =
    follows_trans c.attempt-ended.ensures.follows (asked_follows c.attempt-ended.new.client c.settle-in-Err-Lost-default-Some.new.client c.settle-in-Err-Lost-default-Some.ensures.asked)

pub returns-in-Err-Lost-default-Some-clause-index : goal.returns-in-Err-Lost-default-Some-clause-index
returns-in-Err-Lost-default-Some-clause-index g c =
    let same : c.in-Err-Lost-default-Some.field-0 ≡ failures.Lost c.in-Err-Lost-default-Some.round c.in-Err-Lost-default-Some.field-0-1 = c.in-Err-Lost-default-Some.field-0-is in
    let token : c.in-Err-Lost-default-Some.field-0-1 ≡ Some c.in-Err-Lost-default-Some.prefix = c.in-Err-Lost-default-Some.field-0-1-is in
    let lost : IsLost c.args.store (Works g.G.Gate.passed) (c.args.worker.now, c.args.client.now) c.in-Err-Lost-default-Some.round (Some c.in-Err-Lost-default-Some.prefix) (c.attempt-ended.new.body, c.attempt-ended.new.client) =
    lost_of c.args.store (Works g.G.Gate.passed) (c.args.worker.now, c.args.client.now) (c.attempt-ended.new.body, c.attempt-ended.new.client) c.attempt-ended.result c.attempt-ended.ensures.failed c.in-Err-Lost-default-Some.field-0 c.in-Err-Lost-default-Some.is c.in-Err-Lost-default-Some.round c.in-Err-Lost-default-Some.field-0-1 (Some c.in-Err-Lost-default-Some.prefix) same token in
    always c.settle-in-Err-Lost-default-Some.result (index_lost c.args.store g.G.Gate.passed c.args.worker.now c.attempt-ended.new.body c.in-Err-Lost-default-Some.round (Some c.in-Err-Lost-default-Some.prefix) c.args.client.now c.attempt-ended.new.client lost)

pub returns-in-Err-Lost-default-Some-clause-round : goal.returns-in-Err-Lost-default-Some-clause-round
returns-in-Err-Lost-default-Some-clause-round g c =
    let same : c.in-Err-Lost-default-Some.field-0 ≡ failures.Lost c.in-Err-Lost-default-Some.round c.in-Err-Lost-default-Some.field-0-1 = c.in-Err-Lost-default-Some.field-0-is in
    let token : c.in-Err-Lost-default-Some.field-0-1 ≡ Some c.in-Err-Lost-default-Some.prefix = c.in-Err-Lost-default-Some.field-0-1-is in
    let lost : IsLost c.args.store (Works g.G.Gate.passed) (c.args.worker.now, c.args.client.now) c.in-Err-Lost-default-Some.round (Some c.in-Err-Lost-default-Some.prefix) (c.attempt-ended.new.body, c.attempt-ended.new.client) =
    lost_of c.args.store (Works g.G.Gate.passed) (c.args.worker.now, c.args.client.now) (c.attempt-ended.new.body, c.attempt-ended.new.client) c.attempt-ended.result c.attempt-ended.ensures.failed c.in-Err-Lost-default-Some.field-0 c.in-Err-Lost-default-Some.is c.in-Err-Lost-default-Some.round c.in-Err-Lost-default-Some.field-0-1 (Some c.in-Err-Lost-default-Some.prefix) same token in
    lost_round c.args.store g.G.Gate.passed c.args.worker.now c.attempt-ended.new.body c.args.client.now c.args.client.now c.attempt-ended.new.client c.settle-in-Err-Lost-default-Some.new.client c.settle-in-Err-Lost-default-Some.new.progress c.settle-in-Err-Lost-default-Some.new.progress c.attempt-ended.ensures.follows c.settle-in-Err-Lost-default-Some.ensures.asked c.settle-in-Err-Lost-default-Some.result c.in-Err-Lost-default-Some.round (Some c.in-Err-Lost-default-Some.prefix) lost

pub returns-in-Err-Lost-default-Some-clause-progress : goal.returns-in-Err-Lost-default-Some-clause-progress
returns-in-Err-Lost-default-Some-clause-progress g c start is =
    let same : c.in-Err-Lost-default-Some.field-0 ≡ failures.Lost c.in-Err-Lost-default-Some.round c.in-Err-Lost-default-Some.field-0-1 = c.in-Err-Lost-default-Some.field-0-is in
    let token : c.in-Err-Lost-default-Some.field-0-1 ≡ Some c.in-Err-Lost-default-Some.prefix = c.in-Err-Lost-default-Some.field-0-1-is in
    let lost : IsLost c.args.store (Works g.G.Gate.passed) (c.args.worker.now, c.args.client.now) c.in-Err-Lost-default-Some.round (Some c.in-Err-Lost-default-Some.prefix) (c.attempt-ended.new.body, c.attempt-ended.new.client) =
    lost_of c.args.store (Works g.G.Gate.passed) (c.args.worker.now, c.args.client.now) (c.attempt-ended.new.body, c.attempt-ended.new.client) c.attempt-ended.result c.attempt-ended.ensures.failed c.in-Err-Lost-default-Some.field-0 c.in-Err-Lost-default-Some.is c.in-Err-Lost-default-Some.round c.in-Err-Lost-default-Some.field-0-1 (Some c.in-Err-Lost-default-Some.prefix) same token in
    let before : IsProgress (c.args.store, c.args.worker.now.index) start c.attempt-ended.new.client c.attempt-ended.new.client.last (record { built = c.args.progress.now.built; marked = c.args.progress.now.marked; lost = c.push_reserved.new.self }) =
    lost_before c.args.store g.G.Gate.passed c.args.worker.now c.attempt-ended.new.body start c.args.client.now c.attempt-ended.new.client c.args.progress.now (record { built = c.args.progress.now.built; marked = c.args.progress.now.marked; lost = c.reserve.new.self }) c.attempt-ended.ensures.follows c.submissions.ensures.well_formed refl refl c.reserve.ensures.items is (record { built = c.args.progress.now.built; marked = c.args.progress.now.marked; lost = c.push_reserved.new.self }) (record { number = c.submissions-number.result; round = c.in-Err-Lost-default-Some.round; prefix = c.in-Err-Lost-default-Some.prefix }) lost c.submissions-number.ensures.number refl refl c.push_reserved.ensures.items in
    lost_progress c.args.store g.G.Gate.passed c.args.worker.now c.attempt-ended.new.body start c.args.client.now c.attempt-ended.new.client c.settle-in-Err-Lost-default-Some.new.client c.settle-in-Err-Lost-default-Some.new.progress c.settle-in-Err-Lost-default-Some.new.progress c.attempt-ended.ensures.follows c.settle-in-Err-Lost-default-Some.ensures.asked c.settle-in-Err-Lost-default-Some.result (c.settle-in-Err-Lost-default-Some.ensures.settled (c.args.store, c.args.worker.now.index) start c.attempt-ended.new.client.last before)

pub returns-in-Err-Lost-default-Some-clause-ended : goal.returns-in-Err-Lost-default-Some-clause-ended
returns-in-Err-Lost-default-Some-clause-ended g c start is =
    let same : c.in-Err-Lost-default-Some.field-0 ≡ failures.Lost c.in-Err-Lost-default-Some.round c.in-Err-Lost-default-Some.field-0-1 = c.in-Err-Lost-default-Some.field-0-is in
    let token : c.in-Err-Lost-default-Some.field-0-1 ≡ Some c.in-Err-Lost-default-Some.prefix = c.in-Err-Lost-default-Some.field-0-1-is in
    let lost : IsLost c.args.store (Works g.G.Gate.passed) (c.args.worker.now, c.args.client.now) c.in-Err-Lost-default-Some.round (Some c.in-Err-Lost-default-Some.prefix) (c.attempt-ended.new.body, c.attempt-ended.new.client) =
    lost_of c.args.store (Works g.G.Gate.passed) (c.args.worker.now, c.args.client.now) (c.attempt-ended.new.body, c.attempt-ended.new.client) c.attempt-ended.result c.attempt-ended.ensures.failed c.in-Err-Lost-default-Some.field-0 c.in-Err-Lost-default-Some.is c.in-Err-Lost-default-Some.round c.in-Err-Lost-default-Some.field-0-1 (Some c.in-Err-Lost-default-Some.prefix) same token in
    lost_ends c.args.store g.G.Gate.passed c.args.worker.now c.attempt-ended.new.body start c.args.client.now c.attempt-ended.new.client c.settle-in-Err-Lost-default-Some.new.client c.settle-in-Err-Lost-default-Some.new.progress c.settle-in-Err-Lost-default-Some.new.progress c.attempt-ended.ensures.follows c.settle-in-Err-Lost-default-Some.ensures.asked c.settle-in-Err-Lost-default-Some.result c.in-Err-Lost-default-Some.round (Some c.in-Err-Lost-default-Some.prefix) lost (c.settle-in-Err-Lost-default-Some.ensures.settled (c.args.store, c.args.worker.now.index) start c.attempt-ended.new.client.last
    (lost_before c.args.store g.G.Gate.passed c.args.worker.now c.attempt-ended.new.body start c.args.client.now c.attempt-ended.new.client c.args.progress.now (record { built = c.args.progress.now.built; marked = c.args.progress.now.marked; lost = c.reserve.new.self }) c.attempt-ended.ensures.follows c.submissions.ensures.well_formed refl refl c.reserve.ensures.items is (record { built = c.args.progress.now.built; marked = c.args.progress.now.marked; lost = c.push_reserved.new.self }) (record { number = c.submissions-number.result; round = c.in-Err-Lost-default-Some.round; prefix = c.in-Err-Lost-default-Some.prefix }) lost c.submissions-number.ensures.number refl refl c.push_reserved.ensures.items))

pub returns-in-Err-Lost-default-None-clause-ended : goal.returns-in-Err-Lost-default-None-clause-ended
returns-in-Err-Lost-default-None-clause-ended g c start is =
    let same : c.in-Err-Lost-default-None.field-0 ≡ failures.Lost c.in-Err-Lost-default-None.field-0-0 c.in-Err-Lost-default-None.field-0-1 = c.in-Err-Lost-default-None.field-0-is in
    ends_untold c.args.store (Works g.G.Gate.passed) (c.args.worker.now, c.args.client.now) (c.attempt-ended.new.body, c.attempt-ended.new.client) c.args.worker.now.index start c.in-Err-Lost-default-None.field-0-0 c.in-Err-Lost-default-None.field-0-1
    (lost_of c.args.store (Works g.G.Gate.passed) (c.args.worker.now, c.args.client.now) (c.attempt-ended.new.body, c.attempt-ended.new.client) c.attempt-ended.result c.attempt-ended.ensures.failed c.in-Err-Lost-default-None.field-0 c.in-Err-Lost-default-None.is c.in-Err-Lost-default-None.field-0-0 c.in-Err-Lost-default-None.field-0-1 c.in-Err-Lost-default-None.field-0-1 same refl)

-- ---- it ended otherwise

pub returns-in_err-go_on-in-Err-Ended-clause-ended : goal.returns-in_err-go_on-in-Err-Ended-clause-ended
returns-in_err-go_on-in-Err-Ended-clause-ended g c start is =
    let same : c.in-Err-Ended.field-0 ≡ failures.Ended c.in-Err-Ended.ended = c.in-Err-Ended.field-0-is in
    let ended : FailsSo c.args.store (Works g.G.Gate.passed) (c.args.worker.now, c.args.client.now) (failures.Ended c.in-Err-Ended.ended) (c.attempt-ended.new.body, c.attempt-ended.new.client) = ended_of c.args.store (Works g.G.Gate.passed) (c.args.worker.now, c.args.client.now) (c.attempt-ended.new.body, c.attempt-ended.new.client) c.attempt-ended.result c.attempt-ended.ensures.failed c.in-Err-Ended.field-0 c.in-Err-Ended.is c.in-Err-Ended.ended same in
    let told = err_from_is_err_and c.from_residual-in_err-go_on-in-Err-Ended.result c.from_residual-in_err-go_on-in-Err-Ended.ensures.1 in
    let stopped : EndsWork c.args.store (Works g.G.Gate.passed) c.args.worker.now.index start (c.args.worker.now, c.args.client.now) GaveUp (c.attempt-ended.new.body, c.attempt-ended.new.client) = ends_stopped c.args.store (Works g.G.Gate.passed) (c.args.worker.now, c.args.client.now) (c.attempt-ended.new.body, c.attempt-ended.new.client) c.args.worker.now.index start c.in-Err-Ended.ended c.in_err-go_on-in-Err-Ended.ensures.1 ended in
    let why : EndsWork c.args.store (Works g.G.Gate.passed) c.args.worker.now.index start (c.args.worker.now, c.args.client.now) c.in_err-go_on-in-Err-Ended.field-0.0 (c.attempt-ended.new.body, c.attempt-ended.new.client) = subst (λ (e : RunError). EndsWork c.args.store (Works g.G.Gate.passed) c.args.worker.now.index start (c.args.worker.now, c.args.client.now) e (c.attempt-ended.new.body, c.attempt-ended.new.client)) (sym c.in_err-go_on-in-Err-Ended.ensures.0) stopped in
    rw (told.1, told.2) why

pub settle-requires-in-Err-Ended : goal.settle-requires-in-Err-Ended
settle-requires-in-Err-Ended g c =
    record { names = tokens_kept c.args.client.now c.attempt-ended.new.client c.args.progress.now (record { built = c.args.progress.now.built; marked = c.args.progress.now.marked; lost = c.reserve.new.self }) c.attempt-ended.ensures.follows c.reserve.ensures.items c.requires.names }

pub returns-in-Err-Ended-clause-follows : goal.returns-in-Err-Ended-clause-follows
returns-in-Err-Ended-clause-follows g c =
    follows_trans c.attempt-ended.ensures.follows (asked_follows c.attempt-ended.new.client c.settle-in-Err-Ended.new.client c.settle-in-Err-Ended.ensures.asked)

pub returns-in-Err-Ended-clause-index : goal.returns-in-Err-Ended-clause-index
returns-in-Err-Ended-clause-index g c =
    let same : c.in-Err-Ended.field-0 ≡ failures.Ended c.in-Err-Ended.ended = c.in-Err-Ended.field-0-is in
    let ended : FailsSo c.args.store (Works g.G.Gate.passed) (c.args.worker.now, c.args.client.now) (failures.Ended c.in-Err-Ended.ended) (c.attempt-ended.new.body, c.attempt-ended.new.client) = ended_of c.args.store (Works g.G.Gate.passed) (c.args.worker.now, c.args.client.now) (c.attempt-ended.new.body, c.attempt-ended.new.client) c.attempt-ended.result c.attempt-ended.ensures.failed c.in-Err-Ended.field-0 c.in-Err-Ended.is c.in-Err-Ended.ended same in
    let fails : AttemptFails c.args.store (Works g.G.Gate.passed) false (c.args.worker.now, c.args.client.now) (c.attempt-ended.new.body, c.attempt-ended.new.client) = failed_by c.args.store (Works g.G.Gate.passed) (c.args.worker.now, c.args.client.now) (c.attempt-ended.new.body, c.attempt-ended.new.client) c.in-Err-Ended.ended c.in_ok-go_on-in-Err-Ended.ensures ended in
    always c.settle-in-Err-Ended.result (index_failed c.args.store g.G.Gate.passed c.args.worker.now c.attempt-ended.new.body c.args.client.now c.attempt-ended.new.client fails)

pub returns-in-Err-Ended-clause-round : goal.returns-in-Err-Ended-clause-round
returns-in-Err-Ended-clause-round g c =
    let same : c.in-Err-Ended.field-0 ≡ failures.Ended c.in-Err-Ended.ended = c.in-Err-Ended.field-0-is in
    let ended : FailsSo c.args.store (Works g.G.Gate.passed) (c.args.worker.now, c.args.client.now) (failures.Ended c.in-Err-Ended.ended) (c.attempt-ended.new.body, c.attempt-ended.new.client) = ended_of c.args.store (Works g.G.Gate.passed) (c.args.worker.now, c.args.client.now) (c.attempt-ended.new.body, c.attempt-ended.new.client) c.attempt-ended.result c.attempt-ended.ensures.failed c.in-Err-Ended.field-0 c.in-Err-Ended.is c.in-Err-Ended.ended same in
    let fails : AttemptFails c.args.store (Works g.G.Gate.passed) false (c.args.worker.now, c.args.client.now) (c.attempt-ended.new.body, c.attempt-ended.new.client) = failed_by c.args.store (Works g.G.Gate.passed) (c.args.worker.now, c.args.client.now) (c.attempt-ended.new.body, c.attempt-ended.new.client) c.in-Err-Ended.ended c.in_ok-go_on-in-Err-Ended.ensures ended in
    failed_round c.args.store g.G.Gate.passed c.args.worker.now c.attempt-ended.new.body c.args.client.now c.args.client.now c.attempt-ended.new.client c.settle-in-Err-Ended.new.client c.settle-in-Err-Ended.new.progress c.settle-in-Err-Ended.new.progress c.attempt-ended.ensures.follows c.settle-in-Err-Ended.ensures.asked c.settle-in-Err-Ended.result fails

pub returns-in-Err-Ended-clause-progress : goal.returns-in-Err-Ended-clause-progress
returns-in-Err-Ended-clause-progress g c start is =
    let same : c.in-Err-Ended.field-0 ≡ failures.Ended c.in-Err-Ended.ended = c.in-Err-Ended.field-0-is in
    let ended : FailsSo c.args.store (Works g.G.Gate.passed) (c.args.worker.now, c.args.client.now) (failures.Ended c.in-Err-Ended.ended) (c.attempt-ended.new.body, c.attempt-ended.new.client) = ended_of c.args.store (Works g.G.Gate.passed) (c.args.worker.now, c.args.client.now) (c.attempt-ended.new.body, c.attempt-ended.new.client) c.attempt-ended.result c.attempt-ended.ensures.failed c.in-Err-Ended.field-0 c.in-Err-Ended.is c.in-Err-Ended.ended same in
    let fails : AttemptFails c.args.store (Works g.G.Gate.passed) false (c.args.worker.now, c.args.client.now) (c.attempt-ended.new.body, c.attempt-ended.new.client) = failed_by c.args.store (Works g.G.Gate.passed) (c.args.worker.now, c.args.client.now) (c.attempt-ended.new.body, c.attempt-ended.new.client) c.in-Err-Ended.ended c.in_ok-go_on-in-Err-Ended.ensures ended in
    failed_progress c.args.store g.G.Gate.passed c.args.worker.now c.attempt-ended.new.body start c.args.client.now c.attempt-ended.new.client c.settle-in-Err-Ended.new.client c.settle-in-Err-Ended.new.progress c.settle-in-Err-Ended.new.progress c.attempt-ended.ensures.follows c.settle-in-Err-Ended.ensures.asked c.settle-in-Err-Ended.result fails c.settle-in-Err-Ended.ensures.well_formed (c.settle-in-Err-Ended.ensures.settled (c.args.store, c.args.worker.now.index) start c.args.client.now.last (failed_before c.args.store g.G.Gate.passed c.args.worker.now c.attempt-ended.new.body start c.args.client.now c.attempt-ended.new.client c.args.progress.now (record { built = c.args.progress.now.built; marked = c.args.progress.now.marked; lost = c.reserve.new.self }) c.attempt-ended.ensures.follows c.submissions.ensures.well_formed refl refl c.reserve.ensures.items is fails))

pub returns-in-Err-Ended-clause-ended : goal.returns-in-Err-Ended-clause-ended
returns-in-Err-Ended-clause-ended g c start is =
    let same : c.in-Err-Ended.field-0 ≡ failures.Ended c.in-Err-Ended.ended = c.in-Err-Ended.field-0-is in
    let ended : FailsSo c.args.store (Works g.G.Gate.passed) (c.args.worker.now, c.args.client.now) (failures.Ended c.in-Err-Ended.ended) (c.attempt-ended.new.body, c.attempt-ended.new.client) = ended_of c.args.store (Works g.G.Gate.passed) (c.args.worker.now, c.args.client.now) (c.attempt-ended.new.body, c.attempt-ended.new.client) c.attempt-ended.result c.attempt-ended.ensures.failed c.in-Err-Ended.field-0 c.in-Err-Ended.is c.in-Err-Ended.ended same in
    let fails : AttemptFails c.args.store (Works g.G.Gate.passed) false (c.args.worker.now, c.args.client.now) (c.attempt-ended.new.body, c.attempt-ended.new.client) = failed_by c.args.store (Works g.G.Gate.passed) (c.args.worker.now, c.args.client.now) (c.attempt-ended.new.body, c.attempt-ended.new.client) c.in-Err-Ended.ended c.in_ok-go_on-in-Err-Ended.ensures ended in
    failed_ends c.args.store g.G.Gate.passed c.args.worker.now c.attempt-ended.new.body start c.args.client.now c.attempt-ended.new.client c.settle-in-Err-Ended.new.client c.settle-in-Err-Ended.new.progress c.settle-in-Err-Ended.new.progress c.attempt-ended.ensures.follows c.settle-in-Err-Ended.ensures.asked c.settle-in-Err-Ended.result fails (c.settle-in-Err-Ended.ensures.settled (c.args.store, c.args.worker.now.index) start c.args.client.now.last (failed_before c.args.store g.G.Gate.passed c.args.worker.now c.attempt-ended.new.body start c.args.client.now c.attempt-ended.new.client c.args.progress.now (record { built = c.args.progress.now.built; marked = c.args.progress.now.marked; lost = c.reserve.new.self }) c.attempt-ended.ensures.follows c.submissions.ensures.well_formed refl refl c.reserve.ensures.items is fails))

-- ---- its transaction wasn't begun, or was given up

pub settle-requires-in-Err-Refused : goal.settle-requires-in-Err-Refused
settle-requires-in-Err-Refused g c =
    record { names = tokens_kept c.args.client.now c.attempt-ended.new.client c.args.progress.now (record { built = c.args.progress.now.built; marked = c.args.progress.now.marked; lost = c.reserve.new.self }) c.attempt-ended.ensures.follows c.reserve.ensures.items c.requires.names }

pub returns-in_err-settle-in-Err-Refused-clause-follows : goal.returns-in_err-settle-in-Err-Refused-clause-follows
returns-in_err-settle-in-Err-Refused-clause-follows g c =
    follows_trans c.attempt-ended.ensures.follows (asked_follows c.attempt-ended.new.client c.settle-in-Err-Refused.new.client c.settle-in-Err-Refused.ensures.asked)

pub returns-in_err-settle-in-Err-Refused-clause-ended : goal.returns-in_err-settle-in-Err-Refused-clause-ended
returns-in_err-settle-in-Err-Refused-clause-ended g c start is =
    let same : c.in-Err-Refused.field-0 ≡ failures.Refused c.in-Err-Refused.error = c.in-Err-Refused.field-0-is in
    let refused : IsRefusal c.args.store (Works g.G.Gate.passed) (c.args.worker.now, c.args.client.now) c.in-Err-Refused.error (c.attempt-ended.new.body, c.attempt-ended.new.client) = refused_of c.args.store (Works g.G.Gate.passed) (c.args.worker.now, c.args.client.now) (c.attempt-ended.new.body, c.attempt-ended.new.client) c.attempt-ended.result c.attempt-ended.ensures.failed c.in-Err-Refused.field-0 c.in-Err-Refused.is c.in-Err-Refused.error same in
    let told = err_from_is_err_and c.from_residual-in_err-settle-in-Err-Refused.result c.from_residual-in_err-settle-in-Err-Refused.ensures.1 in
    let why : EndsWork c.args.store (Works g.G.Gate.passed) c.args.worker.now.index start (c.args.worker.now, c.args.client.now) c.in_err-settle-in-Err-Refused.field-0.0 (c.attempt-ended.new.body, c.settle-in-Err-Refused.new.client) =
    ends_unentered c.args.store (Works g.G.Gate.passed) (c.args.worker.now, c.args.client.now) (c.attempt-ended.new.body, c.attempt-ended.new.client) (c.attempt-ended.new.body, c.settle-in-Err-Refused.new.client) refl c.settle-in-Err-Refused.ensures.asked c.args.worker.now.index start c.in_err-settle-in-Err-Refused.field-0.0 c.in-Err-Refused.error refused (c.in_err-settle-in-Err-Refused.ensures.settled (c.args.store, c.args.worker.now.index) start c.args.client.now.last (refused_before c.args.store g.G.Gate.passed c.args.worker.now c.attempt-ended.new.body start c.args.client.now c.attempt-ended.new.client c.args.progress.now (record { built = c.args.progress.now.built; marked = c.args.progress.now.marked; lost = c.reserve.new.self }) c.attempt-ended.ensures.follows c.submissions.ensures.well_formed refl refl c.reserve.ensures.items is c.in-Err-Refused.error refused)) in
    rw (told.1, told.2) why

pub returns-then-progress-clause-follows : goal.returns-then-progress-clause-follows
returns-then-progress-clause-follows g c =
    follows_trans c.attempt-ended.ensures.follows (asked_follows c.attempt-ended.new.client c.settle-in-Err-Refused.new.client c.settle-in-Err-Refused.ensures.asked)

pub returns-then-progress-clause-index : goal.returns-then-progress-clause-index
returns-then-progress-clause-index g c =
    let same : c.in-Err-Refused.field-0 ≡ failures.Refused c.in-Err-Refused.error = c.in-Err-Refused.field-0-is in
    let refused : IsRefusal c.args.store (Works g.G.Gate.passed) (c.args.worker.now, c.args.client.now) c.in-Err-Refused.error (c.attempt-ended.new.body, c.attempt-ended.new.client) = refused_of c.args.store (Works g.G.Gate.passed) (c.args.worker.now, c.args.client.now) (c.attempt-ended.new.body, c.attempt-ended.new.client) c.attempt-ended.result c.attempt-ended.ensures.failed c.in-Err-Refused.field-0 c.in-Err-Refused.is c.in-Err-Refused.error same in
    index_refused c.args.store g.G.Gate.passed c.args.worker.now c.attempt-ended.new.body c.in-Err-Refused.error c.args.client.now c.attempt-ended.new.client refused

pub returns-then-progress-clause-round : goal.returns-then-progress-clause-round
returns-then-progress-clause-round g c =
    let same : c.in-Err-Refused.field-0 ≡ failures.Refused c.in-Err-Refused.error = c.in-Err-Refused.field-0-is in
    let refused : IsRefusal c.args.store (Works g.G.Gate.passed) (c.args.worker.now, c.args.client.now) c.in-Err-Refused.error (c.attempt-ended.new.body, c.attempt-ended.new.client) = refused_of c.args.store (Works g.G.Gate.passed) (c.args.worker.now, c.args.client.now) (c.attempt-ended.new.body, c.attempt-ended.new.client) c.attempt-ended.result c.attempt-ended.ensures.failed c.in-Err-Refused.field-0 c.in-Err-Refused.is c.in-Err-Refused.error same in
    takes_found c.args.store (Works g.G.Gate.passed) (c.args.worker.now, c.args.client.now) (c.attempt-ended.new.body, c.attempt-ended.new.client) (c.attempt-ended.new.body, c.settle-in-Err-Refused.new.client) refl c.settle-in-Err-Refused.ensures.asked c.in-Err-Refused.error c.settle-in-Err-Refused.new.progress.marked c.if-progress.true refused

pub returns-then-progress-clause-progress : goal.returns-then-progress-clause-progress
returns-then-progress-clause-progress g c start is =
    let same : c.in-Err-Refused.field-0 ≡ failures.Refused c.in-Err-Refused.error = c.in-Err-Refused.field-0-is in
    let refused : IsRefusal c.args.store (Works g.G.Gate.passed) (c.args.worker.now, c.args.client.now) c.in-Err-Refused.error (c.attempt-ended.new.body, c.attempt-ended.new.client) = refused_of c.args.store (Works g.G.Gate.passed) (c.args.worker.now, c.args.client.now) (c.attempt-ended.new.body, c.attempt-ended.new.client) c.attempt-ended.result c.attempt-ended.ensures.failed c.in-Err-Refused.field-0 c.in-Err-Refused.is c.in-Err-Refused.error same in
    refused_progress c.args.store g.G.Gate.passed c.args.worker.now c.attempt-ended.new.body start c.args.client.now c.attempt-ended.new.client c.settle-in-Err-Refused.new.client c.settle-in-Err-Refused.new.progress c.settle-in-Err-Refused.new.progress c.attempt-ended.ensures.follows c.settle-in-Err-Refused.ensures.asked c.in-Err-Refused.error refused c.in_ok-settle-in-Err-Refused.ensures.well_formed (c.in_ok-settle-in-Err-Refused.ensures.settled (c.args.store, c.args.worker.now.index) start c.args.client.now.last (refused_before c.args.store g.G.Gate.passed c.args.worker.now c.attempt-ended.new.body start c.args.client.now c.attempt-ended.new.client c.args.progress.now (record { built = c.args.progress.now.built; marked = c.args.progress.now.marked; lost = c.reserve.new.self }) c.attempt-ended.ensures.follows c.submissions.ensures.well_formed refl refl c.reserve.ensures.items is c.in-Err-Refused.error refused))

pub returns-clause-follows : goal.returns-clause-follows
returns-clause-follows g c =
    follows_trans c.attempt-ended.ensures.follows (asked_follows c.attempt-ended.new.client c.settle-in-Err-Refused.new.client c.settle-in-Err-Refused.ensures.asked)

pub returns-clause-ended : goal.returns-clause-ended
returns-clause-ended g c start is =
    let same : c.in-Err-Refused.field-0 ≡ failures.Refused c.in-Err-Refused.error = c.in-Err-Refused.field-0-is in
    let refused : IsRefusal c.args.store (Works g.G.Gate.passed) (c.args.worker.now, c.args.client.now) c.in-Err-Refused.error (c.attempt-ended.new.body, c.attempt-ended.new.client) = refused_of c.args.store (Works g.G.Gate.passed) (c.args.worker.now, c.args.client.now) (c.attempt-ended.new.body, c.attempt-ended.new.client) c.attempt-ended.result c.attempt-ended.ensures.failed c.in-Err-Refused.field-0 c.in-Err-Refused.is c.in-Err-Refused.error same in
    refused_ends c.args.store g.G.Gate.passed c.args.worker.now c.attempt-ended.new.body start c.args.client.now c.attempt-ended.new.client c.settle-in-Err-Refused.new.client c.settle-in-Err-Refused.new.progress c.settle-in-Err-Refused.new.progress c.attempt-ended.ensures.follows c.settle-in-Err-Refused.ensures.asked c.in-Err-Refused.error refused c.in_ok-settle-in-Err-Refused.ensures.well_formed (c.in_ok-settle-in-Err-Refused.ensures.settled (c.args.store, c.args.worker.now.index) start c.args.client.now.last (refused_before c.args.store g.G.Gate.passed c.args.worker.now c.attempt-ended.new.body start c.args.client.now c.attempt-ended.new.client c.args.progress.now (record { built = c.args.progress.now.built; marked = c.args.progress.now.marked; lost = c.reserve.new.self }) c.attempt-ended.ensures.follows c.submissions.ensures.well_formed refl refl c.reserve.ensures.items is c.in-Err-Refused.error refused)) c.if-progress.false
