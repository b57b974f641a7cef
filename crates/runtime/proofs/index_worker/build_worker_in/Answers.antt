use Rattle.std.proofs.Common.{◌≡◌, ◌<◌, ◌∙◌, Bool, ℕ, List, inl, refl, sym, subst, arith}
use Rattle.std.specs.Prelude.{Err}
use Rattle.std.proofs.lemmas.Result.{err_from_is_err_and}
use Rattle.runtime.specs.declared.answers.RunError.{RunError}
use Rattle.runtime.specs.Settles.{IsProgress, IsSettledUpto}
use Rattle.runtime.specs.Works.{EndsWork, GoesFurther, IsWork, IsWorkRound, TakesRound, ThenAsks, Works}
use Rattle.runtime.proofs.RunAttempts.{follows_self, follows_trans}
use Rattle.runtime.proofs.Settling.{nothing_yet}
use Rattle.runtime.proofs.Unsettled.{built_by, names_of}
use Rattle.runtime.proofs.Works.{ended_so, taken_more}
use Rattle.runtime.proofs.index_worker.build_worker_in.Goals as goal

pub loop-round-init : goal.loop-round-init
loop-round-init g c = (
  follows_self c.args.client.now,
  refl,
  refl,
  nothing_yet (c.args.store, c.args.index) c.args.client.now c.new-progress.result c.new-progress.ensures.built.0 c.new-progress.ensures.built.1 c.new-progress.ensures.marked c.new-progress.ensures.lost,
  c.new-progress.ensures.marked,
)

pub take_round-requires : goal.take_round-requires
take_round-requires g c =
    let i = c.loop-round.invariant in
    record { names = names_of (c.args.store, c.args.index) c.loop-round.client i.3.above c.loop-round.client.last c.loop-round.progress.lost.items i.3.lost }

pub returns-in_err-take_round-clause-follows : goal.returns-in_err-take_round-clause-follows
returns-in_err-take_round-clause-follows g c = follows_trans c.loop-round.invariant.0 c.take_round.ensures.follows

pub returns-in_err-take_round-clause-work : goal.returns-in_err-take_round-clause-work
returns-in_err-take_round-clause-work g c =
    let i = c.loop-round.invariant in
    let error : RunError = c.in_err-take_round.field-0.0 in
    let below : c.loop-round.round < c.args.rounds = omega arith in
    let told = err_from_is_err_and c.from_residual.result c.from_residual.ensures.1 in
    let progress : IsProgress (c.args.store, c.loop-round.worker.index) c.args.client.now c.loop-round.client c.loop-round.client.last c.loop-round.progress = subst (λ (index : List ℕ). IsProgress (c.args.store, index) c.args.client.now c.loop-round.client c.loop-round.client.last c.loop-round.progress) (sym i.1) i.3 in
    let ended : EndsWork c.args.store (Works g.G.Gate.passed) c.args.index c.args.client.now (c.loop-round.worker, c.loop-round.client) error (c.take_round.new.worker, c.take_round.new.client) =
    subst (λ (index : List ℕ). EndsWork c.args.store (Works g.G.Gate.passed) index c.args.client.now (c.loop-round.worker, c.loop-round.client) error (c.take_round.new.worker, c.take_round.new.client)) i.1 (c.in_err-take_round.ensures.ended c.args.client.now progress) in
    let work : IsWork c.args.store (Works g.G.Gate.passed) c.args.index c.args.rounds (record { index = c.args.index; limit = c.args.limit; gate = c.args.gate }, c.args.client.now) (Err error) (c.take_round.new.worker, c.take_round.new.client) =
    ended_so c.args.store (Works g.G.Gate.passed) c.args.index c.args.rounds c.loop-round.round (record { index = c.args.index; limit = c.args.limit; gate = c.args.gate }, c.args.client.now) (c.loop-round.worker, c.loop-round.client) (c.take_round.new.worker, c.take_round.new.client) error below i.2 ended in
    (c.take_round.new.worker, rw (told.1, told.2) work)

pub returns-then-progress-clause-follows : goal.returns-then-progress-clause-follows
returns-then-progress-clause-follows g c = follows_trans c.loop-round.invariant.0 c.take_round.ensures.follows

pub returns-then-progress-clause-built : goal.returns-then-progress-clause-built
returns-then-progress-clause-built g c =
    let i = c.loop-round.invariant in
    let progress : IsProgress (c.args.store, c.loop-round.worker.index) c.args.client.now c.loop-round.client c.loop-round.client.last c.loop-round.progress = subst (λ (index : List ℕ). IsProgress (c.args.store, index) c.args.client.now c.loop-round.client c.loop-round.client.last c.loop-round.progress) (sym i.1) i.3 in
    let settled : IsSettledUpto (c.args.store, c.args.index) c.args.client.now c.take_round.new.client c.take_round.new.client.last c.take_round.new.progress =
    subst (λ (index : List ℕ). IsSettledUpto (c.args.store, index) c.args.client.now c.take_round.new.client c.take_round.new.client.last c.take_round.new.progress) i.1 (c.in_ok-take_round.ensures.progress c.args.client.now progress) in
    built_by (c.args.store, c.args.index) c.args.client.now c.take_round.new.client c.take_round.new.progress settled c.submissions.ensures.well_formed c.if-progress.true

pub returns-then-progress-clause-work : goal.returns-then-progress-clause-work
returns-then-progress-clause-work g c =
    let below : c.loop-round.round < c.args.rounds = omega arith in
    let takes : ThenAsks c.args.store (Works g.G.Gate.passed) (IsWorkRound c.args.store (Works g.G.Gate.passed)) (c.loop-round.worker, c.loop-round.client) (c.take_round.new.worker, c.take_round.new.client) =
    subst (λ (b : Bool). TakesRound c.args.store (Works g.G.Gate.passed) b (c.loop-round.worker, c.loop-round.client) (c.take_round.new.worker, c.take_round.new.client)) c.if-progress.true c.in_ok-take_round.ensures.round in
    (c.take_round.new.worker, (c.loop-round.round, below, ((c.loop-round.worker, c.loop-round.client), c.loop-round.invariant.2, takes)))

pub loop-round-preserved : goal.loop-round-preserved
loop-round-preserved g c =
    let i = c.loop-round.invariant in
    let progress : IsProgress (c.args.store, c.loop-round.worker.index) c.args.client.now c.loop-round.client c.loop-round.client.last c.loop-round.progress = subst (λ (index : List ℕ). IsProgress (c.args.store, index) c.args.client.now c.loop-round.client c.loop-round.client.last c.loop-round.progress) (sym i.1) i.3 in
    let settled : IsSettledUpto (c.args.store, c.args.index) c.args.client.now c.take_round.new.client c.take_round.new.client.last c.take_round.new.progress =
    subst (λ (index : List ℕ). IsSettledUpto (c.args.store, index) c.args.client.now c.take_round.new.client c.take_round.new.client.last c.take_round.new.progress) i.1 (c.in_ok-take_round.ensures.progress c.args.client.now progress) in
    let goes : ThenAsks c.args.store (Works g.G.Gate.passed) (GoesFurther c.args.store (Works g.G.Gate.passed)) (c.loop-round.worker, c.loop-round.client) (c.take_round.new.worker, c.take_round.new.client) =
    subst (λ (b : Bool). TakesRound c.args.store (Works g.G.Gate.passed) b (c.loop-round.worker, c.loop-round.client) (c.take_round.new.worker, c.take_round.new.client)) c.if-progress.false c.in_ok-take_round.ensures.round in (
      follows_trans i.0 c.take_round.ensures.follows,
      c.in_ok-take_round.ensures.index ∙ i.1,
      taken_more c.args.store (Works g.G.Gate.passed) c.loop-round.round (record { index = c.args.index; limit = c.args.limit; gate = c.args.gate }, c.args.client.now) (c.loop-round.worker, c.loop-round.client) (c.take_round.new.worker, c.take_round.new.client) i.2 goes,
      settled.0,
      c.if-progress.false,
    )

pub returns-clause-work : goal.returns-clause-work
returns-clause-work g c =
    let all : c.loop-round.round ≡ c.args.rounds = omega arith in
    (c.loop-round.worker, inl (rw (← all) c.loop-round.invariant.2))
