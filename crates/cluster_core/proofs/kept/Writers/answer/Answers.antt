use Rattle.std.proofs.Common.{◌≡◌, ◌∙◌, ◌-◌, ◌+◌, ◌≤◌, ap, arith, not, subst, sym, true, false}
use Rattle.cluster_core.specs.Kept.{KeepsRecent, KnowsWriters, agreed_at}
use Rattle.cluster_core.proofs.Recent.{on_err, recent_push}
use Rattle.cluster_core.proofs.Waiting.{agreed_from, asks_within, known_agreed, known_later, known_refused}
use Rattle.cluster_core.proofs.kept.Writers.answer.Goals as goal
use Rattle.cluster_core.proofs.kept.Writers.answer.Goals.{then-is_none+in_ok-wait, else-is_none}

pub decide-requires-clause-kept : goal.decide-requires-clause-kept
decide-requires-clause-kept c =
    let low = c.saturating_sub-floor.ensures in
    let kept = c.requires.kept in
    omega (arith, low, kept)

pub decide-requires-clause-asks : goal.decide-requires-clause-asks
decide-requires-clause-asks c =
    subst (λ n. n ≤ Rattle.cluster_core.specs.Kept.least_of c.args.start c.args.requests.now.all c.args.place) (sym c.saturating_sub-floor.ensures)
    (asks_within c.args.window c.args.start c.args.requests.now.all c.args.place c.requires.recent c.requires.inside)

pub decide-requires-clause-before : goal.decide-requires-clause-before
decide-requires-clause-before c = let low = c.saturating_sub-floor.ensures in omega (arith, low)

pub decide-requires-clause-knows : goal.decide-requires-clause-knows
decide-requires-clause-knows c =
    let low = c.saturating_sub-floor.ensures in
    known_later c.args.part.now c.args.start c.args.requests.now.all c.saturating_sub-floor.result _ c.args.place c.forget.new.self
    (subst (λ n. Rattle.std.proofs.Common.◌≤◌ n (Rattle.cluster_core.specs.Kept.least_of c.args.start c.args.requests.now.all c.args.place)) (sym low)
    (asks_within c.args.window c.args.start c.args.requests.now.all c.args.place c.requires.recent c.requires.inside))
    (c.forget.ensures.kept c.args.part.now c.args.start c.args.requests.now.all c.args.place
    (subst (λ n. KnowsWriters c.args.part.now c.args.start c.args.requests.now.all n c.args.place c.args.self.now) (sym low) c.requires.knows))

pub returns-clause-grown : goal.returns-clause-grown
returns-clause-grown c =
    let low = c.saturating_sub-floor.ensures in
    let least = c.args.place - c.args.window in
    let dropped = c.forget.ensures.kept c.args.part.now c.args.start c.args.requests.now.all c.args.place
    (subst (λ n. KnowsWriters c.args.part.now c.args.start c.args.requests.now.all n c.args.place c.args.self.now) (sym low) c.requires.knows) in
    let decided = c.decide.ensures.kept.knows c.args.start least (omega (arith, low)) (subst (λ n. KnowsWriters c.args.part.now c.args.start c.args.requests.now.all n c.args.place c.forget.new.self) low dropped) in
    let agreed = agreed_from c.args.part.now c.args.start c.args.requests.now.all c.args.place c.in_ok-cause.cause c.requires.inside c.in_ok-cause.ensures.cause in
    elim c.if-is_none.branch [
      | then-is_none+in_ok-wait w ↦
          let none : agreed_at c.args.part.now c.args.start c.args.requests.now.all c.args.place ≡ true = agreed ∙ ap not (c.is_none.ensures ∙ ap not w.if-is_none.true) in
          subst (KnowsWriters c.args.part.now c.args.start c.args.requests.now.all least (c.args.place + 1)) (sym (w.self-is ∙ w.in_ok-wait.ensures.ok))
          (known_agreed c.args.part.now c.args.start c.args.requests.now.all least c.args.place _ decided none)
      | else-is_none w ↦
          let some : agreed_at c.args.part.now c.args.start c.args.requests.now.all c.args.place ≡ false = agreed ∙ ap not (c.is_none.ensures ∙ ap not w.if-is_none.false) in
          subst (KnowsWriters c.args.part.now c.args.start c.args.requests.now.all least (c.args.place + 1)) (sym w.self-is)
          (known_refused c.args.part.now c.args.start c.args.requests.now.all least c.args.place _ decided some)
    ]

pub returns-clause-recent_grown : goal.returns-clause-recent_grown
returns-clause-recent_grown c = λ was.
    let window = c.args.window in
    let place = c.args.place in
    let small = c.forget.ensures.recent place place c.saturating_sub-floor.ensures (omega arith) (omega arith) was in
    let next = c.decide.ensures.kept.recent window (place + 1) (c.forget.ensures.recent place (place + 1) c.saturating_sub-floor.ensures (omega arith) (omega arith) was) in
    let from = (c.decide.ensures.kept.recent window place small).passed in
    elim c.if-is_none.branch [
      | then-is_none+in_ok-wait w ↦
          subst (KeepsRecent window (place + 1)) (sym (w.self-is ∙ w.in_ok-wait.ensures.ok)) (recent_push window place (place + 1) _ from next)
      | else-is_none w ↦ subst (KeepsRecent window (place + 1)) (sym w.self-is) next
    ]

pub returns-in_err-cause-clause-recent_kept : goal.returns-in_err-cause-clause-recent_kept
returns-in_err-cause-clause-recent_kept c = λ was.
    on_err _ (c.decide.ensures.kept.recent c.args.window c.args.place (c.forget.ensures.recent c.args.place c.args.place c.saturating_sub-floor.ensures (omega arith) (omega arith) was))

pub returns-in_err-wait-clause-recent_kept : goal.returns-in_err-wait-clause-recent_kept
returns-in_err-wait-clause-recent_kept c = λ was.
    on_err _ (subst (KeepsRecent c.args.window c.args.place) (sym c.in_err-wait.ensures.err)
    (c.decide.ensures.kept.recent c.args.window c.args.place (c.forget.ensures.recent c.args.place c.args.place c.saturating_sub-floor.ensures (omega arith) (omega arith) was)))
