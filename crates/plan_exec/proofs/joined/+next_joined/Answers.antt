use Rattle.std.specs.Prelude.{◌≡◌, ℕ, ◌<◌, List, length, None, refl}
use Rattle.std.proofs.Common.{rules, arith}
use Rattle.kv_core.specs.Map.{Map}
use Rattle.metadata.specs.Layout.{Pair}
use Rattle.plan_exec.specs.Course.{Course}
use Rattle.plan_exec.specs.declared.level.Level.{Level}
use Rattle.plan_exec.specs.Levels.{head_then, joined_levels}
use Rattle.plan_exec.specs.Streams.{HasGiven}
use Rattle.txn.proofs.Exits.{exit_with}
use Rattle.plan_exec.proofs.Levels.{given_known, given_unknown, is_known}
use Rattle.plan_exec.proofs.JoinedLevels.{alone_given, alone_stopped, joined_begun, joined_ended, joined_fewer, joined_given, joined_read_on, joined_stopped, no_level_joined, others_stopped}
use Rattle.plan_exec.proofs.joined.+next_joined.Goals as goal
use Rattle.plan_exec.proofs.joined.+next_joined.Goals.{else-is_none-2-via-then-is_none-2+else-is_none-3, else-is_none-2-via-else-is_none-2, then-is_none+in_ok-level+in-Some-1, then-is_none+in_ok-level+in-None-1, else-is_none}

pub returns-in_default-clause-given : goal.returns-in_default-clause-given
returns-in_default-clause-given g t c = no_level_joined g.R.Stream.course g.R.Found.Keyed.key c.args.levels.now c.in_default.ensures.cases

pub returns-then-is_empty-clause-given : goal.returns-then-is_empty-clause-given
returns-then-is_empty-clause-given g t c =
    alone_given g.R.Stream.course g.R.Found.Keyed.key (g.S.Snapshot.map_at c.args.db.now) c.args.tx.now c.next.new.tx c.args.levels.now c.in-Some.level.now c.in-Some.rest.now c.in-Some.ensures.cases.0 (search rules) c.next.new.self c.next.result c.next.ensures.given

pub returns-then-is_empty-clause-stopped : goal.returns-then-is_empty-clause-stopped
returns-then-is_empty-clause-stopped g t c =
    alone_stopped g.R.Stream.course g.R.Found.Keyed.key (g.S.Snapshot.map_at c.args.db.now) c.args.tx.now c.next.new.tx (g.S.Snapshot.may_refuse c.args.db.now) c.args.levels.now c.in-Some.level.now c.in-Some.rest.now c.in-Some.ensures.cases.0 (search rules) c.next.result c.next.ensures.stopped

pub heads-init : goal.heads-init
heads-init g t c =
    let more : 0 < length c.in-Some.rest.now = search rules in
    record {
      more = more;
      come = joined_begun g.R.Stream.course g.R.Found.Keyed.key {old = c.args.tx.now} c.args.levels.now c.in-Some.level.now c.in-Some.rest.now c.in-Some.ensures.cases.0 more;
    }

pub returns-in_err-find_head-clause-stopped : goal.returns-in_err-find_head-clause-stopped
returns-in_err-find_head-clause-stopped g t c =
    exit_with c.from_residual.result c.in_err-find_head.field-0.0 _ c.from_residual.ensures
    (joined_stopped g.R.Stream.course g.R.Found.Keyed.key c.args.levels.now c.heads.level c.heads.rest c.heads.invariant.come c.in_err-find_head.ensures.stopped)

pub returns-in_err-level-clause-stopped : goal.returns-in_err-level-clause-stopped
returns-in_err-level-clause-stopped g t c =
    exit_with c.from_residual-in_err-level.result c.in_err-level.field-0.0 _ c.from_residual-in_err-level.ensures
    (others_stopped g.R.Stream.course g.R.Found.Keyed.key c.args.levels.now c.heads.level c.heads.rest c.heads.invariant.come c.find_head.new.self c.in_ok-find_head.ensures.other c.in_ok-find_head.ensures.given
    c.if-is_none.ensures c.in_err-level.ensures.stopped)

pub returns-then-is_none-3-clause-given : goal.returns-then-is_none-3-clause-given
returns-then-is_none-3-clause-given g t c =
    let maps : ℕ → Map = g.S.Snapshot.map_at c.args.db.now in
    let all : List (Level g.row.R.Denot g.row.R-Found.Denot) → List Pair → Course g.row.R-Found.Denot = joined_levels g.R.Stream.course g.R.Found.Keyed.key in
    let found : Level g.row.R.Denot g.row.R-Found.Denot = c.find_head.new.self in
    let both : (c.if-is_none.level.stream ≡ found.stream) × (c.if-is_none.level.head ≡ found.head)
    × HasGiven maps (λ pairs. head_then found.other (all c.heads.rest pairs)) c.if-is_none.level.other (all c.if-is_none.rest) c.find_head.new.tx c.if-is_none.tx = elim c.if-is_none.branch [
      | then-is_none+in_ok-level+in-Some-1 w ↦ rw (w.level-is, w.rest-is, w.tx-is) (refl, refl, given_unknown found.other w.in_ok-level.field-0 (all c.heads.rest) (all w.next_joined.new.levels) w.if-is_none.ensures w.in_ok-level.ensures.given)
      | then-is_none+in_ok-level+in-None-1 w ↦ rw (w.level-is, w.rest-is, w.tx-is) (refl, refl, given_unknown found.other w.in_ok-level.field-0 (all c.heads.rest) (all w.next_joined.new.levels) w.if-is_none.ensures w.in_ok-level.ensures.given)
      | else-is_none w ↦ rw (w.level-is, w.rest-is, w.tx-is) (refl, refl, given_known found.other (all c.heads.rest) w.if-is_none.ensures)
    ] in
    let more : 0 < length c.if-is_none.rest = omega (arith, c.if-is_none.auto.rest, c.heads.invariant.more) in
    joined_ended g.R.Stream.course g.R.Found.Keyed.key c.args.levels.now c.heads.level c.heads.rest c.heads.invariant.come found c.in_ok-find_head.ensures.other c.in_ok-find_head.ensures.given
    c.if-is_none.level c.if-is_none.rest both.0 both.1 both.2 more c.if-is_none-2.ensures c.if-is_none-3.ensures

pub returns-in-Some-take_shared-clause-given : goal.returns-in-Some-take_shared-clause-given
returns-in-Some-take_shared-clause-given g t c =
    let maps : ℕ → Map = g.S.Snapshot.map_at c.args.db.now in
    let all : List (Level g.row.R.Denot g.row.R-Found.Denot) → List Pair → Course g.row.R-Found.Denot = joined_levels g.R.Stream.course g.R.Found.Keyed.key in
    let found : Level g.row.R.Denot g.row.R-Found.Denot = c.find_head.new.self in
    let both : (c.if-is_none.level.stream ≡ found.stream) × (c.if-is_none.level.head ≡ found.head)
    × HasGiven maps (λ pairs. head_then found.other (all c.heads.rest pairs)) c.if-is_none.level.other (all c.if-is_none.rest) c.find_head.new.tx c.if-is_none.tx = elim c.if-is_none.branch [
      | then-is_none+in_ok-level+in-Some-1 w ↦ rw (w.level-is, w.rest-is, w.tx-is) (refl, refl, given_unknown found.other w.in_ok-level.field-0 (all c.heads.rest) (all w.next_joined.new.levels) w.if-is_none.ensures w.in_ok-level.ensures.given)
      | then-is_none+in_ok-level+in-None-1 w ↦ rw (w.level-is, w.rest-is, w.tx-is) (refl, refl, given_unknown found.other w.in_ok-level.field-0 (all c.heads.rest) (all w.next_joined.new.levels) w.if-is_none.ensures w.in_ok-level.ensures.given)
      | else-is_none w ↦ rw (w.level-is, w.rest-is, w.tx-is) (refl, refl, given_known found.other (all c.heads.rest) w.if-is_none.ensures)
    ] in
    let more : 0 < length c.if-is_none.rest = omega (arith, c.if-is_none.auto.rest, c.heads.invariant.more) in
    joined_given g.R.Stream.course g.R.Found.Keyed.key c.args.levels.now c.heads.level c.heads.rest c.heads.invariant.come found c.in_ok-find_head.ensures.other c.in_ok-find_head.ensures.given
    c.if-is_none.level c.if-is_none.rest both.0 both.1 both.2 more c.in-Some-take_shared.found c.take_shared.new.head c.take_shared.new.other c.in-Some-take_shared.ensures

pub heads-smaller : goal.heads-smaller
heads-smaller g t c =
    let maps : ℕ → Map = g.S.Snapshot.map_at c.args.db.now in
    let all : List (Level g.row.R.Denot g.row.R-Found.Denot) → List Pair → Course g.row.R-Found.Denot = joined_levels g.R.Stream.course g.R.Found.Keyed.key in
    let found : Level g.row.R.Denot g.row.R-Found.Denot = c.find_head.new.self in
    let both : (c.if-is_none.level.stream ≡ found.stream) × (c.if-is_none.level.head ≡ found.head)
    × HasGiven maps (λ pairs. head_then found.other (all c.heads.rest pairs)) c.if-is_none.level.other (all c.if-is_none.rest) c.find_head.new.tx c.if-is_none.tx = elim c.if-is_none.branch [
      | then-is_none+in_ok-level+in-Some-1 w ↦ rw (w.level-is, w.rest-is, w.tx-is) (refl, refl, given_unknown found.other w.in_ok-level.field-0 (all c.heads.rest) (all w.next_joined.new.levels) w.if-is_none.ensures w.in_ok-level.ensures.given)
      | then-is_none+in_ok-level+in-None-1 w ↦ rw (w.level-is, w.rest-is, w.tx-is) (refl, refl, given_unknown found.other w.in_ok-level.field-0 (all c.heads.rest) (all w.next_joined.new.levels) w.if-is_none.ensures w.in_ok-level.ensures.given)
      | else-is_none w ↦ rw (w.level-is, w.rest-is, w.tx-is) (refl, refl, given_known found.other (all c.heads.rest) w.if-is_none.ensures)
    ] in
    let more : 0 < length c.if-is_none.rest = omega (arith, c.if-is_none.auto.rest, c.heads.invariant.more) in
    let some : (c.if-is_none.level.head ≡ None) × (c.if-is_none.level.other ≡ None) → ⊥ = λ none. elim c.else-is_none-2.branch [
      | else-is_none-2-via-then-is_none-2+else-is_none-3 w ↦ is_known c.if-is_none.level.other w.if-is_none-3.ensures none.1
      | else-is_none-2-via-else-is_none-2 w ↦ is_known c.if-is_none.level.head w.if-is_none-2.ensures none.0
    ] in
    joined_fewer g.R.Stream.course g.R.Found.Keyed.key c.args.levels.now c.heads.level c.heads.rest c.heads.invariant.come found c.in_ok-find_head.ensures.other c.in_ok-find_head.ensures.given
    c.if-is_none.level c.if-is_none.rest both.0 both.1 both.2 c.take_shared.new.head c.take_shared.new.other c.in_default-take_shared.ensures some

pub heads-preserved : goal.heads-preserved
heads-preserved g t c =
    let maps : ℕ → Map = g.S.Snapshot.map_at c.args.db.now in
    let all : List (Level g.row.R.Denot g.row.R-Found.Denot) → List Pair → Course g.row.R-Found.Denot = joined_levels g.R.Stream.course g.R.Found.Keyed.key in
    let found : Level g.row.R.Denot g.row.R-Found.Denot = c.find_head.new.self in
    let both : (c.if-is_none.level.stream ≡ found.stream) × (c.if-is_none.level.head ≡ found.head)
    × HasGiven maps (λ pairs. head_then found.other (all c.heads.rest pairs)) c.if-is_none.level.other (all c.if-is_none.rest) c.find_head.new.tx c.if-is_none.tx = elim c.if-is_none.branch [
      | then-is_none+in_ok-level+in-Some-1 w ↦ rw (w.level-is, w.rest-is, w.tx-is) (refl, refl, given_unknown found.other w.in_ok-level.field-0 (all c.heads.rest) (all w.next_joined.new.levels) w.if-is_none.ensures w.in_ok-level.ensures.given)
      | then-is_none+in_ok-level+in-None-1 w ↦ rw (w.level-is, w.rest-is, w.tx-is) (refl, refl, given_unknown found.other w.in_ok-level.field-0 (all c.heads.rest) (all w.next_joined.new.levels) w.if-is_none.ensures w.in_ok-level.ensures.given)
      | else-is_none w ↦ rw (w.level-is, w.rest-is, w.tx-is) (refl, refl, given_known found.other (all c.heads.rest) w.if-is_none.ensures)
    ] in
    let more : 0 < length c.if-is_none.rest = omega (arith, c.if-is_none.auto.rest, c.heads.invariant.more) in
    record {
      more = more;
      come = joined_read_on g.R.Stream.course g.R.Found.Keyed.key c.args.levels.now c.heads.level c.heads.rest c.heads.invariant.come found c.in_ok-find_head.ensures.other c.in_ok-find_head.ensures.given
          c.if-is_none.level c.if-is_none.rest both.0 both.1 both.2 c.take_shared.new.head c.take_shared.new.other c.in_default-take_shared.ensures;
    }
