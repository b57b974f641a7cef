-- How far the cluster comes where each role of a kind does a step, over plain values.
use Rattle.std.proofs.Common.{◌≡◌, ℕ, zero, suc, ◌+◌, ◌-◌, ◌%◌, ◌<◌, ◌≤◌, Bool, true, false, cond, ◌&&◌, ◌||◌, List, [], ◌∷◌, length, get_or, nat_lt, refl, sym, ap, subst, ◌∙◌, Option, arith}
use Rattle.std.specs.Prelude.{slice_index}
use Rattle.std.specs.List.{list_all}
use Rattle.std.proofs.lemmas.Bool.{ltb-false, ltb-true, true≢false}
use Rattle.std.proofs.lemmas.List.{length-set}
use Rattle.std.proofs.lemmas.List.Elements.{All-get_or}
use Rattle.std.proofs.lemmas.List.Sums.{sum_by-set}
use Rattle.cluster_core.specs.declared.answers.Work.{Work}
use Rattle.cluster_core.specs.declared.answers.Work.TheVariants as works
use Rattle.cluster_core.specs.Cluster.{ClusterState, Did, log_of, may_pull, pull, with_pipeline}
use Rattle.cluster_core.specs.Roles.{AreInOrder, append, may_append, may_resolve, raised, resolve, submitted}
use Rattle.schedule.specs.declared.database.Database.{Database}
use Rattle.schedule.specs.Past.{Open, Submission}
use Rattle.schedule.specs.Running.{IsStanding}
use Rattle.schedule.specs.Settling.{HaveWorked, IsMoved, IsNearer, has_worked, left, moved, versions_behind}
use Rattle.schedule.proofs.RoleSteps.{OnlyCluster, log_there, other_clocks, pulled_given, log_given, standing_moved}

-- ---- clocks that move

-- a clock that is raised is less behind
behind_raised : (last : ℕ) (clocks : List ℕ) (i : ℕ) → i < length clocks → slice_index clocks i < last → versions_behind last (raised clocks i) + 1 ≡ versions_behind last clocks
behind_raised last clocks i within low =
    let s : versions_behind last (raised clocks i) + (last - get_or clocks i 0) ≡ versions_behind last clocks + (last - (get_or clocks i 0 + 1)) = sum_by-set (λ clock. last - clock) clocks i (get_or clocks i 0 + 1) 0 within in
    let below : get_or clocks i 0 < last = low in
    omega (arith, s, below)

pub moved_stays : (c : ClusterState) → IsMoved c c
moved_stays c = record { frame = refl; resolvers = refl; logs = refl; servers = refl; onward = omega arith }

pub moved_then : (a b c : ClusterState) → IsMoved a b → IsMoved b c → IsMoved a c
moved_then a b c first second = record {
  frame = second.frame ∙ ap (λ x. moved x c.pipeline.resolved c.pipeline.logged c.pipeline.reported c.pulled) first.frame;
  resolvers = second.resolvers ∙ first.resolvers;
  logs = second.logs ∙ first.logs;
  servers = second.servers ∙ first.servers;
  onward = omega (arith, first.onward, second.onward);
}

pub nearer_stays : (c : ClusterState) → IsNearer false c c
nearer_stays c = record { moved = moved_stays c; less = omega arith; idle = λ _. refl }

pub or_false_left : (a b : Bool) → (a || b) ≡ false → a ≡ false
or_false_left true b e = e
or_false_left false b e = refl

pub or_false_right : (a b : Bool) → (a || b) ≡ false → b ≡ false
or_false_right true b e = absurd (true≢false e)
or_false_right false b e = e

pub nearer_then : (done now : Bool) (a b c : ClusterState) → IsNearer done a b → IsNearer now b c → IsNearer (done || now) a c
nearer_then done now a b c first second = record {
  moved = moved_then a b c first.moved second.moved;
  less = one_less done now first.less second.less;
  idle = λ e. second.idle (or_false_right done now e) ∙ first.idle (or_false_left done now e);
}
  where
    one_less : (x y : Bool) → left b + cond x 1 0 ≤ left a → left c + cond y 1 0 ≤ left b → left c + cond (x || y) 1 0 ≤ left a
    one_less true true h k = omega (arith, h, k)
    one_less true false h k = omega (arith, h, k)
    one_less false true h k = omega (arith, h, k)
    one_less false false h k = omega (arith, h, k)

-- ---- one role

-- one role did its step, where it might
pub record HasWorked (may now : Bool) (old new : Database) : Type 0 where
  pub nearer : IsNearer now old.cluster new.cluster
  pub reported : new.cluster.pipeline.reported ≡ old.cluster.pipeline.reported
  pub standing : (opens : ℕ → Option Open) (submissions : List Submission) → IsStanding opens submissions old → IsStanding opens submissions new
  pub none : now ≡ false → may ≡ false

-- nothing was done
idle_worked : (may : Bool) (old new : Database) → may ≡ false → new.cluster ≡ old.cluster → OnlyCluster old new → HasWorked may false old new
idle_worked may old new none same only = record {
  nearer = subst (IsNearer false old.cluster) (sym same) (nearer_stays old.cluster);
  reported = ap (λ (c : ClusterState). c.pipeline.reported) same;
  standing = λ opens submissions s. standing_moved opens submissions old new old.cluster same only s;
  none = λ _. none;
}

resolve_nearer : (c : ClusterState) (r : ℕ) → r < length c.pipeline.resolved → may_resolve c.pipeline r ≡ true → IsNearer true c (with_pipeline (resolve r c.pipeline) c)
resolve_nearer c r within may =
    let low : slice_index c.pipeline.resolved r < submitted c.pipeline = ltb-true (slice_index c.pipeline.resolved r) (submitted c.pipeline) may in
    let less : versions_behind (submitted c.pipeline) (raised c.pipeline.resolved r) + 1 ≡ versions_behind (submitted c.pipeline) c.pipeline.resolved = behind_raised (submitted c.pipeline) c.pipeline.resolved r within low in
    record {
      moved = record { frame = refl; resolvers = length-set c.pipeline.resolved r (slice_index c.pipeline.resolved r + 1); logs = refl; servers = refl; onward = omega arith };
      less = omega (arith, less);
      idle = λ e. absurd (true≢false e);
    }

pub resolve_worked : (old new : Database) (r : ℕ) (work : Work) → r < length old.cluster.pipeline.resolved →
    Did work (may_resolve old.cluster.pipeline r) old.cluster new.cluster (with_pipeline (resolve r old.cluster.pipeline) old.cluster) → OnlyCluster old new → HasWorked (may_resolve old.cluster.pipeline r) (has_worked work) old new
resolve_worked old new r works.Done within did only = record {
  nearer = subst (IsNearer true old.cluster) (sym did.1) (resolve_nearer old.cluster r within did.0);
  reported = ap (λ (c : ClusterState). c.pipeline.reported) did.1;
  standing = λ opens submissions s. standing_moved opens submissions old new (with_pipeline (resolve r old.cluster.pipeline) old.cluster) did.1 only
      (other_clocks (raised old.cluster.pipeline.resolved r) old.cluster.pipeline.logged old.cluster.pulled s.pulled s);
  none = λ e. absurd (true≢false e);
}
resolve_worked old new r works.NothingToDo within did only = idle_worked (may_resolve old.cluster.pipeline r) old new did.0 did.1 only

-- where a log may append, every resolver is past it
past_resolvers : (clock : ℕ) (resolved : List ℕ) (i d : ℕ) → i < length resolved → list_all (λ other. nat_lt clock other) resolved ≡ true → clock < get_or resolved i d
past_resolvers clock [] i d within all = absurd (omega (arith, within))
past_resolvers clock (other ∷ resolved) zero d within all = ltb-true clock other (first (nat_lt clock other) all)
  where
    first : (b : Bool) → (b && list_all (λ one. nat_lt clock one) resolved) ≡ true → b ≡ true
    first true e = refl
    first false e = e
past_resolvers clock (other ∷ resolved) (suc i) d within all = past_resolvers clock resolved i d (omega (arith, within)) (rest (nat_lt clock other) all)
  where
    rest : (b : Bool) → (b && list_all (λ one. nat_lt clock one) resolved) ≡ true → list_all (λ one. nat_lt clock one) resolved ≡ true
    rest true e = e
    rest false e = absurd (true≢false (sym e))

append_nearer : (c : ClusterState) (l : ℕ) → l < length c.pipeline.logged → AreInOrder c.pipeline → may_append c.pipeline l ≡ true → IsNearer true c (with_pipeline (append l c.pipeline) c)
append_nearer c l within ordered may =
    let some : 0 < length c.pipeline.resolved = (let h : 1 ≤ length c.pipeline.resolved = ordered.some_resolver in omega (arith, h)) in
    let past : slice_index c.pipeline.logged l < get_or c.pipeline.resolved 0 0 = past_resolvers (slice_index c.pipeline.logged l) c.pipeline.resolved 0 0 some may in
    let given : get_or c.pipeline.resolved 0 0 ≤ submitted c.pipeline = All-get_or (λ clock. clock ≤ submitted c.pipeline) c.pipeline.resolved 0 0 some ordered.given in
    let less : versions_behind (submitted c.pipeline) (raised c.pipeline.logged l) + 1 ≡ versions_behind (submitted c.pipeline) c.pipeline.logged = behind_raised (submitted c.pipeline) c.pipeline.logged l within (omega (arith, past, given)) in
    record {
      moved = record { frame = refl; resolvers = refl; logs = length-set c.pipeline.logged l (slice_index c.pipeline.logged l + 1); servers = refl; onward = omega arith };
      less = omega (arith, less);
      idle = λ e. absurd (true≢false e);
    }

pub append_worked : (old new : Database) (l : ℕ) (work : Work) → l < length old.cluster.pipeline.logged → AreInOrder old.cluster.pipeline →
    Did work (may_append old.cluster.pipeline l) old.cluster new.cluster (with_pipeline (append l old.cluster.pipeline) old.cluster) → OnlyCluster old new → HasWorked (may_append old.cluster.pipeline l) (has_worked work) old new
append_worked old new l works.Done within ordered did only = record {
  nearer = subst (IsNearer true old.cluster) (sym did.1) (append_nearer old.cluster l within ordered did.0);
  reported = ap (λ (c : ClusterState). c.pipeline.reported) did.1;
  standing = λ opens submissions s. standing_moved opens submissions old new (with_pipeline (append l old.cluster.pipeline) old.cluster) did.1 only
      (other_clocks old.cluster.pipeline.resolved (raised old.cluster.pipeline.logged l) old.cluster.pulled s.pulled s);
  none = λ e. absurd (true≢false e);
}
append_worked old new l works.NothingToDo within ordered did only = idle_worked (may_append old.cluster.pipeline l) old new did.0 did.1 only

pull_nearer : (c : ClusterState) (s : ℕ) → s < length c.pulled → AreInOrder c.pipeline → may_pull c s ≡ true → IsNearer true c (pull s c)
pull_nearer c s within ordered may =
    let past : slice_index c.pulled s < log_of c s = ltb-true (slice_index c.pulled s) (log_of c s) may in
    let given : log_of c s ≤ submitted c.pipeline = log_given c.pipeline (s % length c.pipeline.logged) ordered (log_there c s ordered) in
    let less : versions_behind (submitted c.pipeline) (raised c.pulled s) + 1 ≡ versions_behind (submitted c.pipeline) c.pulled = behind_raised (submitted c.pipeline) c.pulled s within (omega (arith, past, given)) in
    record {
      moved = record { frame = refl; resolvers = refl; logs = refl; servers = length-set c.pulled s (slice_index c.pulled s + 1); onward = omega arith };
      less = omega (arith, less);
      idle = λ e. absurd (true≢false e);
    }

pub pull_worked : (old new : Database) (server : ℕ) (work : Work) → server < length old.cluster.pulled → AreInOrder old.cluster.pipeline →
    Did work (may_pull old.cluster server) old.cluster new.cluster (pull server old.cluster) → OnlyCluster old new → HasWorked (may_pull old.cluster server) (has_worked work) old new
pull_worked old new server works.Done within ordered did only = record {
  nearer = subst (IsNearer true old.cluster) (sym did.1) (pull_nearer old.cluster server within ordered did.0);
  reported = ap (λ (c : ClusterState). c.pipeline.reported) did.1;
  standing = λ opens submissions s. standing_moved opens submissions old new (pull server old.cluster) did.1 only
      (other_clocks old.cluster.pipeline.resolved old.cluster.pipeline.logged (raised old.cluster.pulled server) (pulled_given old.cluster server ordered did.0 s.pulled) s);
  none = λ e. absurd (true≢false e);
}
pull_worked old new server works.NothingToDo within ordered did only = idle_worked (may_pull old.cluster server) old new did.0 did.1 only

-- ---- each role of a kind

pub one_more_worked : (may : ClusterState → ℕ → Bool) (count : ℕ) (done now both : Bool) (old mid new : Database) → both ≡ (done || now) → HaveWorked may count done old mid → HasWorked (may mid.cluster count) now mid new →
    HaveWorked may (count + 1) both old new
one_more_worked may count done now both old mid new is before next =
    subst (λ b. HaveWorked may (count + 1) b old new) (sym is) (record {
      nearer = nearer_then done now old.cluster mid.cluster new.cluster before.nearer next.nearer;
      reported = next.reported ∙ before.reported;
      standing = λ opens submissions s. next.standing opens submissions (before.standing opens submissions s);
      none = λ e role below. by_test e role below (nat_lt role count) refl;
    })
  where
    by_test : (done || now) ≡ false → (role : ℕ) → role < count + 1 → (b : Bool) → nat_lt role count ≡ b → may old.cluster role ≡ false
    by_test e role below true is_below = before.none (or_false_left done now e) role (ltb-true role count is_below)
    by_test e role below false above =
        let up : count ≤ role = ltb-false role count above in
        let same : count ≡ role = omega (arith, up, below) in
        subst (λ n. may old.cluster n ≡ false) same (ap (λ c. may c count) (sym (before.nearer.idle (or_false_left done now e))) ∙ next.none (or_false_right done now e))
