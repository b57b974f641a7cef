-- How far the servers come as they pull what their logs have.
use Rattle.std.proofs.Common.{arith, ◌≡◌, ◌∙◌, ℕ, zero, suc, ◌+◌, ◌-◌, ◌%◌, ◌<◌, ◌≤◌, List, [], ◌∷◌, length, max, refl, sym, ap, subst}
use Rattle.std.proofs.Math.Nat.{le-max_left, le-max_right, max-le}
use Rattle.std.proofs.lemmas.Bool.{ltb-true}
use Rattle.std.proofs.lemmas.List.{length-set}
use Rattle.std.specs.List.{slice_index}
use Rattle.cluster_core.specs.Cluster.{ClusterState, Did, HasPulled, HasWholeLog, log_of, may_pull, pull}
use Rattle.cluster_core.specs.Roles.{PipelineState, raised}
use Rattle.cluster_core.specs.declared.answers.Work.{Work}
use Rattle.cluster_core.specs.declared.answers.Work.TheVariants.{Done, NothingToDo}

-- a raised clock is a version on, the others stay
raised-on : (clocks : List ℕ) (s i : ℕ) → slice_index clocks i ≤ slice_index (raised clocks s) i
raised-on [] s i = omega arith
raised-on (clock ∷ clocks) zero zero = omega arith
raised-on (clock ∷ clocks) zero (suc i) = omega arith
raised-on (clock ∷ clocks) (suc s) zero = omega arith
raised-on (clock ∷ clocks) (suc s) (suc i) = raised-on clocks s i

raised-within : (bound : ℕ → ℕ) (clocks : List ℕ) (s i : ℕ) → slice_index clocks s < bound s →
    slice_index (raised clocks s) i ≤ max (slice_index clocks i) (bound i)
raised-within bound [] s i below = le-max_left _ _
raised-within bound (clock ∷ clocks) zero zero below =
    let most = le-max_right clock (bound 0) in omega (arith, below, most)
raised-within bound (clock ∷ clocks) zero (suc i) below = le-max_left _ _
raised-within bound (clock ∷ clocks) (suc s) zero below = le-max_left _ _
raised-within bound (clock ∷ clocks) (suc s) (suc i) below = raised-within (λ place. bound (suc place)) clocks s i below

raised-at : (clocks : List ℕ) (s : ℕ) → s < length clocks → slice_index (raised clocks s) s ≡ slice_index clocks s + 1
raised-at [] s inside = absurd (omega (arith, inside))
raised-at (clock ∷ clocks) zero inside = refl
raised-at (clock ∷ clocks) (suc s) inside = raised-at clocks s (omega (arith, inside))

same-log : (p q : PipelineState) (s : ℕ) → p ≡ q → slice_index p.logged (s % length p.logged) ≡ slice_index q.logged (s % length q.logged)
same-log p q s same = ap (λ r. slice_index r.logged (s % length r.logged)) same

pub none-pulled : (c : ClusterState) → HasPulled c c
none-pulled c = record { base = refl; pipeline = refl; splits = refl; count = refl; on = λ s. omega arith; within = λ s. le-max_left _ _ }

pub more-pulled : (old mid new : ClusterState) → HasPulled old mid → HasPulled mid new → HasPulled old new
more-pulled old mid new first then =
    record {
      base = then.base ∙ first.base;
      pipeline = then.pipeline ∙ first.pipeline;
      splits = then.splits ∙ first.splits;
      count = then.count ∙ first.count;
      on = λ s. let before = first.on s in let after = then.on s in omega (arith, before, after);
      within = λ s.
          let log : log_of mid s ≡ log_of old s = same-log mid.pipeline old.pipeline s first.pipeline in
          let most = le-max_right (slice_index old.pulled s) (log_of old s) in
          let bound : log_of mid s ≤ max (slice_index old.pulled s) (log_of old s) = omega (arith, log, most) in
          let both = max-le (first.within s) bound in
          let after = then.within s in
          omega (arith, both, after);
    }

pub step-pulled : (old new : ClusterState) (s : ℕ) (work : Work) → Did work (may_pull old s) old new (pull s old) → HasPulled old new
step-pulled old new s NothingToDo did = subst (HasPulled old) (sym did.1) (none-pulled old)
step-pulled old new s Done did =
    subst (HasPulled old) (sym did.1)
    (record {
      base = refl;
      pipeline = refl;
      splits = refl;
      count = length-set old.pulled s (slice_index old.pulled s + 1);
      on = raised-on old.pulled s;
      within = λ i. raised-within (log_of old) old.pulled s i (ltb-true _ _ did.0);
    })

-- a server that pulls has less to pull
pub less-to-pull : (old new : ClusterState) (s : ℕ) → s < length old.pulled → Did Done (may_pull old s) old new (pull s old) →
    (log_of new s - slice_index new.pulled s) < (log_of old s - slice_index old.pulled s)
less-to-pull old new s inside did =
    let below = ltb-true (slice_index old.pulled s) (log_of old s) did.0 in
    let log : log_of new s ≡ log_of old s = ap (λ c. log_of c s) did.1 in
    let clock : slice_index new.pulled s ≡ slice_index old.pulled s + 1 = ap (λ c. slice_index c.pulled s) did.1 ∙ raised-at old.pulled s inside in
    omega (arith, below, log, clock)

-- a server that has the whole log keeps it
pub still-whole : (old new : ClusterState) (s : ℕ) → HasPulled old new → HasWholeLog old s → HasWholeLog new s
still-whole old new s pulled whole =
    let log = same-log new.pipeline old.pipeline s pulled.pipeline in
    let on = pulled.on s in
    omega (arith, log, on, whole)
