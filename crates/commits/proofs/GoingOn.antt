-- How far the roles have come with a version that isn't reported, one after another.
use Rattle.std.proofs.Common.{◌≡◌, ◌≢◌, ◌∙◌, ℕ, zero, suc, ◌+◌, ◌-◌, ◌<◌, ◌≤◌, ◌==◌, Bool, true, false, true≢false, nat_lt, cond, Option, None, Some, List, [], ◌∷◌, ◌++◌, All, ap, arith, get_or-set_other, get_or-set_same, length, length-append, map, refl, subst, sym}
use Rattle.std.proofs.lemmas.Bool.Decides.{nat_tests}
use Rattle.std.proofs.lemmas.List.{get_or_default, length-set}
use Rattle.std.specs.List.{list_all, slice_get}
use Rattle.std.specs.Prelude.{slice_index}
use Rattle.cluster_core.specs.declared.answers.Reported.{Reported}
use Rattle.cluster_core.specs.declared.answers.Reported.TheVariants.{NothingToDo as Idle}
use Rattle.cluster_core.specs.declared.answers.Work.{Work}
use Rattle.cluster_core.specs.declared.answers.Work.TheVariants.{Done, NothingToDo}
use Rattle.cluster_core.specs.Cluster.{Did}
use Rattle.cluster_core.specs.Roles.{AreInOrder, PipelineState, all_handled, append, entries, may_append, may_report, may_resolve, outcome, raised, report, resolve, submitted}
use Rattle.commits.specs.Holds.{first_raised}
use Rattle.commits.specs.Finishing.{HasGoneOn, IsUnfinished}
use Rattle.commits.proofs.Handling.{all_past, told-any}

-- ---- clocks

-- a list whose first places are so is so at each place
all_upto : (v n : ℕ) (xs : List ℕ) → n ≡ length xs → ((i : ℕ) → i < n → v ≤ slice_index xs i) → All (λ x. v ≤ x) xs
all_upto v n xs count each = λ k d below.
    let any = get_or_default xs k d 0 below in
    let least = each k (omega (arith, below, count)) in
    omega (arith, any, least)

-- one place more
upto_next : (v r : ℕ) (xs : List ℕ) → v ≤ slice_index xs r → ((i : ℕ) → i < r → v ≤ slice_index xs i) → (i : ℕ) → i < r + 1 → v ≤ slice_index xs i
upto_next v r xs here before i below = upto_by (i == r) refl
  where
    upto_by : (b : Bool) → (i == r) ≡ b → v ≤ slice_index xs i
    upto_by true same = let eq : i ≡ r = grind (arith, nat_tests) in subst (λ (j : ℕ). v ≤ slice_index xs j) (sym eq) here
    upto_by false other = let apart : i ≢ r = grind (arith, nat_tests) in before i (omega (arith, below, apart))

-- where the clock at this place goes on, those before it stay
raised_upto : (v r : ℕ) (xs : List ℕ) → r < length xs → v ≤ slice_index xs r + 1 → ((i : ℕ) → i < r → v ≤ slice_index xs i) → (i : ℕ) → i < r + 1 → v ≤ slice_index (raised xs r) i
raised_upto v r xs inside least before =
    let new : slice_index (raised xs r) r ≡ slice_index xs r + 1 = get_or-set_same xs r (slice_index xs r + 1) 0 inside in
    upto_next v r (raised xs r) (omega (arith, new, least)) (λ i below.
    let apart : i ≢ r = λ same. omega (arith, below, same) in
    let old : slice_index (raised xs r) i ≡ slice_index xs i = get_or-set_other xs r i (slice_index xs r + 1) 0 apart in
    let kept = before i below in
    omega (arith, old, kept))

not_less : (a b : ℕ) → nat_lt a b ≡ false → b ≤ a
not_less a b below = grind (arith, nat_tests)

-- a log that may not append has all that every resolver has answered for
none_left : (n v : ℕ) (clocks : List ℕ) → All (λ clock. v ≤ clock) clocks → list_all (λ clock. nat_lt n clock) clocks ≡ false → v ≤ n
none_left n v clocks all refused = left_by (nat_lt n v) refl
  where
    left_by : (b : Bool) → nat_lt n v ≡ b → v ≤ n
    left_by true less =
        let lt : n < v = grind (arith, nat_tests) in
        let past : list_all (λ clock. nat_lt n clock) clocks ≡ true = all_past n clocks (λ k d below. let least = all k d below in omega (arith, lt, least)) in
        absurd (true≢false (sym past ∙ refused))
    left_by false no_less = not_less n v no_less

-- clocks of one number, each replaced by the same one
same_each : (v : ℕ) (xs ys : List ℕ) → length xs ≡ length ys → map (λ (_ : ℕ). v) xs ≡ map (λ (_ : ℕ). v) ys
same_each v [] [] count = refl
same_each v [] (y ∷ ys) count = absurd (omega (arith, count))
same_each v (x ∷ xs) [] count = absurd (omega (arith, count))
same_each v (x ∷ xs) (y ∷ ys) count = ap (λ rest. v ∷ rest) (same_each v xs ys (omega (arith, count)))

-- clocks that stand at one version
level : (v : ℕ) (clocks : List ℕ) → All (λ clock. clock ≡ v) clocks → clocks ≡ map (λ (_ : ℕ). v) clocks
level v [] all = refl
level v (clock ∷ clocks) all =
    let first : clock ≡ v = all 0 0 (omega arith) in
    λ i. first i ∷ level v clocks (λ k d below. all (suc k) d (omega (arith, below))) i

pub raised_length : (count : ℕ) (clocks : List ℕ) → length (first_raised count clocks) ≡ length clocks
raised_length zero [] = refl
raised_length zero (clock ∷ clocks) = refl
raised_length (suc count) [] = refl
raised_length (suc count) (clock ∷ clocks) = let rest = raised_length count clocks in omega (arith, rest)

-- ---- roles that go on

-- once all roles are done it doesn't matter how far each was
pub handled_same : (p : PipelineState) (resolved logged : List ℕ) → length resolved ≡ length p.resolved → length logged ≡ length p.logged →
    all_handled (record p { resolved = resolved; logged = logged }) ≡ all_handled p
handled_same p resolved logged some others =
    λ i. record (all_handled p) { resolved = same_each (submitted p) resolved p.resolved some i; logged = same_each (submitted p) logged p.logged others i }

pub gone_on_trans : (old mid new : PipelineState) → HasGoneOn old mid → HasGoneOn mid new → HasGoneOn old new
gone_on_trans old mid new one two = (two.0 ∙ one.0, two.1 ∙ one.1)

pub still_submitted : (old new : PipelineState) → HasGoneOn old new → submitted new ≡ submitted old
still_submitted old new on = ap (λ (p : PipelineState). p.reported) on.0

pub still_unfinished : (old new : PipelineState) → IsUnfinished old → HasGoneOn old new → IsUnfinished new
still_unfinished old new one on =
    let same = still_submitted old new on in
    let reported = on.1 in
    omega (arith, one, same, reported)

-- the resolvers at the first places have answered for all that was submitted
pub record IsResolving (old : PipelineState) (r : ℕ) (now : PipelineState) : Type 0 where
  pub on : HasGoneOn old now
  pub count : length now.resolved ≡ length old.resolved
  pub upto : (i : ℕ) → i < r → submitted now ≤ slice_index now.resolved i

pub resolving_first : (p : PipelineState) → IsResolving p 0 p
resolving_first p = record { on = (refl, refl); count = refl; upto = λ i below. absurd (omega (arith, below)) }

pub resolves_one : (old now new : PipelineState) (r : ℕ) (work : Work) → IsUnfinished old → AreInOrder now → IsResolving old r now → r < length now.resolved →
    Did work (may_resolve now r) now new (resolve r now) → IsResolving old (r + 1) new
resolves_one old now new r Done one order was inside did =
    let unfinished = still_unfinished old now one was.on in
    let reported = order.appended 0 0 order.some_log in
    let answered = order.answered 0 0 order.some_log r 0 inside in
    let least : submitted now ≤ slice_index now.resolved r + 1 = omega (arith, unfinished, reported, answered) in
    let count : length (raised now.resolved r) ≡ length now.resolved = length-set now.resolved r (slice_index now.resolved r + 1) in
    let on : HasGoneOn old (resolve r now) = (handled_same now (raised now.resolved r) now.logged count refl ∙ was.on.0, was.on.1) in
    subst (IsResolving old (r + 1)) (sym did.1) (record { on = on; count = count ∙ was.count; upto = raised_upto (submitted now) r now.resolved inside least was.upto })
resolves_one old now new r NothingToDo one order was inside did =
    let least : submitted now ≤ slice_index now.resolved r = not_less (slice_index now.resolved r) (submitted now) did.0 in
    subst (IsResolving old (r + 1)) (sym did.1) (record { on = was.on; count = was.count; upto = upto_next (submitted now) r now.resolved least was.upto })

pub all_resolved : (old now : PipelineState) (n : ℕ) → n ≡ length old.resolved → IsResolving old n now → All (λ clock. submitted now ≤ clock) now.resolved
all_resolved old now n end is = let count = is.count in all_upto (submitted now) n now.resolved (omega (arith, end, count)) is.upto

-- the logs at the first places have all that was submitted
pub record IsAppending (old : PipelineState) (l : ℕ) (now : PipelineState) : Type 0 where
  pub on : HasGoneOn old now
  pub count : length now.logged ≡ length old.logged
  pub resolved : now.resolved ≡ old.resolved
  pub upto : (i : ℕ) → i < l → submitted now ≤ slice_index now.logged i

pub appending_first : (p : PipelineState) → IsAppending p 0 p
appending_first p = record { on = (refl, refl); count = refl; resolved = refl; upto = λ i below. absurd (omega (arith, below)) }

pub still_answered : (old now : PipelineState) → HasGoneOn old now → now.resolved ≡ old.resolved → All (λ clock. submitted old ≤ clock) old.resolved → All (λ clock. submitted now ≤ clock) now.resolved
still_answered old now on same all =
    let version = still_submitted old now on in
    subst (λ (clocks : List ℕ). All (λ clock. submitted now ≤ clock) clocks) (sym same) (λ k d below. let least = all k d below in omega (arith, version, least))

pub appends_one : (old now new : PipelineState) (l : ℕ) (work : Work) → IsUnfinished old → All (λ clock. submitted old ≤ clock) old.resolved → AreInOrder now → IsAppending old l now → l < length now.logged →
    Did work (may_append now l) now new (append l now) → IsAppending old (l + 1) new
appends_one old now new l Done one all order was inside did =
    let unfinished = still_unfinished old now one was.on in
    let reported = order.appended l 0 inside in
    let least : submitted now ≤ slice_index now.logged l + 1 = omega (arith, unfinished, reported) in
    let count : length (raised now.logged l) ≡ length now.logged = length-set now.logged l (slice_index now.logged l + 1) in
    let on : HasGoneOn old (append l now) = (handled_same now now.resolved (raised now.logged l) refl count ∙ was.on.0, was.on.1) in
    subst (IsAppending old (l + 1)) (sym did.1)
    (record { on = on; count = count ∙ was.count; resolved = was.resolved; upto = raised_upto (submitted now) l now.logged inside least was.upto })
appends_one old now new l NothingToDo one all order was inside did =
    let answered = still_answered old now was.on was.resolved all in
    let least : submitted now ≤ slice_index now.logged l = none_left (slice_index now.logged l) (submitted now) now.resolved answered did.0 in
    subst (IsAppending old (l + 1)) (sym did.1) (record { on = was.on; count = was.count; resolved = was.resolved; upto = upto_next (submitted now) l now.logged least was.upto })

pub all_logged : (old now : PipelineState) (n : ℕ) → n ≡ length old.logged → IsAppending old n now → All (λ clock. submitted now ≤ clock) now.logged
all_logged old now n end is = let count = is.count in all_upto (submitted now) n now.logged (omega (arith, end, count)) is.upto

-- ---- the report

-- what is told of a version doesn't depend on how far the roles are
told_same : (p : PipelineState) (version : ℕ) → outcome p version ≡ outcome (all_handled p) version
told_same p version =
    sym (told-any p (all_handled p).resolved (all_handled p).logged (all_handled p).reported (slice_get (entries p) (version - p.start - 1)))

-- every resolver has answered and every log has it: it is reported
module _ (old mid new : PipelineState) (r : Reported) (one : IsUnfinished old) (on : HasGoneOn old mid) (order : AreInOrder mid)
    (resolved : All (λ clock. submitted mid ≤ clock) mid.resolved) (logged : All (λ clock. submitted mid ≤ clock) mid.logged)
    (told : r ≡ cond (may_report mid) (outcome mid (mid.reported + 1)) Idle) (step : new ≡ cond (may_report mid) (report mid) mid) where
  next : mid.reported + 1 ≡ submitted mid
  next = sym (still_unfinished old mid one on)

  may : may_report mid ≡ true
  may = all_past mid.reported mid.logged (λ k d below. let least = logged k d below in let after = next in omega (arith, least, after))

  resolved_level : All (λ clock. clock ≡ submitted mid) mid.resolved
  resolved_level = λ k d below. let least = resolved k d below in let most = order.given k d below in omega (arith, least, most)

  logged_level : All (λ clock. clock ≡ submitted mid) mid.logged
  logged_level = λ k d below.
      let least = logged k d below in
      let answered = order.answered k d below 0 0 order.some_resolver in
      let most = order.given 0 0 order.some_resolver in
      omega (arith, least, answered, most)

  done : report mid ≡ all_handled mid
  done = λ i. record mid { resolved = level (submitted mid) mid.resolved resolved_level i; logged = level (submitted mid) mid.logged logged_level i; reported = next i }

  pub finished_is : new ≡ all_handled old
  finished_is = step ∙ ap (λ b. cond b (report mid) mid) may ∙ done ∙ on.0

  pub finished_told : r ≡ outcome new (submitted new)
  finished_told =
      told ∙ ap (λ b. cond b (outcome mid (mid.reported + 1)) Idle) may
      ∙ ap (outcome mid) next
      ∙ told_same mid (submitted mid)
      ∙ ap (λ (p : PipelineState). outcome p (submitted p)) (on.0 ∙ sym finished_is)
