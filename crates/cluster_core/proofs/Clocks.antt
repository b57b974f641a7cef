-- Clocks are the start and a number of requests.
use Rattle.std.proofs.Common.{◌≡◌, ℕ, suc, zero, ◌+◌, ◌<◌, ◌≤◌, Bool, true, false, None, ◌&&◌, replicate, nat_lt, List, [], ◌∷◌, length, map, get_or, set, refl, ap, ◌∙◌, arith}
use Rattle.std.proofs.lemmas.Bool.{le-ltb, lt-ltb, ltb-false, ltb-true}
use Rattle.std.proofs.lemmas.List.{get_or-map, length-map, length-set, map-set}
use Rattle.std.proofs.lemmas.List.Elements.{recursion_from_All}
use Rattle.std.specs.List.{All, AllByRecursion, list_all}
use Rattle.cluster_core.specs.declared.answers.Config.{Config}
use Rattle.cluster_core.specs.Configuration.{first_pipeline}
use Rattle.cluster_core.specs.Decision.{Owned, owners}
use Rattle.cluster_core.specs.Progress.{ResolverState, fresh, forgets, pipeline_state, tells}
use Rattle.cluster_core.specs.Requests.{RequestList}
use Rattle.cluster_core.specs.Roles.{PipelineState, append, report, resolve}
use Rattle.cluster_core.proofs.Forgetting.{length_forgets}
use Rattle.cluster_core.proofs.Telling.{map-set_same}

lt-add : (start n m : ℕ) → nat_lt (start + n) (start + m) ≡ nat_lt n m
lt-add start n m = by (nat_lt n m) refl
  where
    by : (b : Bool) → nat_lt n m ≡ b → nat_lt (start + n) (start + m) ≡ b
    by true is = let below = ltb-true n m is in lt-ltb (start + n) (start + m) (omega (arith, below))
    by false is = let above = ltb-false n m is in le-ltb (start + n) (start + m) (omega (arith, above))

-- clocks that are all past one
pub all_past : {X : Type 0} (start n : ℕ) (f : X → ℕ) (xs : List X) → list_all (λ clock. nat_lt (start + n) clock) (map (λ x. start + f x) xs) ≡ list_all (λ x. nat_lt n (f x)) xs
all_past start n f [] = refl
all_past start n f (x ∷ xs) = λ i. lt-add start n (f x) i && all_past start n f xs i

-- a clock that is behind another one
pub clock_behind : {X : Type 0} (start m : ℕ) (f : X → ℕ) (xs : List X) (i : ℕ) (d : X) → i < length xs →
    nat_lt (get_or (map (λ x. start + f x) xs) i 0) (start + m) ≡ nat_lt (f (get_or xs i d)) m
clock_behind start m f xs i d inside =
    ap (λ clock. nat_lt clock (start + m)) (get_or-map (λ x. start + f x) xs i d 0 inside) ∙ lt-add start (f (get_or xs i d)) m

-- clocks that are all past one of others
pub all_past_clock : {X Y : Type 0} (start : ℕ) (f : X → ℕ) (xs : List X) (g : Y → ℕ) (ys : List Y) (i : ℕ) (d : Y) → i < length ys →
    list_all (λ clock. nat_lt (get_or (map (λ y. start + g y) ys) i 0) clock) (map (λ x. start + f x) xs) ≡ list_all (λ x. nat_lt (g (get_or ys i d)) (f x)) xs
all_past_clock start f xs g ys i d inside =
    ap (λ n. list_all (λ clock. nat_lt n clock) (map (λ x. start + f x) xs)) (get_or-map (λ y. start + g y) ys i d 0 inside)
    ∙ all_past start (g (get_or ys i d)) f xs

-- a role that went one request on has raised its clock
pub raised_clock : {X : Type 0} (start : ℕ) (f : X → ℕ) (xs : List X) (i : ℕ) (new d : X) → i < length xs → f new ≡ f (get_or xs i d) + 1 →
    map (λ x. start + f x) (set xs i new) ≡ set (map (λ x. start + f x) xs) i (get_or (map (λ x. start + f x) xs) i 0 + 1)
raised_clock start f xs i new d inside more =
    let old = get_or-map (λ x. start + f x) xs i d 0 inside in
    let next : start + f new ≡ get_or (map (λ x. start + f x) xs) i 0 + 1 = omega (arith, more, old) in
    map-set (λ x. start + f x) xs i new ∙ ap (set (map (λ x. start + f x) xs) i) next

pub within_clocks : {X : Type 0} (start : ℕ) (f : X → ℕ) (xs : List X) (i : ℕ) → i < length (map (λ x. start + f x) xs) → i < length xs
within_clocks start f xs i inside = let len = length-map xs (λ x. start + f x) in omega (arith, inside, len)

module _ (splits : List (List ℕ)) (window start : ℕ) (requests : RequestList) (resolvers : List ResolverState) (logs : List (List Bool)) (reported : ℕ) where
  abbrev old : PipelineState
  old = pipeline_state splits window start requests resolvers logs reported

  -- the pipeline after one more answer of a resolver
  pub state_resolved : (i : ℕ) (new d : ResolverState) → i < length resolvers → length new.causes ≡ length (get_or resolvers i d).causes + 1 →
      pipeline_state splits window start requests (set resolvers i new) logs reported ≡ resolve i (pipeline_state splits window start requests resolvers logs reported)
  state_resolved i new d inside more = ap (λ clocks. record old { resolved = clocks }) (raised_clock start (λ r. length r.causes) resolvers i new d inside more)

  -- after a resolver kept something else
  pub state_kept : (i : ℕ) (new d : ResolverState) → i < length resolvers → length new.causes ≡ length (get_or resolvers i d).causes →
      pipeline_state splits window start requests (set resolvers i new) logs reported ≡ pipeline_state splits window start requests resolvers logs reported
  state_kept i new d inside same = ap (λ clocks. record old { resolved = clocks }) (map-set_same (λ r. start + length r.causes) resolvers i new d (ap (λ n. start + n) same))

  -- after one more request in a log
  pub state_appended : (i : ℕ) (new d : List Bool) → i < length logs → length new ≡ length (get_or logs i d) + 1 →
      pipeline_state splits window start requests resolvers (set logs i new) reported ≡ append i (pipeline_state splits window start requests resolvers logs reported)
  state_appended i new d inside more = ap (λ clocks. record old { logged = clocks }) (raised_clock start (λ passes. length passes) logs i new d inside more)

  -- after one more report
  pub state_reported : (after : List ResolverState) → after ≡ map tells resolvers →
      pipeline_state splits window start requests after logs (reported + 1) ≡ report (pipeline_state splits window start requests resolvers logs reported)
  state_reported after is =
      let clocks : map (λ r. start + length r.causes) after ≡ map (λ r. start + length r.causes) resolvers =
      ap (map (λ r. start + length r.causes)) is ∙ still resolvers in
      let next : start + (reported + 1) ≡ start + reported + 1 = omega arith in
      λ i. record old { resolved = clocks i; reported = next i }
    where
      still : (rs : List ResolverState) → map (λ r. start + length r.causes) (map tells rs) ≡ map (λ r. start + length r.causes) rs
      still [] = refl
      still (r ∷ rs) = λ i. (start + length-set r.causes r.told None i) ∷ still rs i

  -- after no bytes are kept of the requests before a place
  pub state_forgotten : (place : ℕ) (after : List (List Bool)) → after ≡ map (forgets place) logs → All (λ passes. place ≤ length passes) logs →
      pipeline_state splits window start (record requests { forgotten = place }) resolvers after reported ≡ record (pipeline_state splits window start requests resolvers logs reported) { forgotten = place }
  state_forgotten place after is inside =
      λ i. record old { logged = (ap (map (λ passes. start + length passes)) is ∙ still logs (recursion_from_All (λ passes. place ≤ length passes) logs inside)) i; forgotten = place }
    where
      still : (ls : List (List Bool)) → AllByRecursion (λ passes. place ≤ length passes) ls → map (λ passes. start + length passes) (map (forgets place) ls) ≡ map (λ passes. start + length passes) ls
      still [] all = refl
      still (passes ∷ ls) all = λ i. (start + length_forgets place passes all.0 i) ∷ still ls all.1 i

-- the pipeline at the start
pub state_first : (config : Config) → pipeline_state config.resolver_splits config.window config.start (record { all = []; forgotten = 0 }) (map fresh (owners config.resolver_splits)) (replicate config.logs []) 0 ≡ first_pipeline config
state_first config =
    let at : config.start + 0 ≡ config.start = omega arith in
    λ i. record (first_pipeline config) { resolved = all (owners config.resolver_splits) i; logged = each config.logs i; reported = at i }
  where
    all : (owned : List Owned) → map (λ r. config.start + length r.causes) (map fresh owned) ≡ map (λ _. config.start) owned
    all [] = refl
    all (owner ∷ owned) = let at : config.start + 0 ≡ config.start = omega arith in λ i. at i ∷ all owned i

    each : (count : ℕ) → map (λ passes. config.start + length passes) (replicate count (let none : List Bool = [] in none)) ≡ replicate count config.start
    each zero = refl
    each (suc count) = let at : config.start + 0 ≡ config.start = omega arith in λ i. at i ∷ each count i

pub below_clock : {X : Type 0} (start : ℕ) (f : X → ℕ) (xs : List X) (i place : ℕ) (d : X) → i < length xs → start + place < get_or (map (λ x. start + f x) xs) i 0 → place < f (get_or xs i d)
below_clock start f xs i place d inside below = let clock = get_or-map (λ x. start + f x) xs i d 0 inside in omega (arith, below, clock)
