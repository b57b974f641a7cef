-- Names that were looked at, one more at a time.
use Rattle.std.proofs.Common.{◌≡◌, ◌∙◌, ◌<◌, ◌≤◌, ℕ, length, List, [], ◌∷◌, ◌++◌, Option, Some, None, All, max, arith, subst, sym, ap, refl, append_assoc, inl, inr, ◌+◌, map, take, get_or, Bor}
use Rattle.std.proofs.lemmas.Bool.{cases_lt}
use Rattle.std.proofs.lemmas.List.{map-append, take_more}
use Rattle.std.proofs.lemmas.List.Elements.{All-append, All-cons, All-nil, All-push, All-weaker}
use Rattle.std.specs.Prelude.{MatchOption}
use Rattle.near_names.specs.Near.{IsBest, IsNear, IsNearest, IsNearestIn, mistakes, too_many}

-- none is looked at
pub best_none : (name : List ℕ) → IsBest name [] (too_many (length name)) None
best_none name = record { nearest = All-nil (λ one. IsNear name one → ⊥); bound = refl }

-- each that was looked at has as many mistakes at least
abbrev pub AreFurther : List ℕ → ℕ → List (List ℕ) → Type 0
AreFurther name least known = All (λ one. IsNear name one → least ≤ mistakes name one) known

further : (name : List ℕ) (known : List (List ℕ)) (least : ℕ) (found : Option (List ℕ)) → IsBest name known least found → AreFurther name least known
further name known least None best = All-weaker (λ one. IsNear name one → ⊥) (λ one. IsNear name one → least ≤ mistakes name one) (λ one none near. absurd (none near)) known best.nearest
further name known least (Some found) best =
    let n = best.nearest in
    let at : (one : List ℕ) → mistakes name found ≤ mistakes name one → least ≤ mistakes name one = λ one h. omega (arith, h, best.bound) in
    subst (AreFurther name least) (sym n.among)
    (All-append (λ one. IsNear name one → least ≤ mistakes name one) n.before (found ∷ n.after)
    (All-weaker (λ one. IsNear name one → mistakes name found < mistakes name one) (λ one. IsNear name one → least ≤ mistakes name one) (λ one h near. omega (arith, h near, best.bound)) n.before n.nearer)
    (All-cons (λ one. IsNear name one → least ≤ mistakes name one) found n.after (λ near. at found (omega arith)) (All-weaker (λ one. IsNear name one → mistakes name found ≤ mistakes name one) (λ one. IsNear name one → least ≤ mistakes name one) (λ one h near. at one (h near)) n.after n.nearest)))

few_enough : (name : List ℕ) (known : List (List ℕ)) (least : ℕ) (found : Option (List ℕ)) → IsBest name known least found → least ≤ too_many (length name)
few_enough name known least None best = omega (arith, best.bound)
few_enough name known least (Some found) best = omega (arith, best.bound, best.nearest.near.few)

-- a nearer one takes its place
pub best_nearer : (name : List ℕ) (known : List (List ℕ)) (least : ℕ) (found : Option (List ℕ)) (one : List ℕ) → IsBest name known least found
    → mistakes name one < least → mistakes name one < max (length one) (length name) → IsBest name (known ++ one ∷ []) (mistakes name one) (Some one)
best_nearer name known least found one best nearer some_right =
    record {
      nearest = record {
        before = known;
        after = [];
        among = refl;
        near = record { few = omega (arith, nearer, few_enough name known least found best); some_right = some_right };
        nearer = All-weaker (λ other. IsNear name other → least ≤ mistakes name other) (λ other. IsNear name other → mistakes name one < mistakes name other) (λ other h near. omega (arith, h near, nearer)) known (further name known least found best);
        nearest = All-nil (λ other. IsNear name other → mistakes name one ≤ mistakes name other);
      };
      bound = refl;
    }

at_least : (m n : ℕ) → (m < n → ⊥) → n ≤ m
at_least m n isnt = elim (cases_lt m n) [
  | inl fewer ↦ absurd (isnt fewer)
  | inr more ↦ more
]

-- another one doesn't
pub best_same : (name : List ℕ) (known : List (List ℕ)) (least : ℕ) (found : Option (List ℕ)) (one : List ℕ) → IsBest name known least found
    → (mistakes name one < least → mistakes name one < max (length one) (length name) → ⊥) → IsBest name (known ++ one ∷ []) least found
best_same name known least None one best isnt =
    record {
      nearest = All-push (λ other. IsNear name other → ⊥) known one best.nearest (λ near. isnt (omega (arith, near.few, best.bound)) near.some_right);
      bound = best.bound;
    }
best_same name known least (Some found) one best isnt =
    let n = best.nearest in
    let last : IsNear name one → mistakes name found ≤ mistakes name one = λ near. at_least (mistakes name one) (mistakes name found) (λ lt. isnt (omega (arith, lt, best.bound)) near.some_right) in
    record {
      nearest = record {
        before = n.before;
        after = n.after ++ one ∷ [];
        among = ap (λ xs. xs ++ one ∷ []) n.among ∙ append_assoc n.before (found ∷ n.after) (one ∷ []);
        near = n.near;
        nearer = n.nearer;
        nearest = All-push (λ other. IsNear name other → mistakes name found ≤ mistakes name other) n.after one n.nearest last;
      };
      bound = best.bound;
    }

-- names up to a place, and the one there
pub names_to : (known : List (Bor (List ℕ))) (i : ℕ) (d : Bor (List ℕ)) → i < length known → map (λ k. k.now) (take (i + 1) known) ≡ map (λ k. k.now) (take i known) ++ (get_or known i d).now ∷ []
names_to known i d within = ap (map (λ k. k.now)) (take_more known i d within) ∙ map-append (λ k. k.now) (take i known) (get_or known i d ∷ [])
