-- Lists whose first items aren't kept: others stand in their place.
use Rattle.std.proofs.Common.{◌≡◌, ℕ, zero, suc, ◌+◌, ◌-◌, ◌<◌, ◌≤◌, Bool, true, false, not, Some, List, [], ◌∷◌, ◌++◌, length, drop, get_or, replicate, set, refl, sym, ap, ◌∙◌, arith}
use Rattle.std.proofs.lemmas.List.{length-append, length-drop, length-replicate}
use Rattle.std.specs.List.{slice_get}
use Rattle.cluster_core.specs.Progress.{forgets}

-- so many of one item, and then these
abbrev pub behind : {X : Type 0} → ℕ → X → List X → List X
behind n x xs = replicate n x ++ xs

pub length_behind : {X : Type 0} (n : ℕ) (x : X) (xs : List X) → length (behind n x xs) ≡ n + length xs
length_behind n x xs =
    let all = length-append (replicate n x) xs in
    let some = length-replicate n x in
    omega (arith, all, some)

pub answered_is : {X : Type 0} (n : ℕ) (x : X) (xs : List X) → length xs ≤ n → length (behind (n - length xs) x xs) ≡ n
answered_is n x xs fits = let all = length_behind (n - length xs) x xs in omega (arith, all, fits)

pub get_behind : {X : Type 0} (n : ℕ) (x : X) (xs : List X) (i : ℕ) → n ≤ i → slice_get (behind n x xs) i ≡ slice_get xs (i - n)
get_behind zero x xs i from = let same : i ≡ i - 0 = omega arith in ap (slice_get xs) same
get_behind (suc n) x xs zero from = absurd (omega (arith, from))
get_behind (suc n) x xs (suc i) from = let same : i - n ≡ suc i - suc n = omega arith in get_behind n x xs i (omega (arith, from)) ∙ ap (slice_get xs) same

pub get_front : {X : Type 0} (n : ℕ) (x : X) (xs : List X) (i : ℕ) → i < n → slice_get (behind n x xs) i ≡ Some x
get_front zero x xs i below = absurd (omega (arith, below))
get_front (suc n) x xs zero below = refl
get_front (suc n) x xs (suc i) below = get_front n x xs i (omega (arith, below))

pub item_behind : {X : Type 0} (n : ℕ) (x : X) (xs : List X) (i : ℕ) (d : X) → n ≤ i → get_or (behind n x xs) i d ≡ get_or xs (i - n) d
item_behind zero x xs i d from = let same : i ≡ i - 0 = omega arith in ap (λ k. get_or xs k d) same
item_behind (suc n) x xs zero d from = absurd (omega (arith, from))
item_behind (suc n) x xs (suc i) d from = let same : i - n ≡ suc i - suc n = omega arith in item_behind n x xs i d (omega (arith, from)) ∙ ap (λ k. get_or xs k d) same

pub item_front : {X : Type 0} (n : ℕ) (x : X) (xs : List X) (i : ℕ) (d : X) → i < n → get_or (behind n x xs) i d ≡ x
item_front zero x xs i d below = absurd (omega (arith, below))
item_front (suc n) x xs zero d below = refl
item_front (suc n) x xs (suc i) d below = item_front n x xs i d (omega (arith, below))

-- one more of the items that aren't kept
pub one_behind : {X : Type 0} (n : ℕ) (x y : X) (xs : List X) → set (behind n x (y ∷ xs)) n x ≡ behind (n + 1) x xs
one_behind zero x y xs = refl
one_behind (suc n) x y xs = let same : suc (n + 1) ≡ suc n + 1 = omega arith in ap (λ zs. x ∷ zs) (one_behind n x y xs) ∙ ap (λ k. behind k x xs) same

pub more_behind : {X : Type 0} (n : ℕ) (x : X) (xs ys : List X) → behind n x (xs ++ ys) ≡ behind n x xs ++ ys
more_behind zero x xs ys = refl
more_behind (suc n) x xs ys = ap (λ zs. x ∷ zs) (more_behind n x xs ys)

pub twice_behind : {X : Type 0} (n m : ℕ) (x : X) (xs : List X) → behind n x (behind m x xs) ≡ behind (n + m) x xs
twice_behind zero m x xs = let same : m ≡ 0 + m = omega arith in ap (λ k. behind k x xs) same
twice_behind (suc n) m x xs = let same : suc (n + m) ≡ suc n + m = omega arith in ap (λ zs. x ∷ zs) (twice_behind n m x xs) ∙ ap (λ k. behind k x xs) same

pub drop_behind : {X : Type 0} (place n : ℕ) (x : X) (xs : List X) → drop place (behind n x xs) ≡ behind (n - place) x (drop (place - n) xs)
drop_behind zero n x xs =
    let left : n ≡ n - 0 = omega arith in
    let none : 0 ≡ 0 - n = omega arith in
    λ i. behind (left i) x (drop (none i) xs)
drop_behind (suc place) zero x xs =
    let left : 0 ≡ 0 - suc place = omega arith in
    let more : suc place ≡ suc place - 0 = omega arith in
    λ i. behind (left i) x (drop (more i) xs)
drop_behind (suc place) (suc n) x xs =
    let left : n - place ≡ suc n - suc place = omega arith in
    let more : place - n ≡ suc place - suc n = omega arith in
    drop_behind place n x xs ∙ (λ i. behind (left i) x (drop (more i) xs))

drop_none : {X : Type 0} (n : ℕ) → drop n (let none : List X = [] in none) ≡ []
drop_none zero = refl
drop_none (suc n) = refl

pub get_drop : {X : Type 0} (n : ℕ) (xs : List X) (i : ℕ) → n ≤ i → slice_get (drop n xs) (i - n) ≡ slice_get xs i
get_drop zero xs i from = let same : i - 0 ≡ i = omega arith in ap (slice_get xs) same
get_drop (suc n) [] i from = refl
get_drop (suc n) (x ∷ xs) zero from = absurd (omega (arith, from))
get_drop (suc n) (x ∷ xs) (suc i) from = let same : suc i - suc n ≡ i - n = omega arith in ap (slice_get (drop n xs)) same ∙ get_drop n xs i (omega (arith, from))

pub item_drop : {X : Type 0} (n : ℕ) (xs : List X) (i : ℕ) (d : X) → n ≤ i → get_or (drop n xs) (i - n) d ≡ get_or xs i d
item_drop zero xs i d from = let same : i - 0 ≡ i = omega arith in ap (λ k. get_or xs k d) same
item_drop (suc n) [] i d from = refl
item_drop (suc n) (x ∷ xs) zero d from = absurd (omega (arith, from))
item_drop (suc n) (x ∷ xs) (suc i) d from = let same : suc i - suc n ≡ i - n = omega arith in ap (λ k. get_or (drop n xs) k d) same ∙ item_drop n xs i d (omega (arith, from))

pub drop_twice : {X : Type 0} (n m : ℕ) (xs : List X) → drop n (drop m xs) ≡ drop (m + n) xs
drop_twice n zero xs = let same : n ≡ 0 + n = omega arith in ap (λ k. drop k xs) same
drop_twice n (suc m) [] = drop_none n ∙ sym (drop_none (suc m + n))
drop_twice n (suc m) (x ∷ xs) = let same : suc (m + n) ≡ suc m + n = omega arith in drop_twice n m xs ∙ ap (λ k. drop k (x ∷ xs)) same

pub length_forgets : (place : ℕ) (passes : List Bool) → place ≤ length passes → length (forgets place passes) ≡ length passes
length_forgets place passes inside =
    let all = length_behind place true (drop place passes) in
    let left = length-drop place passes in
    omega (arith, all, left, inside)

pub get_forgets : (place : ℕ) (passes : List Bool) (i : ℕ) → place ≤ i → slice_get (forgets place passes) i ≡ slice_get passes i
get_forgets place passes i from = get_behind place true (drop place passes) i from ∙ get_drop place passes i from

-- a log whose first items aren't kept, after more of them
pub shed_forgets : (place count : ℕ) (kept shed : List Bool) → length kept ≤ count → place ≤ count → shed ≡ drop (place - (count - length kept)) kept →
    behind (count - length shed) true shed ≡ forgets place (behind (count - length kept) true kept)
shed_forgets place count kept shed fits inside is =
    let n = count - length kept in
    let left = ap length is ∙ length-drop (place - n) kept in
    let gone : count - length shed ≡ place + (n - place) = omega (arith, left, fits, inside) in
    (λ i. behind (gone i) true (is i))
    ∙ sym (twice_behind place (n - place) true (drop (place - n) kept))
    ∙ ap (λ xs. replicate place true ++ xs) (sym (drop_behind place n true kept))

pub twice_not : (b : Bool) → not (not b) ≡ b
twice_not true = refl
twice_not false = refl
