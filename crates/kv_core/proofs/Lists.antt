-- Tests, and the first elements of lists and those that pass a test.
use Rattle.std.proofs.Common.{◌≡◌, ℕ, zero, suc, ◌<◌, ◌≤◌, Bool, true, false, cond, ◌&&◌, T, List, [], ◌∷◌, ◌++◌, length, take, reverse, inl, inr, refl, sym, ap, ◌∙◌, arith}
use Rattle.std.proofs.lemmas.Bool.{cases_Bool}
use Rattle.std.proofs.lemmas.List.{reverse-append}
use Rattle.std.proofs.lemmas.List.Elements.{filter-append}
use Rattle.std.specs.List.{AllByRecursion, filter}

-- what holds of both tests holds of each
pub first : (a b : Bool) → T (a && b) → T a
first true b h = tt
first false b h = absurd h

pub second : (a b : Bool) → T (a && b) → T b
second true b h = h
second false b h = absurd h

-- a test that holds is true
pub is_true : (b : Bool) → T b → b ≡ true
is_true true h = refl
is_true false h = absurd h

-- tests that imply each other are one
pub same_truth : (a b : Bool) → (a ≡ true → b ≡ true) → (b ≡ true → a ≡ true) → a ≡ b
same_truth true b f g = sym (f refl)
same_truth false true f g = g refl
same_truth false false f g = refl

-- what holds of all holds of the first ones
pub All-take : {X : Type 0} (P : X → Type 0) (n : ℕ) (xs : List X) → AllByRecursion P xs → AllByRecursion P (take n xs)
All-take P zero xs a = tt
All-take P (suc n) [] a = tt
All-take P (suc n) (x ∷ xs) a = (a.0, All-take P n xs a.1)

-- an element that passes stays in front, and another one goes
pub filter_here : {X : Type 0} (p : X → Bool) (x : X) (xs : List X) → p x ≡ true → filter p (x ∷ xs) ≡ x ∷ filter p xs
filter_here p x xs h = ap (λ t. cond t (x ∷ filter p xs) (filter p xs)) h

pub filter_not : {X : Type 0} (p : X → Bool) (x : X) (xs : List X) → p x ≡ false → filter p (x ∷ xs) ≡ filter p xs
filter_not p x xs h = ap (λ t. cond t (x ∷ filter p xs) (filter p xs)) h

-- two tests in turn are one test
pub filter-filter : {X : Type 0} (p q r : X → Bool) → ((x : X) → r x ≡ (q x && p x)) → (xs : List X) → filter p (filter q xs) ≡ filter r xs
filter-filter p q r e [] = refl
filter-filter p q r e (x ∷ xs) = elim (cases_Bool (q x)) [
  | inl kept ↦
      ap (filter p) (filter_here q x xs kept)
      ∙ ap (λ t. cond (p x) (x ∷ t) t) (filter-filter p q r e xs)
      ∙ ap (λ t. cond t (x ∷ filter r xs) (filter r xs)) (sym (e x ∙ ap (λ t. t && p x) kept))
  | inr gone ↦
      ap (filter p) (filter_not q x xs gone) ∙ filter-filter p q r e xs ∙ sym (filter_not r x xs (e x ∙ ap (λ t. t && p x) gone))
]

-- a test picks the same elements from either end
pub filter-reverse : {X : Type 0} (p : X → Bool) (xs : List X) → filter p (reverse xs) ≡ reverse (filter p xs)
filter-reverse p [] = refl
filter-reverse p (x ∷ xs) =
    ap (filter p) (reverse-append (x ∷ []) xs) ∙ filter-append p (reverse xs) (x ∷ []) ∙ ap (λ ys. ys ++ filter p (x ∷ [])) (filter-reverse p xs)
    ∙ elim (p x) as (λ t. reverse (filter p xs) ++ cond t (x ∷ []) [] ≡ reverse (cond t (x ∷ filter p xs) (filter p xs))) [
      | true ↦ sym (reverse-append (x ∷ []) (filter p xs))
      | false ↦ no_more (reverse (filter p xs))
    ]
  where
    no_more : {X : Type 0} (ys : List X) → ys ++ [] ≡ ys
    no_more [] = refl
    no_more (y ∷ ys) = ap (λ t. y ∷ t) (no_more ys)

-- a list that gives so many elements has so many
pub length-take-most : {X : Type 0} (n : ℕ) (es : List X) → n ≤ length (take n es) → n ≤ length es
length-take-most zero es h = omega arith
length-take-most (suc n) [] h = h
length-take-most (suc n) (e ∷ es) h = let t = length-take-most n es (omega (arith, h)) in omega (arith, t)

-- a list that gives fewer elements than asked for gave all
pub take_whole : {X : Type 0} (n : ℕ) (es : List X) → length (take n es) < n → take n es ≡ es
take_whole zero es h = absurd (omega (arith, h))
take_whole (suc n) [] h = refl
take_whole (suc n) (e ∷ es) h = ap (λ xs. e ∷ xs) (take_whole n es (omega (arith, h)))

-- the first ones of more of the first ones
pub take-take : {X : Type 0} (n k : ℕ) (es : List X) → n ≤ k → take n (take k es) ≡ take n es
take-take zero k es h = refl
take-take (suc n) zero es h = absurd (omega (arith, h))
take-take (suc n) (suc k) [] h = refl
take-take (suc n) (suc k) (e ∷ es) h = ap (λ xs. e ∷ xs) (take-take n k es (omega (arith, h)))
