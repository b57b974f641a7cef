-- Folds over a list up to a place.
use Rattle.std.proofs.Common.{◌≡◌, ◌∙◌, ℕ, ◌+◌, ◌-◌, ◌<◌, ◌≤◌, List, [], ◌∷◌, ◌++◌, length, get_or, take, drop, sym, ap, arith}
use Rattle.std.specs.Prelude.{fold, slice_range}
use Rattle.std.proofs.lemmas.List.{take_more}
use Rattle.std.proofs.Math.Seq.{take-add}
use Rattle.std.proofs.lemmas.List.Sums.{fold-append}

-- one element more
pub fold_more : {A B : Type 0} (f : B → A → B) (b : B) (xs : List A) (i : ℕ) (x : A) → i < length xs → x ≡ get_or xs i x → fold f b (take (i + 1) xs) ≡ f (fold f b (take i xs)) x
fold_more f b xs i x within is = ap (fold f b) (take_more xs i x within ∙ ap (λ y. take i xs ++ y ∷ []) (sym is)) ∙ fold-append f b (take i xs) (x ∷ [])

-- what lies between two places after what lies before them
pub fold_between : {A B : Type 0} (f : B → A → B) (b : B) (xs : List A) (from to : ℕ) → from ≤ to → fold f (fold f b (take from xs)) (slice_range xs from to) ≡ fold f b (take to xs)
fold_between f b xs from to order =
    let whole : from + (to - from) ≡ to = omega (arith, order) in
    sym (fold-append f b (take from xs) (slice_range xs from to)) ∙ ap (fold f b) (sym (take-add from (to - from) xs) ∙ ap (λ n. take n xs) whole)
