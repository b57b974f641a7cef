-- A list that is cut in two, with an entry put into one part.
use Rattle.std.proofs.Common.{◌≡◌, ℕ, zero, suc, ◌-◌, ◌<◌, ◌≤◌, Some, List, [], ◌∷◌, ◌++◌, length, length-take-le, take, drop, take-append-drop, insert, slice_get, unwrap_or, refl, sym, ap, ◌∙◌, arith}
use Rattle.std.proofs.lemmas.List.Edits.{insert-append_left, insert-append_right}
use Rattle.std.specs.Map.{keys_of}

pub cut_left : {A : Type 0} (xs : List A) (cut place : ℕ) (x : A) → place ≤ cut → cut ≤ length xs → insert (take cut xs) place x ++ drop cut xs ≡ insert xs place x
cut_left xs cut place x before fits =
    let count = length-take-le cut xs fits in
    sym (insert-append_left (take cut xs) (drop cut xs) place x (omega arith)) ∙ ap (λ l. insert l place x) (take-append-drop cut xs)

pub cut_right : {A : Type 0} (xs : List A) (cut place : ℕ) (x : A) → cut ≤ place → cut ≤ length xs → take cut xs ++ insert (drop cut xs) (place - cut) x ≡ insert xs place x
cut_right xs cut place x behind fits =
    sym (insert-append_right (take cut xs) (drop cut xs) cut place x (length-take-le cut xs fits) behind) ∙ ap (λ l. insert l place x) (take-append-drop cut xs)

module _ {K X : Type 0} where
  -- the key at the cut, or else another one
  pub dropped_begins : (es : List (K × X)) (cut : ℕ) (other : K) → cut < length es → slice_get (keys_of (drop cut es)) 0 ≡ Some (unwrap_or (slice_get (keys_of es) cut) other)
  dropped_begins [] cut other within = absurd (omega arith)
  dropped_begins (e ∷ es) zero other within = refl
  dropped_begins (e ∷ es) (suc cut) other within = dropped_begins es cut other (omega arith)

  pub put_begins : (es : List (K × X)) (cut place : ℕ) (x : K × X) → (place ≡ 0 → length es ≤ cut) → slice_get (keys_of (insert (drop cut es) place x)) 0 ≡ Some (unwrap_or (slice_get (keys_of es) cut) x.0)
  put_begins [] zero zero x last = refl
  put_begins [] zero (suc place) x last = refl
  put_begins [] (suc cut) zero x last = refl
  put_begins [] (suc cut) (suc place) x last = refl
  put_begins (e ∷ es) zero zero x last = let none = last refl in absurd (omega arith)
  put_begins (e ∷ es) zero (suc place) x last = refl
  put_begins (e ∷ es) (suc cut) place x last = put_begins es cut place x (λ none. let past = last none in omega arith)
