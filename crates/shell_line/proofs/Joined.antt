-- Texts with commas between them, one more at a time.
use Rattle.std.proofs.Common.{◌≡◌, ◌∙◌, ℕ, ◌+◌, ◌<◌, List, [], ◌∷◌, ◌++◌, length, get_or, take, map, refl, ap, sym, add-one, append_assoc, arith}
use Rattle.std.proofs.lemmas.List.{length-map, length-take-le, map-append, take_more}
use Rattle.std.specs.List.{join_with_byte}
use Rattle.shell_line.specs.Said.{comma_at}

-- one text more
joined_more : (ts : List (List ℕ)) (t : List ℕ) → join_with_byte 44 (ts ++ t ∷ []) ≡ join_with_byte 44 ts ++ (comma_at (length ts) ++ t)
joined_more [] t = refl
joined_more (x ∷ []) t = refl
joined_more (x ∷ y ∷ ts) t = ap (λ w. x ++ 44 ∷ w) (joined_more (y ∷ ts) t) ∙ sym (append_assoc x (44 ∷ join_with_byte 44 (y ∷ ts)) (comma_at 1 ++ t))

-- texts up to a place, and the one there
joined_to : {A : Type 0} (text : A → List ℕ) (xs : List A) (i : ℕ) (d : A) → i < length xs
    → join_with_byte 44 (map text (take (i + 1) xs)) ≡ join_with_byte 44 (map text (take i xs)) ++ (comma_at i ++ text (get_or xs i d))
joined_to text xs i d h =
    let short : length (map text (take i xs)) ≡ i = length-map (take i xs) text ∙ length-take-le i xs (omega (arith, h)) in
    let one : map text (take (i + 1) xs) ≡ map text (take i xs) ++ text (get_or xs i d) ∷ [] = rw (take_more xs i d h, map-append text (take i xs) (get_or xs i d ∷ [])) refl in
    rw (one, joined_more (map text (take i xs)) (text (get_or xs i d)), short) refl

-- the same written after a text
pub written_to : {A : Type 0} (text : A → List ℕ) (xs : List A) (i : ℕ) (d : A) (before now with_comma after : List ℕ) → i < length xs
    → now ≡ before ++ join_with_byte 44 (map text (take i xs)) → with_comma ≡ now ++ comma_at i → after ≡ with_comma ++ text (get_or xs i d)
    → after ≡ before ++ join_with_byte 44 (map text (take (i + 1) xs))
written_to text xs i d before now with_comma after h e f g =
    let front = join_with_byte 44 (map text (take i xs)) in
    rw (joined_to text xs i d h, g, f, e) (append_assoc (before ++ front) (comma_at i) (text (get_or xs i d)) ∙ append_assoc before front (comma_at i ++ text (get_or xs i d)))
