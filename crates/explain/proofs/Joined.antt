-- Texts with commas between them, one more at a time.
use Rattle.std.proofs.Common.{◌≡◌, ◌∙◌, ℕ, ◌+◌, ◌<◌, List, [], ◌∷◌, ◌++◌, length, get_or, take, map, refl, ap, sym, add-one, append_assoc, arith, codes}
use Rattle.std.proofs.Math.Seq.{take-suc}
use Rattle.std.proofs.lemmas.List.{length-map, length-take-le, map-append}
use Rattle.std.specs.List.{join_with_byte}
use Rattle.planner.specs.Plan.{Node}
use Rattle.planner.specs.Planned.{nodes_of}
use Rattle.explain.specs.PlanText.{comma_before, node_text, node_texts}

-- one text more
pub joined_more : (ts : List (List ℕ)) (t : List ℕ) → join_with_byte 44 (ts ++ t ∷ []) ≡ join_with_byte 44 ts ++ (comma_before (length ts) ++ t)
joined_more [] t = refl
joined_more (x ∷ []) t = refl
joined_more (x ∷ y ∷ ts) t = ap (λ w. x ++ 44 ∷ w) (joined_more (y ∷ ts) t) ∙ sym (append_assoc x (44 ∷ join_with_byte 44 (y ∷ ts)) (comma_before 1 ++ t))

-- texts up to a place, and the one there
pub joined_to : {A B : Type 0} (see : A → B) (text : B → List ℕ) (xs : List A) (i : ℕ) (x : A) → i < length xs → x ≡ get_or xs i x
    → join_with_byte 44 (map text (map see (take (i + 1) xs))) ≡ join_with_byte 44 (map text (map see (take i xs))) ++ (comma_before i ++ text (see x))
joined_to see text xs i x h at =
    let short : length (map text (map see (take i xs))) ≡ i = length-map (map see (take i xs)) text ∙ length-map (take i xs) see ∙ length-take-le i xs (omega (arith, h)) in
    let one : map text (map see (take (i + 1) xs)) ≡ map text (map see (take i xs)) ++ text (see x) ∷ [] = rw (add-one, take-suc xs i x h, ← at, map-append see (take i xs) (x ∷ []), map-append text (map see (take i xs)) (see x ∷ [])) refl in
    rw (one, joined_more (map text (map see (take i xs))) (text (see x)), short) refl

-- the same written behind a text
pub written_to : {A B : Type 0} (see : A → B) (text : B → List ℕ) (xs : List A) (i : ℕ) (x : A) (before now with_comma after : List ℕ) → i < length xs → x ≡ get_or xs i x
    → now ≡ before ++ join_with_byte 44 (map text (map see (take i xs))) → with_comma ≡ now ++ comma_before i → after ≡ with_comma ++ text (see x)
    → after ≡ before ++ join_with_byte 44 (map text (map see (take (i + 1) xs)))
written_to see text xs i x before now with_comma after h at e f g =
    let front = join_with_byte 44 (map text (map see (take i xs))) in
    rw (joined_to see text xs i x h at, g, f, e) (append_assoc (before ++ front) (comma_before i) (text (see x)) ∙ append_assoc before front (comma_before i ++ text (see x)))

-- the texts of the steps of a list
pub texts_each : (name : List ℕ) (ns : List Node) → node_texts name (nodes_of ns) ≡ map (node_text name) ns
texts_each name [] = refl
texts_each name (n ∷ ns) = ap (λ w. node_text name n ∷ w) (texts_each name ns)

-- a text within what opens and closes it
pub closed : (opened inner before a b c : List ℕ) → a ≡ before ++ opened → b ≡ a ++ inner → c ≡ b ++ codes ")" → c ≡ before ++ (opened ++ inner ++ codes ")")
closed opened inner before a b c e f g = rw (g, f, e) (ap (λ w. w ++ codes ")") (append_assoc before opened inner) ∙ append_assoc before (opened ++ inner) (codes ")"))

-- one text behind another
pub followed : (front rest before a b : List ℕ) → a ≡ before ++ front → b ≡ a ++ rest → b ≡ before ++ (front ++ rest)
followed front rest before a b e f = rw (f, e) (append_assoc before front rest)
