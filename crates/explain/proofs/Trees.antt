-- Lines of a list, one item more at a time.
use Rattle.std.proofs.Common.{◌≡◌, ◌∙◌, ℕ, ◌+◌, ◌<◌, List, [], ◌∷◌, ◌++◌, length, get_or, take, map, flat_map, refl, ap, sym, add-one, append_assoc, arith}
use Rattle.std.proofs.Math.Seq.{take-suc}
use Rattle.std.proofs.lemmas.List.{append-nil, map-append}
use Rattle.metadata.specs.declared.definition.TypeDefinition.{TypeDefinition}
use Rattle.planner.specs.Plan.{Node}
use Rattle.planner.specs.Planned.{nodes_of}
use Rattle.explain.specs.Tree.{node_tree, nodes_tree}

-- one item more
pub lines_more : {A : Type 0} (text : A → List ℕ) (xs : List A) (x : A) → flat_map text (xs ++ x ∷ []) ≡ flat_map text xs ++ text x
lines_more text [] x = append-nil (text x)
lines_more text (y ∷ xs) x = ap (λ w. text y ++ w) (lines_more text xs x) ∙ sym (append_assoc (text y) (flat_map text xs) (text x))

-- items up to a place, and the one there
pub lines_to : {A B : Type 0} (see : A → B) (text : B → List ℕ) (xs : List A) (i : ℕ) (x : A) (before now after : List ℕ) → i < length xs → x ≡ get_or xs i x
    → now ≡ before ++ flat_map text (map see (take i xs)) → after ≡ now ++ text (see x) → after ≡ before ++ flat_map text (map see (take (i + 1) xs))
lines_to see text xs i x before now after h at e f =
    let front = map see (take i xs) in
    let one : map see (take (i + 1) xs) ≡ front ++ see x ∷ [] = rw (add-one, take-suc xs i x h, ← at, map-append see (take i xs) (x ∷ [])) refl in
    rw (one, lines_more text front (see x), f, e) (append_assoc before (flat_map text front) (text (see x)))

-- the trees of the steps of a list
pub trees_each : (t : TypeDefinition) (indent : List ℕ) (ns : List Node) → nodes_tree t indent (nodes_of ns) ≡ flat_map (node_tree t indent) ns
trees_each t indent [] = refl
trees_each t indent (n ∷ ns) = ap (λ w. node_tree t indent n ++ w) (trees_each t indent ns)
