-- Every filter has a node, and parts have their nodes together.
use Rattle.std.specs.Prelude.{◌≡◌, ◌+◌, ◌-◌, ◌<◌, ◌≤◌, take, drop, slice_index_or, length, All, List, [], ◌∷◌, ◌++◌, flat_map, refl, Option, Some, None}
use Rattle.std.specs.Option.{option_or}
use Rattle.std.proofs.lemmas.Grind.{flat_map-append}
use Rattle.std.proofs.lemmas.List.Elements.{All-append}
use Rattle.std.proofs.Common.{arith, length-append, subst, sym, ap, ◌∙◌}
use Rattle.std.proofs.Math.Seq.{take-length}
use Rattle.metadata.specs.Cell.{IsCell}
use Rattle.query.specs.Checked.{first_query_refusal}
use Rattle.query.specs.declared.error.QueryError.{QueryError}
use Rattle.query.specs.Filter.{Filter, compare, null_field, starts, all_of, some_of, negation, Filters, filter, nodes, nodes_of, leaf_values}

pub has_nodes : (f : Filter) → 0 < length (nodes f)
has_nodes (compare n o v) = omega arith
has_nodes (null_field n) = omega arith
has_nodes (starts n p) = omega arith
has_nodes (all_of fs) = omega arith
has_nodes (some_of fs) = omega arith
has_nodes (negation f) = omega arith

pub length_nodes_of : (f : Filter) (fs : Filters) → length (nodes_of (filter f fs)) ≡ length (nodes f) + length (nodes_of fs)
length_nodes_of f fs = length-append (nodes f) (nodes_of fs)

-- the first refusal among several lists
pub first_refusal_append : {A : Type 0} (why : A → Option QueryError) (xs ys : List A) → first_query_refusal why (xs ++ ys) ≡ option_or (first_query_refusal why xs) (first_query_refusal why ys)
first_refusal_append why [] ys = refl
first_refusal_append why (x ∷ xs) ys = by (why x) (first_refusal_append why xs ys)
  where
    by : (o : Option QueryError) → first_query_refusal why (xs ++ ys) ≡ option_or (first_query_refusal why xs) (first_query_refusal why ys) → option_or o (first_query_refusal why (xs ++ ys)) ≡ option_or (option_or o (first_query_refusal why xs)) (first_query_refusal why ys)
    by None e = e
    by (Some x) e = refl

-- the values of parts
pub values_parts : (f : Filter) (fs : Filters) → All IsCell (flat_map leaf_values (nodes f)) → All IsCell (flat_map leaf_values (nodes_of fs)) → All IsCell (flat_map leaf_values (nodes_of (filter f fs)))
values_parts f fs a b = subst (All IsCell) (sym (flat_map-append leaf_values (nodes f) (nodes_of fs))) (All-append IsCell (flat_map leaf_values (nodes f)) (flat_map leaf_values (nodes_of fs)) a b)

-- a list that isn't empty, as a slice's pattern takes it apart
pub first_and_rest : {A : Type 0} (xs : List A) (d : A) → 1 ≤ length xs → xs ≡ slice_index_or xs 0 d ∷ take (length xs - 1) (drop 1 xs)
first_and_rest [] d l = absurd (omega (arith, l))
first_and_rest (x ∷ xs) d l = ap (λ w. x ∷ w) (sym (take-length xs) ∙ ap (λ n. take n xs) same)
  where
    same : length xs ≡ length (x ∷ xs) - 1
    same = omega arith

-- where the first of several filters isn't refused, the others are
pub parts_step : (why : Filter → Option QueryError) (f : Filter) (fs all : Filters) → all ≡ filter f fs → (r : Option QueryError) → first_query_refusal why (nodes f) ≡ None → r ≡ first_query_refusal why (nodes_of fs) → r ≡ first_query_refusal why (nodes_of all)
parts_step why f fs all is_all r none rest =
    rest ∙ ap (λ o. option_or o (first_query_refusal why (nodes_of fs))) (sym none) ∙ sym (first_refusal_append why (nodes f) (nodes_of fs)) ∙ ap (λ w. first_query_refusal why (nodes_of w)) (sym is_all)
