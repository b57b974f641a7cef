-- Items that are read one after another.
use Rattle.std.proofs.Common.{◌≡◌, List, [], ◌∷◌, ◌++◌, Option, Some, None, refl, ap, ◌∙◌}
use Rattle.std.specs.Option.{option_map, option_and_then}
use Rattle.tuple_codec.specs.Item.{Item}
use Rattle.metadata.specs.Reading.{all_read}

swapped : {X : Type 0} (one x : X) (found : Option (List X)) → option_map (λ ys. one ∷ ys) (option_map (λ ys. ys ++ x ∷ []) found) ≡ option_map (λ ys. ys ++ x ∷ []) (option_map (λ ys. one ∷ ys) found)
swapped one x None = refl
swapped one x (Some ys) = refl

behind : {X : Type 0} (found : Option X) (x : X) (more before : Option (List X)) → more ≡ option_map (λ ys. ys ++ x ∷ []) before
    → option_and_then (λ y. option_map (λ ys. y ∷ ys) more) found ≡ option_map (λ ys. ys ++ x ∷ []) (option_and_then (λ y. option_map (λ ys. y ∷ ys) before) found)
behind None x more before is = refl
behind (Some one) x more before is = ap (option_map (λ ys. one ∷ ys)) is ∙ swapped one x before

pushed : {X : Type 0} (read : Item → Option X) (items : List Item) (one : Item) (x : X)
    → read one ≡ Some x → all_read read (items ++ one ∷ []) ≡ option_map (λ ys. ys ++ x ∷ []) (all_read read items)
pushed read [] one x is = ap (option_and_then (λ y. option_map (λ ys. y ∷ ys) (Some []))) is
pushed read (first ∷ items) one x is = behind (read first) x (all_read read (items ++ one ∷ [])) (all_read read items) (pushed read items one x is)

-- one more item is read
pub all_read-more : {X : Type 0} (read : Item → Option X) (items : List Item) (one : Item) (xs : List X) (x : X)
    → all_read read items ≡ Some xs → read one ≡ Some x → all_read read (items ++ one ∷ []) ≡ Some (xs ++ x ∷ [])
all_read-more read items one xs x before is = pushed read items one x is ∙ ap (option_map (λ ys. ys ++ x ∷ [])) before
