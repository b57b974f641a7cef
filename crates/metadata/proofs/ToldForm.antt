-- Whether a tuple is the written form of a schema, told element by element.
use Rattle.std.proofs.Common.{◌≡◌, Bool, ◌&&◌, List, [], ◌∷◌, ◌++◌, Some, refl, sym, ap, ◌∙◌}
use Rattle.std.proofs.lemmas.Bool.Decides.{Decides-and, Decides-like}
use Rattle.std.specs.Bool.{Decides}
use Rattle.tuple_codec.specs.Item.{Item, Items, items_from, items_list, no_items}
use Rattle.tuple_codec.specs.Item as item
use Rattle.metadata.specs.Reading.{tuple_of}
use Rattle.metadata.specs.Written.{nested_item}
use Rattle.metadata.proofs.ReadBack.{listed-items_of}

items_of-listed : (items : Items) → items_from (items_list items) ≡ items
items_of-listed no_items = refl
items_of-listed (item.item one items) = ap (item.item one) (items_of-listed items)

-- an item that is a nested tuple
tuple_is : (one : Item) (parts : List Item) → tuple_of one ≡ Some parts → one ≡ nested_item parts
tuple_is (item.nested items) parts is = let same : items_list items ≡ parts = cc in sym (ap item.nested (items_of-listed items)) ∙ ap nested_item same
tuple_is item.null parts is = absurd (cc)
tuple_is (item.bytes s) parts is = absurd (cc)
tuple_is (item.text s) parts is = absurd (cc)
tuple_is (item.int z) parts is = absurd (cc)
tuple_is (item.bool b) parts is = absurd (cc)
tuple_is (item.uuid u) parts is = absurd (cc)
tuple_is (item.stamp v) parts is = absurd (cc)

-- what is told of its items is told of it
pub nested_told : (one : Item) (parts items : List Item) (told : Bool) → tuple_of one ≡ Some parts → Decides told (parts ≡ items) → Decides told (one ≡ nested_item items)
nested_told one parts items told is tells = (
  λ yes. tuple_is one parts is ∙ ap nested_item (tells.0 yes),
  λ same. tells.1 (let again : Some parts ≡ Some items = sym is ∙ ap tuple_of same ∙ ap Some (listed-items_of items) in cc),
)

empty_push : (zs : List Item) (z : Item) → [] ≡ zs ++ z ∷ [] → ⊥
empty_push [] z e = cc
empty_push (w ∷ zs) z e = cc

-- lists with one more are the same where the first elements are and the last ones are
pub pushed_same : (xs ys : List Item) (x y : Item) → xs ++ x ∷ [] ≡ ys ++ y ∷ [] → (xs ≡ ys) × (x ≡ y)
pushed_same [] [] x y e = (refl, cc)
pushed_same [] (b ∷ ys) x y e = let rest : [] ≡ ys ++ y ∷ [] = cc in absurd (empty_push ys y rest)
pushed_same (a ∷ xs) [] x y e = let rest : [] ≡ xs ++ x ∷ [] = cc in absurd (empty_push xs x rest)
pushed_same (a ∷ xs) (b ∷ ys) x y e =
    let rest : xs ++ x ∷ [] ≡ ys ++ y ∷ [] = cc in
    let first : a ≡ b = cc in
    let both = pushed_same xs ys x y rest in
    ((λ i. first i ∷ both.0 i), both.1)

-- what is told of the first items and of the last one is told of all of them
pub pushed_told : (xs ys : List Item) (x y : Item) (front last : Bool) → Decides front (xs ≡ ys) → Decides last (x ≡ y) → Decides (front && last) (xs ++ x ∷ [] ≡ ys ++ y ∷ [])
pushed_told xs ys x y front last fronts lasts =
    Decides-like (front && last) (λ both i. both.0 i ++ both.1 i ∷ []) (λ e. pushed_same xs ys x y e) (Decides-and front last fronts lasts)
