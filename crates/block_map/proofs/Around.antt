-- Edits of entries by a key, where the key belongs to one of two parts.
use Rattle.std.proofs.Common.{◌≡◌, Bool, true, false, cond, Ordering, Less, Equal, Greater, List, [], ◌∷◌, ◌++◌, Some, refl, ap, ◌∙◌}
use Rattle.std.specs.BTreeMap.{insert_entry}
use Rattle.std.specs.List.{AllByRecursion}
use Rattle.std.specs.Map.{lookup, remove_entry, set_value}
use Rattle.std.specs.Ordering.{match_ordering}
use Rattle.std_collections.proofs.Entries.{NonePasses, lookup-none, remove_entry_none, set_value_none}

module _ {K X : Type 0} where
  module _ (test : K → Bool) where
    -- what no key of one part passes is done in the other one
    pub lookup-left : (xs ys : List (K × X)) → NonePasses test ys → lookup test (xs ++ ys) ≡ lookup test xs
    lookup-left [] ys none = lookup-none test ys none
    lookup-left (x ∷ xs) ys none = ap (cond (test x.0) (Some x.1)) (lookup-left xs ys none)

    pub lookup-right : (xs ys : List (K × X)) → NonePasses test xs → lookup test (xs ++ ys) ≡ lookup test ys
    lookup-right [] ys none = refl
    lookup-right (x ∷ xs) ys none = ap (λ b. cond b (Some x.1) (lookup test (xs ++ ys))) none.0 ∙ lookup-right xs ys none.1

    pub remove_entry-left : (xs ys : List (K × X)) → NonePasses test ys → remove_entry test (xs ++ ys) ≡ remove_entry test xs ++ ys
    remove_entry-left [] ys none = remove_entry_none test ys none
    remove_entry-left (x ∷ xs) ys none = elim (test x.0) as (λ b. cond b (xs ++ ys) (x ∷ remove_entry test (xs ++ ys)) ≡ cond b xs (x ∷ remove_entry test xs) ++ ys) [
      | true ↦ refl
      | false ↦ ap (λ l. x ∷ l) (remove_entry-left xs ys none)
    ]

    pub remove_entry-right : (xs ys : List (K × X)) → NonePasses test xs → remove_entry test (xs ++ ys) ≡ xs ++ remove_entry test ys
    remove_entry-right [] ys none = refl
    remove_entry-right (x ∷ xs) ys none = ap (λ b. cond b (xs ++ ys) (x ∷ remove_entry test (xs ++ ys))) none.0 ∙ ap (λ l. x ∷ l) (remove_entry-right xs ys none.1)

    pub set_value-left : (w : X) (xs ys : List (K × X)) → NonePasses test ys → set_value test (xs ++ ys) w ≡ set_value test xs w ++ ys
    set_value-left w [] ys none = set_value_none test ys w none
    set_value-left w (x ∷ xs) ys none = elim (test x.0) as (λ b. cond b ((x.0, w) ∷ (xs ++ ys)) (x ∷ set_value test (xs ++ ys) w) ≡ cond b ((x.0, w) ∷ xs) (x ∷ set_value test xs w) ++ ys) [
      | true ↦ refl
      | false ↦ ap (λ l. x ∷ l) (set_value-left w xs ys none)
    ]

    pub set_value-right : (w : X) (xs ys : List (K × X)) → NonePasses test xs → set_value test (xs ++ ys) w ≡ xs ++ set_value test ys w
    set_value-right w [] ys none = refl
    set_value-right w (x ∷ xs) ys none = ap (λ b. cond b ((x.0, w) ∷ (xs ++ ys)) (x ∷ set_value test (xs ++ ys) w)) none.0 ∙ ap (λ l. x ∷ l) (set_value-right w xs ys none.1)

  module _ (cmp : K → K → Ordering) (k : K) (v : X) where
    -- an entry goes before those that are greater
    pub insert_entry-left : (xs ys : List (K × X)) → AllByRecursion (λ e. cmp k e.0 ≡ Less) ys → insert_entry cmp (xs ++ ys) k v ≡ insert_entry cmp xs k v ++ ys
    insert_entry-left [] [] after = refl
    insert_entry-left [] (y ∷ ys) after = ap (λ r. match_ordering r ((k, v) ∷ y ∷ ys) ((y.0, v) ∷ ys) (y ∷ insert_entry cmp ys k v)) after.0
    insert_entry-left (x ∷ xs) ys after = elim (cmp k x.0) as (λ r. match_ordering r ((k, v) ∷ x ∷ (xs ++ ys)) ((x.0, v) ∷ (xs ++ ys)) (x ∷ insert_entry cmp (xs ++ ys) k v) ≡ match_ordering r ((k, v) ∷ x ∷ xs) ((x.0, v) ∷ xs) (x ∷ insert_entry cmp xs k v) ++ ys) [
      | Less ↦ refl
      | Equal ↦ refl
      | Greater ↦ ap (λ l. x ∷ l) (insert_entry-left xs ys after)
    ]

    -- and behind those that are less
    pub insert_entry-right : (xs ys : List (K × X)) → AllByRecursion (λ e. cmp k e.0 ≡ Greater) xs → insert_entry cmp (xs ++ ys) k v ≡ xs ++ insert_entry cmp ys k v
    insert_entry-right [] ys before = refl
    insert_entry-right (x ∷ xs) ys before =
        ap (λ r. match_ordering r ((k, v) ∷ x ∷ (xs ++ ys)) ((x.0, v) ∷ (xs ++ ys)) (x ∷ insert_entry cmp (xs ++ ys) k v)) before.0
        ∙ ap (λ l. x ∷ l) (insert_entry-right xs ys before.1)
