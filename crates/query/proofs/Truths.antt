-- The truth of a filter by its conjuncts.
use Rattle.std.specs.Prelude.{◌≡◌, Bool, true, false, ◌&&◌, ◌||◌, List, [], ◌∷◌, refl}
use Rattle.std.specs.List.{list_all, list_any}
use Rattle.std.proofs.Common.{ap, sym, ◌∙◌}
use Rattle.std.proofs.lemmas.List.Folds.{list_all-append}
use Rattle.metadata.specs.Record.{Record}
use Rattle.query.specs.declared.filter.Truth.{Truth}
use Rattle.query.specs.declared.filter.Truth.TheVariants.{True, False, Unknown}
use Rattle.query.specs.Filter.{Filter, compare, null_field, starts, all_of, some_of, negation, Filters, no_filters, filter, parts, filters_of, conjuncts, conjuncts_of}
use Rattle.query.specs.Truth.{truth, truth_of_all, truth_of_some, both, either, is_true, selects}

-- an `and` is true where both are
pub is_true-both : (p q : Truth) → is_true (both p q) ≡ (is_true p && is_true q)
is_true-both True q = refl
is_true-both False q = refl
is_true-both Unknown True = refl
is_true-both Unknown False = refl
is_true-both Unknown Unknown = refl

-- an `or` is true where one is
pub is_true-either : (p q : Truth) → is_true (either p q) ≡ (is_true p || is_true q)
is_true-either True q = refl
is_true-either False q = refl
is_true-either Unknown True = refl
is_true-either Unknown False = refl
is_true-either Unknown Unknown = refl

-- an `or` selects a record where one of its parts does
pub selects-some_of : (fs : Filters) (r : Record) → is_true (truth_of_some fs r) ≡ list_any (λ g. selects g r) (parts fs)
selects-some_of no_filters r = refl
selects-some_of (filter f fs) r = is_true-either (truth f r) (truth_of_some fs r) ∙ ap (λ t. selects f r || t) (selects-some_of fs r)

one : (b : Bool) → b ≡ (b && true)
one true = refl
one false = refl

mutual
  -- a filter selects a record where each of its conjuncts does
  pub selects-conjuncts : (f : Filter) (r : Record) → selects f r ≡ list_all (λ g. selects g r) (conjuncts f)
  selects-conjuncts (compare n o v) r = one (selects (compare n o v) r)
  selects-conjuncts (null_field n) r = one (selects (null_field n) r)
  selects-conjuncts (starts n p) r = one (selects (starts n p) r)
  selects-conjuncts (all_of fs) r = selects-conjuncts_of fs r
  selects-conjuncts (some_of fs) r = one (selects (some_of fs) r)
  selects-conjuncts (negation f) r = one (selects (negation f) r)

  pub selects-conjuncts_of : (fs : Filters) (r : Record) → is_true (truth_of_all fs r) ≡ list_all (λ g. selects g r) (conjuncts_of fs)
  selects-conjuncts_of no_filters r = refl
  selects-conjuncts_of (filter f fs) r =
      is_true-both (truth f r) (truth_of_all fs r)
      ∙ (λ i. selects-conjuncts f r i && selects-conjuncts_of fs r i)
      ∙ sym (list_all-append (λ g. selects g r) (conjuncts f) (conjuncts_of fs))

-- an `and` of a list selects a record where each of the list does
pub selects-all_of : (fs : List Filter) (r : Record) → selects (all_of (filters_of fs)) r ≡ list_all (λ g. selects g r) fs
selects-all_of [] r = refl
selects-all_of (f ∷ fs) r = is_true-both (truth f r) (truth_of_all (filters_of fs) r) ∙ ap (λ t. selects f r && t) (selects-all_of fs r)
