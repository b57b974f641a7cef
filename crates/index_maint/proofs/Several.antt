-- Several indexes, each of whose writes stay within its own place.
use Rattle.std.proofs.Common.{◌≡◌, ℕ, ◌<◌, ◌≤◌, ◌^◌, arith, subst, true, List, [], ◌∷◌, ◌++◌, map, refl, sym, ap, ◌∙◌}
use Rattle.std.specs.Prelude.{nat_lt}
use Rattle.std.specs.FinMap.{get}
use Rattle.std.specs.List.{AllByRecursion, flat_map}
use Rattle.std.proofs.lemmas.Bool.{and_parts, ltb-true, leb-true}
use Rattle.tuple_codec.specs.Subspace.{BeginsWith}
use Rattle.kv_core.specs.Map.{Map, after_all}
use Rattle.kv_core.specs.declared.change.Mutation.{Mutation}
use Rattle.kv_core.proofs.Changes.{after_all-append}
use Rattle.metadata.specs.declared.index.IndexDefinition.{IndexDefinition}
use Rattle.metadata.specs.Lawful.{is_rising_upto}
use Rattle.index_maint.specs.Layout.{entries_prefix}
use Rattle.index_maint.proofs.Places.{indexes_apart}

-- the number is none of those of the indexes
abbrev pub IsNoneOf : ℕ → List IndexDefinition → Type 0
IsNoneOf number indexes = AllByRecursion (λ i. number ≡ i.number → ⊥) indexes

-- the numbers of indexes differ, and are ones of 64 bits
abbrev pub AreApart : List IndexDefinition → Type 0
AreApart [] = Unit {0}
AreApart (i ∷ indexes) = (i.number < 2 ^ 64) × IsNoneOf i.number indexes × AreApart indexes

-- numbers that rise up to one of 64 bits do so
none_above : (low high : ℕ) (number : ℕ) (indexes : List IndexDefinition) → number ≤ low → is_rising_upto low high (map (λ i. i.number) indexes) ≡ true → IsNoneOf number indexes
none_above low high number [] upto rising = tt
none_above low high number (i ∷ indexes) upto rising =
    let parts = and_parts (nat_lt low i.number) (is_rising_upto i.number high (map (λ i. i.number) indexes)) rising in
    let above = ltb-true low i.number parts.0 in
    (λ same. omega (arith, above, upto, same), none_above i.number high number indexes (omega (arith, above, upto)) parts.1)

rises_to : (low high : ℕ) (indexes : List IndexDefinition) → is_rising_upto low high (map (λ i. i.number) indexes) ≡ true → low ≤ high
rises_to low high [] rising = leb-true low high rising
rises_to low high (i ∷ indexes) rising =
    let parts = and_parts (nat_lt low i.number) (is_rising_upto i.number high (map (λ i. i.number) indexes)) rising in
    let above = ltb-true low i.number parts.0 in
    let rest = rises_to i.number high indexes parts.1 in
    omega (arith, above, rest)

pub rising_apart : (low high : ℕ) (indexes : List IndexDefinition) → high < 2 ^ 64 → is_rising_upto low high (map (λ i. i.number) indexes) ≡ true → AreApart indexes
rising_apart low high [] small rising = tt
rising_apart low high (i ∷ indexes) small rising =
    let parts = and_parts (nat_lt low i.number) (is_rising_upto i.number high (map (λ i. i.number) indexes)) rising in
    let upto = rises_to i.number high indexes parts.1 in
    (omega (arith, upto, small), none_above i.number high i.number indexes (omega arith) parts.1, rising_apart i.number high indexes small parts.1)

-- two maps are the same under the prefix of an index
abbrev pub SameUnder : List ℕ → IndexDefinition → Map → Map → Type 0
SameUnder prefix index m n = (bytes : List ℕ) → get m (entries_prefix prefix index.number ++ bytes) ≡ get n (entries_prefix prefix index.number ++ bytes)

-- mutations for each index, which leave what isn't under its prefix
module _ (prefix : List ℕ) (writes : IndexDefinition → List Mutation)
    (within : (index : IndexDefinition) (m : Map) (key : List ℕ) → (BeginsWith (entries_prefix prefix index.number) key → ⊥) → get (after_all (writes index) m) key ≡ get m key) where
  -- LEAVE: a key that is under no index's prefix is as before
  pub all_leave : (indexes : List IndexDefinition) (m : Map) (key : List ℕ) → AllByRecursion (λ i. BeginsWith (entries_prefix prefix i.number) key → ⊥) indexes →
      get (after_all (flat_map writes indexes) m) key ≡ get m key
  all_leave [] m key apart = refl
  all_leave (i ∷ indexes) m key apart =
      ap (λ n. get n key) (after_all-append (writes i) (flat_map writes indexes) m)
      ∙ all_leave indexes (after_all (writes i) m) key apart.1 ∙ within i m key apart.0

  -- the writes for one index leave the place of another
  one_leaves : (index other : IndexDefinition) (m : Map) → index.number < 2 ^ 64 → other.number < 2 ^ 64 → (index.number ≡ other.number → ⊥) → SameUnder prefix index (after_all (writes other) m) m
  one_leaves index other m low high differ bytes =
      within other m (entries_prefix prefix index.number ++ bytes)
      (λ inside. differ (indexes_apart prefix (entries_prefix prefix index.number ++ bytes) index.number other.number low high (bytes, refl) inside))

  others_leave : (index : IndexDefinition) (others : List IndexDefinition) (m : Map) → index.number < 2 ^ 64 → AreApart others → IsNoneOf index.number others →
      SameUnder prefix index (after_all (flat_map writes others) m) m
  others_leave index [] m low apart none bytes = refl
  others_leave index (other ∷ others) m low apart none bytes =
      ap (λ n. get n (entries_prefix prefix index.number ++ bytes)) (after_all-append (writes other) (flat_map writes others) m)
      ∙ others_leave index others (after_all (writes other) m) low apart.2 none.1 bytes ∙ one_leaves index other m low apart.0 none.0 bytes

  -- EACH: what each index's own writes bring about is brought about by all together
  module _ (Before After : IndexDefinition → Map → Type 0)
      (before_within : (index : IndexDefinition) (m n : Map) → SameUnder prefix index m n → Before index m → Before index n)
      (after_within : (index : IndexDefinition) (m n : Map) → SameUnder prefix index m n → After index m → After index n) where
    still : (index : IndexDefinition) (indexes : List IndexDefinition) (m : Map) → index.number < 2 ^ 64 → IsNoneOf index.number indexes → AreApart indexes →
        AllByRecursion (λ i. Before i m) indexes → AllByRecursion (λ i. Before i (after_all (writes index) m)) indexes
    still index [] m low none apart all = tt
    still index (i ∷ indexes) m low none apart all = (
      before_within i m (after_all (writes index) m) (λ bytes. sym (one_leaves i index m apart.0 low (λ same. none.0 (sym same)) bytes)) all.0,
      still index indexes m low none.1 apart.2 all.1,
    )

    pub each_follows : (indexes : List IndexDefinition) (m : Map) → AreApart indexes →
        AllByRecursion (λ i. (n : Map) → Before i n → After i (after_all (writes i) n)) indexes →
        AllByRecursion (λ i. Before i m) indexes → AllByRecursion (λ i. After i (after_all (flat_map writes indexes) m)) indexes
    each_follows [] m apart steps all = tt
    each_follows (i ∷ indexes) m apart steps all =
        let then = after_all (writes i) m in
        let last = after_all (flat_map writes indexes) then in
        let both : last ≡ after_all (writes i ++ flat_map writes indexes) m = sym (after_all-append (writes i) (flat_map writes indexes) m) in (
          after_within i then (after_all (writes i ++ flat_map writes indexes) m)
              (λ bytes. sym (others_leave i indexes then apart.0 apart.2 apart.1 bytes) ∙ ap (λ n. get n (entries_prefix prefix i.number ++ bytes)) both) (steps.0 m all.0),
          subst (λ n. AllByRecursion (λ j. After j n) indexes) both
              (each_follows indexes then apart.2 steps.1 (still i indexes m apart.0 apart.1 apart.2 all.1)),
        )
