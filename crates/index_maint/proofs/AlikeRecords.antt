-- What a map has of an index over records it has over others that no index tells apart from them.
use Rattle.std.proofs.Common.{◌≡◌, ℕ, ◌+◌, ◌%◌, ◌^◌, Bool, true, false, cond, ◌==◌, List, [], ◌∷◌, ◌++◌, map, Option, Some, None, refl, sym, ap, subst, ◌∙◌}
use Rattle.std.specs.FinMap.{from_entries, get}
use Rattle.std.specs.List.{filter, sum_by}
use Rattle.std.proofs.lemmas.List.Sums.{sum_by-cons}
use Rattle.kv_core.specs.Map.{Map}
use Rattle.kv_core.specs.Range.{KeyRange}
use Rattle.metadata.specs.declared.cells.Cell.{Cell}
use Rattle.metadata.specs.declared.index.IndexDefinition.{IndexDefinition}
use Rattle.metadata.specs.declared.index.IndexKind.{IndexKind}
use Rattle.metadata.specs.declared.index.IndexKind.TheVariants.{Value, Count, Sum}
use Rattle.metadata.specs.declared.index.State.{State}
use Rattle.metadata.specs.declared.index.State.TheVariants.{Readable, WriteOnly, Disabled}
use Rattle.metadata.specs.Cell.{cells_at}
use Rattle.metadata.specs.Record.{Record}
use Rattle.metadata.specs.Records.{of_type}
use Rattle.range_set.specs.Gaps.{has_position}
use Rattle.index_maint.specs.Built.{built_records, position, position_of}
use Rattle.index_maint.specs.Entries.{entry_of}
use Rattle.index_maint.specs.Kept.{HasDefined, HasPart}
use Rattle.index_maint.specs.KeptLaws.{AreAlike, AreAllAlike, KeptOfAlike}
use Rattle.index_maint.specs.Layout.{entries_prefix, entry_pair, entry_pairs}
use Rattle.index_maint.specs.Totals.{Clearing, HasTotals, IsTotal, Share, amount_of, count_clears, count_share, group_key, group_of, in_group, same_group, sum_clears, sum_share, summed_share}

-- ---- lists

filter_alike : (p : Record → Bool) → ((r s : Record) → AreAlike r s → p r ≡ p s) → (records others : List Record) → AreAllAlike records others → AreAllAlike (filter p records) (filter p others)
filter_alike p same [] [] all = tt
filter_alike p same [] (s ∷ others) all = absurd all
filter_alike p same (r ∷ records) [] all = absurd all
filter_alike p same (r ∷ records) (s ∷ others) all = by_test (p r) (p s) (same r s all.0) (filter_alike p same records others all.1)
  where
    by_test : (b c : Bool) → b ≡ c → AreAllAlike (filter p records) (filter p others) → AreAllAlike (cond b (r ∷ filter p records) (filter p records)) (cond c (s ∷ filter p others) (filter p others))
    by_test true true is rest = (all.0, rest)
    by_test true false is rest = absurd (cc)
    by_test false true is rest = absurd (cc)
    by_test false false is rest = rest

map_alike : {X : Type 0} (f : Record → X) → ((r s : Record) → AreAlike r s → f r ≡ f s) → (records others : List Record) → AreAllAlike records others → map f records ≡ map f others
map_alike f same [] [] all = refl
map_alike f same [] (s ∷ others) all = absurd all
map_alike f same (r ∷ records) [] all = absurd all
map_alike f same (r ∷ records) (s ∷ others) all = λ i. same r s all.0 i ∷ map_alike f same records others all.1 i

sum_alike : (f : Record → ℕ) → ((r s : Record) → AreAlike r s → f r ≡ f s) → (records others : List Record) → AreAllAlike records others → sum_by f records ≡ sum_by f others
sum_alike f same [] [] all = refl
sum_alike f same [] (s ∷ others) all = absurd all
sum_alike f same (r ∷ records) [] all = absurd all
sum_alike f same (r ∷ records) (s ∷ others) all =
    sum_by-cons f r records ∙ (λ i. same r s all.0 i + sum_alike f same records others all.1 i) ∙ sym (sum_by-cons f s others)

none_alike : (records others : List Record) → AreAllAlike records others → others ≡ [] → records ≡ []
none_alike [] others all none = refl
none_alike (r ∷ records) [] all none = absurd all
none_alike (r ∷ records) (s ∷ others) all none = absurd (cc)

-- ---- records

columns_alike : (r s : Record) (places : List ℕ) → AreAlike r s → cells_at r.cells places ≡ cells_at s.cells places
columns_alike r s [] alike = refl
columns_alike r s (place ∷ places) alike = λ i. alike.cells place i ∷ columns_alike r s places alike i

entry_alike : (index : IndexDefinition) (r s : Record) → AreAlike r s → entry_of index r ≡ entry_of index s
entry_alike index r s alike = λ i. record { columns = columns_alike r s index.columns alike i; key = alike.key i }

of_type_alike : (number : ℕ) (records others : List Record) → AreAllAlike records others → AreAllAlike (of_type number records) (of_type number others)
of_type_alike number = filter_alike (λ r. r.definition.number == number) (λ r s alike. ap (λ n. n == number) alike.number)

built_alike : (built : List KeyRange) (records others : List Record) → AreAllAlike records others → AreAllAlike (built_records built records) (built_records built others)
built_alike built = filter_alike (λ r. has_position built (position r)) (λ r s alike. ap (λ key. has_position built (position_of key)) alike.key)

-- ---- entries

abbrev map_of : List (List ℕ × List ℕ) → Map
map_of pairs = from_entries pairs

entries_alike : (prefix : List ℕ) (index : IndexDefinition) (records others : List Record) → AreAllAlike records others → entry_pairs prefix index records ≡ entry_pairs prefix index others
entries_alike prefix index records others all =
    ap (map (entry_pair prefix index.number))
    (map_alike (entry_of index) (entry_alike index) (of_type index.type_number records) (of_type index.type_number others) (of_type_alike index.type_number records others all))

-- ---- totals

-- what records that are alike count is the same
abbrev CountsAlike : Share → Type 0
CountsAlike share = (index : IndexDefinition) (r s : Record) → AreAlike r s → share index r ≡ share index s

count_alike : CountsAlike count_share
count_alike index r s alike = refl

sum_share_alike : CountsAlike sum_share
sum_share_alike index r s alike = by_place index.summed
  where
    by_place : (summed : Option ℕ) → summed_share summed r ≡ summed_share summed s
    by_place None = refl
    by_place (Some place) = ap amount_of (alike.cells place)

group_alike : (index : IndexDefinition) (group : List Cell) (records others : List Record) → AreAllAlike records others → AreAllAlike (in_group index group records) (in_group index group others)
group_alike index group records others all =
    filter_alike (λ r. same_group group (group_of index r)) (λ r s alike. ap (same_group group) (columns_alike r s index.columns alike)) (of_type index.type_number records) (of_type index.type_number others)
    (of_type_alike index.type_number records others all)

totals_alike : (share : Share) (clears : Clearing) → CountsAlike share → (prefix : List ℕ) (index : IndexDefinition) (records others : List Record) (m : Map) → AreAllAlike records others →
    HasTotals share clears prefix index records m → HasTotals share clears prefix index others m
totals_alike share clears same prefix index records others m all has = record {
  totals = λ group cells.
      subst (λ n. IsTotal (get m (group_key prefix index.number group)) (n % 2 ^ 64))
      (sum_alike (share index) (same index) (in_group index group records) (in_group index group others) (group_alike index group records others all)) (has.totals group cells);
  groups = has.groups;
  cleared = λ clear group cells empty.
      has.cleared clear group cells (none_alike (in_group index group records) (in_group index group others) (group_alike index group records others all) empty);
}

-- ---- by kind and state

defined_alike : (kind : IndexKind) (prefix : List ℕ) (index : IndexDefinition) (records others : List Record) (m : Map) → AreAllAlike records others → HasDefined kind prefix index records m → HasDefined kind prefix index others m
defined_alike Value prefix index records others m all has = λ bytes. has bytes ∙ ap (λ pairs. get (map_of pairs) (entries_prefix prefix index.number ++ bytes)) (entries_alike prefix index records others all)
defined_alike Count prefix index records others m all has = totals_alike count_share count_clears count_alike prefix index records others m all has
defined_alike Sum prefix index records others m all has = totals_alike sum_share sum_clears sum_share_alike prefix index records others m all has

part_alike : (kind : IndexKind) (prefix : List ℕ) (index : IndexDefinition) (built : List KeyRange) (records others : List Record) (m : Map) → AreAllAlike records others →
    HasPart kind prefix index built records m → HasPart kind prefix index built others m
part_alike Value prefix index built records others m all has = record {
  only = λ rest value is.
      ap (λ pairs. get (map_of pairs) (entries_prefix prefix index.number ++ rest)) (sym (entries_alike prefix index records others all)) ∙ has.only rest value is;
  at_built = λ rest value is.
      has.at_built rest value
      (ap (λ pairs. get (map_of pairs) (entries_prefix prefix index.number ++ rest)) (entries_alike prefix index (built_records built records) (built_records built others) (built_alike built records others all)) ∙ is);
}
part_alike Count prefix index built records others m all has = totals_alike count_share count_clears count_alike prefix index (built_records built records) (built_records built others) m (built_alike built records others all) has
part_alike Sum prefix index built records others m all has = totals_alike sum_share sum_clears sum_share_alike prefix index (built_records built records) (built_records built others) m (built_alike built records others all) has

-- LAW: what is had of records is had of others that are alike
pub kept_of_alike : KeptOfAlike
kept_of_alike Readable prefix index built records others m all has = defined_alike index.kind prefix index records others m all has
kept_of_alike WriteOnly prefix index built records others m all has = part_alike index.kind prefix index built records others m all has
kept_of_alike Disabled prefix index built records others m all has = has
