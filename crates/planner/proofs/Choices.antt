-- Which paths a plan scans: the longest match, and a full record scan only where nothing matches.
use Rattle.std.specs.Prelude.{◌≡◌, ℕ, suc, ◌+◌, Bool, true, false, cond, ◌&&◌, ◌||◌, ◌⊎◌, nat_lt, List, [], ◌∷◌, ◌++◌, length, map, filter, fold, refl, Option, Some, None, is_some, option_map, unwrap_or, if◌then◌else◌, bytes_eq}
use Rattle.std.specs.List.{list_all, list_any}
use Rattle.std.proofs.Common.{ap, sym, ◌∙◌, subst, arith, append_assoc, inl, inr}
use Rattle.std.proofs.lemmas.List.Folds.{list_any-append}
use Rattle.std.proofs.lemmas.Option.{none-some, same_Some}
use Rattle.std.proofs.lemmas.List.{append-nil}
use Rattle.std.proofs.lemmas.Bool.{cases_lt}
use Rattle.std.proofs.lemmas.Slice.Eq.{bytes_eq-Decides}
use Rattle.std.specs.Cmp.{first_so, second_so}
use Rattle.std.specs.Ordering.{is_lt}
use Rattle.metadata.specs.declared.cells.Cell.{Cell}
use Rattle.metadata.specs.declared.cells.Cell.TheVariants.{Null, Int, Text, Bytes}
use Rattle.metadata.specs.declared.index.IndexDefinition.{IndexDefinition}
use Rattle.metadata.specs.declared.definition.TypeDefinition.{TypeDefinition}
use Rattle.tuple_codec.specs.Order.{bytes_cmp}
use Rattle.planner.specs.Pack.{pack, pack_cell}
use Rattle.query.specs.Filter.{Filter, compare, null_field, starts, all_of, some_of, negation, Filters, no_filters, filter as part, parts, conjuncts, conjuncts_of, nodes}
use Rattle.query.specs.Query.{Query}
use Rattle.planner.specs.Range.{Bound, above, from, below, up_to, prefixed, begin_of, later_key, bounded}
use Rattle.planner.specs.Match.{Path, primary, along, path_number, Conjunct, numbered_filters, Match, match_of, name_at}
use Rattle.planner.specs.Match.{columns, used, match_reach, is_longer, serves, paths, others}
use Rattle.planner.specs.Plan.{Node, fetch, intersection, union, unordered_union, distinct}
use Rattle.planner.specs.Scanned.{PathScan, along_index, scans_of, scans_of_all, is_primary, is_full, scans_all}
use Rattle.planner.specs.Planned.{matched_range, index_scan, path_scan, residual, Matched, longer_of, longest, matched_paths, sorted_plan, fixes_all, joining, Draft, other_than, index_draft, path_draft, single_plan, nodes_of, union_of, is_empty, union_plan, only_union_plan, part_plans, unsorted_plan, planned}
use Rattle.planner.specs.Choice.{IsLongest, matched_scan, alternatives, ScansServing, ScansLongest, HasNoMatch, HasFullPart, HasUnion, IsChosen}
use Rattle.planner.proofs.Ranges.{PackLaws, Each, IsUsable, IsNonEmpty}
use Rattle.metadata.specs.Order.{is_string, open_pack}
use Rattle.planner.proofs.Residual.{HasValue, each_map}
use Rattle.planner.proofs.Paths.{match_stored}
use Rattle.planner.proofs.Unsorted.{conjuncts_checked, numbered_checked}
use Rattle.planner.proofs.Lists.{each_all, all_each}
use Rattle.planner.proofs.LongestMatch.{not_both, is_said, longest_path}

-- ---- scans

residual_scans : (cs : List Conjunct) (n : Node) → scans_of (residual cs n) ≡ scans_of n
residual_scans [] n = refl
residual_scans (c ∷ []) n = refl
residual_scans (c ∷ d ∷ cs) n = refl

path_scans : (p : Path) (m : Match) (reversed : Bool) → scans_of (path_scan p m reversed) ≡ record { path = p; range = matched_range m; reverse = reversed } ∷ []
path_scans primary m reversed = refl
path_scans (along i) m reversed = refl

-- ---- sorts

module _ (t : TypeDefinition) (indexes : List IndexDefinition) where
  some_longest : (cs : List Conjunct) (f : Matched → Node) (test : Path → Bool) (ps : List Path) → is_some (option_map f (longest (matched_paths t cs (filter test ps)))) ≡ list_any test ps
  some_longest cs f test [] = refl
  some_longest cs f test (p ∷ ps) = by (test p) (some_longest cs f test ps)
    where
      by : (b : Bool) → is_some (option_map f (longest (matched_paths t cs (filter test ps)))) ≡ list_any test ps →
          is_some (option_map f (longest (matched_paths t cs (cond b (p ∷ filter test ps) (filter test ps))))) ≡ (b || list_any test ps)
      by true e = refl
      by false e = e

  -- there is a plan exactly without a sort, or where a path serves it
  pub planned_served : (q : Query) → is_some (planned t indexes q) ≡ (is_empty q.sort || list_any (serves t (numbered_filters (conjuncts q.filter)) q.sort) (paths indexes))
  planned_served q = by (is_empty q.sort)
    where
      cs : List Conjunct
      cs = numbered_filters (conjuncts q.filter)

      by : (b : Bool) → is_some (if b then Some (unsorted_plan t indexes q.filter).root else sorted_plan t indexes (numbered_filters (conjuncts q.filter)) q.sort q.reverse) ≡ (b || list_any (serves t (numbered_filters (conjuncts q.filter)) q.sort) (paths indexes))
      by true = refl
      by false = some_longest cs (λ p. residual (others (used p.1) cs) (path_scan p.0 p.1 q.reverse)) (serves t cs q.sort) (paths indexes)

  -- a plan for a sort scans the serving path of the longest match
  pub sorted_scans : (q : Query) (root : Node) → is_empty q.sort ≡ false → planned t indexes q ≡ Some root → ScansServing t indexes q root
  sorted_scans q root e h = by (filter (serves t cs q.sort) (paths indexes)) refl (sym (ap (λ b. if b then Some (unsorted_plan t indexes q.filter).root else sorted_plan t indexes cs q.sort q.reverse) e) ∙ h)
    where
      cs : List Conjunct
      cs = numbered_filters (conjuncts q.filter)

      by : (ps : List Path) → filter (serves t (numbered_filters (conjuncts q.filter)) q.sort) (paths indexes) ≡ ps →
          option_map (λ p. residual (others (used p.1) cs) (path_scan p.0 p.1 q.reverse)) (longest (matched_paths t (numbered_filters (conjuncts q.filter)) ps)) ≡ Some root → ScansServing t indexes q root
      by [] same k = absurd (none-some root k)
      by (p ∷ ps) same k =
          let b : Matched = fold longer_of (p, match_of t cs p) (matched_paths t cs ps) in
          let l : (b.1 ≡ match_of t cs b.0) × IsLongest t cs (p ∷ ps) b.0 = longest_path t cs p ps in
          record {
            path = b.0;
            longest = subst (λ w. IsLongest t cs w b.0) (sym same) l.1;
            scans = sym (ap scans_of (same_Some (residual (others (used b.1) cs) (path_scan b.0 b.1 q.reverse)) root k))
                ∙ residual_scans (others (used b.1) cs) (path_scan b.0 b.1 q.reverse) ∙ path_scans b.0 b.1 q.reverse
                ∙ ap (λ m. record { path = b.0; range = matched_range m; reverse = q.reverse } ∷ []) l.0;
          }

-- ---- alternatives

two_none : (f g : Filter) (fs : List Filter) → alternatives (f ∷ g ∷ fs) ≡ None
two_none (compare n o v) g fs = refl
two_none (null_field n) g fs = refl
two_none (starts n v) g fs = refl
two_none (all_of hs) g fs = refl
two_none (some_of hs) g fs = refl
two_none (negation h) g fs = refl

behind_none : (f : Filter) (xs : List Filter) (g : Filter) (ys : List Filter) → alternatives (f ∷ (xs ++ g ∷ ys)) ≡ None
behind_none f [] g ys = two_none f g ys
behind_none f (x ∷ xs) g ys = two_none f x (xs ++ g ∷ ys)

module _ (t : TypeDefinition) (indexes : List IndexDefinition) where
  -- the plan of alternatives, each planned as a filter of its own
  abbrev pub alternatives_plan : Option (List Filter) → Option Draft
  alternatives_plan None = None
  alternatives_plan (Some gs) = union_of (map (unsorted_plan t indexes) gs)

  parts_are : (fs : Filters) → part_plans t indexes fs ≡ map (unsorted_plan t indexes) (parts fs)
  parts_are no_filters = refl
  parts_are (part f fs) = ap (λ ds. unsorted_plan t indexes f ∷ ds) (parts_are fs)

  by_conjuncts : (only own : Option Draft) (xs ys : List Filter) → only ≡ alternatives_plan (alternatives ys) → own ≡ alternatives_plan (alternatives xs) →
      (if is_empty xs then only else if is_empty ys then own else None) ≡ alternatives_plan (alternatives (xs ++ ys))
  by_conjuncts only own [] ys a b = a
  by_conjuncts only own (x ∷ xs) [] a b = b ∙ ap (λ w. alternatives_plan (alternatives (x ∷ w))) (sym (append-nil xs))
  by_conjuncts only own (x ∷ xs) (y ∷ ys) a b = sym (ap alternatives_plan (behind_none x xs y ys))

  mutual
    -- the union is planned for an `or` of two or more parts as the only conjunct
    pub union_is : (f : Filter) → union_plan t indexes f ≡ alternatives_plan (alternatives (conjuncts f))
    union_is (compare n o v) = refl
    union_is (null_field n) = refl
    union_is (starts n v) = refl
    union_is (all_of fs) = only_union_is fs
    union_is (some_of fs) = by (nat_lt 1 (length (parts fs))) (parts_are fs)
      where
        by : (b : Bool) → part_plans t indexes fs ≡ map (unsorted_plan t indexes) (parts fs) → (if b then union_of (part_plans t indexes fs) else None) ≡ alternatives_plan (if b then Some (parts fs) else None)
        by true e = ap union_of e
        by false e = refl
    union_is (negation f) = refl

    only_union_is : (fs : Filters) → only_union_plan t indexes fs ≡ alternatives_plan (alternatives (conjuncts_of fs))
    only_union_is no_filters = refl
    only_union_is (part f fs) = by_conjuncts (only_union_plan t indexes fs) (union_plan t indexes f) (conjuncts f) (conjuncts_of fs) (only_union_is fs) (union_is f)

  -- ---- what single plans scan

  none_full : (ks : List (IndexDefinition × Match)) → list_any is_full (map along_index (map (λ k. index_scan k.0 k.1 false) ks)) ≡ false
  none_full [] = refl
  none_full (k ∷ ks) = none_full ks

  abbrev FirstScans : Path → Match → Node → Type 0
  FirstScans p m n = (joined : List PathScan) × (scans_of n ≡ record { path = p; range = matched_range m; reverse = false } ∷ joined) × (list_any is_full joined ≡ false)

  index_draft_scans : (cs : List Conjunct) (i : IndexDefinition) (m : Match) (js : List (IndexDefinition × Match)) → FirstScans (along i) m (index_draft cs i m js).root
  index_draft_scans cs i m [] = ([], residual_scans (others (used m) cs) (path_scan (along i) m false), refl)
  index_draft_scans cs i m (j ∷ js) =
      (map along_index (map (λ k. index_scan k.0 k.1 false) (j ∷ js)), residual_scans _ (fetch (intersection (map (λ k. index_scan k.0 k.1 false) ((i, m) ∷ j ∷ js)))), none_full (j ∷ js))

  draft_scans : (cs : List Conjunct) (p : Path) (m : Match) → FirstScans p m (path_draft t indexes cs p m).root
  draft_scans cs primary m = ([], residual_scans (others (used m) cs) (path_scan primary m false), refl)
  draft_scans cs (along i) m = index_draft_scans cs i m (if fixes_all i m then joining t (other_than i indexes) (others (used m) cs) else [])

  -- a single plan first scans the path of the longest match; what joins it is no full scan
  single_scans : (f : Filter) → (l : ScansLongest t indexes f (single_plan t indexes (numbered_filters (conjuncts f))).root) × (list_any is_full l.joined ≡ false)
  single_scans f =
      let b : Matched = fold longer_of (primary, match_of t cs primary) (matched_paths t cs (map along indexes)) in
      let l : (b.1 ≡ match_of t cs b.0) × IsLongest t cs (paths indexes) b.0 = longest_path t cs primary (map along indexes) in
      let d : FirstScans b.0 b.1 (path_draft t indexes cs b.0 b.1).root = draft_scans cs b.0 b.1 in (
        record {
          path = b.0;
          joined = d.0;
          longest = l.1;
          scans = d.1 ∙ ap (λ m. record { path = b.0; range = matched_range m; reverse = false } ∷ d.0) l.0;
        },
        d.2,
      )
    where
      cs : List Conjunct
      cs = numbered_filters (conjuncts f)

-- ---- a full scan begins at no bytes, where no match does

later_left : (a b : List ℕ) → IsNonEmpty a → IsNonEmpty (later_key a b)
later_left [] b h = absurd h
later_left (x ∷ a) [] h = tt
later_left (x ∷ a) (y ∷ b) h = by (is_lt (bytes_cmp (y ∷ b) (x ∷ a)))
  where
    by : (c : Bool) → IsNonEmpty (cond c (x ∷ a) (y ∷ b))
    by true = tt
    by false = tt

later_right : (a b : List ℕ) → IsNonEmpty b → IsNonEmpty (later_key a b)
later_right a [] h = absurd h
later_right [] (y ∷ b) h = tt
later_right (x ∷ a) (y ∷ b) h = by (is_lt (bytes_cmp (y ∷ b) (x ∷ a)))
  where
    by : (c : Bool) → IsNonEmpty (cond c (x ∷ a) (y ∷ b))
    by true = tt
    by false = tt

latest_nonempty : (a : List ℕ) (xs : List (List ℕ)) → IsNonEmpty a → IsNonEmpty (fold later_key a xs)
latest_nonempty a [] h = h
latest_nonempty a (x ∷ xs) h = latest_nonempty (later_key a x) xs (later_left a x h)

module _ (IsStored : Cell → Type 0) (laws : PackLaws IsStored) (null_stored : IsStored Null) where
  begin_nonempty : (b : Bound) → IsUsable IsStored b → IsNonEmpty (begin_of b)
  begin_nonempty (above v) u = laws.some_byte v (0xff ∷ [])
  begin_nonempty (from v) u = subst IsNonEmpty (append-nil (pack_cell v)) (laws.some_byte v [])
  begin_nonempty (below v) u = tt
  begin_nonempty (up_to v) u = tt
  begin_nonempty (prefixed s) u = by s u.1
    where
      by : (c : Cell) → is_string c ≡ true → IsNonEmpty (open_pack c)
      by Null e = cc
      by (Int z) e = cc
      by (Text x) e = tt
      by (Bytes x) e = tt

  is_no_bytes : (k : List ℕ) → IsNonEmpty k → k ≡ [] → ⊥
  is_no_bytes k h e = subst IsNonEmpty e h

  -- a range that begins at no bytes is that of no match
  no_columns : (fs : List (ℕ × Cell)) (bs : List (ℕ × Bound)) → Each (IsUsable IsStored) (map (λ b. b.1) bs) → pack (map (λ f. f.1) fs) ++ (bounded (map (λ b. b.1) bs)).begin ≡ [] →
      length fs + (if nat_lt 0 (length bs) then 1 else 0) ≡ 0
  no_columns [] [] u e = refl
  no_columns [] (b ∷ bs) u e = absurd (is_no_bytes (bounded (map (λ x. x.1) (b ∷ bs))).begin (latest_nonempty (later_key [] (begin_of b.1)) (map begin_of (map (λ x. x.1) bs)) (later_right [] (begin_of b.1) (begin_nonempty b.1 u.0))) e)
  no_columns (f ∷ fs) bs u e =
      absurd (is_no_bytes ((pack_cell f.1 ++ pack (map (λ x. x.1) fs)) ++ (bounded (map (λ x. x.1) bs)).begin)
      (subst IsNonEmpty (sym (append_assoc (pack_cell f.1) (pack (map (λ x. x.1) fs)) (bounded (map (λ x. x.1) bs)).begin)) (laws.some_byte f.1 (pack (map (λ x. x.1) fs) ++ (bounded (map (λ x. x.1) bs)).begin))) e)

  full_unmatched : (t : TypeDefinition) (cs : List Conjunct) → Each (λ c. HasValue IsStored c.1) cs → (p : Path) → is_full (matched_scan t cs p false) ≡ true → match_reach (match_of t cs p) ≡ 0
  full_unmatched t cs v p e =
      let m : Match = match_of t cs p in
      no_columns m.fixed m.bounds (match_stored IsStored null_stored cs v (map (name_at t) (columns t p))).1
      ((bytes_eq-Decides (matched_range m).begin []).0 (second_so (is_primary p) _ (first_so (is_primary p && bytes_eq (matched_range m).begin []) _ e)))

-- ---- full scans

-- a union has a full scan where a part has one
parts_full : (ds : List Draft) → list_any is_full (scans_of_all (nodes_of (map (λ d. d.root) ds))) ≡ list_any (λ d. scans_all d.root) ds
parts_full [] = refl
parts_full (d ∷ ds) = list_any-append is_full (scans_of d.root) (scans_of_all (nodes_of (map (λ d. d.root) ds))) ∙ ap (λ b. scans_all d.root || b) (parts_full ds)

none_some : (d : Draft) → ◌≡◌ {A = Option Draft} None (Some d) → ⊥
none_some d e = cc

some_none : (d : Draft) → ◌≡◌ {A = Option Draft} (Some d) None → ⊥
some_none d e = cc

-- a union is planned only where no part has a full scan, and then it has none
union_not_full : (ds : List Draft) (d : Draft) → union_of ds ≡ Some d → (list_any (λ x. scans_all x.root) ds ≡ false) × (scans_all d.root ≡ false)
union_not_full ds d e = by (list_any (λ x. scans_all x.root) ds) (list_all (λ x. x.in_key_order) ds) refl e
  where
    by : (a b : Bool) → list_any (λ x. scans_all x.root) ds ≡ a →
        (if a then None else if b then Some (record { root = union (nodes_of (map (λ d. d.root) ds)); in_key_order = true })
        else Some (record { root = distinct (unordered_union (nodes_of (map (λ d. d.root) ds))); in_key_order = false })) ≡ Some d →
        (list_any (λ x. scans_all x.root) ds ≡ false) × (scans_all d.root ≡ false)
    by true b q h = absurd (none_some d h)
    by false true q h = (q, ap (λ x. scans_all x.root) (sym (same_Some (record { root = union (nodes_of (map (λ d. d.root) ds)); in_key_order = true }) d h)) ∙ parts_full ds ∙ q)
    by false false q h = (q, ap (λ x. scans_all x.root) (sym (same_Some (record { root = distinct (unordered_union (nodes_of (map (λ d. d.root) ds))); in_key_order = false }) d h)) ∙ parts_full ds ∙ q)

no_union : (ds : List Draft) → union_of ds ≡ None → list_any (λ x. scans_all x.root) ds ≡ true
no_union ds e = by (list_any (λ x. scans_all x.root) ds) (list_all (λ x. x.in_key_order) ds) e
  where
    ordered : Draft
    ordered = record { root = union (nodes_of (map (λ d. d.root) ds)); in_key_order = true }

    unordered : Draft
    unordered = record { root = distinct (unordered_union (nodes_of (map (λ d. d.root) ds))); in_key_order = false }

    by : (a b : Bool) → (if a then None else if b then Some ordered else Some unordered) ≡ None → a ≡ true
    by true b h = refl
    by false true h = absurd (some_none ordered h)
    by false false h = absurd (some_none unordered h)

module _ (t : TypeDefinition) (indexes : List IndexDefinition) where
  abbrev full_plan : Filter → Bool
  full_plan g = scans_all (unsorted_plan t indexes g).root

  any_of_map : (gs : List Filter) → list_any (λ d. scans_all d.root) (map (unsorted_plan t indexes) gs) ≡ list_any full_plan gs
  any_of_map [] = refl
  any_of_map (g ∷ gs) = ap (λ b. full_plan g || b) (any_of_map gs)

  full_part : (gs : List Filter) → list_any full_plan gs ≡ true → HasFullPart t indexes gs
  full_part [] e = cc
  full_part (g ∷ gs) e = by (full_plan g) refl (λ h. full_part gs h) e
    where
      by : (b : Bool) → full_plan g ≡ b → (list_any full_plan gs ≡ true → HasFullPart t indexes gs) → (b || list_any full_plan gs) ≡ true → HasFullPart t indexes (g ∷ gs)
      by true q more h = (0, g, omega arith, refl, q)
      by false q more h = let a : HasFullPart t indexes gs = more h in (suc a.0, a.1, omega (arith, a.2), a.3, a.4)

  none_full_part : (gs : List Filter) → list_any full_plan gs ≡ false → Each (λ g. full_plan g ≡ false) gs
  none_full_part [] e = tt
  none_full_part (g ∷ gs) e = by (full_plan g) refl (λ h. none_full_part gs h) e
    where
      by : (b : Bool) → full_plan g ≡ b → (list_any full_plan gs ≡ false → Each (λ x. full_plan x ≡ false) gs) → (b || list_any full_plan gs) ≡ false → Each (λ x. full_plan x ≡ false) (g ∷ gs)
      by true q more h = cc
      by false q more h = (q, more h)

  union_by : (o : Option (List Filter)) (d : Draft) → alternatives_plan t indexes o ≡ Some d → (gs : List Filter) × (o ≡ Some gs) × (list_any full_plan gs ≡ false) × (scans_all d.root ≡ false)
  union_by None d e = absurd (none_some d e)
  union_by (Some gs) d e =
      let u : (list_any (λ x. scans_all x.root) (map (unsorted_plan t indexes) gs) ≡ false) × (scans_all d.root ≡ false) = union_not_full (map (unsorted_plan t indexes) gs) d e in
      (gs, refl, sym (any_of_map gs) ∙ u.0, u.1)

  -- a plan for anything but such an `or` scans the path of the longest match
  pub unsorted_scans : (f : Filter) → HasUnion t indexes f ⊎ ScansLongest t indexes f (unsorted_plan t indexes f).root
  unsorted_scans f = by (union_plan t indexes f) refl
    where
      by : (o : Option Draft) → union_plan t indexes f ≡ o → HasUnion t indexes f ⊎ ScansLongest t indexes f (unwrap_or o (single_plan t indexes (numbered_filters (conjuncts f)))).root
      by None e = inr (single_scans t indexes f).0
      by (Some d) e =
          let u : (gs : List Filter) × (alternatives (conjuncts f) ≡ Some gs) × (list_any full_plan gs ≡ false) × (scans_all d.root ≡ false) = union_by (alternatives (conjuncts f)) d (sym (union_is t indexes f) ∙ e) in
          inl (record { its_parts = u.0; are_alternatives = u.1; none_full = each_all (λ g. full_plan g ≡ false) u.0 (none_full_part u.0 u.2) })

  module _ (IsStored : Cell → Type 0) (laws : PackLaws IsStored) (null_stored : IsStored Null) where
    -- a full record scan stands only where no path has a match, and alternatives, if there are any, have one with a full record scan
    pub full_only : (f : Filter) → Each (HasValue IsStored) (nodes f) → scans_all (unsorted_plan t indexes f).root ≡ true →
        HasNoMatch t indexes f × ((gs : List Filter) → alternatives (conjuncts f) ≡ Some gs → HasFullPart t indexes gs)
    full_only f v e = by (union_plan t indexes f) refl e
      where
        cs : List Conjunct
        cs = numbered_filters (conjuncts f)

        no_longer : (p q : Path) → match_reach (match_of t cs p) ≡ 0 → is_longer (path_number q, match_of t cs q) (path_number p, match_of t cs p) ≡ false → match_reach (match_of t cs q) ≡ 0
        no_longer p q z h = elim (cases_lt 0 (match_reach (match_of t cs q))) [
          | inl a ↦ absurd (not_both _ (is_said (q, match_of t cs q) (p, match_of t cs p) (inl (omega (arith, a, z)))) h)
          | inr a ↦ omega (arith, a)
        ]

        single_full : (n : Node) (l : ScansLongest t indexes f n) → list_any is_full l.joined ≡ false → scans_all n ≡ true → HasNoMatch t indexes f
        single_full n l none h =
            let full : is_full (matched_scan t cs l.path false) ≡ true = or_false (is_full (matched_scan t cs l.path false)) (list_any is_full l.joined) (sym (ap (list_any is_full) l.scans) ∙ h) none in
            let z : match_reach (match_of t cs l.path) ≡ 0 = full_unmatched IsStored laws null_stored t cs (numbered_checked IsStored (conjuncts f) 0 (conjuncts_checked IsStored f v)) l.path full in
            each_all (λ q. match_reach (match_of t cs q) ≡ 0) (paths indexes)
            (each_map (λ q. is_longer (path_number q, match_of t cs q) (path_number l.path, match_of t cs l.path) ≡ false) (λ q. match_reach (match_of t cs q) ≡ 0) (λ q k. no_longer l.path q z k) (paths indexes)
            (all_each (λ q. is_longer (path_number q, match_of t cs q) (path_number l.path, match_of t cs l.path) ≡ false) (paths indexes) l.longest.none_longer))
          where
            or_false : (a b : Bool) → (a || b) ≡ true → b ≡ false → a ≡ true
            or_false true b g k = refl
            or_false false b g k = sym k ∙ g

        by : (o : Option Draft) → union_plan t indexes f ≡ o → scans_all (unwrap_or o (single_plan t indexes (numbered_filters (conjuncts f)))).root ≡ true →
            HasNoMatch t indexes f × ((gs : List Filter) → alternatives (conjuncts f) ≡ Some gs → HasFullPart t indexes gs)
        by None q h =
            let s : (l : ScansLongest t indexes f (single_plan t indexes cs).root) × (list_any is_full l.joined ≡ false) = single_scans t indexes f in (
              single_full (single_plan t indexes cs).root s.0 s.1 h,
              λ gs k. full_part gs (sym (any_of_map gs) ∙ no_union (map (unsorted_plan t indexes) gs) (ap (alternatives_plan t indexes) (sym k) ∙ sym (union_is t indexes f) ∙ q)),
            )
        by (Some d) q h =
            let u : (gs : List Filter) × (alternatives (conjuncts f) ≡ Some gs) × (list_any full_plan gs ≡ false) × (scans_all d.root ≡ false) = union_by (alternatives (conjuncts f)) d (sym (union_is t indexes f) ∙ q) in
            absurd (not_both (scans_all d.root) h u.3)

    -- the plan is the promised one
    pub planned_chosen : (q : Query) (root : Node) → Each (HasValue IsStored) (nodes q.filter) → planned t indexes q ≡ Some root → IsChosen t indexes q root
    planned_chosen q root v h = record {
      sorted = λ e. sorted_scans t indexes q root e h;
      unsorted = λ e. subst (λ n. HasUnion t indexes q.filter ⊎ ScansLongest t indexes q.filter n) (root_is e) (unsorted_scans q.filter);
      full_only = λ e f. full_only q.filter v (ap scans_all (root_is e) ∙ f);
    }
      where
        root_is : is_empty q.sort ≡ true → (unsorted_plan t indexes q.filter).root ≡ root
        root_is e = same_Some (unsorted_plan t indexes q.filter).root root
            (sym (ap (λ b. if b then Some (unsorted_plan t indexes q.filter).root else sorted_plan t indexes (numbered_filters (conjuncts q.filter)) q.sort q.reverse) e) ∙ h)
