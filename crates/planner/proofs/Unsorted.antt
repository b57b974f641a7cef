-- The plan of a filter without a sort gives exactly what the filter selects.
use Rattle.std.specs.Prelude.{◌≡◌, ◌≢◌, ℕ, ◌+◌, Bool, true, false, cond, not, ◌&&◌, ◌||◌, ◌==◌, nat_lt, List, [], ◌∷◌, ◌++◌, length, map, filter, fold, flat_map, refl, Option, Some, None, option_map, unwrap_or, if◌then◌else◌}
use Rattle.std.specs.List.{list_all, list_any, enumerate_from}
use Rattle.std.specs.Option.{option_zip}
use Rattle.std.proofs.Common.{ap, sym, ◌∙◌, subst}
use Rattle.std.proofs.lemmas.Option.{same_Some}
use Rattle.std.proofs.lemmas.Cmp.{tied_itself}
use Rattle.std.specs.declared.cmp.Ordering.TheVariants.{Less, Equal}
use Rattle.metadata.specs.declared.cells.Cell.{Cell}
use Rattle.metadata.specs.declared.cells.Cell.TheVariants.{Null}
use Rattle.metadata.specs.declared.index.IndexDefinition.{IndexDefinition}
use Rattle.metadata.specs.Record.{Record}
use Rattle.metadata.specs.declared.definition.TypeDefinition.{TypeDefinition}
use Rattle.metadata.specs.Order.{cells_cmp}
use Rattle.planner.specs.Pack.{pack}
use Rattle.metadata.specs.Entries.{entry_of}
use Rattle.metadata.specs.Layout.{Pair, entry_pair}
use Rattle.query.proofs.CellLaws.{cells_cmp_total}
use Rattle.query.specs.Filter.{Filter, compare, null_field, starts, all_of, some_of, negation, Filters, no_filters, filter as part, parts, conjuncts, conjuncts_of, nodes, nodes_of as nodes_of_parts}
use Rattle.query.specs.Truth.{selects, truth, truth_of_all, is_true}
use Rattle.query.proofs.Truths.{selects-conjuncts, selects-conjuncts_of, selects-some_of, is_true-both}
use Rattle.planner.specs.Range.{range_has}
use Rattle.planner.specs.Match.{primary, along, Conjunct, numbered_filters, Match, match_of, used, others, is_longer}
use Rattle.planner.specs.Match.{path_number}
use Rattle.planner.specs.Plan.{Node, fetch, union, unordered_union, distinct, intersection}
use Rattle.planner.specs.Right.{indexes_of, indexes_of_all, indexes_of_scans}
use Rattle.planner.specs.Scanned.{scans_all}
use Rattle.planner.specs.Planned.{matched_range, index_scan, path_scan, residual, Matched, longer_of, fixes_all, joining, Draft, other_than, index_draft, path_draft, single_plan, nodes_of, union_of, is_empty, union_plan, only_union_plan, part_plans, unsorted_plan}
use Rattle.planner.specs.Meaning.{of_each, scanned_keys, in_key_order, keys_in_all}
use Rattle.planner.proofs.Ranges.{PackLaws, Each}
use Rattle.planner.proofs.Residual.{HasValue, Member, each_map, each_where, each_append, IsNumbered}
use Rattle.planner.proofs.Rows.{member_of_where, IsRising, in_key_order_rising}
use Rattle.planner.proofs.Nodes.{Gives, GiveAll, none_give, more_give, union_gives, distinct_gives}
use Rattle.planner.proofs.Scans.{Differ}
use Rattle.planner.proofs.Fetches.{AreKeysOf, AllKeysOf, common_keys, keys_in_order, fetch_gives, index_scan_gives}
use Rattle.planner.proofs.Paths.{entry_cells, enumerated, list_all-enumerated, gives_same, residual_gives, IsGoodIndex, IsGoodType, along_exact, along_gives, primary_gives}

-- ---- conjuncts left over

filter-both : {A : Type 0} (p q r : A → Bool) (xs : List A) → ((x : A) → p x ≡ (q x && r x)) → filter p xs ≡ filter r (filter q xs)
filter-both p q r [] h = refl
filter-both {A} p q r (x ∷ xs) h = ap (λ t. cond t (x ∷ filter p xs) (filter p xs)) (h x) ∙ by (q x) (r x) refl (filter-both p q r xs h)
  where
    by : (s t : Bool) → r x ≡ t → filter p xs ≡ filter r (filter q xs) → cond (s && t) (x ∷ filter p xs) (filter p xs) ≡ filter r (cond s (x ∷ filter q xs) (filter q xs))
    by true true e more = ap (λ ys. x ∷ ys) more ∙ ap (λ b. cond b (x ∷ filter r (filter q xs)) (filter r (filter q xs))) (sym e)
    by true false e more = more ∙ ap (λ b. cond b (x ∷ filter r (filter q xs)) (filter r (filter q xs))) (sym e)
    by false t e more = more

list_any-append : (f : ℕ → Bool) (a b : List ℕ) → list_any f (a ++ b) ≡ (list_any f a || list_any f b)
list_any-append f [] b = refl
list_any-append f (x ∷ a) b = ap (λ t. f x || t) (list_any-append f a b) ∙ by (f x)
  where
    by : (t : Bool) → (t || (list_any f a || list_any f b)) ≡ ((t || list_any f a) || list_any f b)
    by true = refl
    by false = refl

others-nil : (cs : List Conjunct) → others [] cs ≡ cs
others-nil [] = refl
others-nil (c ∷ cs) = ap (λ ds. c ∷ ds) (others-nil cs)

others-append : (a b : List ℕ) (cs : List Conjunct) → others (a ++ b) cs ≡ others b (others a cs)
others-append a b cs =
    filter-both (λ c. not (list_any (◌==◌ c.0) (a ++ b))) (λ c. not (list_any (◌==◌ c.0) a)) (λ c. not (list_any (◌==◌ c.0) b)) cs
    (λ c. ap not (list_any-append (◌==◌ c.0) a b) ∙ by (list_any (◌==◌ c.0) a) (list_any (◌==◌ c.0) b))
  where
    by : (s t : Bool) → not (s || t) ≡ (not s && not t)
    by true t = refl
    by false t = refl

others_numbered : (a : List ℕ) (cs : List Conjunct) → IsNumbered cs → IsNumbered (others a cs)
others_numbered a cs n i f g m k =
    n i f g (member_of_where (λ c. not (list_any (◌==◌ c.0) a)) (i, f) cs m).0 (member_of_where (λ c. not (list_any (◌==◌ c.0) a)) (i, g) cs k).0

differ_from_rising : (ks : List (List Cell)) → IsRising (λ k. k) ks → Differ (λ k. k) ks
differ_from_rising [] r = tt
differ_from_rising (k ∷ ks) r = (each_map (λ y. cells_cmp k y ≡ Less) (λ y. k ≢ y) (λ y e s. not_below k (subst (λ z. cells_cmp k z ≡ Less) (sym s) e)) ks r.0, differ_from_rising ks r.1)
  where
    not_below : (k : List Cell) → cells_cmp k k ≡ Less → ⊥
    not_below k e = let tied : cells_cmp k k ≡ Equal = tied_itself cells_cmp_total k in cc

-- a filter over a node scans what the node does
pub residual_indexes : (cs : List Conjunct) (n : Node) → indexes_of (residual cs n) ≡ indexes_of n
residual_indexes [] n = refl
residual_indexes (c ∷ []) n = refl
residual_indexes (c ∷ d ∷ cs) n = refl

-- what holds of each path with its match holds of the longest
pub longest_has : (P : Matched → Type 0) (p : Matched) (ps : List Matched) → P p → Each P ps → P (fold longer_of p ps)
longest_has P p [] h e = h
longest_has P p (q ∷ ps) h e = longest_has P (longer_of p q) ps (chosen (is_longer (path_number q.0, q.1) (path_number p.0, p.1))) e.1
  where
    chosen : (b : Bool) → P (if b then q else p)
    chosen true = e.0
    chosen false = h

pub each_left : {A : Type 0} (P : A → Type 0) (xs ys : List A) → Each P (xs ++ ys) → Each P xs
each_left P [] ys e = tt
each_left P (x ∷ xs) ys e = (e.0, each_left P xs ys e.1)

pub each_right : {A : Type 0} (P : A → Type 0) (xs ys : List A) → Each P (xs ++ ys) → Each P ys
each_right P [] ys e = e
each_right P (x ∷ xs) ys e = each_right P xs ys e.1

module _ (IsStored : Cell → Type 0) where
  abbrev HasOne : Filter → Type 0
  HasOne = HasValue IsStored

  mutual
    pub conjuncts_checked : (f : Filter) → Each HasOne (nodes f) → Each HasOne (conjuncts f)
    conjuncts_checked (compare n o w) e = e
    conjuncts_checked (null_field n) e = e
    conjuncts_checked (starts n w) e = e
    conjuncts_checked (all_of fs) e = conjuncts_of_checked fs e.1
    conjuncts_checked (some_of fs) e = (e.0, tt)
    conjuncts_checked (negation f) e = (e.0, tt)

    conjuncts_of_checked : (fs : Filters) → Each HasOne (nodes_of_parts fs) → Each HasOne (conjuncts_of fs)
    conjuncts_of_checked no_filters e = tt
    conjuncts_of_checked (part f fs) e =
        each_append HasOne (conjuncts f) (conjuncts_of fs) (conjuncts_checked f (each_left HasOne (nodes f) (nodes_of_parts fs) e)) (conjuncts_of_checked fs (each_right HasOne (nodes f) (nodes_of_parts fs) e))

  pub numbered_checked : (fs : List Filter) (n : ℕ) → Each HasOne fs → Each (λ c. HasValue IsStored c.1) (enumerate_from n fs)
  numbered_checked [] n e = tt
  numbered_checked (f ∷ fs) n e = (e.0, numbered_checked fs (n + 1) e.1)

module _ (prefix : List ℕ) (pairs : List Pair) (t : TypeDefinition) (records : List Record)
    (IsStored : Cell → Type 0) (laws : PackLaws IsStored) (null_stored : IsStored Null) (good : IsGoodType IsStored prefix pairs t records) where
  abbrev IsGood : IndexDefinition → Type 0
  IsGood i = IsGoodIndex IsStored prefix pairs t records i

  abbrev in_range : IndexDefinition × Match → Record → Bool
  in_range k r = range_has (matched_range k.1) (pack (entry_cells k.0 r))

  -- all conjuncts are those of the indexes that join, and the others
  joined_exact : (is : List IndexDefinition) (cs : List Conjunct) → IsNumbered cs → Each (λ c. HasValue IsStored c.1) cs → (r : Record) → Member r records → Each (λ k. IsGood k.0) (joining t is cs) →
      (list_all (λ k. in_range k r) (joining t is cs) && list_all (λ c. selects c.1 r) (others (flat_map (λ k. used k.1) (joining t is cs)) cs)) ≡ list_all (λ c. selects c.1 r) cs
  joined_exact [] cs n v r m g = ap (list_all (λ c. selects c.1 r)) (others-nil cs)
  joined_exact (i ∷ is) cs n v r m g =
      by (fixes_all i (match_of t cs (along i)))
      (λ h. joined_exact is (others (used (match_of t cs (along i))) cs) (others_numbered (used (match_of t cs (along i))) cs n)
      (each_where (λ c. HasValue IsStored c.1) (λ c. not (list_any (◌==◌ c.0) (used (match_of t cs (along i))))) cs v) r m h)
      (λ h. joined_exact is cs n v r m h) g
    where
      assoc : (a b c : Bool) → ((a && b) && c) ≡ (a && (b && c))
      assoc true b c = refl
      assoc false b c = refl

      by : (b : Bool) →
          (Each (λ k. IsGood k.0) (joining t is (others (used (match_of t cs (along i))) cs)) →
          (list_all (λ k. in_range k r) (joining t is (others (used (match_of t cs (along i))) cs)) && list_all (λ c. selects c.1 r) (others (flat_map (λ k. used k.1) (joining t is (others (used (match_of t cs (along i))) cs))) (others (used (match_of t cs (along i))) cs)))
          ≡ list_all (λ c. selects c.1 r) (others (used (match_of t cs (along i))) cs)) →
          (Each (λ k. IsGood k.0) (joining t is cs) →
          (list_all (λ k. in_range k r) (joining t is cs) && list_all (λ c. selects c.1 r) (others (flat_map (λ k. used k.1) (joining t is cs)) cs)) ≡ list_all (λ c. selects c.1 r) cs) →
          Each (λ k. IsGood k.0) (if b then (i, match_of t cs (along i)) ∷ joining t is (others (used (match_of t cs (along i))) cs) else joining t is cs) →
          (list_all (λ k. in_range k r) (if b then (i, match_of t cs (along i)) ∷ joining t is (others (used (match_of t cs (along i))) cs) else joining t is cs)
          && list_all (λ c. selects c.1 r) (others (flat_map (λ k. used k.1) (if b then (i, match_of t cs (along i)) ∷ joining t is (others (used (match_of t cs (along i))) cs) else joining t is cs)) cs))
          ≡ list_all (λ c. selects c.1 r) cs
      by true with_it without h =
          assoc (in_range (i, match_of t cs (along i)) r) (list_all (λ k. in_range k r) (joining t is (others (used (match_of t cs (along i))) cs)))
          (list_all (λ c. selects c.1 r) (others (used (match_of t cs (along i)) ++ flat_map (λ k. used k.1) (joining t is (others (used (match_of t cs (along i))) cs))) cs))
          ∙ ap (λ ds. in_range (i, match_of t cs (along i)) r && (list_all (λ k. in_range k r) (joining t is (others (used (match_of t cs (along i))) cs)) && list_all (λ c. selects c.1 r) ds))
          (others-append (used (match_of t cs (along i))) (flat_map (λ k. used k.1) (joining t is (others (used (match_of t cs (along i))) cs))) cs)
          ∙ ap (λ x. in_range (i, match_of t cs (along i)) r && x) (with_it h.1)
          ∙ along_exact prefix pairs t records IsStored laws null_stored good cs n v i h.0 r m
      by false with_it without h = without h

  -- the scans of several matches give the keys of each
  pub scans_give : (ks : List (IndexDefinition × Match)) → Each (λ k. IsGood k.0) ks →
      (kss : List (List (List Cell))) × (of_each (scanned_keys prefix pairs t) (map (λ k. index_scan k.0 k.1 false) ks) ≡ Some kss) × AllKeysOf records (map in_range ks) kss
  scans_give [] g = ([], refl, tt)
  scans_give (k ∷ ks) g =
      let h : (keys : List (List Cell)) × (scanned_keys prefix pairs t (index_scan k.0 k.1 false) ≡ Some keys) × AreKeysOf records (in_range k) keys × Differ (λ x. x) keys =
      index_scan_gives prefix pairs t records good.keyed (index_scan k.0 k.1 false) (λ r. pack (entry_cells k.0 r)) (λ r. entry_pair prefix k.0.number (entry_of k.0 r)) g.0.holds in
      let f : (kss : List (List (List Cell))) × (of_each (scanned_keys prefix pairs t) (map (λ k. index_scan k.0 k.1 false) ks) ≡ Some kss) × AllKeysOf records (map in_range ks) kss = scans_give ks g.1 in
      (h.0 ∷ f.0, λ i. option_map (λ p. p.0 ∷ p.1) (option_zip (h.1 i) (f.1 i)), (h.2, f.2))

  all-map : (ks : List (IndexDefinition × Match)) (r : Record) → list_all (λ q. q r) (map in_range ks) ≡ list_all (λ k. in_range k r) ks
  all-map [] r = refl
  all-map (k ∷ ks) r = ap (λ b. in_range k r && b) (all-map ks r)

  -- a fetch of an intersection gives the records in all its ranges
  intersection_gives : (k : IndexDefinition × Match) (ks : List (IndexDefinition × Match)) → Each (λ k. IsGood k.0) (k ∷ ks) →
      Gives prefix pairs t records (fetch (intersection (map (λ k. index_scan k.0 k.1 false) (k ∷ ks)))) (λ r. list_all (λ k. in_range k r) (k ∷ ks))
  intersection_gives k ks g =
      let h : (keys : List (List Cell)) × (scanned_keys prefix pairs t (index_scan k.0 k.1 false) ≡ Some keys) × AreKeysOf records (in_range k) keys × Differ (λ x. x) keys =
      index_scan_gives prefix pairs t records good.keyed (index_scan k.0 k.1 false) (λ r. pack (entry_cells k.0 r)) (λ r. entry_pair prefix k.0.number (entry_of k.0 r)) g.0.holds in
      let f : (kss : List (List (List Cell))) × (of_each (scanned_keys prefix pairs t) (map (λ k. index_scan k.0 k.1 false) ks) ≡ Some kss) × AllKeysOf records (map in_range ks) kss = scans_give ks g.1 in
      let p : Record → Bool = λ r. in_range k r && list_all (λ q. q r) (map in_range ks) in
      let all : List (List Cell) = keys_in_all (h.0 ∷ f.0) in
      let a : AreKeysOf records p all = common_keys records good.keyed (in_range k) (map in_range ks) h.0 f.0 (h.2, f.2) in
      gives_same prefix pairs t records (fetch (intersection (map (λ k. index_scan k.0 k.1 false) (k ∷ ks)))) p (λ r. list_all (λ k. in_range k r) (k ∷ ks)) (λ r m. ap (λ b. in_range k r && b) (all-map ks r))
      (fetch_gives prefix pairs t records good.loads (intersection (map (λ k. index_scan k.0 k.1 false) (k ∷ ks))) p (in_key_order (λ x. x) all)
      (λ i. option_map (λ kss. in_key_order (λ x. x) (keys_in_all kss)) (option_map (λ q. q.0 ∷ q.1) (option_zip (h.1 i) (f.1 i))))
      (keys_in_order records p all a) (differ_from_rising (in_key_order (λ x. x) all) (in_key_order_rising (λ x. x) all)))

  -- ---- single paths

  pub scans_good : (ks : List (IndexDefinition × Match)) → Each IsGood (indexes_of_scans (map (λ k. index_scan k.0 k.1 false) ks)) → Each (λ k. IsGood k.0) ks
  scans_good [] e = tt
  scans_good (k ∷ ks) e = (e.0, scans_good ks e.1)

  -- the premise is asked of the indexes alone that the plan scans
  abbrev GivesOver : Node → (Record → Bool) → Type 0
  GivesOver n p = Each IsGood (indexes_of n) → Gives prefix pairs t records n p

  index_draft_gives : (cs : List Conjunct) (n : IsNumbered cs) (v : Each (λ c. HasValue IsStored c.1) cs) (i : IndexDefinition) (js : List (IndexDefinition × Match)) →
      (Each (λ k. IsGood k.0) js → (r : Record) → Member r records → (list_all (λ k. in_range k r) js && list_all (λ c. selects c.1 r) (others (flat_map (λ k. used k.1) js) (others (used (match_of t cs (along i))) cs)))
      ≡ list_all (λ c. selects c.1 r) (others (used (match_of t cs (along i))) cs)) →
      GivesOver (index_draft cs i (match_of t cs (along i)) js).root (λ r. list_all (λ c. selects c.1 r) cs)
  index_draft_gives cs n v i [] h e =
      along_gives prefix pairs t records IsStored laws null_stored good cs n v false i
      (subst (Each IsGood) (residual_indexes (others (used (match_of t cs (along i))) cs) (path_scan (along i) (match_of t cs (along i)) false)) e).0
  index_draft_gives cs n v i (j ∷ js) h e =
      let M : Match = match_of t cs (along i) in
      let all : List (IndexDefinition × Match) = (i, M) ∷ j ∷ js in
      let rest : List Conjunct = others (flat_map (λ k. used k.1) all) cs in
      let g : Each (λ k. IsGood k.0) all = scans_good all (subst (Each IsGood) (residual_indexes rest (fetch (intersection (map (λ k. index_scan k.0 k.1 false) all)))) e) in
      gives_same prefix pairs t records (residual rest (fetch (intersection (map (λ k. index_scan k.0 k.1 false) all))))
      (λ r. list_all (λ k. in_range k r) all && list_all (λ c. selects c.1 r) rest) (λ r. list_all (λ c. selects c.1 r) cs)
      (λ r m.
      assoc (in_range (i, M) r) (list_all (λ k. in_range k r) (j ∷ js)) (list_all (λ c. selects c.1 r) rest)
      ∙ ap (λ ds. in_range (i, M) r && (list_all (λ k. in_range k r) (j ∷ js) && list_all (λ c. selects c.1 r) ds)) (others-append (used M) (flat_map (λ k. used k.1) (j ∷ js)) cs)
      ∙ ap (λ x. in_range (i, M) r && x) (h g.1 r m)
      ∙ along_exact prefix pairs t records IsStored laws null_stored good cs n v i g.0 r m)
      (residual_gives prefix pairs t records rest (fetch (intersection (map (λ k. index_scan k.0 k.1 false) all))) (λ r. list_all (λ k. in_range k r) all) (intersection_gives (i, M) (j ∷ js) g))
    where
      assoc : (a b c : Bool) → ((a && b) && c) ≡ (a && (b && c))
      assoc true b c = refl
      assoc false b c = refl

  module _ (indexes : List IndexDefinition) where
    along_draft_gives : (cs : List Conjunct) (n : IsNumbered cs) (v : Each (λ c. HasValue IsStored c.1) cs) (i : IndexDefinition) →
        GivesOver (path_draft t indexes cs (along i) (match_of t cs (along i))).root (λ r. list_all (λ c. selects c.1 r) cs)
    along_draft_gives cs n v i = by (fixes_all i (match_of t cs (along i)))
      where
        by : (b : Bool) → GivesOver (index_draft cs i (match_of t cs (along i)) (if b then joining t (other_than i indexes) (others (used (match_of t cs (along i))) cs) else [])).root (λ r. list_all (λ c. selects c.1 r) cs)
        by true = index_draft_gives cs n v i (joining t (other_than i indexes) (others (used (match_of t cs (along i))) cs))
            (λ g r m. joined_exact (other_than i indexes) (others (used (match_of t cs (along i))) cs) (others_numbered (used (match_of t cs (along i))) cs n)
            (each_where (λ c. HasValue IsStored c.1) (λ c. not (list_any (◌==◌ c.0) (used (match_of t cs (along i))))) cs v) r m g)
        by false = index_draft_gives cs n v i [] (λ g r m. ap (list_all (λ c. selects c.1 r)) (others-nil (others (used (match_of t cs (along i))) cs)))

    -- the plan of the longest match gives exactly what all conjuncts select
    single_gives : (cs : List Conjunct) (n : IsNumbered cs) (v : Each (λ c. HasValue IsStored c.1) cs) → GivesOver (single_plan t indexes cs).root (λ r. list_all (λ c. selects c.1 r) cs)
    single_gives cs n v =
        longest_has P (primary, match_of t cs primary) (map (λ p. (p, match_of t cs p)) (map along indexes))
        (λ e. primary_gives prefix pairs t records IsStored laws null_stored good cs n v false) (each_along indexes)
      where
        P : Matched → Type 0
        P q = GivesOver (path_draft t indexes cs q.0 q.1).root (λ r. list_all (λ c. selects c.1 r) cs)

        each_along : (is : List IndexDefinition) → Each P (map (λ p. (p, match_of t cs p)) (map along is))
        each_along [] = tt
        each_along (i ∷ is) = (along_draft_gives cs n v i, each_along is)

    -- ---- alternatives

    absurd_none : (d : Draft) (X : Type 0) → ◌≡◌ {A = Option Draft} None (Some d) → X
    absurd_none d X e = absurd (never e)
      where
        never : ◌≡◌ {A = Option Draft} None (Some d) → ⊥
        never e = cc

    -- a union of alternatives gives what one of them selects
    union_of_gives : (ds : List Draft) (p : Record → Bool) → (Each IsGood (indexes_of_all (nodes_of (map (λ d. d.root) ds))) → GiveAll prefix pairs t records (nodes_of (map (λ d. d.root) ds)) p) →
        (d : Draft) → union_of ds ≡ Some d → GivesOver d.root p
    union_of_gives ds p g d e = by (list_any (λ d. scans_all d.root) ds) (list_all (λ d. d.in_key_order) ds) e
      where
        by : (a b : Bool) →
            (if a then None else if b then Some (record { root = union (nodes_of (map (λ d. d.root) ds)); in_key_order = true })
            else Some (record { root = distinct (unordered_union (nodes_of (map (λ d. d.root) ds))); in_key_order = false })) ≡ Some d → GivesOver d.root p
        by true b e = absurd_none d (GivesOver d.root p) e
        by false true e = subst (λ x. GivesOver x.root p) (same_Some (record { root = union (nodes_of (map (λ d. d.root) ds)); in_key_order = true }) d e) (λ o. union_gives prefix pairs t records good.keyed (nodes_of (map (λ d. d.root) ds)) p (g o))
        by false false e = subst (λ x. GivesOver x.root p) (same_Some (record { root = distinct (unordered_union (nodes_of (map (λ d. d.root) ds))); in_key_order = false }) d e) (λ o. distinct_gives prefix pairs t records good.keyed (nodes_of (map (λ d. d.root) ds)) p (g o))

    abbrev V : Filter → Type 0
    V = HasValue IsStored

    filter_single_gives : (f : Filter) → Each V (nodes f) → GivesOver (single_plan t indexes (numbered_filters (conjuncts f))).root (selects f)
    filter_single_gives f e o =
        gives_same prefix pairs t records (single_plan t indexes (numbered_filters (conjuncts f))).root (λ r. list_all (λ c. selects c.1 r) (numbered_filters (conjuncts f))) (selects f)
        (λ r m. list_all-enumerated (λ g. selects g r) (conjuncts f) 0 ∙ sym (selects-conjuncts f r))
        (single_gives (numbered_filters (conjuncts f)) (enumerated (conjuncts f) 0) (numbered_checked IsStored (conjuncts f) 0 (conjuncts_checked IsStored f e)) o)

    -- without conjuncts everything is selected
    all_selected : (f : Filter) (r : Record) → is_empty (conjuncts f) ≡ true → selects f r ≡ true
    all_selected f r e = selects-conjuncts f r ∙ by (conjuncts f) e
      where
        by : (fs : List Filter) → is_empty fs ≡ true → list_all (λ g. selects g r) fs ≡ true
        by [] e = refl
        by (g ∷ fs) e = cc

    all_parts_selected : (fs : Filters) (r : Record) → is_empty (conjuncts_of fs) ≡ true → is_true (truth_of_all fs r) ≡ true
    all_parts_selected fs r e = selects-conjuncts_of fs r ∙ by (conjuncts_of fs) e
      where
        by : (gs : List Filter) → is_empty gs ≡ true → list_all (λ g. selects g r) gs ≡ true
        by [] e = refl
        by (g ∷ gs) e = cc

    some_by : (fs : Filters) (d : Draft) (b : Bool) →
        (Each IsGood (indexes_of_all (nodes_of (map (λ d. d.root) (part_plans t indexes fs)))) → GiveAll prefix pairs t records (nodes_of (map (λ d. d.root) (part_plans t indexes fs))) (λ r. list_any (λ g. selects g r) (parts fs))) →
        (if b then union_of (part_plans t indexes fs) else None) ≡ Some d → GivesOver d.root (selects (some_of fs))
    some_by fs d true g e o =
        gives_same prefix pairs t records d.root (λ r. list_any (λ g. selects g r) (parts fs)) (selects (some_of fs)) (λ r m. sym (selects-some_of fs r))
        (union_of_gives (part_plans t indexes fs) (λ r. list_any (λ g. selects g r) (parts fs)) g d e o)
    some_by fs d false g e o = absurd_none d (Gives prefix pairs t records d.root (selects (some_of fs))) e

    only_by : (f : Filter) (fs : Filters) (d : Draft) (a b : Bool) → is_empty (conjuncts f) ≡ a → is_empty (conjuncts_of fs) ≡ b →
        (only_union_plan t indexes fs ≡ Some d → GivesOver d.root (λ r. is_true (truth_of_all fs r))) →
        (union_plan t indexes f ≡ Some d → GivesOver d.root (selects f)) →
        (if a then only_union_plan t indexes fs else if b then union_plan t indexes f else None) ≡ Some d →
        GivesOver d.root (λ r. is_true (truth_of_all (part f fs) r))
    only_by f fs d true b p q later own e o =
        gives_same prefix pairs t records d.root (λ r. is_true (truth_of_all fs r)) (λ r. is_true (truth_of_all (part f fs) r))
        (λ r m. ap (λ x. x && is_true (truth_of_all fs r)) (sym (all_selected f r p)) ∙ sym (is_true-both (truth f r) (truth_of_all fs r))) (later e o)
    only_by f fs d false true p q later own e o =
        gives_same prefix pairs t records d.root (selects f) (λ r. is_true (truth_of_all (part f fs) r))
        (λ r m. sym (and_true (selects f r)) ∙ ap (λ x. selects f r && x) (sym (all_parts_selected fs r q)) ∙ sym (is_true-both (truth f r) (truth_of_all fs r))) (own e o)
      where
        and_true : (s : Bool) → (s && true) ≡ s
        and_true true = refl
        and_true false = refl
    only_by f fs d false false p q later own e o = absurd_none d (Gives prefix pairs t records d.root (λ r. is_true (truth_of_all (part f fs) r))) e

    draft_by : (f : Filter) (o : Option Draft) → union_plan t indexes f ≡ o → ((d : Draft) → union_plan t indexes f ≡ Some d → GivesOver d.root (selects f)) →
        GivesOver (single_plan t indexes (numbered_filters (conjuncts f))).root (selects f) → GivesOver (unwrap_or o (single_plan t indexes (numbered_filters (conjuncts f)))).root (selects f)
    draft_by f None e g single = single
    draft_by f (Some d) e g single = g d e

    mutual
      union_plan_gives : (f : Filter) → Each V (nodes f) → (d : Draft) → union_plan t indexes f ≡ Some d → GivesOver d.root (selects f)
      union_plan_gives (compare n o w) v d e = absurd_none d (GivesOver d.root (selects (compare n o w))) e
      union_plan_gives (null_field n) v d e = absurd_none d (GivesOver d.root (selects (null_field n))) e
      union_plan_gives (starts n w) v d e = absurd_none d (GivesOver d.root (selects (starts n w))) e
      union_plan_gives (all_of fs) v d e = only_union_gives fs v.1 d e
      union_plan_gives (some_of fs) v d e = some_by fs d (nat_lt 1 (length (parts fs))) (parts_give fs v.1) e
      union_plan_gives (negation f) v d e = absurd_none d (GivesOver d.root (selects (negation f))) e

      only_union_gives : (fs : Filters) → Each V (nodes_of_parts fs) → (d : Draft) → only_union_plan t indexes fs ≡ Some d → GivesOver d.root (λ r. is_true (truth_of_all fs r))
      only_union_gives no_filters v d e = absurd_none d (GivesOver d.root (λ r. is_true (truth_of_all no_filters r))) e
      only_union_gives (part f fs) v d e =
          only_by f fs d (is_empty (conjuncts f)) (is_empty (conjuncts_of fs)) refl refl
          (λ g. only_union_gives fs (each_right V (nodes f) (nodes_of_parts fs) v) d g) (λ g. union_plan_gives f (each_left V (nodes f) (nodes_of_parts fs) v) d g) e

      parts_give : (fs : Filters) → Each V (nodes_of_parts fs) → Each IsGood (indexes_of_all (nodes_of (map (λ d. d.root) (part_plans t indexes fs)))) → GiveAll prefix pairs t records (nodes_of (map (λ d. d.root) (part_plans t indexes fs))) (λ r. list_any (λ g. selects g r) (parts fs))
      parts_give no_filters v o = none_give prefix pairs t records
      parts_give (part f fs) v o =
          more_give prefix pairs t records (unsorted_plan t indexes f).root (nodes_of (map (λ d. d.root) (part_plans t indexes fs))) (selects f) (λ r. list_any (λ g. selects g r) (parts fs))
          (draft_by f (union_plan t indexes f) refl (λ d g. union_plan_gives f (each_left V (nodes f) (nodes_of_parts fs) v) d g) (filter_single_gives f (each_left V (nodes f) (nodes_of_parts fs) v))
          (each_left IsGood (indexes_of (unsorted_plan t indexes f).root) (indexes_of_all (nodes_of (map (λ d. d.root) (part_plans t indexes fs)))) o))
          (parts_give fs (each_right V (nodes f) (nodes_of_parts fs) v)
          (each_right IsGood (indexes_of (unsorted_plan t indexes f).root) (indexes_of_all (nodes_of (map (λ d. d.root) (part_plans t indexes fs)))) o))

    -- the plan of a filter without a sort gives exactly what the filter selects
    pub unsorted_gives : (f : Filter) → Each V (nodes f) → GivesOver (unsorted_plan t indexes f).root (selects f)
    unsorted_gives f v = draft_by f (union_plan t indexes f) refl (λ d g. union_plan_gives f v d g) (filter_single_gives f v)
