-- The plan that scans a path by its match gives exactly what the filter selects.
use Rattle.std.specs.Prelude.{◌≡◌, ℕ, suc, ◌+◌, ◌≤◌, Bool, true, false, ◌&&◌, List, [], ◌∷◌, ◌++◌, length, map, refl, Option, Some, None, bytes_eq, pos}
use Rattle.std.specs.List.{list_all, enumerate_from}
use Rattle.std.proofs.Common.{ap, sym, ◌∙◌, subst, arith, length-append, inl, inr}
use Rattle.std.proofs.lemmas.List.{append-nil}
use Rattle.metadata.specs.declared.cells.Cell.{Cell}
use Rattle.metadata.specs.declared.cells.Cell.TheVariants.{Null, Int}
use Rattle.metadata.specs.declared.index.IndexDefinition.{IndexDefinition}
use Rattle.metadata.specs.Record.{Record}
use Rattle.metadata.specs.declared.definition.TypeDefinition.{TypeDefinition}
use Rattle.planner.specs.Pack.{pack}
use Rattle.query.specs.Fields.{cell_named, field_cell}
use Rattle.metadata.specs.Cell.{cells_at, items_of}
use Rattle.metadata.specs.Entries.{entry_of}
use Rattle.metadata.specs.Layout.{Pair, entries_prefix, entry_pair, record_key, records_prefix}
use Rattle.planner.specs.Layout.{primary_cells, stored_record, entry_primary_key}
use Rattle.planner.specs.Exact.{own_pair}
use Rattle.query.specs.declared.filter.Operator.TheVariants.{Equal, NotEqual, Less, AtMost, Greater, AtLeast}
use Rattle.query.specs.Filter.{Filter, compare, null_field, starts, all_of, some_of, negation, filters_of}
use Rattle.query.specs.Truth.{selects}
use Rattle.query.proofs.Truths.{selects-all_of}
use Rattle.planner.specs.Range.{Bound, above, from, below, up_to, prefixed, range_has}
use Rattle.planner.specs.Match.{primary, along, Conjunct, Match, matching, column_in_front, match_of, name_at, fixing}
use Rattle.planner.specs.Match.{bounding, said, first, used, others}
use Rattle.planner.specs.Plan.{Node, filtered, one}
use Rattle.planner.specs.Planned.{matched_range, index_scan, path_scan, residual}
use Rattle.planner.specs.Meaning.{fetched, scanned_keys}
use Rattle.planner.proofs.Admits.{admits}
use Rattle.planner.proofs.Ranges.{PackLaws, Each, IsUsable, spoken, range_exact}
use Rattle.planner.proofs.Residual.{HasValue, if_some, Member, each_member, each_map, each_of_map, IsNumbered, IsFrom, said_from, first_has, residual_exact}
use Rattle.planner.proofs.Nodes.{Gives, IsKeyed, filtered_gives}
use Rattle.planner.proofs.Scans.{Holds, Differ, front_or_later}
use Rattle.planner.proofs.Fetches.{AreKeysOf, fetch_gives, scan_gives, index_scan_gives}

-- the cells of a record's entry: the columns, then the primary key
abbrev pub entry_cells : IndexDefinition → Record → List Cell
entry_cells i r = cells_at r.cells i.columns ++ primary_cells r

-- ---- what a match says is stored

module _ (IsStored : Cell → Type 0) (null_stored : IsStored Null) where
  fixing_stored : (name : List ℕ) (f : Filter) (v : Cell) → HasValue IsStored f → fixing name f ≡ Some v → IsStored v
  fixing_stored name (compare n Equal w) v h e = subst IsStored (if_some (bytes_eq n name) w v e).1 h.0
  fixing_stored name (compare n NotEqual w) v h e = absurd (cc)
  fixing_stored name (compare n Less w) v h e = absurd (cc)
  fixing_stored name (compare n AtMost w) v h e = absurd (cc)
  fixing_stored name (compare n Greater w) v h e = absurd (cc)
  fixing_stored name (compare n AtLeast w) v h e = absurd (cc)
  fixing_stored name (null_field n) v h e = subst IsStored (if_some (bytes_eq n name) Null v e).1 null_stored
  fixing_stored name (starts n w) v h e = absurd (cc)
  fixing_stored name (all_of fs) v h e = absurd (cc)
  fixing_stored name (some_of fs) v h e = absurd (cc)
  fixing_stored name (negation f) v h e = absurd (cc)

  bounding_usable : (name : List ℕ) (f : Filter) (b : Bound) → HasValue IsStored f → bounding name f ≡ Some b → IsUsable IsStored b
  bounding_usable name (compare n Equal w) b h e = absurd (cc)
  bounding_usable name (compare n NotEqual w) b h e = absurd (cc)
  bounding_usable name (compare n Less w) b h e = subst (IsUsable IsStored) (if_some (bytes_eq n name) (below w) b e).1 h
  bounding_usable name (compare n AtMost w) b h e = subst (IsUsable IsStored) (if_some (bytes_eq n name) (up_to w) b e).1 h
  bounding_usable name (compare n Greater w) b h e = subst (IsUsable IsStored) (if_some (bytes_eq n name) (above w) b e).1 h
  bounding_usable name (compare n AtLeast w) b h e = subst (IsUsable IsStored) (if_some (bytes_eq n name) (from w) b e).1 h
  bounding_usable name (null_field n) b h e = absurd (cc)
  bounding_usable name (starts n w) b h e = subst (IsUsable IsStored) (if_some (bytes_eq n name) (prefixed w) b e).1 h
  bounding_usable name (all_of fs) b h e = absurd (cc)
  bounding_usable name (some_of fs) b h e = absurd (cc)
  bounding_usable name (negation f) b h e = absurd (cc)

  module _ (cs : List Conjunct) (values : Each (λ c. HasValue IsStored c.1) cs) where
    -- what a match says is stored, and is of as many columns as there are
    pub match_stored : (names : List (List ℕ)) →
        Each IsStored (map (λ f. f.1) (matching cs names).fixed) × Each (IsUsable IsStored) (map (λ b. b.1) (matching cs names).bounds)
        × (spoken (map (λ f. f.1) (matching cs names).fixed) (map (λ b. b.1) (matching cs names).bounds) ≤ length names)
    match_stored [] = (tt, tt, omega arith)
    match_stored (name ∷ names) = by (first (said (fixing name) cs)) refl (match_stored names)
      where
        at_most_one : (bs : List Bound) → spoken [] bs ≤ length (name ∷ names)
        at_most_one [] = omega arith
        at_most_one (b ∷ bs) = omega arith

        usable : Each (IsUsable IsStored) (map (λ b. b.1) (said (bounding name) cs))
        usable = each_of_map (IsUsable IsStored) (λ b. b.1) (said (bounding name) cs)
            (each_map (IsFrom (bounding name) cs) (λ b. IsUsable IsStored b.1)
            (λ b m. bounding_usable name m.0 b.1 (each_member (λ c. HasValue IsStored c.1) values m.1) m.2) (said (bounding name) cs) (said_from (bounding name) cs))

        by : (o : Option (ℕ × Cell)) → first (said (fixing name) cs) ≡ o →
            (Each IsStored (map (λ f. f.1) (matching cs names).fixed) × Each (IsUsable IsStored) (map (λ b. b.1) (matching cs names).bounds)
            × (spoken (map (λ f. f.1) (matching cs names).fixed) (map (λ b. b.1) (matching cs names).bounds) ≤ length names)) →
            Each IsStored (map (λ f. f.1) (column_in_front o (said (bounding name) cs) (matching cs names)).fixed)
            × Each (IsUsable IsStored) (map (λ b. b.1) (column_in_front o (said (bounding name) cs) (matching cs names)).bounds)
            × (spoken (map (λ f. f.1) (column_in_front o (said (bounding name) cs) (matching cs names)).fixed) (map (λ b. b.1) (column_in_front o (said (bounding name) cs) (matching cs names)).bounds) ≤ length (name ∷ names))
        by None q more = (tt, usable, at_most_one (map (λ b. b.1) (said (bounding name) cs)))
        by (Some f) q more =
            let m : IsFrom (fixing name) cs f = first_has (IsFrom (fixing name) cs) (said (fixing name) cs) f q (said_from (fixing name) cs) in
            ((fixing_stored name m.0 f.1 (each_member (λ c. HasValue IsStored c.1) values m.1) m.2, more.0), more.1, omega (arith, more.2))

-- ---- the conjuncts of a filter are numbered

numbered_from : (fs : List Filter) (n i : ℕ) (f : Filter) → Member (i, f) (enumerate_from n fs) → n ≤ i
numbered_from [] n i f m = elim m [ ]
numbered_from (g ∷ fs) n i f m =
    elim (front_or_later (i, f) (n, g) (enumerate_from (n + 1) fs) m) [
      | inl e ↦ let same : i ≡ n = ap (λ x. x.0) e in omega (arith, same)
      | inr k ↦ let more : n + 1 ≤ i = numbered_from fs (n + 1) i f k in omega (arith, more)
    ]

pub enumerated : (fs : List Filter) (n : ℕ) → IsNumbered (enumerate_from n fs)
enumerated [] n i f g m k = elim m [ ]
enumerated (h ∷ fs) n i f g m k =
    elim (front_or_later (i, f) (n, h) (enumerate_from (n + 1) fs) m) [
      | inl e ↦ elim (front_or_later (i, g) (n, h) (enumerate_from (n + 1) fs) k) [
        | inl d ↦ ap (λ x. x.1) e ∙ sym (ap (λ x. x.1) d)
        | inr l ↦ let same : i ≡ n = ap (λ x. x.0) e in let more : n + 1 ≤ i = numbered_from fs (n + 1) i g l in absurd (omega (arith, same, more))
      ]
      | inr l ↦ elim (front_or_later (i, g) (n, h) (enumerate_from (n + 1) fs) k) [
        | inl d ↦ let same : i ≡ n = ap (λ x. x.0) d in let more : n + 1 ≤ i = numbered_from fs (n + 1) i f l in absurd (omega (arith, same, more))
        | inr o ↦ enumerated fs (n + 1) i f g l o
      ]
    ]

pub list_all-enumerated : (p : Filter → Bool) (fs : List Filter) (n : ℕ) → list_all (λ c. p c.1) (enumerate_from n fs) ≡ list_all p fs
list_all-enumerated p [] n = refl
list_all-enumerated p (f ∷ fs) n = ap (λ t. p f && t) (list_all-enumerated p fs (n + 1))

list_all-seconds : (p : Filter → Bool) (cs : List Conjunct) → list_all p (map (λ c. c.1) cs) ≡ list_all (λ c. p c.1) cs
list_all-seconds p [] = refl
list_all-seconds p (c ∷ cs) = ap (λ t. p c.1 && t) (list_all-seconds p cs)

and_true : (s : Bool) → (s && true) ≡ s
and_true true = refl
and_true false = refl

-- ---- a path's plan

module _ (prefix : List ℕ) (pairs : List Pair) (t : TypeDefinition) (records : List Record) where
  -- a node gives also what another test passes that agrees on the records
  pub gives_same : (n : Node) (p q : Record → Bool) → ((r : Record) → Member r records → p r ≡ q r) → Gives prefix pairs t records n p → Gives prefix pairs t records n q
  gives_same n p q same g = record {
    rows = g.rows;
    means = g.means;
    selected = record {
      only = λ r m. let o : Member r records × (p r ≡ true) = g.selected.only r m in (o.0, sym (same r o.0) ∙ o.1);
      all = λ r m e. g.selected.all r m (same r m ∙ e);
    };
    once = g.once;
  }

  -- a residual filter leaves the records at which its conjuncts are true
  pub residual_gives : (cs : List Conjunct) (n : Node) (p : Record → Bool) → Gives prefix pairs t records n p → Gives prefix pairs t records (residual cs n) (λ r. p r && list_all (λ c. selects c.1 r) cs)
  residual_gives [] n p g = gives_same n p (λ r. p r && true) (λ r m. sym (and_true (p r))) g
  residual_gives (c ∷ []) n p g =
      gives_same (filtered c.1 n) (λ r. p r && selects c.1 r) (λ r. p r && (selects c.1 r && true)) (λ r m. ap (λ s. p r && s) (sym (and_true (selects c.1 r)))) (filtered_gives prefix pairs t records c.1 n p g)
  residual_gives (c ∷ d ∷ cs) n p g =
      let f : Filter = all_of (filters_of (map (λ e. e.1) (c ∷ d ∷ cs))) in
      gives_same (filtered f n) (λ r. p r && selects f r) (λ r. p r && list_all (λ e. selects e.1 r) (c ∷ d ∷ cs))
      (λ r m. ap (λ s. p r && s) (selects-all_of (map (λ e. e.1) (c ∷ d ∷ cs)) r ∙ list_all-seconds (λ e. selects e r) (c ∷ d ∷ cs)))
      (filtered_gives prefix pairs t records f n p g)

-- what a map, a codec and a checked type give of one path: its keys are stored cells, and its columns go by their names
pub record IsGoodIndex (IsStored : Cell → Type 0) (prefix : List ℕ) (pairs : List Pair) (t : TypeDefinition) (records : List Record) (i : IndexDefinition) : Type 0 where
  pub holds : Holds (entries_prefix prefix i.number) pairs records (λ r. entry_pair prefix i.number (entry_of i r)) (λ r. pack (entry_cells i r)) (entry_primary_key prefix t i) primary_cells
  pub stored : (r : Record) → Member r records → Each IsStored (entry_cells i r)
  pub named : (r : Record) → Member r records → map (field_cell r) i.columns ≡ map (cell_named r) (map (name_at t) i.columns)

-- the same of the records themselves
pub record IsGoodType (IsStored : Cell → Type 0) (prefix : List ℕ) (pairs : List Pair) (t : TypeDefinition) (records : List Record) : Type 0 where
  pub holds : Holds (records_prefix prefix t.number) pairs records (own_pair prefix pairs) (λ r. pack (map (field_cell r) t.key)) (stored_record prefix t) (λ r. r)
  pub loads : (r : Record) → Member r records → fetched prefix pairs t (primary_cells r) ≡ Some r
  pub keyed : IsKeyed records
  pub keys_are : (r : Record) → Member r records → primary_cells r ≡ Int (pos t.number) ∷ map (field_cell r) t.key
  pub stored : (r : Record) → Member r records → Each IsStored (map (field_cell r) t.key)
  pub named : (r : Record) → Member r records → map (field_cell r) t.key ≡ map (cell_named r) (map (name_at t) t.key)

length-maps : {A B C : Type 0} (f : A → B) (g : A → C) (xs : List A) → length (map f xs) ≡ length (map g xs)
length-maps f g [] = refl
length-maps f g (x ∷ xs) = ap suc (length-maps f g xs)

module _ (prefix : List ℕ) (pairs : List Pair) (t : TypeDefinition) (records : List Record)
    (IsStored : Cell → Type 0) (laws : PackLaws IsStored) (null_stored : IsStored Null) (good : IsGoodType IsStored prefix pairs t records)
    (cs : List Conjunct) (is_numbered : IsNumbered cs) (values : Each (λ c. HasValue IsStored c.1) cs) where
  -- cells that begin with a path's columns are in the range of the match where the match admits them
  columns_exact : (names : List (List ℕ)) (r : Record) (front rest : List Cell) → front ≡ map (cell_named r) names → Each IsStored (front ++ rest) →
      (range_has (matched_range (matching cs names)) (pack (front ++ rest)) && list_all (λ c. selects c.1 r) (others (used (matching cs names)) cs)) ≡ list_all (λ c. selects c.1 r) cs
  columns_exact names r front rest same stored =
      let m : Match = matching cs names in
      let s : Each IsStored (map (λ e. e.1) m.fixed) × Each (IsUsable IsStored) (map (λ b. b.1) m.bounds) × (spoken (map (λ e. e.1) m.fixed) (map (λ b. b.1) m.bounds) ≤ length names) =
      match_stored IsStored null_stored cs values names in
      let size : length front ≡ length names = ap length same ∙ length-maps (cell_named r) (λ n. n) names ∙ length-same names in
      let long : spoken (map (λ e. e.1) m.fixed) (map (λ b. b.1) m.bounds) ≤ length (front ++ rest) = omega (arith, s.2, length-append front rest, size) in
      ap (λ b. b && list_all (λ c. selects c.1 r) (others (used m) cs))
      (range_exact IsStored laws (map (λ e. e.1) m.fixed) (map (λ b. b.1) m.bounds) (front ++ rest) s.0 s.1 stored long
      ∙ ap (λ c. admits (map (λ e. e.1) m.fixed) (map (λ b. b.1) m.bounds) (c ++ rest)) same)
      ∙ residual_exact IsStored r cs values is_numbered names rest
    where
      length-same : (ns : List (List ℕ)) → length (map (λ n. n) ns) ≡ length ns
      length-same [] = refl
      length-same (n ∷ ns) = ap suc (length-same ns)

  -- the range of an index's match and the other conjuncts are all conjuncts
  pub along_exact : (i : IndexDefinition) → IsGoodIndex IsStored prefix pairs t records i → (r : Record) → Member r records →
      (range_has (matched_range (match_of t cs (along i))) (pack (entry_cells i r)) && list_all (λ c. selects c.1 r) (others (used (match_of t cs (along i))) cs)) ≡ list_all (λ c. selects c.1 r) cs
  along_exact i g r m = columns_exact (map (name_at t) i.columns) r (map (field_cell r) i.columns) (primary_cells r) (g.named r m) (g.stored r m)

  pub primary_exact : (r : Record) → Member r records →
      (range_has (matched_range (match_of t cs primary)) (pack (map (field_cell r) t.key)) && list_all (λ c. selects c.1 r) (others (used (match_of t cs primary)) cs)) ≡ list_all (λ c. selects c.1 r) cs
  primary_exact r m =
      ap (λ w. range_has (matched_range (match_of t cs primary)) (pack w) && list_all (λ c. selects c.1 r) (others (used (match_of t cs primary)) cs)) (sym (append-nil (map (field_cell r) t.key)))
      ∙ columns_exact (map (name_at t) t.key) r (map (field_cell r) t.key) [] (good.named r m) (subst (Each IsStored) (sym (append-nil (map (field_cell r) t.key))) (good.stored r m))

  -- the plan along an index, in either direction, gives exactly what all conjuncts select
  pub along_gives : (reversed : Bool) (i : IndexDefinition) → IsGoodIndex IsStored prefix pairs t records i →
      Gives prefix pairs t records (residual (others (used (match_of t cs (along i))) cs) (path_scan (along i) (match_of t cs (along i)) reversed)) (λ r. list_all (λ c. selects c.1 r) cs)
  along_gives reversed i g =
      let m : Match = match_of t cs (along i) in
      let p : Record → Bool = λ r. range_has (matched_range m) (pack (entry_cells i r)) in
      let k : (keys : List (List Cell)) × (scanned_keys prefix pairs t (index_scan i m reversed) ≡ Some keys) × AreKeysOf records p keys × Differ (λ k. k) keys =
      index_scan_gives prefix pairs t records good.keyed (index_scan i m reversed) (λ r. pack (entry_cells i r)) (λ r. entry_pair prefix i.number (entry_of i r)) g.holds in
      gives_same prefix pairs t records (residual (others (used m) cs) (path_scan (along i) m reversed))
      (λ r. p r && list_all (λ c. selects c.1 r) (others (used m) cs)) (λ r. list_all (λ c. selects c.1 r) cs) (λ r n. along_exact i g r n)
      (residual_gives prefix pairs t records (others (used m) cs) (path_scan (along i) m reversed) p
      (fetch_gives prefix pairs t records good.loads (one (index_scan i m reversed)) p k.0 k.1 k.2 k.3))

  -- so does the plan along the primary path
  pub primary_gives : (reversed : Bool) →
      Gives prefix pairs t records (residual (others (used (match_of t cs primary)) cs) (path_scan primary (match_of t cs primary) reversed)) (λ r. list_all (λ c. selects c.1 r) cs)
  primary_gives reversed =
      let m : Match = match_of t cs primary in
      let p : Record → Bool = λ r. range_has (matched_range m) (pack (map (field_cell r) t.key)) in
      gives_same prefix pairs t records (residual (others (used m) cs) (path_scan primary m reversed))
      (λ r. p r && list_all (λ c. selects c.1 r) (others (used m) cs)) (λ r. list_all (λ c. selects c.1 r) cs) (λ r n. primary_exact r n)
      (residual_gives prefix pairs t records (others (used m) cs) (path_scan primary m reversed) p
      (scan_gives prefix pairs t records (record { range = matched_range m; reverse = reversed }) (λ r. pack (map (field_cell r) t.key)) (own_pair prefix pairs) good.holds
      (λ a b e. ap (λ k. record_key prefix (items_of k)) e)))
