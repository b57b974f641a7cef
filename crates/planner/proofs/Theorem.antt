-- The planner's theorem: over all pairs that are exact, the plan of a checked query has rows, and the query allows them.
use Rattle.std.specs.Prelude.{◌≡◌, ◌≢◌, pos, ℕ, ◌<◌, Bool, true, false, cond, ◌&&◌, ◌==◌, List, [], ◌∷◌, length, map, flat_map, refl, Option, Some, None, is_some, ◌||◌, if◌then◌else◌, All, Contains, find, bytes_eq, slice_index_or, IsSortedByKey}
use Rattle.std.specs.List.{list_all}
use Rattle.std.specs.Option.{option_map_or}
use Rattle.std.proofs.Common.{ap, sym, ◌∙◌, subst, arith, length-append}
use Rattle.std.proofs.lemmas.Option.{same_Some}
use Rattle.std.proofs.lemmas.Bool.{eqb-true}
use Rattle.std.proofs.lemmas.Slice.Eq.{bytes_eq-Decides}
use Rattle.std.proofs.lemmas.List.{get_or_append_left, map-append, length-map}
use Rattle.std.specs.Cmp.{first_so, second_so}
use Rattle.std.specs.Ordering.{is_lt, eq_by_cmp}
use Rattle.metadata.specs.declared.cells.Cell.{Cell}
use Rattle.metadata.specs.declared.cells.Cell.TheVariants.{Null, Int, Text, Bytes}
use Rattle.metadata.specs.declared.definition.Field.{Field}
use Rattle.metadata.specs.declared.index.IndexDefinition.{IndexDefinition}
use Rattle.metadata.specs.declared.cells.Kind.{Kind}
use Rattle.metadata.specs.declared.cells.Kind.TheVariants as kind
use Rattle.metadata.specs.Record.{Record}
use Rattle.metadata.specs.Index.{is_readable, is_value, listed_state}
use Rattle.metadata.specs.Schema.{Schema}
use Rattle.metadata.specs.declared.index.State.{State}
use Rattle.metadata.specs.declared.definition.TypeDefinition.{TypeDefinition}
use Rattle.metadata.specs.Order.{cells_cmp}
use Rattle.metadata.specs.Cell.{IsCell}
use Rattle.metadata.specs.Layout.{Pair}
use Rattle.planner.specs.Layout.{primary_cells}
use Rattle.metadata.specs.Cell.{is_word}
use Rattle.metadata.specs.Lawful.{IsLawfulSchema}
use Rattle.metadata.specs.Record.{primary_key}
use Rattle.metadata.proofs.CellItems.{items_of-injective}
use Rattle.metadata.proofs.StoredApart.{named_typed}
use Rattle.metadata.specs.Schema.{type_at}
use Rattle.planner.proofs.Lawful.{IsSoundType, types_sound, columns_within}
use Rattle.query.specs.Checked.{field_named, is_value_of, is_prefix_of, node_refusal, query_refusal, refusal_unless}
use Rattle.metadata.specs.Schema.{find_type}
use Rattle.query.specs.Filter.{Filter, compare, null_field, starts, all_of, some_of, negation, leaf_values, values, nodes, conjuncts}
use Rattle.query.specs.Query.{Query, sort_cells, sort_cmp, Allows}
use Rattle.query.specs.Truth.{selects}
use Rattle.query.specs.declared.error.QueryError.{QueryError}
use Rattle.query.specs.declared.error.QueryError.TheVariants.{WrongKind}
use Rattle.query.proofs.Refusals.{EachFilter, passed, field_passed, none_refused, nodes_checked}
use Rattle.query.proofs.Truths.{selects-conjuncts}
use Rattle.planner.specs.Match.{numbered_filters, name_at}
use Rattle.planner.specs.Plan.{Node}
use Rattle.planner.specs.Planned.{is_empty, unsorted_plan, sorted_plan, planned}
use Rattle.planner.specs.Rules.{MayBeUsed, usable}
use Rattle.planner.specs.Right.{indexes_of, IsRightFor, IsPlanFor, has_sorted_path, is_served}
use Rattle.planner.specs.Meaning.{rows_of}
use Rattle.planner.proofs.Ranges.{PackLaws, Each}
use Rattle.metadata.specs.Order.{is_string}
use Rattle.metadata.specs.Cell.{is_null as is_null_cell}
use Rattle.planner.proofs.Residual.{HasValue, Member, here, there, each_member, each_from_members, each_map}
use Rattle.planner.proofs.Rows.{member_of_where, IsApart}
use Rattle.planner.proofs.Nodes.{Gives}
use Rattle.planner.proofs.Fetches.{self_tied}
use Rattle.planner.proofs.Paths.{enumerated, list_all-enumerated, IsGoodIndex, IsGoodType}
use Rattle.planner.proofs.Unsorted.{each_left, each_right, conjuncts_checked, numbered_checked, unsorted_gives}
use Rattle.planner.proofs.Lists.{each_all, member_contained, contains_member, all_each, Pairwise, all_pairs, sorted_pairwise}
use Rattle.planner.proofs.Sound.{ReadsBack, AreNamed, rising, good_type, good_index}
use Rattle.planner.proofs.Sorted.{GivesSorted, sorted_gives}
use Rattle.planner.proofs.Extended.{planned_same}
use Rattle.planner.specs.Choice.{IsChosen}
use Rattle.planner.proofs.Choices.{planned_served, planned_chosen}
use Rattle.planner.proofs.Uses.{planned_uses, value_is}
use Rattle.planner.specs.Rising.{MergesRising}
use Rattle.planner.proofs.RisingPlans.{planned_merging}

-- ---- a query's answer

apart_pairwise : (rows : List Record) → IsApart primary_cells rows → Pairwise (λ r s. primary_key r ≢ primary_key s) rows
apart_pairwise [] a = tt
apart_pairwise (r ∷ rows) a = (
  each_map (λ s. eq_by_cmp cells_cmp (primary_cells r) (primary_cells s) ≡ false) (λ s. primary_key r ≢ primary_key s)
      (λ s e same. not_both (sym e ∙ ap (λ k. eq_by_cmp cells_cmp (primary_cells r) k) (sym (items_of-injective (primary_cells r) (primary_cells s) same)) ∙ self_tied (primary_cells r))) rows a.0,
  apart_pairwise rows a.1,
)
  where
    not_both : false ≡ true → ⊥
    not_both e = cc

module _ (prefix : List ℕ) (pairs : List Pair) (t : TypeDefinition) (records : List Record) where
  -- what a node gives is what a query allows, where the tests are the same and the rows are in order
  pub allows : (q : Query) (n : Node) (p : Record → Bool) (g : Gives prefix pairs t records n p) → ((r : Record) → p r ≡ selects q.filter r) → IsSortedByKey (sort_cells q.sort) (sort_cmp q.reverse) g.rows → Allows q records g.rows
  allows q n p g same in_order = record {
    exactly = λ r. (
      λ c. let o : Member r records × (p r ≡ true) = g.selected.only r (member_contained r g.rows c) in (contains_member r records o.0, sym (same r) ∙ o.1),
      λ h. contains_member r g.rows (g.selected.all r (member_contained r records h.0) (same r ∙ h.1)),
    );
    once = all_pairs (λ r s. primary_key r ≢ primary_key s) g.rows (apart_pairwise g.rows g.once);
    in_order = in_order;
  }

-- without a sort every order is allowed
any_order : (sort : List (List ℕ)) (reversed : Bool) (rows : List Record) → is_empty sort ≡ true → IsSortedByKey (sort_cells sort) (sort_cmp reversed) rows
any_order [] reversed rows e = sorted_pairwise (λ x y. is_lt (sort_cmp reversed (sort_cells [] x) (sort_cells [] y))) rows (each_pair rows)
  where
    never : (d : Bool) → is_lt (sort_cmp d [] []) ≡ false
    never true = refl
    never false = refl

    each_later : (r : Record) (zs : List Record) → Each (λ y. is_lt (sort_cmp reversed (sort_cells [] y) (sort_cells [] r)) ≡ false) zs
    each_later r [] = tt
    each_later r (z ∷ zs) = (never reversed, each_later r zs)

    each_pair : (zs : List Record) → Pairwise (λ x y. is_lt (sort_cmp reversed (sort_cells [] y) (sort_cells [] x)) ≡ false) zs
    each_pair [] = tt
    each_pair (z ∷ zs) = (each_later z zs, each_pair zs)
any_order (s ∷ sort) reversed rows e = cc

-- ---- a checked query

not_null : (k : Kind) (c : Cell) → is_value_of k c ≡ true → is_null_cell c ≡ false
not_null k Null e = cc
not_null k (Int z) e = refl
not_null k (Text s) e = refl
not_null k (Bytes b) e = refl

has_prefix : (k : Kind) (c : Cell) → is_prefix_of k c ≡ true → is_string c ≡ true
has_prefix k (Text s) e = refl
has_prefix k (Bytes b) e = refl
has_prefix kind.Int Null e = cc
has_prefix kind.Int (Int z) e = cc
has_prefix kind.Text Null e = cc
has_prefix kind.Text (Int z) e = cc
has_prefix kind.Bytes Null e = cc
has_prefix kind.Bytes (Int z) e = cc

node_has_value : (fields : List Field) (f : Filter) → node_refusal fields f ≡ None → Each IsCell (leaf_values f) → HasValue IsCell f
node_has_value fields (compare n o v) e s =
    let p : (f : Field) × (unless_value f ≡ None) = field_passed (field_named fields n) unless_value e in
    (s.0, not_null p.0.kind v (passed (is_value_of p.0.kind v) WrongKind p.1))
  where
    unless_value : Field → Option QueryError
    unless_value f = refusal_unless (is_value_of f.kind v) WrongKind
node_has_value fields (null_field n) e s = tt
node_has_value fields (starts n v) e s =
    let p : (f : Field) × (unless_prefix f ≡ None) = field_passed (field_named fields n) unless_prefix e in
    (s.0, has_prefix p.0.kind v (passed (is_prefix_of p.0.kind v) WrongKind p.1))
  where
    unless_prefix : Field → Option QueryError
    unless_prefix f = refusal_unless (is_prefix_of f.kind v) WrongKind
node_has_value fields (all_of fs) e s = tt
node_has_value fields (some_of fs) e s = tt
node_has_value fields (negation f) e s = tt

-- a checked query has a value at each leaf
pub have_values : (fields : List Field) (fs : List Filter) → EachFilter (λ f. node_refusal fields f ≡ None) fs → Each IsCell (flat_map leaf_values fs) → Each (HasValue IsCell) fs
have_values fields [] e s = tt
have_values fields (f ∷ fs) e s =
    (node_has_value fields f e.0 (each_left IsCell (leaf_values f) (flat_map leaf_values fs) s), have_values fields fs e.1 (each_right IsCell (leaf_values f) (flat_map leaf_values fs) s))

-- ---- types and indexes

-- what is found is one of the list, and passes
found_member : {A : Type 0} (p : A → Bool) (xs : List A) (x : A) → find p xs ≡ Some x → Member x xs × (p x ≡ true)
found_member p [] x e = cc
found_member {A} p (y ∷ xs) x e = by (p y) refl (λ h. found_member p xs x h) e
  where
    by : (b : Bool) → p y ≡ b → (find p xs ≡ Some x → Member x xs × (p x ≡ true)) → cond b (Some y) (find p xs) ≡ Some x → Member x (y ∷ xs) × (p x ≡ true)
    by true passes more h = subst (λ z. Member z (y ∷ xs) × (p z ≡ true)) (same_Some y x h) (here, passes)
    by false passes more h = let later : Member x xs × (p x ≡ true) = more h in (there later.0, later.1)

-- the type that is found by a name has the name
pub found_named : (schema : Schema) (name : List ℕ) (t : TypeDefinition) → find_type schema name ≡ Some t → t.name ≡ name
found_named schema name t e = (bytes_eq-Decides t.name name).0 (found_member (λ u. bytes_eq u.name name) schema.types t e).1

usable_each : (schema : Schema) (states : List (ℕ × State)) (t : TypeDefinition) → Each (MayBeUsed schema states t) (usable schema states t)
usable_each schema states t = each_from_members (MayBeUsed schema states t) (usable schema states t) (λ i m.
    let k : Member i schema.indexes × (may_use i ≡ true) = member_of_where may_use i schema.indexes m in
    record {
      in_schema = contains_member i schema.indexes k.0;
      of_values = first_so (is_value i.kind) _ (first_so (is_value i.kind && i.type_number == t.number) _ k.1);
      of_type = eqb-true i.type_number t.number (second_so (is_value i.kind) _ (first_so (is_value i.kind && i.type_number == t.number) _ k.1));
      readable = second_so (is_value i.kind && i.type_number == t.number) _ k.1;
    })
  where
    may_use : IndexDefinition → Bool
    may_use i = is_value i.kind && i.type_number == t.number && option_map_or is_readable (listed_state states i.number) false

-- a plan scans only readable indexes by value of its type
pub planned_usable : (schema : Schema) (states : List (ℕ × State)) (t : TypeDefinition) (q : Query) (root : Node) → planned t (usable schema states t) q ≡ Some root → Each (MayBeUsed schema states t) (indexes_of root)
planned_usable schema states t q root e = planned_uses t (usable schema states t) (MayBeUsed schema states t) (usable_each schema states t) q root e

no_field : Field
no_field = record { name = []; kind = kind.Int }

-- ---- the theorem

module _ (laws : PackLaws IsCell) (reads_back : ReadsBack IsCell) (schema : Schema) (states : List (ℕ × State)) (query : Query) (t : TypeDefinition)
    (lawful : IsLawfulSchema schema) (checked : query_refusal schema query ≡ None) (stored : All IsCell (values query.filter)) (its_type : find_type schema query.record_type ≡ Some t) where
  in_schema : Contains schema.types t
  in_schema = contains_member t schema.types (found_member (λ u. bytes_eq u.name query.record_type) schema.types t its_type).0

  sound_type : IsSoundType t
  sound_type = each_member IsSoundType (types_sound schema lawful) (member_contained t schema.types in_schema)

  key_in : Each (λ p. p < length t.fields) t.key
  key_in = sound_type.has_key

  columns_in : (i : IndexDefinition) → MayBeUsed schema states t i → All (λ p. p < length t.fields) i.columns
  columns_in i u =
      each_all (λ p. p < length t.fields) i.columns
      (columns_within schema lawful t i (member_contained i schema.indexes u.in_schema) (ap (type_at schema.types) u.of_type ∙ named_typed schema query.record_type t lawful its_type))

  usable_over : Each (λ i. Each (λ p. p < length t.fields) i.columns) (usable schema states t)
  usable_over = each_map (MayBeUsed schema states t) (λ i. Each (λ p. p < length t.fields) i.columns) (λ i u. all_each (λ p. p < length t.fields) i.columns (columns_in i u)) (usable schema states t) (usable_each schema states t)

  have_value : Each (HasValue IsCell) (nodes query.filter)
  have_value =
      have_values t.fields (nodes query.filter)
      (none_refused t.fields (λ f. node_refusal t.fields f ≡ None) (λ f e. e) (nodes query.filter) (nodes_checked schema query t checked its_type)) (all_each IsCell (values query.filter) stored)

  -- over all pairs that are exact for the type and the indexes that the plan scans, it has rows, and the query allows them
  pub planned_right : (root : Node) → planned t (usable schema states t) query ≡ Some root → IsRightFor query (record { definition = t; root = root })
  planned_right root plan_is prefix pairs u records ext exact = by (is_empty query.sort) refl (sym same_plan ∙ plan_is)
    where
      n : ℕ
      n = length t.fields

      names_same : (p : ℕ) → p < n → name_at t p ≡ name_at u p
      names_same p l =
          sym (get_or_append_left (map (λ f. f.name) t.fields) (map (λ f. f.name) ext.more) [] p (omega (arith, l, length-map t.fields (λ f. f.name))))
          ∙ ap (λ w. slice_index_or w p []) (sym (map-append (λ f. f.name) t.fields ext.more) ∙ ap (map (λ f. f.name)) (sym ext.same_fields))

      same_plan : planned t (usable schema states t) query ≡ planned u (usable schema states t) query
      same_plan = planned_same t u n (sym ext.same_key) names_same key_in (usable schema states t) usable_over query

      named : AreNamed u n
      named = record {
        in_range = omega (arith, ap length ext.same_fields, length-append t.fields ext.more);
        differ = λ i j d l h same. sound_type.names_differ i j d l h (sym (at i d (omega (arith, l, h))) ∙ same ∙ at j d h);
      }
        where
          at : (i : ℕ) (d : Field) → i < length t.fields → (slice_index_or u.fields i d).name ≡ (slice_index_or t.fields i d).name
          at i d l = ap (λ f. f.name) (ap (λ w. slice_index_or w i d) ext.same_fields ∙ get_or_append_left t.fields ext.more d i l)

      key_in_u : All (λ p. p < n) u.key
      key_in_u = subst (λ k. All (λ p. p < length t.fields) k) (sym ext.same_key) (each_all (λ p. p < length t.fields) t.key sound_type.has_key)

      number_fits : is_word (pos u.number) ≡ true
      number_fits = subst (λ k. is_word (pos k) ≡ true) (sym ext.same_number) sound_type.number_fits

      good : IsGoodType IsCell prefix pairs u records
      good = good_type reads_back prefix pairs u (indexes_of root) records exact n named key_in_u number_fits

      goods : Each (IsGoodIndex IsCell prefix pairs u records) (indexes_of root)
      goods = each_from_members (IsGoodIndex IsCell prefix pairs u records) (indexes_of root) (λ i m.
          good_index reads_back prefix pairs u (indexes_of root) records exact n named key_in_u number_fits i (contains_member i (indexes_of root) m)
          (columns_in i (each_member (MayBeUsed schema states t) (planned_usable schema states t query root plan_is) m)))

      by : (b : Bool) → is_empty query.sort ≡ b → (if b then Some (unsorted_plan u (usable schema states t) query.filter).root else sorted_plan u (usable schema states t) (numbered_filters (conjuncts query.filter)) query.sort query.reverse) ≡ Some root →
          (rows : List Record) × (rows_of prefix pairs u (record { definition = t; root = root }) ≡ Some rows) × Allows query records rows
      by true e h =
          let g : Gives prefix pairs u records root (selects query.filter) =
          subst (λ r. Each (IsGoodIndex IsCell prefix pairs u records) (indexes_of r) → Gives prefix pairs u records r (selects query.filter)) (same_Some (unsorted_plan u (usable schema states t) query.filter).root root h)
          (unsorted_gives prefix pairs u records IsCell laws tt good (usable schema states t) query.filter have_value) goods in
          (g.rows, g.means, allows prefix pairs u records query root (selects query.filter) g (λ r. refl) (any_order query.sort query.reverse g.rows e))
      by false e h =
          let g : GivesSorted prefix pairs u records root (λ r. list_all (λ c. selects c.1 r) (numbered_filters (conjuncts query.filter))) query.sort query.reverse =
          sorted_gives prefix pairs u records IsCell laws tt good (rising pairs exact.in_order) (numbered_filters (conjuncts query.filter)) (enumerated (conjuncts query.filter) 0)
          (numbered_checked IsCell (conjuncts query.filter) 0 (conjuncts_checked IsCell query.filter have_value)) query.reverse (usable schema states t) query.sort root h goods in (
            g.gives.rows,
            g.gives.means,
            allows prefix pairs u records query root (λ r. list_all (λ c. selects c.1 r) (numbered_filters (conjuncts query.filter))) g.gives
                (λ r. list_all-enumerated (λ f. selects f r) (conjuncts query.filter) 0 ∙ sym (selects-conjuncts query.filter r)) g.in_order,
          )

  -- it merges only what rises
  pub planned_merges : (root : Node) → planned t (usable schema states t) query ≡ Some root → MergesRising root
  planned_merges root plan_is = planned_merging t (usable schema states t) query have_value root plan_is

  -- and it is of the type that the query names
  pub planned_for : (root : Node) → planned t (usable schema states t) query ≡ Some root → IsPlanFor query (record { definition = t; root = root })
  planned_for root plan_is = record {
    typed = found_named schema query.record_type t its_type;
    over = λ i c. let may = each_member (MayBeUsed schema states t) (planned_usable schema states t query root plan_is) (member_contained i (indexes_of root) c) in record { kind = value_is i.kind may.of_values; type = may.of_type };
    right = planned_right root plan_is;
    merges = planned_merges root plan_is;
  }

  -- it is the promised one
  pub planned_promised : (root : Node) → planned t (usable schema states t) query ≡ Some root → IsChosen t (usable schema states t) query root
  planned_promised root plan_is = planned_chosen t (usable schema states t) IsCell laws tt query root have_value plan_is

  -- there is one exactly where the query is served
  pub planned_where_served : is_some (planned t (usable schema states t) query) ≡ is_served schema states query
  planned_where_served = planned_served t (usable schema states t) query ∙ ap (λ o. is_empty query.sort || option_map_or (has_sorted_path schema states query) o false) (sym its_type)
