-- What the tests of a store's types and indexes say.
use Rattle.std.specs.Prelude.{◌≡◌, ◌&&◌, ◌==◌, ℕ, Bool, true, false, cond, List, [], ◌∷◌, length, drop, map, Option, Some, None, refl, find}
use Rattle.std.specs.Bool.{Decides}
use Rattle.std.specs.List.{AllByRecursion, list_all, list_any, starts_with}
use Rattle.std.specs.Str.{bytes_eq}
use Rattle.std.proofs.Common.{ap, sym, ◌∙◌, subst, inl, inr}
use Rattle.std.proofs.lemmas.Bool.{and_parts, or_cases, or_left, or_right, true≢false, eq-eqb, eqb-true}
use Rattle.std.proofs.lemmas.Bool.Decides.{Decides-and, Decides-eqb, Decides-like}
use Rattle.std.proofs.lemmas.Slice.Eq.{bytes_eq-Decides, starts_is}
use Rattle.metadata.specs.declared.cells.Kind.{Kind}
use Rattle.metadata.specs.declared.cells.Kind.TheVariants as kind
use Rattle.metadata.specs.declared.definition.Field.{Field}
use Rattle.metadata.specs.declared.definition.TypeDefinition.{TypeDefinition}
use Rattle.metadata.specs.declared.index.IndexDefinition.{IndexDefinition}
use Rattle.metadata.specs.declared.index.IndexKind.{IndexKind}
use Rattle.metadata.specs.declared.index.IndexKind.TheVariants.{Value, Count, Sum}
use Rattle.metadata.specs.declared.index.State.{State}
use Rattle.metadata.specs.declared.index.State.TheVariants.{Readable, WriteOnly, Disabled}
use Rattle.metadata.specs.Same.{equal_field, same_kind}
use Rattle.metadata.specs.Schema.{find_type}
use Rattle.record_store.specs.Call.{Opened}
use Rattle.metadata.specs.Index.{is_readable}
use Rattle.record_store.specs.Store.{state_in}
use Rattle.planner.specs.Plan.{Plan}
use Rattle.planner.specs.Planned.{nodes_of}
use Rattle.planner.specs.Right.{Extends, indexes_of_all, indexes_of_scans}
use Rattle.planner.specs.View.{index_scan_of, node_of}
use Rattle.planner.specs.declared.plan.IndexScan.{IndexScan}
use Rattle.planner.specs.declared.plan.Node as step
use Rattle.planner.proofs.Lists.{contains_member, member_contained}
use Rattle.planner.proofs.Residual.{Member, here, there}
use Rattle.planner.proofs.Scans.{front_or_later}
use Rattle.plan_exec.specs.Accepting.{HasType, IsReadableAt, equal_index, equal_kind, equal_place, equal_truth, extends, may_read}

-- ---- tests of equality

kinds : (a b : Kind) → Decides (same_kind a b) (a ≡ b)
kinds kind.Int kind.Int = (λ e. refl, λ e. refl)
kinds kind.Int kind.Text = (λ e. cc, λ e. cc)
kinds kind.Int kind.Bytes = (λ e. cc, λ e. cc)
kinds kind.Text kind.Int = (λ e. cc, λ e. cc)
kinds kind.Text kind.Text = (λ e. refl, λ e. refl)
kinds kind.Text kind.Bytes = (λ e. cc, λ e. cc)
kinds kind.Bytes kind.Int = (λ e. cc, λ e. cc)
kinds kind.Bytes kind.Text = (λ e. cc, λ e. cc)
kinds kind.Bytes kind.Bytes = (λ e. refl, λ e. refl)

fields : (a b : Field) → Decides (equal_field a b) (a ≡ b)
fields a b =
    Decides-like (equal_field a b) (λ both i. record { name = both.0 i; kind = both.1 i }) (λ e. (ap (λ (f : Field). f.name) e, ap (λ (f : Field). f.kind) e))
    (Decides-and (bytes_eq a.name b.name) (same_kind a.kind b.kind) (bytes_eq-Decides a.name b.name) (kinds a.kind b.kind))

index_kinds : (a b : IndexKind) → Decides (equal_kind a b) (a ≡ b)
index_kinds Value Value = (λ e. refl, λ e. refl)
index_kinds Value Count = (λ e. cc, λ e. cc)
index_kinds Value Sum = (λ e. cc, λ e. cc)
index_kinds Count Value = (λ e. cc, λ e. cc)
index_kinds Count Count = (λ e. refl, λ e. refl)
index_kinds Count Sum = (λ e. cc, λ e. cc)
index_kinds Sum Value = (λ e. cc, λ e. cc)
index_kinds Sum Count = (λ e. cc, λ e. cc)
index_kinds Sum Sum = (λ e. refl, λ e. refl)

places : (a b : Option ℕ) → Decides (equal_place a b) (a ≡ b)
places None None = (λ e. refl, λ e. refl)
places None (Some q) = (λ e. cc, λ e. cc)
places (Some p) None = (λ e. cc, λ e. cc)
places (Some p) (Some q) = (λ e. ap (λ x. Some x) (eqb-true p q e), λ e. let same : p ≡ q = cc in eq-eqb p q same)

truths : (a b : Bool) → Decides (equal_truth a b) (a ≡ b)
truths true true = (λ e. refl, λ e. refl)
truths true false = (λ e. absurd (true≢false (sym e)), λ e. absurd (true≢false e))
truths false true = (λ e. absurd (true≢false (sym e)), λ e. absurd (true≢false (sym e)))
truths false false = (λ e. refl, λ e. refl)

indexes : (a b : IndexDefinition) → Decides (equal_index a b) (a ≡ b)
indexes a b =
    Decides-like (equal_index a b)
    (λ all i. record { number = all.0.0.0.0.0.0 i; name = all.0.0.0.0.0.1 i; kind = all.0.0.0.0.1 i; type_number = all.0.0.0.1 i; columns = all.0.0.1 i; summed = all.0.1 i; clear_when_zero = all.1 i })
    (λ e. ((((((ap (λ (t : IndexDefinition). t.number) e, ap (λ (t : IndexDefinition). t.name) e), ap (λ (t : IndexDefinition). t.kind) e), ap (λ (t : IndexDefinition). t.type_number) e), ap (λ (t : IndexDefinition). t.columns) e), ap (λ (t : IndexDefinition). t.summed) e), ap (λ (t : IndexDefinition). t.clear_when_zero) e))
    (Decides-and _ _ (Decides-and _ _ (Decides-and _ _ (Decides-and _ _ (Decides-and _ _ (Decides-and _ _ (Decides-eqb a.number b.number) (bytes_eq-Decides a.name b.name)) (index_kinds a.kind b.kind)) (Decides-eqb a.type_number b.type_number)) (bytes_eq-Decides a.columns b.columns)) (places a.summed b.summed)) (truths a.clear_when_zero b.clear_when_zero))

-- ---- the type

-- the test of a type says that it extends the planned one, where both have one name
pub extends-Decides : (planned t : TypeDefinition) → t.name ≡ planned.name → Decides (extends planned t) (Extends planned t)
extends-Decides planned t named =
    let begin = starts_is fields t.fields planned.fields (starts_with equal_field t.fields planned.fields) refl in (
      λ e. let all = and_parts (t.number == planned.number && bytes_eq t.key planned.key) (starts_with equal_field t.fields planned.fields) e in
          let both = and_parts (t.number == planned.number) (bytes_eq t.key planned.key) all.0 in
          record {
            more = drop (length planned.fields) t.fields;
            same_number = eqb-true t.number planned.number both.0;
            same_name = named;
            same_key = (bytes_eq-Decides t.key planned.key).0 both.1;
            same_fields = begin.0 all.1;
          },
      λ is. (λ i. (eq-eqb t.number planned.number is.same_number i && (bytes_eq-Decides t.key planned.key).1 is.same_key i) && begin.1 is.more is.same_fields i),
    )

-- a type that is found has the name
pub found_name : (name : List ℕ) (types : List TypeDefinition) (t : TypeDefinition) → find (λ (one : TypeDefinition). bytes_eq one.name name) types ≡ Some t → t.name ≡ name
found_name name [] t is = cc
found_name name (one ∷ types) t is = by_test (bytes_eq one.name name) refl is (found_name name types t)
  where
    by_test : (b : Bool) → bytes_eq one.name name ≡ b → cond b (Some one) (find (λ (x : TypeDefinition). bytes_eq x.name name) types) ≡ Some t →
        (find (λ (x : TypeDefinition). bytes_eq x.name name) types ≡ Some t → t.name ≡ name) → t.name ≡ name
    by_test true has some go = let same : one ≡ t = cc in ap (λ (x : TypeDefinition). x.name) (sym same) ∙ (bytes_eq-Decides one.name name).0 has
    by_test false has some go = go some

module _ (opened : Opened) (plan : Plan) where
  pub type_found : (t : TypeDefinition) → find_type opened.schema plan.definition.name ≡ Some t → extends plan.definition t ≡ true → HasType opened plan t
  type_found t found e = record { named = found; extends = (extends-Decides plan.definition t (found_name plan.definition.name opened.schema.types t found)).0 e }

  pub type_other : (t : TypeDefinition) → find_type opened.schema plan.definition.name ≡ Some t → extends plan.definition t ≡ false → (other : TypeDefinition) → HasType opened plan other → ⊥
  type_other t found e other has =
      let both = sym found ∙ has.named in
      let same : t ≡ other = cc in
      let is = (extends-Decides plan.definition other has.extends.same_name).1 has.extends in
      true≢false (sym is ∙ ap (extends plan.definition) (sym same) ∙ e)

-- ---- the indexes

readable_state : (s : State) → Decides (is_readable s) (s ≡ Readable)
readable_state Readable = (λ e. refl, λ e. refl)
readable_state WriteOnly = (λ e. cc, λ e. cc)
readable_state Disabled = (λ e. cc, λ e. cc)

any_member : (i : IndexDefinition) (is : List IndexDefinition) → list_any (λ own. equal_index own i) is ≡ true → Member i is
any_member i [] e = cc
any_member i (own ∷ is) e = elim (or_cases (equal_index own i) (list_any (λ own. equal_index own i) is) e) [
  | inl same ↦ subst (λ x. Member x (own ∷ is)) ((indexes own i).0 same) here
  | inr later ↦ there (any_member i is later)
]

member_any : (i : IndexDefinition) (is : List IndexDefinition) → Member i is → list_any (λ own. equal_index own i) is ≡ true
member_any i [] m = elim m [ ]
member_any i (own ∷ is) m = elim (front_or_later i own is m) [
  | inl same ↦ or_left (equal_index own i) (list_any (λ own. equal_index own i) is) ((indexes own i).1 (sym same))
  | inr later ↦ or_right (equal_index own i) (list_any (λ own. equal_index own i) is) (member_any i is later)
]

module _ (opened : Opened) where
  readable_at : (i : IndexDefinition) → Decides (may_read opened i) (IsReadableAt opened i)
  readable_at i =
      Decides-like (may_read opened i)
      (λ both. record { there = contains_member i opened.schema.indexes both.0; readable = both.1 })
      (λ is. (member_contained i opened.schema.indexes is.there, is.readable))
      (Decides-and _ _ (any_member i opened.schema.indexes, member_any i opened.schema.indexes) (readable_state (state_in opened.states i.number)))

  pub all_readable : (is : List IndexDefinition) → Decides (list_all (may_read opened) is) (AllByRecursion (IsReadableAt opened) is)
  all_readable [] = (λ e. tt, λ all. refl)
  all_readable (i ∷ is) =
      Decides-like (list_all (may_read opened) (i ∷ is)) (λ both. (both.0, both.1)) (λ all. (all.0, all.1))
      (Decides-and (may_read opened i) (list_all (may_read opened) is) (readable_at i) (all_readable is))

-- the test over scans is that over their indexes
pub scans_all : (p : IndexDefinition → Bool) (scans : List IndexScan) → list_all (λ (s : IndexScan). p s.index) scans ≡ list_all p (indexes_of_scans (map index_scan_of scans))
scans_all p [] = refl
scans_all p (s ∷ scans) = ap (λ b. p s.index && b) (scans_all p scans)

-- the test over nodes is that over the first and over the rest
abbrev pub nodes_all : (IndexDefinition → Bool) → List step.Node → Bool
nodes_all p parts = list_all p (indexes_of_all (nodes_of (map node_of parts)))
