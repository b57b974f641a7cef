-- Forms of elements in JSON.
use Rattle.std.proofs.Common.{◌≡◌, ◌↔◌, ℕ, List, Option, Some, None, Result, Err, IsOk, refl, sym, true≢false, ap, map, Vec, Global, zero, suc, ◌+◌, ◌-◌, ◌<◌, ◌≤◌, length, get_or, take, ◌∙◌, ◌++◌, [], ◌∷◌, arith}
use Rattle.std.specs.Prelude.{option_map}
use Rattle.serde_json.specs.Data.{Data}
use Rattle.serde_json.specs.Find.{as_str}
use Rattle.tuple_codec.specs.Item.{Item}
use Rattle.std.proofs.lemmas.List.{map-append}
use native.Mathlib.Numerals.{unary_clauses}
use Rattle.serde_json.proofs.Views.{view-Array}
use Rattle.serde_json.specs.View.{view}
use Rattle.serde_json.specs.declared.value.Value.{Value, Array}
use Rattle.tuple_codec.specs.Item.{nested, items_from, item_depth, nesting}
use Rattle.tuple_codec.specs.Elements.{item_in as item_of, items_in}
use Rattle.tuple_codec.specs.declared.Element.{Element}
use Rattle.tuple_codec.proofs.Nests.{nesting_more, items_more}
use Rattle.json_forms.specs.Json.{each_in}
use Rattle.json_forms.specs.TupleJson.{of_text, json_item, nested_in}
use Rattle.json_forms.proofs.Each.{items_in_items_of, each_more, each_joined}

-- what isn't parsed has no meaning
pub parsed_to_none : {E : Type 0} (found : Option (List ℕ)) (r : Result (List ℕ) E) (error : E) → r ≡ Err error → (IsOk r ↔ ((u : List ℕ) × (found ≡ Some u))) → found ≡ None
parsed_to_none None r error e h = refl
parsed_to_none (Some u) r error e h = absurd (true≢false (sym ((rw e at h).1 (u, refl))))

pub no_meaning : (f : List ℕ → Option (List ℕ)) (item : List ℕ → Item) (d : Data) (t : List ℕ) → as_str d ≡ Some t → f t ≡ None → of_text (λ s. option_map item (f s)) d ≡ None
no_meaning f item d t is e = rw (is, e)

-- a list stands for a nested tuple
pub array_item : (levels : ℕ) (vs : Vec Value Global) → json_item levels (view (Array vs)) ≡ nested_in levels (map view vs.items)
array_item levels vs = rw (view-Array vs, items_in_items_of (map view vs.items))

pub no_level : (ds : List Data) → nested_in 0 ds ≡ None
unfolding nested_in
no_level ds = refl

pub one_level : (levels : ℕ) (ds : List Data) (found : Option (List Item)) → 0 < levels → each_in (json_item (levels - 1)) ds ≡ found → nested_in levels ds ≡ option_map (λ items. nested (items_from items)) found
unfolding nested_in
one_level zero ds found some e = absurd (omega arith)
one_level (suc levels) ds found some e = ap (option_map (λ items. nested (items_from items))) (simp unary_clauses at e)

-- one element more
pub items_pushed : (es : List Element) (e : Element) → items_in (es ++ e ∷ []) ≡ items_in es ++ item_of e ∷ []
items_pushed es e = map-append item_of es (e ∷ [])

pub nests_pushed : (levels : ℕ) (es : List Element) (e : Element) → nesting (items_in es) ≤ levels → item_depth (item_of e) ≤ levels → nesting (items_in (es ++ e ∷ [])) ≤ levels
nests_pushed levels es e a b = rw (items_pushed es e) (omega (arith, nesting_more (items_in es) (item_of e)))

pub elements_more : (levels : ℕ) (vs : List Value) (i : ℕ) (v : Value) (es : List Element) (e : Element) → i < length vs → v ≡ get_or vs i v → json_item levels (view v) ≡ Some (item_of e)
    → each_in (json_item levels) (map view (take i vs)) ≡ Some (items_in es) → each_in (json_item levels) (map view (take (i + 1) vs)) ≡ Some (items_in (es ++ e ∷ []))
elements_more levels vs i v es e h at is before = rw (items_pushed es e) (each_more (json_item levels) vs i v (items_in es) (item_of e) h at is before)

-- an element of a list doesn't nest deeper than the list
pub nests_at : (levels : ℕ) (es : List Element) (i : ℕ) (e : Element) → i < length es → e ≡ get_or es i e → nesting (items_in es) ≤ levels → item_depth (item_of e) ≤ levels
nests_at levels [] i e h at deep = absurd (omega arith)
nests_at levels (x ∷ es) zero e h at deep = rw at (omega (arith, deep))
nests_at levels (x ∷ es) (suc i) e h at deep = nests_at levels es i e (omega arith) at (omega (arith, deep))

-- what stands for a nested tuple
pub nested_stands : (levels : ℕ) (vs : Vec Value Global) (items : List Item) → 0 < levels → each_in (json_item (levels - 1)) (map view vs.items) ≡ Some items → json_item levels (view (Array vs)) ≡ Some (nested (items_from items))
nested_stands levels vs items some e = array_item levels vs ∙ one_level levels (map view vs.items) (Some items) some e

-- one element more is written
pub values_more : (levels : ℕ) (es : List Element) (i : ℕ) (e : Element) (vs : List Value) (v : Value) → i < length es → e ≡ get_or es i e → json_item levels (view v) ≡ Some (item_of e)
    → each_in (json_item levels) (map view vs) ≡ Some (items_in (take i es)) → each_in (json_item levels) (map view (vs ++ v ∷ [])) ≡ Some (items_in (take (i + 1) es))
values_more levels es i e vs v h at is before = rw (items_more es i e h at) (each_joined (json_item levels) vs v (items_in (take i es)) (item_of e) before is)
