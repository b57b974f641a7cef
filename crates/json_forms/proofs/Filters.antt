-- Lists of filters and of the values that stand for them.
use Rattle.std.proofs.Common.{◌≡◌, ◌∙◌, ℕ, zero, suc, ◌+◌, ◌-◌, ◌<◌, ◌≤◌, slice_index_or, drop, List, [], ◌∷◌, ◌++◌, length, get_or, take, map, false, Option, Some, None, option_map, option_and_then, pos, negsuc, Result, Ok, Err, IfOk, String, string_bytes, Vec, Global, refl, ap, sym, add-one, arith}
use Rattle.std.proofs.Math.Seq.{take-suc}
use Rattle.std.proofs.lemmas.List.{map-append, take_all}
use Rattle.serde_json.proofs.Views.{view-Array}
use Rattle.serde_json.specs.Data.{Data, Items, no_items, item, array, depth, items_depth}
use Rattle.serde_json.specs.Find.{as_str}
use Rattle.serde_json.specs.View.{view, items_of, items_view}
use Rattle.serde_json.specs.Written.{compact_text, has_float, items_have_float}
use Rattle.serde_json.specs.declared.value.Value.{Value, Array}
use Rattle.metadata.specs.declared.cells.Cell.{Cell}
use Rattle.metadata.specs.declared.cells.Cell.TheVariants.{Null, Int, Text, Bytes}
use Rattle.query.specs.Filter.{Filter, compare, null_field, starts, all_of, some_of, negation, Filters, no_filters, filter, filters_of}
use Rattle.query.specs.Filter.{depth as filter_depth, greatest_depth}
use Rattle.query.specs.View.{filter_of}
use Rattle.query.specs.declared.filter.Filter.{Filter as RawFilter}
use Rattle.json_forms.specs.CellJson.{cell_data}
use Rattle.json_forms.specs.Json.{each_in}
use Rattle.json_forms.specs.QueryJson.{filter_data, filter_in, filters_data, filters_in, only_filter, worded_filter}
use Rattle.json_forms.proofs.Each.{items_in_items_of}

-- filters are read one by one
pub filters_each : (ds : List Data) → filters_in (items_of ds) ≡ option_map filters_of (each_in filter_in ds)
filters_each [] = refl
filters_each (d ∷ ds) = by (filter_in d) (each_in filter_in ds) (filters_in (items_of ds)) (filters_each ds)
  where
    by : (one : Option Filter) (more : Option (List Filter)) (rest : Option Filters) → rest ≡ option_map filters_of more
        → option_and_then (λ f. option_map (filter f) rest) one ≡ option_map filters_of (option_and_then (λ f. option_map (λ fs. f ∷ fs) more) one)
    by None more rest e = refl
    by (Some f) None rest e = rw e
    by (Some f) (Some fs) rest e = rw e

-- the data of a list of filters, with one more
pub filters_data_more : (fs : List Filter) (f : Filter) (word : Data) (vs : List Value) (v : Value) → items_view vs ≡ item word (filters_data (filters_of fs)) → view v ≡ filter_data f
    → items_view (vs ++ v ∷ []) ≡ item word (filters_data (filters_of (fs ++ f ∷ [])))
filters_data_more fs f word vs v e is = ap items_of (map-append view vs (v ∷ [])) ∙ behind (map view vs) (view v) (item word (filters_data (filters_of fs))) e ∙ ap (λ w. item word w) (joined fs (view v) is)
  where
    pushed : Items → Data → Items
    pushed no_items d = item d no_items
    pushed (item e es) d = item e (pushed es d)

    behind : (ds : List Data) (d : Data) (all : Items) → items_of ds ≡ all → items_of (ds ++ d ∷ []) ≡ pushed all d
    behind [] d all e = ap (λ w. pushed w d) e
    behind (x ∷ ds) d all e = ap (λ w. item x w) (behind ds d (items_of ds) refl) ∙ ap (λ w. pushed w d) e

    joined : (gs : List Filter) (d : Data) → d ≡ filter_data f → pushed (filters_data (filters_of gs)) d ≡ filters_data (filters_of (gs ++ f ∷ []))
    joined [] d is = ap (λ w. item w no_items) is
    joined (g ∷ gs) d is = ap (λ w. item (filter_data g) w) (joined gs d is)

-- a filter of a list is no deeper than the deepest
pub depth_at : (fs : List RawFilter) (i : ℕ) (f : RawFilter) → i < length fs → f ≡ get_or fs i f → filter_depth (filter_of f) ≤ greatest_depth (filters_of (map filter_of fs))
depth_at [] i f h at = absurd (omega arith)
depth_at (x ∷ fs) zero f h at = rw at (omega arith)
depth_at (x ∷ fs) (suc i) f h at = omega (arith, depth_at fs i f (omega arith) at)

-- a value of a list nests no deeper than the deepest
pub value_depth_at : (vs : List Value) (i : ℕ) (v : Value) → i < length vs → v ≡ get_or vs i v → depth (view v) ≤ items_depth (items_view vs)
value_depth_at [] i v h at = absurd (omega arith)
value_depth_at (x ∷ vs) zero v h at = rw at (omega arith)
value_depth_at (x ∷ vs) (suc i) v h at = omega (arith, value_depth_at vs i v (omega arith) at)

-- no float stands in a cell or a filter
pub cell_without_float : (c : Cell) → has_float (cell_data c) ≡ false
cell_without_float Null = refl
cell_without_float (Int (pos n)) = refl
cell_without_float (Int (negsuc n)) = refl
cell_without_float (Text s) = refl
cell_without_float (Bytes b) = refl

mutual
  pub filter_without_float : (f : Filter) → has_float (filter_data f) ≡ false
  filter_without_float (compare name o v) = rw (cell_without_float v)
  filter_without_float (null_field name) = refl
  filter_without_float (starts name v) = rw (cell_without_float v)
  filter_without_float (all_of fs) = filters_without_float fs
  filter_without_float (some_of fs) = filters_without_float fs
  filter_without_float (negation f) = rw (filter_without_float f)

  pub filters_without_float : (fs : Filters) → items_have_float (filters_data fs) ≡ false
  filters_without_float no_filters = refl
  filters_without_float (filter f fs) = rw (filter_without_float f, filters_without_float fs)

-- a slice's pattern takes its first value apart from the rest
pub taken_apart : {A : Type 0} (xs : List A) (x : A) → 1 ≤ length xs → x ≡ slice_index_or xs 0 x → xs ≡ x ∷ take (length xs - 1) (drop 1 xs)
taken_apart [] x some is = absurd (omega (arith, some))
taken_apart (y ∷ ys) x some is = ap (λ w. y ∷ w) (sym (take_all (length (y ∷ ys) - 1) ys (omega arith))) ∙ ap (λ w. w ∷ take (length (y ∷ ys) - 1) ys) (sym is)

-- the filter of a list that begins with a word
pub list_read : (vs : Vec Value Global) (word : Value) (rest : List Value) (w : List ℕ) → vs.items ≡ word ∷ rest → as_str (view word) ≡ Some w
    → filter_in (view (Array vs)) ≡ worded_filter w (filters_in (items_view rest)) (only_filter (items_view rest)) (map view rest)
list_read vs word rest w e is = rw (view-Array vs, e, is, items_in_items_of (map view rest))

-- only one value is the only one
pub only_one : (vs : List Value) → (length vs ≡ 1 → ⊥) → only_filter (items_view vs) ≡ None
only_one [] more = refl
only_one (v ∷ []) more = absurd (more refl)
only_one (v ∷ w ∷ vs) more = refl

-- lists of two and of three values
pub two_items : (vs : Vec Value Global) (xs : List Value) (a : Value) (w d : Data) → vs.items ≡ xs ++ a ∷ [] → map view xs ≡ w ∷ [] → view a ≡ d
    → view (Array vs) ≡ array (item w (item d no_items))
two_items vs xs a w d e is same = view-Array vs ∙ ap (λ ds. array (items_of ds)) shown
  where
    shown : map view vs.items ≡ w ∷ d ∷ []
    shown = rw (e, map-append view xs (a ∷ []), is, same) refl

pub three_items : (vs : Vec Value Global) (xs ys : List Value) (a b : Value) (w d e : Data) → vs.items ≡ ys ++ b ∷ [] → ys ≡ xs ++ a ∷ [] → map view xs ≡ w ∷ [] → view a ≡ d → view b ≡ e
    → view (Array vs) ≡ array (item w (item d (item e no_items)))
three_items vs xs ys a b w d e all before is first second = view-Array vs ∙ ap (λ ds. array (items_of ds)) shown
  where
    shown : map view vs.items ≡ w ∷ d ∷ e ∷ []
    shown = rw (all, before, map-append view (xs ++ a ∷ []) (b ∷ []), map-append view xs (a ∷ []), is, first, second) refl

-- the text of data without floats
pub text_is : {E : Type 0} (r : Result (String Global) E) (d e : Data) → d ≡ e → has_float e ≡ false → IfOk r (λ s. has_float d ≡ false → string_bytes s ≡ compact_text d) → IfOk r (λ s. string_bytes s ≡ compact_text e)
text_is (Ok s) d e same none h = rw same at (h (ap has_float same ∙ none))
text_is (Err error) d e same none h = tt

-- the data with one part more, where parts are written up to a place
pub data_more : (fs : List RawFilter) (i : ℕ) (f : RawFilter) (word : Data) (vs : List Value) (v : Value) → i < length fs → f ≡ get_or fs i f → view v ≡ filter_data (filter_of f)
    → items_view vs ≡ item word (filters_data (filters_of (map filter_of (take i fs)))) → items_view (vs ++ v ∷ []) ≡ item word (filters_data (filters_of (map filter_of (take (i + 1) fs))))
data_more fs i f word vs v h at is before = rw (add-one, take-suc fs i f h, ← at, map-append filter_of (take i fs) (f ∷ [])) (filters_data_more (map filter_of (take i fs)) (filter_of f) word vs v before is)
