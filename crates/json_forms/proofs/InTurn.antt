-- The grammar's loops, a turn at a time, under the conversion to data.
use Rattle.std.proofs.Common.{◌≡◌, ℕ, ◌-◌, ◌<◌, ◌≤◌, List, [], ◌∷◌, ◌++◌, length, Option, Some, None, refl, sym, subst, ap, ◌∙◌, append_assoc, append-nil, arith}
use Rattle.std.specs.Prelude.{option_map, option_and_then}
use Rattle.json.specs.Token.{Token}
use Rattle.json.specs.Json as json
use Rattle.json.specs.Json.{Parse, parse_map, after_end_array, read_key, items, members, value}
use Rattle.json.proofs.Grammar.{items_end, items_more, members_end, members_more, value-begin_array}
use Rattle.serde_json.specs.Data.{Data, array, object, Items, no_items, item, Members, no_members, put}
use Rattle.serde_json.specs.Read.{of_json, of_items, of_members, converted}
use Rattle.serde_json.specs.View.{view, items_view}
use Rattle.serde_json.specs.declared.value.Value.{Value}
use Rattle.json.specs.Lex.{tokens}
use Rattle.serde_json.specs.Read.{read}
use Rattle.json_forms.specs.Json.{all_in, each_in, json_values}
use Rattle.json_forms.proofs.Each.{each_append}
use Rattle.json_forms.specs.InTurn.{IsNextOf, IsRest, IsRestOfList, value_read}

abbrev pick : {A : Type 0} → A → Option A → A
pick d None = d
pick d (Some a) = a

found : {A B : Type 0} (a : A) (r s : List Token) (x : Option B) (b : B) → option_map {U = B × List Token} (λ y. (y, r)) x ≡ Some (b, s) → (r ≡ s) × (x ≡ Some b)
found a r s None b e = absurd (cc)
found a r s (Some y) b e = let same = ap (pick (y, r)) e in (ap (λ p. p.1) same, ap (λ p. Some p.0) same)

pub converted_some : {A B : Type 0} (f : A → Option B) (o : Option (A × List Token)) (b : B) (r : List Token) → converted f o ≡ Some (b, r) → (a : A) × (o ≡ Some (a, r)) × (f a ≡ Some b)
converted_some f None b r e = absurd (cc)
converted_some f (Some p) b r e = let both = found p.0 p.1 r (f p.0) b e in (p.0, ap (λ s. Some (p.0, s)) both.0, both.1)

twice : {A B : Type 0} (g : A → B) (r : List Token) (x : Option A) → option_map (λ b. (b, r)) (option_map g x) ≡ parse_map g (option_map (λ a. (a, r)) x)
twice g r None = refl
twice g r (Some a) = refl

pub converted-array : (o : Option (json.Items × List Token)) → converted of_json (parse_map json.array o) ≡ parse_map array (converted of_items o)
converted-array None = refl
converted-array (Some p) = twice array p.1 (of_items p.0)

pub converted-object : (o : Option (json.Members × List Token)) → converted of_json (parse_map json.object o) ≡ parse_map object (converted (λ ms. of_members ms no_members) o)
converted-object None = refl
converted-object (Some p) = twice object p.1 (of_members p.0 no_members)

with_item : (j : json.Json) (d : Data) → of_json j ≡ Some d → (o : Option (json.Items × List Token)) → converted of_items (parse_map (json.item j) o) ≡ parse_map (item d) (converted of_items o)
with_item j d e None = refl
with_item j d e (Some p) = rw e (twice (item d) p.1 (of_items p.0))

with_member : (k : List ℕ) (j : json.Json) (d : Data) (old : Members) → of_json j ≡ Some d → (o : Option (json.Members × List Token))
    → converted (λ ms. of_members ms old) (parse_map (json.member k j) o) ≡ converted (λ ms. of_members ms (put k d old)) o
with_member k j d old e None = refl
with_member k j d old e (Some p) = rw e

module _ (p : Parse json.Json) where
  pub item_read : (n : ℕ) (ts r : List Token) (d : Data) → 0 < n → after_end_array ts ≡ None → converted of_json (p ts) ≡ Some (d, r)
      → converted of_items (items p n ts) ≡ parse_map (item d) (converted of_items (items p (n - 1) r))
  item_read n ts r d some going e = let j = converted_some of_json (p ts) d r e in ap (converted of_items) (items_more p n ts r j.0 some going j.1) ∙ with_item j.0 d j.2 _

  pub items_over : (n : ℕ) (ts r : List Token) → length ts ≤ n → after_end_array ts ≡ Some r → converted of_items (items p n ts) ≡ Some (no_items, r)
  items_over n ts r enough e = ap (converted of_items) (items_end p n ts r enough e)

  module _ (old : Members) where
    pub member_read : (n : ℕ) (k : List ℕ) (ts s r : List Token) (d : Data) → 0 < n → read_key ts ≡ Some (Some k, s) → converted of_json (p s) ≡ Some (d, r)
        → converted (λ ms. of_members ms old) (members p n ts) ≡ converted (λ ms. of_members ms (put k d old)) (members p (n - 1) r)
    member_read n k ts s r d some key e =
        let j = converted_some of_json (p s) d r e in
        ap (converted (λ ms. of_members ms old)) (members_more p n k ts s r j.0 some key j.1) ∙ with_member k j.0 d old j.2 _

    pub members_over : (n : ℕ) (ts r : List Token) → length ts ≤ n → read_key ts ≡ Some (None, r) → converted (λ ms. of_members ms old) (members p n ts) ≡ Some (old, r)
    members_over n ts r enough e = ap (converted (λ ms. of_members ms old)) (members_end p n ts r enough e)

-- ---- a list that grows at its end

abbrev pub items_before : List Value → Items → Items
items_before [] rest = rest
items_before (v ∷ vs) rest = item (view v) (items_before vs rest)

pub items_before-no_items : (vs : List Value) → items_before vs no_items ≡ items_view vs
items_before-no_items [] = refl
items_before-no_items (v ∷ vs) = ap (item (view v)) (items_before-no_items vs)

items_push : (vs : List Value) (v : Value) (rest : Items) → items_before vs (item (view v) rest) ≡ items_before (vs ++ v ∷ []) rest
items_push [] v rest = refl
items_push (w ∷ vs) v rest = ap (item (view w)) (items_push vs v rest)

pub one_more_item : (vs : List Value) (v : Value) (r : Option (Items × List Token)) → parse_map (items_before vs) (parse_map (item (view v)) r) ≡ parse_map (items_before (vs ++ v ∷ [])) r
one_more_item vs v None = refl
one_more_item vs v (Some p) = ap (λ ds. Some (ds, p.1)) (items_push vs v p.0)

pub none_before : (r : Option (Items × List Token)) → r ≡ parse_map (λ a. a) r
none_before None = refl
none_before (Some p) = refl

-- ---- the values up to the end of their list

pub rest_over : (depth : ℕ) (ts rest : List Token) → after_end_array ts ≡ Some rest → IsRest depth ts [] rest
rest_over depth ts rest e n enough = ap (converted (λ js. option_map json_values (of_items js))) (items_end (value depth) n ts rest enough e)

one_before : (d : Data) (x : Option Items) (ds : List Data) → option_map json_values x ≡ Some ds → option_map json_values (option_map (item d) x) ≡ Some (d ∷ ds)
one_before d None ds e = absurd (cc)
one_before d (Some js) ds e = ap (option_map (λ more. d ∷ more)) e

with_rest : (j : json.Json) (d : Data) → of_json j ≡ Some d → (o : Option (json.Items × List Token)) (ds : List Data) (rest : List Token) → converted (λ js. option_map json_values (of_items js)) o ≡ Some (ds, rest)
    → converted (λ js. option_map json_values (of_items js)) (parse_map (json.item j) o) ≡ Some (d ∷ ds, rest)
with_rest j d e None ds rest h = absurd (cc)
with_rest j d e (Some p) ds rest h =
    let both = found p.0 p.1 rest (option_map json_values (of_items p.0)) ds h in
    rw (e, one_before d (of_items p.0) ds both.1) (ap (λ s. Some (d ∷ ds, s)) both.0)

pub rest_more : (depth : ℕ) (ts r : List Token) (d : Data) (ds : List Data) (rest : List Token) → after_end_array ts ≡ None → value_read depth ts ≡ Some (d, r) → length r < length ts → IsRest depth r ds rest
    → IsRest depth ts (d ∷ ds) rest
rest_more depth ts r d ds rest going e shorter more n enough =
    let j = converted_some of_json (value depth ts) d r e in
    ap (converted (λ js. option_map json_values (of_items js))) (items_more (value depth) n ts r j.0 (omega arith) going j.1) ∙ with_rest j.0 d j.2 _ ds rest (more (n - 1) (omega arith))

listed : (x : Option Items) (ds : List Data) → option_map json_values x ≡ Some ds → (js : Items) × (x ≡ Some js) × (json_values js ≡ ds)
listed None ds e = absurd (cc)
listed (Some js) ds e = (js, refl, ap (pick (json_values js)) e)

taken : (o : Option (json.Items × List Token)) (ds : List Data) (rest : List Token) → converted (λ js. option_map json_values (of_items js)) o ≡ Some (ds, rest)
    → (js : Items) × (converted of_items o ≡ Some (js, rest)) × (json_values js ≡ ds)
taken None ds rest h = absurd (cc)
taken (Some p) ds rest h =
    let both = found p.0 p.1 rest (option_map json_values (of_items p.0)) ds h in
    let js = listed (of_items p.0) ds both.1 in
    (js.0, ap (option_map (λ b. (b, p.1))) js.1 ∙ ap (λ s. Some (js.0, s)) both.0, js.2)

-- a list is its values
pub list_of_rest : (depth : ℕ) (ts : List Token) (ds : List Data) (rest : List Token) → 0 < depth → IsRest (depth - 1) ts ds rest
    → (js : Items) × (value_read depth (Token.begin_array ∷ ts) ≡ Some (array js, rest)) × (json_values js ≡ ds)
list_of_rest depth ts ds rest deep more =
    let inner = items (value (depth - 1)) (length ts) ts in
    let js = taken inner ds rest (more (length ts) (omega arith)) in
    (js.0, ap (converted of_json) (value-begin_array depth ts deep) ∙ converted-array inner ∙ ap (parse_map array) js.1, js.2)

-- ---- the whole text

pub whole_read : (text : List ℕ) (d : Data) → value_read 127 (tokens text) ≡ Some (d, []) → read text ≡ Some d
whole_read text d e =
    let j = converted_some of_json (value 127 (tokens text)) d [] e in
    ap (λ o. option_and_then of_json (option_and_then (λ p. json.if_last p.0 p.1) o)) j.1 ∙ j.2

-- ---- values up to a place in their list

abbrev pub IsReadTo : {A : Type 0} → (Data → Option A) → ℕ → List Token → List Token → List A → Type 0
IsReadTo f depth start now ones =
    (done : List Data) × (each_in f done ≡ Some ones)
    × ((more : List Data) (rest : List Token) → IsRest depth now more rest → IsRest depth start (done ++ more) rest)
    × (length now ≤ length start)

pub read_none : {A : Type 0} (f : Data → Option A) (depth : ℕ) (ts : List Token) (ones : List A) → ones ≡ [] → IsReadTo f depth ts ts ones
read_none f depth ts ones e = ([], ap Some (sym e), (λ more rest h. h), omega arith)

pub read_one_more : {A : Type 0} (f : Data → Option A) (depth : ℕ) (start now r : List Token) (ones : List A) (one : A) → IsReadTo f depth start now ones → after_end_array now ≡ None → IsNextOf f depth now one r
    → length r < length now → IsReadTo f depth start r (ones ++ one ∷ [])
read_one_more f depth start now r ones one before going next shorter = (
  before.0 ++ next.0 ∷ [],
  each_append f before.0 (next.0 ∷ []) ∙ rw (before.1, next.2) refl,
  (λ more rest h. subst (λ ds. IsRest depth start ds rest) (sym (append_assoc before.0 (next.0 ∷ []) more)) (before.2 (next.0 ∷ more) rest (rest_more depth now r next.0 more rest going next.1 shorter h))),
  omega (arith, before.3),
)

pub read_all : {A : Type 0} (f : Data → Option A) (depth : ℕ) (start now rest : List Token) (ones : List A) → IsReadTo f depth start now ones → after_end_array now ≡ Some rest → IsRestOfList f depth start ones rest
read_all f depth start now rest ones before over = (
  before.0 ++ [],
  before.2 [] rest (rest_over depth now rest over),
  rw append-nil before.1,
)

-- a list of what stands for things
pub list_next : {A : Type 0} (f : Data → Option A) (depth : ℕ) (ts : List Token) (ones : List A) (rest : List Token) → 0 < depth → IsRestOfList f (depth - 1) ts ones rest
    → IsNextOf (all_in f) depth (Token.begin_array ∷ ts) ones rest
list_next f depth ts ones rest deep more =
    let js = list_of_rest depth ts more.0 rest deep more.1 in
    (array js.0, js.1, ap (each_in f) js.2 ∙ more.2)
