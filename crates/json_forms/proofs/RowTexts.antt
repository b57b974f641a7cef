-- What is written of rows is read back as these rows.
use Rattle.std.proofs.Common.{◌≡◌, ℕ, ℤ, pos, negsuc, zero, suc, ◌+◌, ◌<◌, ◌≤◌, ◌^◌, true, List, [], ◌∷◌, ◌++◌, All, length, get_or, take, flat_map, slice_index, Some, None, option_map, option_and_then, refl, sym, ap, subst, ◌∙◌, arith, append_assoc, append-nil}
use Rattle.std.proofs.lemmas.Bool.{ltb-true}
use Rattle.std.proofs.lemmas.List.{take_more}
use Rattle.std.proofs.lemmas.List.Elements.{All-head, All-more, All-tail}
use Rattle.std.specs.Fmt.{signed_decimal}
use Rattle.hex.specs.Hex.{encode_lower}
use Rattle.json.specs.Json.{Json, if_last}
use Rattle.json.specs.Json as json
use Rattle.json.specs.Lex.{tokens}
use Rattle.json.specs.Token.{Token}
use Rattle.json.specs.Tree.{depth, items_depth, items_tokens, json_tokens}
use Rattle.json.specs.Written.{Written}
use Rattle.json.proofs.Printed.Trees.{value-json_tokens}
use Rattle.serde_json.specs.Data.{Data, Items, array, item, no_items, number}
use Rattle.serde_json.specs.Find.{of_integer}
use Rattle.serde_json.specs.Read.{max_depth, number_of, of_items, of_json, read}
use Rattle.serde_json.proofs.Numbers.{number_of-decimal, number_of-negative}
use Rattle.tuple_codec.specs.Item.{AreBytes}
use Rattle.metadata.specs.declared.cells.Cell.{Cell}
use Rattle.metadata.specs.declared.cells.Cell.TheVariants.{Null, Int, Text, Bytes}
use Rattle.metadata.specs.Cell.{IsCell, is_word}
use Rattle.json_forms.specs.CellJson.{IsTextOfCells, IsTextOfRows, cell_data, cell_in, cells_in, rows_in}
use Rattle.json_forms.specs.Json.{each_in, json_values}
use Rattle.json_forms.specs.RowText.{AreTokensWritten, IsListBegun, cell_json, json_items, row_json, rows_json}
use Rattle.json_forms.proofs.Hex.{hex_stands}

-- ---- tokens

-- the tokens of a list are those of its things, and the bracket that closes it
items_tokens-items_of : {A : Type 0} (one : A → Json) (xs : List A) → items_tokens (json_items one xs) ≡ flat_map (λ x. json_tokens (one x)) xs ++ Token.end_array ∷ []
items_tokens-items_of one [] = refl
items_tokens-items_of one (x ∷ xs) =
    ap (λ ts. json_tokens (one x) ++ ts) (items_tokens-items_of one xs)
    ∙ sym (append_assoc (json_tokens (one x)) (flat_map (λ x. json_tokens (one x)) xs) (Token.end_array ∷ []))

flat_map-push : {A B : Type 0} (f : A → List B) (xs : List A) (x : A) → flat_map f (xs ++ x ∷ []) ≡ flat_map f xs ++ f x
flat_map-push f [] x = append-nil (f x)
flat_map-push f (y ∷ xs) x = ap (λ ys. f y ++ ys) (flat_map-push f xs x) ∙ sym (append_assoc (f y) (flat_map f xs) (f x))

flat_map-more : {A B : Type 0} (f : A → List B) (xs : List A) (i : ℕ) (x : A) → i < length xs → x ≡ get_or xs i x → flat_map f (take (i + 1) xs) ≡ flat_map f (take i xs) ++ f x
flat_map-more f xs i x within is = ap (flat_map f) (take_more xs i x within ∙ ap (λ z. take i xs ++ z ∷ []) (sym is)) ∙ flat_map-push f (take i xs) x

-- the bracket is written, and nothing behind it yet
pub begun_none : {A : Type 0} (one : A → Json) (xs : List A) (old new : Written) → xs ≡ [] → new.tokens ≡ old.tokens ++ Token.begin_array ∷ [] → new.before ≡ old.before → IsListBegun one xs old new
begun_none one xs old new none e same = (e ∙ ap (λ ys. old.tokens ++ Token.begin_array ∷ flat_map (λ x. json_tokens (one x)) ys) (sym none), same)

-- one thing more
pub begun_more : {A : Type 0} (one : A → Json) (xs : List A) (i : ℕ) (x : A) (old mid new : Written) → i < length xs → x ≡ get_or xs i x →
    IsListBegun one (take i xs) old mid → AreTokensWritten (one x) mid new → IsListBegun one (take (i + 1) xs) old new
begun_more one xs i x old mid new within is begun written = (
  written.0 ∙ ap (λ ts. ts ++ json_tokens (one x)) begun.0
      ∙ append_assoc old.tokens (Token.begin_array ∷ flat_map (λ x. json_tokens (one x)) (take i xs)) (json_tokens (one x))
      ∙ ap (λ ts. old.tokens ++ Token.begin_array ∷ ts) (sym (flat_map-more (λ x. json_tokens (one x)) xs i x within is)),
  written.1 ∙ begun.1,
)

-- one thing more after those that are a list by themselves
pub begun_push : {A : Type 0} (one : A → Json) (xs : List A) (x : A) (old mid new : Written) →
    IsListBegun one xs old mid → AreTokensWritten (one x) mid new → IsListBegun one (xs ++ x ∷ []) old new
begun_push one xs x old mid new begun written = (
  written.0 ∙ ap (λ ts. ts ++ json_tokens (one x)) begun.0
      ∙ append_assoc old.tokens (Token.begin_array ∷ flat_map (λ x. json_tokens (one x)) xs) (json_tokens (one x))
      ∙ ap (λ ts. old.tokens ++ Token.begin_array ∷ ts) (sym (flat_map-push (λ x. json_tokens (one x)) xs x)),
  written.1 ∙ begun.1,
)

-- what holds of the things so far holds of one more
pub known_more : {A : Type 0} (P : A → Type 0) (xs : List A) (i : ℕ) (x : A) → i < length xs → x ≡ get_or xs i x → P x → All P (take i xs) → All P (take (i + 1) xs)
known_more P xs i x within is known so_far = All-more P xs i x within so_far (subst P is known)

-- the list is closed
pub closed : {A : Type 0} (one : A → Json) (xs ys : List A) (old mid new : Written) → ys ≡ xs → IsListBegun one ys old mid → new.tokens ≡ mid.tokens ++ Token.end_array ∷ [] → new.before ≡ mid.before → AreTokensWritten (json.array (json_items one xs)) old new
closed one xs ys old mid new all begun e same = (
  e ∙ ap (λ ts. ts ++ Token.end_array ∷ []) begun.0
      ∙ append_assoc old.tokens (Token.begin_array ∷ flat_map (λ x. json_tokens (one x)) ys) (Token.end_array ∷ [])
      ∙ ap (λ zs. old.tokens ++ Token.begin_array ∷ (flat_map (λ x. json_tokens (one x)) zs ++ Token.end_array ∷ [])) all
      ∙ ap (λ ts. old.tokens ++ Token.begin_array ∷ ts) (sym (items_tokens-items_of one xs)),
  same ∙ begun.1,
)

-- ---- what they are read as

-- the items of things, as they are read
data_of : {A : Type 0} → (A → Data) → List A → Items
data_of one [] = no_items
data_of one (x ∷ xs) = item (one x) (data_of one xs)

row_data : List Cell → Data
row_data cells = array (data_of cell_data cells)

module _ {A : Type 0} (P : A → Type 0) where
  read_items : (written : A → Json) (meant : A → Data) → ((x : A) → P x → of_json (written x) ≡ Some (meant x)) → (xs : List A) → All P xs → of_items (json_items written xs) ≡ Some (data_of meant xs)
  unfolding data_of
  read_items written meant one [] are = refl
  read_items written meant one (x ∷ xs) are =
      ap (option_and_then (λ d. option_map (item d) (of_items (json_items written xs)))) (one x (All-head P x xs are))
      ∙ ap (option_map (item (meant x))) (read_items written meant one xs (All-tail P x xs are))

  each_stands : (stands : Data → Rattle.std.specs.Prelude.Option A) (meant : A → Data) → ((x : A) → P x → stands (meant x) ≡ Some x) → (xs : List A) → All P xs → each_in stands (json_values (data_of meant xs)) ≡ Some xs
  unfolding data_of
  each_stands stands meant one [] are = refl
  each_stands stands meant one (x ∷ xs) are =
      ap (option_and_then (λ first. option_map (λ more. first ∷ more) (each_in stands (json_values (data_of meant xs))))) (one x (All-head P x xs are))
      ∙ ap (option_map (λ more. x ∷ more)) (each_stands stands meant one xs (All-tail P x xs are))

read_whole : (z : ℤ) → is_word z ≡ true → number_of (signed_decimal z) ≡ Some (of_integer z)
read_whole (pos n) is = let small = ltb-true n (2 ^ 63) is in number_of-decimal n (omega (arith, small))
read_whole (negsuc n) is = number_of-negative n (ltb-true n (2 ^ 63) is)

read_cell : (c : Cell) → IsCell c → of_json (cell_json c) ≡ Some (cell_data c)
read_cell Null is = refl
read_cell (Int z) is = ap (option_map number) (read_whole z is)
read_cell (Text s) is = refl
read_cell (Bytes b) is = refl

byte_at : (b : List ℕ) → AreBytes b → (i : ℕ) → slice_index b i < 256
byte_at [] are i = omega arith
byte_at (x ∷ b) are zero = All-head (λ b. b < 256) x b are
byte_at (x ∷ b) are (suc i) = byte_at b (All-tail (λ b. b < 256) x b are) i

stands_cell : (c : Cell) → IsCell c → cell_in (cell_data c) ≡ Some c
stands_cell Null is = refl
stands_cell (Int (pos n)) is = ap (λ b. option_map Int (Rattle.std.specs.Prelude.cond b (Some (pos n)) None)) is
stands_cell (Int (negsuc n)) is = refl
stands_cell (Text s) is = refl
stands_cell (Bytes b) is = hex_stands (encode_lower b) b (byte_at b is) refl

read_row : (cells : List Cell) → All IsCell cells → of_json (row_json cells) ≡ Some (row_data cells)
unfolding row_data
read_row cells are = ap (option_map array) (read_items IsCell cell_json cell_data read_cell cells are)

stands_row : (cells : List Cell) → All IsCell cells → cells_in (row_data cells) ≡ Some cells
unfolding row_data
stands_row cells are = each_stands IsCell cell_in cell_data stands_cell cells are

-- ---- depth

shallow_items : {A : Type 0} (one : A → Json) (n : ℕ) → ((x : A) → depth (one x) ≤ n) → (xs : List A) → items_depth (json_items one xs) ≤ n
shallow_items one n each [] = omega arith
shallow_items one n each (x ∷ xs) = let rest = shallow_items one n each xs in let first = each x in omega (arith, rest, first)

shallow_cell : (c : Cell) → depth (cell_json c) ≤ 1
shallow_cell Null = omega arith
shallow_cell (Int z) = omega arith
shallow_cell (Text s) = omega arith
shallow_cell (Bytes b) = omega arith

shallow_row : (cells : List Cell) → depth (row_json cells) ≤ 2
shallow_row cells = let items = shallow_items cell_json 1 shallow_cell cells in omega (arith, items)

shallow_rows : (rows : List (List Cell)) → depth (rows_json rows) ≤ 3
shallow_rows rows = let items = shallow_items row_json 2 shallow_row rows in omega (arith, items)

-- ---- texts

-- a text of the tokens of a value is read as the value is
read_tokens : (text : List ℕ) (j : Json) → tokens text ≡ json_tokens j → depth j ≤ max_depth → read text ≡ of_json j
read_tokens text j same shallow =
    ap (λ r. option_and_then of_json (option_and_then (λ p. if_last p.0 p.1) r))
    (ap (json.value max_depth) (same ∙ sym (append-nil (json_tokens j))) ∙ value-json_tokens j max_depth [] shallow)

pub cells_read : (text : List ℕ) (cells : List Cell) → tokens text ≡ json_tokens (row_json cells) → All IsCell cells → IsTextOfCells text cells
cells_read text cells same are =
    let shallow = shallow_row cells in
    ap (option_and_then cells_in) (read_tokens text (row_json cells) same (omega (arith, shallow)) ∙ read_row cells are) ∙ stands_row cells are

pub rows_read : (text : List ℕ) (rows : List (List Cell)) → tokens text ≡ json_tokens (rows_json rows) → All (All IsCell) rows → IsTextOfRows text rows
rows_read text rows same are =
    let shallow = shallow_rows rows in
    ap (option_and_then rows_in) (read_tokens text (rows_json rows) same (omega (arith, shallow)) ∙ ap (option_map array) (read_items (All IsCell) row_json row_data read_row rows are))
    ∙ each_stands (All IsCell) cells_in row_data stands_row rows are
