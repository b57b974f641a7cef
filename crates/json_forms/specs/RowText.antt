-- Private: the JSON of cells and of rows, and what a writer has written of it.
use Rattle.std.specs.Prelude.{◌≡◌, List, [], ◌∷◌, ◌++◌, codes, flat_map}
use Rattle.std.specs.Fmt.{signed_decimal}
use Rattle.json.specs.Json.{Json, Items, Members}
use Rattle.json.specs.Json as json
use Rattle.json.specs.Token as token
use Rattle.json.specs.Tree.{json_tokens}
use Rattle.json.specs.Written.{Written}
use Rattle.hex.specs.Hex.{encode_lower}
use Rattle.metadata.specs.declared.cells.Cell.{Cell}
use Rattle.metadata.specs.declared.cells.Cell.TheVariants.{Null, Int, Text, Bytes}

-- the JSON of a cell
abbrev pub cell_json : Cell → Json
cell_json Null = json.null
cell_json (Int n) = json.number (signed_decimal n)
cell_json (Text s) = json.string s
cell_json (Bytes b) = json.object (json.member (codes "hex") (json.string (encode_lower b)) json.no_members)

-- the items that things are
abbrev pub json_items : {A : Type 0} → (A → Json) → List A → Items
json_items one [] = json.no_items
json_items one (x ∷ xs) = json.item (one x) (json_items one xs)

-- the JSON of a row
abbrev pub row_json : List Cell → Json
row_json cells = json.array (json_items cell_json cells)

-- the JSON of rows
abbrev pub rows_json : List (List Cell) → Json
rows_json rows = json.array (json_items row_json rows)

-- the tokens of a value stand behind what was written
abbrev pub AreTokensWritten : Json → Written → Written → Type 0
AreTokensWritten j old new = (new.tokens ≡ old.tokens ++ json_tokens j) × (new.before ≡ old.before)

-- the tokens of things stand there, behind the bracket that opens their list
abbrev pub IsListBegun : {A : Type 0} → (A → Json) → List A → Written → Written → Type 0
IsListBegun one xs old new =
    (new.tokens ≡ old.tokens ++ token.begin_array ∷ flat_map (λ x. json_tokens (one x)) xs) × (new.before ≡ old.before)
