-- What words that a person types stand for: the text of steps, as they stand in the list of a script's steps.
use Rattle.std.specs.Prelude.{◌≡◌, ℕ, zero, suc, List, [], ◌∷◌, ◌++◌, codes, map, string_bytes}
use Rattle.std.specs.List.{join_with_byte}
use Rattle.shell_line.specs.declared.forms.Form.{Form}
use Rattle.shell_line.specs.declared.forms.Form.TheVariants as forms
use Rattle.shell_line.specs.declared.line.Line.{Line}
use Rattle.shell_line.specs.declared.line.Line.TheVariants as lines
use Rattle.shell_line.specs.declared.word.Word.{Word}

-- a word as it is in the line
abbrev pub word_text : Word → List ℕ
word_text word = word.text.now

-- a name in quotes
abbrev pub in_quotes : List ℕ → List ℕ
in_quotes name = codes "\"" ++ (name ++ codes "\"")

-- Private: what stands before the part at a place of a list
abbrev pub comma_at : ℕ → List ℕ
comma_at zero = []
comma_at (suc place) = codes ","

-- what a step of a client begins with
abbrev pub step_begin : List ℕ → List ℕ → List ℕ
step_begin verb client = codes "[" ++ (in_quotes verb ++ (codes "," ++ client))

-- after a client: the number of a store, or nothing
abbrev pub store_after : List Word → List ℕ
store_after (store ∷ []) = codes "," ++ word_text store
store_after words = []

-- after a client: the name of an index, and how many records are built, 100 where nothing is said
abbrev pub index_after : List Word → List ℕ
index_after (index ∷ []) = codes "," ++ in_quotes (word_text index)
index_after words = []

abbrev pub build_after : List Word → List ℕ
build_after (index ∷ []) = codes "," ++ (in_quotes (word_text index) ++ codes ",100")
build_after (index ∷ limit ∷ []) = codes "," ++ (in_quotes (word_text index) ++ (codes "," ++ word_text limit))
build_after words = []

-- after a client: the name of a type or of an index, and a list of cells
abbrev pub cells_after : List Word → List ℕ
cells_after (owner ∷ cells) =
    codes "," ++ (in_quotes (word_text owner) ++ (codes ",[" ++ (join_with_byte 44 (map word_text cells) ++ codes "]")))
cells_after [] = []

-- after a client: a schema, which has no types where nothing is said
abbrev pub schema_after : List Word → List ℕ
schema_after (schema ∷ []) = codes "," ++ word_text schema
schema_after words = codes ",{\"types\":[]}"

-- a field: its name and its kind
abbrev pub field_text : Word → Word → List ℕ
field_text name kind =
    codes "[" ++ (in_quotes (word_text name) ++ (codes "," ++ (in_quotes (word_text kind) ++ codes "]")))

-- after a client: the name of a type, and a field
abbrev pub field_after : List Word → List ℕ
field_after (owner ∷ name ∷ kind ∷ []) =
    codes "," ++ (in_quotes (word_text owner) ++ (codes "," ++ field_text name kind))
field_after words = []

-- what stands after the client of a step; nothing is said of what stands in queries, types and indexes
abbrev pub IsAfterClient : Form → List Word → List ℕ → Type 0
IsAfterClient forms.Alone words text = text ≡ []
IsAfterClient forms.Bare words text = text ≡ []
IsAfterClient forms.Begin words text = text ≡ store_after words
IsAfterClient forms.Commit words text = text ≡ []
IsAfterClient forms.Role words text = text ≡ []
IsAfterClient forms.Named words text = text ≡ index_after words
IsAfterClient forms.Build words text = text ≡ build_after words
IsAfterClient forms.Cells words text = text ≡ cells_after words
IsAfterClient forms.Query words text = Unit {0}
IsAfterClient forms.Create words text = text ≡ schema_after words
IsAfterClient forms.Type words text = Unit {0}
IsAfterClient forms.Field words text = text ≡ field_after words
IsAfterClient forms.Value words text = Unit {0}
IsAfterClient forms.Count words text = Unit {0}
IsAfterClient forms.Sum words text = Unit {0}

-- the name of the step that a word begins
abbrev pub step_name : Form → List ℕ → List ℕ
step_name forms.Count verb = codes "index"
step_name forms.Sum verb = codes "index"
step_name form verb = verb

-- what a step ends with: where a client commits, all roles then do what there is to do
abbrev pub step_end : Form → List ℕ
step_end forms.Commit = codes "],[\"settle\"]"
step_end form = codes "]"

-- a step of a client, one of a role, and one that is a word alone
pub record IsOfClient (form : Form) (client verb : List ℕ) (words : List Word) (text : List ℕ) : Type 0 where
  pub after : List ℕ
  pub is_after : IsAfterClient form words after
  pub is : text ≡ step_begin (step_name form verb) client ++ (after ++ step_end form)

abbrev pub role_step : List ℕ → List Word → List ℕ
role_step verb (role ∷ []) = step_begin verb (word_text role) ++ codes "]"
role_step verb words = []

abbrev pub step_alone : List ℕ → List ℕ
step_alone verb = codes "[" ++ (in_quotes verb ++ codes "]")

-- the steps that a word and those after it stand for
abbrev pub IsSaid : Form → List ℕ → List ℕ → List Word → List ℕ → Type 0
IsSaid forms.Alone client verb words text = text ≡ step_alone verb
IsSaid forms.Role client verb words text = text ≡ role_step verb words
IsSaid form client verb words text = IsOfClient form client verb words text

-- a text of steps is what some words stand for
pub record IsTyped (text : List ℕ) : Type 0 where
  pub form : Form
  pub client : List ℕ
  pub verb : List ℕ
  pub words : List Word
  pub said : IsSaid form client verb words text

-- what a line stands for: where it isn't in the form of a script, steps are those of words
abbrev pub IsTypedLine : Line → Type 0
IsTypedLine (lines.Steps text) = IsTyped (string_bytes text)
IsTypedLine line = Unit {0}
