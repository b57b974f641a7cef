-- What is read of the tokens of a text, one value after another.
use Rattle.std.specs.Prelude.{◌≡◌, ℕ, ◌≤◌, List, length, Option, Some, option_map}
use Rattle.json.specs.Token.{Token}
use Rattle.json.specs.Json.{items, value}
use Rattle.serde_json.specs.Data.{Data}
use Rattle.serde_json.specs.Read.{converted, of_items, of_json}
use Rattle.json_forms.specs.Json.{each_in, json_values}

-- the value that tokens begin with, in which lists and objects nest so deep at most, and the tokens behind it
abbrev pub value_read : ℕ → List Token → Option (Data × List Token)
value_read depth ts = converted of_json (value depth ts)

-- Private: the values up to the bracket that ends their list, and the tokens behind it, where so many tokens count
abbrev pub rest_read : ℕ → ℕ → List Token → Option (List Data × List Token)
rest_read depth n ts = converted (λ js. option_map json_values (of_items js)) (items (value depth) n ts)

-- Private: tokens are these values of a list, each of such a depth at most, its end, and the tokens behind it
abbrev pub IsRest : ℕ → List Token → List Data → List Token → Type 0
IsRest depth ts ds rest = (n : ℕ) → length ts ≤ n → rest_read depth n ts ≡ Some (ds, rest)

-- the value that tokens begin with stands for this, and those are the tokens behind it
abbrev pub IsNextOf : {A : Type 0} → (Data → Option A) → ℕ → List Token → A → List Token → Type 0
IsNextOf f depth ts one rest = (d : Data) × (value_read depth ts ≡ Some (d, rest)) × (f d ≡ Some one)

-- Private: the values up to the end of their list stand for these, and those are the tokens behind it
abbrev pub IsRestOfList : {A : Type 0} → (Data → Option A) → ℕ → List Token → List A → List Token → Type 0
IsRestOfList f depth ts ones rest = (ds : List Data) × IsRest depth ts ds rest × (each_in f ds ≡ Some ones)
