-- Steps and scripts from tokens, one value after another.
use Rattle.std.proofs.Common.{◌≡◌, ℕ, ◌-◌, ◌≤◌, List, [], ◌∷◌, length, Option, Some, None, IsUtf8, codes, refl, sym, ap, ◌∙◌, arith}
use Rattle.std.specs.Prelude.{option_map, option_and_then}
use Rattle.cluster_core.specs.declared.answers.Config.{Config}
use Rattle.json.specs.Lex.{tokens}
use Rattle.json.specs.Token.{Token}
use Rattle.json.specs.Json.{members, parse_map, value}
use Rattle.json.proofs.Grammar.{value_is, value-begin_object}
use Rattle.serde_json.specs.Data.{Data, Num, no_members, number, object, put, string}
use Rattle.serde_json.specs.Read.{converted, number_of, of_json}
use Rattle.schedule.specs.declared.step.Step.{Step}
use Rattle.json_forms.specs.Config.{config_in}
use Rattle.json_forms.specs.InTurn.{value_read}
use Rattle.json_forms.specs.Json.{all_in, each_in, list_in, value_in}
use Rattle.json_forms.proofs.InTurn.{converted-object, member_read, members_over, whole_read}
use Rattle.json_forms.proofs.Values.{value_read as value_in_read}
use Rattle.script.specs.Steps.{step_in}
use Rattle.script.specs.Script.{IsScript, frame_in, script_config, steps_alone}

pub number_read : (depth : ℕ) (ts r : List Token) (s : List ℕ) (n : Num) → ts ≡ Token.number s ∷ r → number_of s ≡ Some n → value_read depth ts ≡ Some (number n, r)
number_read depth ts r s n is e =
    ap (converted of_json) (ap (value depth) is ∙ value_is depth (Token.number s ∷ r)) ∙ ap (λ o. option_map (λ d. (d, r)) (option_map number o)) e

pub string_read : (depth : ℕ) (r : List Token) (s : List ℕ) → value_read depth (Token.string s ∷ r) ≡ Some (string s, r)
string_read depth r s = ap (converted of_json) (value_is depth (Token.string s ∷ r))

never : {A : Type 0} (a : A) → None ≡ Some a → ⊥
never a e = cc

some_left : (ts : List Token) (d : Data) (rest : List Token) → value_read 126 ts ≡ Some (d, rest) → 1 ≤ length ts
some_left [] d rest e = absurd (never (d, rest) (sym (ap (converted of_json) (value_is 126 [])) ∙ e))
some_left (t ∷ ts) d rest e = omega arith

-- an object with the key `steps` alone
pub alone_read : (ts : List Token) (d : Data) → value_read 126 ts ≡ Some (d, Token.end_object ∷ []) → value_read 127 (Token.begin_object ∷ Token.key (codes "steps") ∷ ts) ≡ Some (steps_alone d, [])
alone_read ts d e =
    let k = codes "steps" in
    let p = value 126 in
    let n = length (Token.key k ∷ ts) in
    let some = some_left ts d (Token.end_object ∷ []) e in
    ap (converted of_json) (value-begin_object 127 (Token.key k ∷ ts) (omega arith)) ∙ converted-object (members p n (Token.key k ∷ ts))
    ∙ ap (parse_map object) (member_read p no_members n k (Token.key k ∷ ts) ts (Token.end_object ∷ []) d (omega arith) refl e ∙ members_over p (put k d no_members) (n - 1) (Token.end_object ∷ []) [] (omega (arith, some)) refl)

frame_alone : (d : Data) → frame_in (steps_alone d) ≡ list_in d
frame_alone d = refl

config_alone : (d : Data) → script_config (steps_alone d) ≡ config_in (object no_members)
config_alone d = refl

some_of : {A B : Type 0} (f : A → Option B) (o : Option A) (b : B) → option_and_then f o ≡ Some b → (a : A) × (o ≡ Some a)
some_of f None b e = absurd (never b e)
some_of f (Some a) b e = (a, refl)

-- a script with the key `steps` alone
pub script_read : (text : List ℕ) (d : Data) (steps : List Step) (config : Config) → length text ≤ 4000000 → IsUtf8 text → value_read 127 (tokens text) ≡ Some (steps_alone d, []) → all_in step_in d ≡ Some steps
    → config_in (object no_members) ≡ Some config → IsScript text config steps
script_read text d steps config short utf8 e read given =
    let written : value_in text ≡ Some (steps_alone d) = value_in_read text (steps_alone d) short utf8 (whole_read text (steps_alone d) e) in
    let listed = some_of (each_in step_in) (list_in d) steps read in record {
      config_read = ap (option_and_then (λ script. option_and_then (λ steps. script_config script) (frame_in script))) written
          ∙ ap (option_and_then (λ steps. script_config (steps_alone d))) (frame_alone d ∙ listed.1) ∙ config_alone d ∙ given;
      steps_read = ap (λ o. option_and_then (each_in step_in) (option_and_then frame_in o)) written ∙ ap (option_and_then (each_in step_in)) (frame_alone d) ∙ read;
    }
