-- The keys of an object.
use Rattle.std.proofs.Common.{◌≡◌, ℕ, Bool, true, false, ◌||◌, ◌&&◌, List, [], ◌∷◌, map, Bor, String, Global, string_bytes, refl, ap}
use Rattle.std.specs.List.{list_any}
use Rattle.std.specs.Str.{bytes_eq}
use Rattle.std.specs.Map.{keys_of}
use Rattle.serde_json.proofs.Views.{Entry}
use Rattle.serde_json.specs.View.{members_view}
use Rattle.json_forms.specs.Json.{are_among, is_among}

-- texts behind references
pub any_of_refs : (texts : List (Bor (List ℕ))) (text : List ℕ) → list_any (λ one. bytes_eq one.now text) texts ≡ is_among (map (λ one. one.now) texts) text
any_of_refs [] text = refl
any_of_refs (one ∷ texts) text = ap (λ rest. bytes_eq one.now text || rest) (any_of_refs texts text)

-- keys are among these
abbrev pub all_among : List (List ℕ) → List (String Global) → Bool
all_among keys [] = true
all_among keys (key ∷ more) = is_among keys (string_bytes key) && all_among keys more

-- members have the keys of their entries
pub among_entries : (keys : List (List ℕ)) (es : List Entry) → are_among keys (members_view es) ≡ all_among keys (keys_of es)
among_entries keys [] = refl
among_entries keys (e ∷ es) = ap (λ rest. is_among keys (string_bytes e.0) && rest) (among_entries keys es)

pub first_is_not : (keys : List (List ℕ)) (key : String Global) (more : List (String Global)) → is_among keys (string_bytes key) ≡ false → all_among keys (key ∷ more) ≡ false
first_is_not keys key more e = rw e

pub first_is : (keys : List (List ℕ)) (key : String Global) (more : List (String Global)) → is_among keys (string_bytes key) ≡ true → all_among keys (key ∷ more) ≡ all_among keys more
first_is keys key more e = rw e
