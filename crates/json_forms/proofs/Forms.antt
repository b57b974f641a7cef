-- Lists and objects of JSON.
use Rattle.std.proofs.Common.{◌≡◌, ◌↔◌, ℕ, List, length, map, Some, IsTrue, nat_eq, arith}
use Rattle.std.proofs.lemmas.Bool.Decides.{nat_tests}
use Rattle.serde_json.proofs.Views.{Entry, members_len-members_view}
use Rattle.serde_json.specs.Data.{Data}
use Rattle.serde_json.specs.Find.{as_array, as_object}
use Rattle.serde_json.specs.View.{view, items_view, members_view}
use Rattle.serde_json.specs.declared.value.Value.{Value}
use Rattle.json_forms.specs.Json.{list_in, key_count}
use Rattle.json_forms.proofs.Each.{items_in_items_of}

pub list_found : (d : Data) (vs : List Value) → Some (items_view vs) ≡ as_array d → list_in d ≡ Some (map view vs)
list_found d vs e = rw (← e, items_in_items_of (map view vs))

pub keys_counted : (d : Data) (es : List Entry) (count : ℕ) → Some (members_view es) ≡ as_object d → count ≡ length es → key_count d ≡ Some count
keys_counted d es count e h = rw (← e, members_len-members_view es, h)

pub same_count : (count keys : ℕ) → IsTrue (nat_eq count keys) ↔ (Some count ≡ Some keys)
same_count count keys = grind (arith, nat_tests)
