-- The configuration that JSON stands for.
use Rattle.std.specs.Prelude.{ℕ, List, [], ◌∷◌, codes, Option, Some, None, if◌then◌else◌, option_and_then}
use Rattle.std.specs.Option.{option_map_or}
use Rattle.cluster_core.specs.declared.answers.Config.{Config}
use Rattle.serde_json.specs.Data.{Data}
use Rattle.serde_json.specs.Find.{get}
use Rattle.json_forms.specs.Json.{all_in, has_only, hex_in, number_in}

-- the keys that a configuration may have
abbrev pub config_keys : List (List ℕ)
config_keys =
    codes "resolver_splits" ∷ codes "storage_splits" ∷ codes "logs" ∷ codes "window" ∷ codes "start"
    ∷ codes "places" ∷ []

-- the number at a key of an object, or this one where nothing stands there
abbrev pub number_at : List ℕ → ℕ → Data → Option ℕ
number_at key given d = option_map_or number_in (get key d) (Some given)

-- the splits that a list of texts of hexadecimal digits stands for
abbrev pub splits_in : Data → Option (List (List ℕ))
splits_in d = all_in hex_in d

-- the splits at a key of an object, or none where nothing stands there
abbrev pub splits_at : List ℕ → Data → Option (List (List ℕ))
splits_at key d = option_map_or splits_in (get key d) (Some [])

-- the configuration with these splits that an object stands for
abbrev pub config_with : List (List ℕ) → List (List ℕ) → Data → Option Config
config_with resolver_splits storage_splits d =
    option_and_then (λ logs. option_and_then (λ window. option_and_then (λ start. option_and_then (λ places.
    Some (record {
      resolver_splits = resolver_splits;
      storage_splits = storage_splits;
      logs = logs;
      window = window;
      start = start;
      places = places;
    }))
    (number_at (codes "places") 4 d)) (number_at (codes "start") 0 d)) (number_at (codes "window") 1000 d))
    (number_at (codes "logs") 1 d)

-- the configuration that an object stands for, where it has no key that a configuration hasn't
abbrev pub config_in : Data → Option Config
config_in d =
    if has_only config_keys d then
    option_and_then (λ resolver_splits. option_and_then (λ storage_splits. config_with resolver_splits storage_splits d)
    (splits_at (codes "storage_splits") d)) (splits_at (codes "resolver_splits") d)
    else None
