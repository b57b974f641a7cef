-- The pairs of a database, all of them.
use Rattle.std.specs.Prelude.{ℕ, List, []}
use Rattle.kv_core.specs.Bytes.{end_of_keys}
use Rattle.kv_core.specs.Map.{Map, pairs_in}
use Rattle.kv_core.specs.Range.{KeyRange}

-- the range of all keys
abbrev pub every_key : KeyRange
every_key = record { begin = []; end = end_of_keys }

-- the pairs of a map at all keys of a database, in the order of their keys
abbrev pub all_pairs : Map → List (List ℕ × List ℕ)
all_pairs m = pairs_in m every_key
