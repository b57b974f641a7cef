-- Parts of ranges.
use Rattle.std.specs.Prelude.{ℕ, IsTrue, List}
use Rattle.kv_core.specs.Range.{KeyRange, contains}

-- each key of a range lies in the whole
abbrev pub IsPart : KeyRange → KeyRange → Type 0
IsPart part whole = (key : List ℕ) → IsTrue (contains part key) → IsTrue (contains whole key)
