-- The bytes of a byte string, which lie in its value or in memory of their own.
use Rattle.std.specs.Prelude.{ℕ, List}
use Rattle.kv_core.specs.declared.bytes.Kept.{Kept}
use Rattle.kv_core.specs.declared.bytes.Kept.TheVariants.{Short, Long}

abbrev pub kept_bytes : Kept → List ℕ
kept_bytes (Short bytes) = bytes
kept_bytes (Long bytes) = bytes.items
