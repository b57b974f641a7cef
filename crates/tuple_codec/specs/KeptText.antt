-- The bytes of a text, which lies in its value or in memory of its own.
use Rattle.std.specs.Prelude.{ℕ, List, string_bytes}
use Rattle.tuple_codec.specs.declared.short_text.KeptText.{KeptText}
use Rattle.tuple_codec.specs.declared.short_text.KeptText.TheVariants.{Short, Long}

abbrev pub kept_text : KeptText → List ℕ
kept_text (Short text) = text
kept_text (Long text) = string_bytes text
