-- What holds of the bytes of all entries.
use Rattle.std.specs.Prelude.{◌≡◌}
use Rattle.tuple_codec.specs.Spelling.{Spells}
use Rattle.command_log.specs.declared.entry.Entry.{Entry}
use Rattle.command_log.specs.Form.{IsEntry, bytes_of_entry, tuple_of_entry}

-- an entry's bytes spell its tuple
abbrev pub BytesSpell : Type 0
BytesSpell = (entry : Entry) → IsEntry entry → Spells (tuple_of_entry entry) (bytes_of_entry entry)

-- no two entries have the same bytes
abbrev pub BytesTell : Type 0
BytesTell = (a b : Entry) → IsEntry a → IsEntry b → bytes_of_entry a ≡ bytes_of_entry b → a ≡ b
