-- What `pack` and `unpack` print.
use Rattle.std.specs.Prelude.{◌≡◌, ℕ, List, [], ◌∷◌, ◌++◌, Some, None, Ok, IsOk, MatchResult}
use Rattle.hex.specs.Hex.{decode_of, encode_lower}
use Rattle.tuple_codec.specs.Item.{Item}
use Rattle.tuple_codec.specs.Spelling.{Spells, spelling}
use Rattle.tuple_codec.specs.Refusal.{Refuses}
use Rattle.recordctl.specs.declared.fault.Fault.{Fault}
use Rattle.recordctl.specs.declared.fault.Fault.TheVariants.{CannotRead, BadScript, BadConfig}
use Rattle.recordctl.specs.declared.fault.Fault.TheVariants.{BadArgument, Refused, OutOfMemory}
use Rattle.recordctl.specs.declared.fault.Fault.TheVariants.{RefusedSchema, RefusedQuery, SortNotServed}
use Rattle.recordctl.specs.declared.fault.Fault.TheVariants.{GaveUp, RefusedCommand, Corrupt}
use Rattle.json_forms.specs.TupleJson.{tuple_of_text}

-- the line of a text
abbrev pub line_of : List ℕ → List ℕ
line_of text = text ++ 10 ∷ []

-- the line that `pack` prints of a tuple: its pack in hexadecimal digits
abbrev pub packed_line : List Item → List ℕ
packed_line t = line_of (encode_lower (spelling t))

-- the line that `unpack` prints of hexadecimal digits: a text that stands for the tuple that their bytes spell
pub record IsUnpackedLine (word line : List ℕ) : Type 0 where
  pub bytes : List ℕ
  pub tuple : List Item
  pub text : List ℕ
  pub decoded : decode_of word ≡ Ok bytes
  pub spelled : Spells tuple bytes
  pub written : tuple_of_text text ≡ Some tuple
  pub printed : line ≡ line_of text

-- Private: a fault says why a word isn't packed: no memory, or the word stands for no tuple
abbrev pub explains_pack : List ℕ → Fault → Type 0
explains_pack word OutOfMemory = Unit {0}
explains_pack word BadArgument = tuple_of_text word ≡ None
explains_pack word CannotRead = ⊥
explains_pack word (BadScript step) = ⊥
explains_pack word (BadConfig why) = ⊥
explains_pack word (Refused kind at) = ⊥
explains_pack word (RefusedSchema why) = ⊥
explains_pack word (RefusedQuery why) = ⊥
explains_pack word SortNotServed = ⊥
explains_pack word GaveUp = ⊥
explains_pack word (RefusedCommand why) = ⊥
explains_pack word Corrupt = ⊥

-- Private: a fault says why a word isn't unpacked: no memory, digits that aren't hexadecimal or not in pairs, or bytes
-- that are refused
abbrev pub explains_unpack : List ℕ → Fault → Type 0
explains_unpack word OutOfMemory = Unit {0}
explains_unpack word BadArgument = IsOk (decode_of word) → ⊥
explains_unpack word CannotRead = ⊥
explains_unpack word (BadScript step) = ⊥
explains_unpack word (BadConfig why) = ⊥
explains_unpack word (RefusedSchema why) = ⊥
explains_unpack word (RefusedQuery why) = ⊥
explains_unpack word SortNotServed = ⊥
explains_unpack word GaveUp = ⊥
explains_unpack word (RefusedCommand why) = ⊥
explains_unpack word Corrupt = ⊥
explains_unpack word (Refused kind at) = MatchResult (decode_of word) (λ bytes. Refuses bytes at kind) (λ _. ⊥)
