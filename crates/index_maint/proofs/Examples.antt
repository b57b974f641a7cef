-- A worked example of an index's entries, computed.
use Rattle.std.proofs.Common.{◌≡◌, ℕ, List, [], ◌∷◌, None, Some, false, pos, refl}
use Rattle.std.specs.declared.cmp.Ordering.TheVariants.{Less}
use Rattle.tuple_codec.specs.Spelling.{byte_count, int_spelling}
use Rattle.kv_core.specs.Bytes.{key_cmp}
use Rattle.kv_core.specs.Range.{KeyRange}
use Rattle.kv_core.specs.declared.change.Mutation.TheVariants.{Set, ClearRange}
use Rattle.metadata.specs.declared.cells.Cell.TheVariants.{Null, Int}
use Rattle.metadata.specs.declared.cells.Cell.{Cell}
use Rattle.metadata.specs.declared.cells.Kind.TheVariants as kind
use Rattle.metadata.specs.declared.definition.Field.{Field}
use Rattle.metadata.specs.declared.definition.TypeDefinition.{TypeDefinition}
use Rattle.metadata.specs.declared.index.IndexDefinition.{IndexDefinition}
use Rattle.metadata.specs.declared.index.IndexKind.TheVariants.{Value}
use Rattle.metadata.specs.Record.{Record}
use Rattle.metadata.specs.Records.{with_record}
use Rattle.index_maint.specs.Layout.{entry_pairs}
use Rattle.index_maint.specs.Changes.{value_changes}

-- a type of whole numbers k, a and b, whose key is k
abbrev field : ℕ → Field
field name = record { name = name ∷ []; kind = kind.Int }

abbrev type : ℕ → TypeDefinition
type number = record { number = number; name = 116 ∷ []; fields = field 107 ∷ field 97 ∷ field 98 ∷ []; key = 0 ∷ []; first_fields = 3 }

abbrev pub row : ℕ → Cell → Cell → Cell → Record
row number k a b = record { definition = type number; cells = k ∷ a ∷ b ∷ [] }

abbrev pub number : ℕ → Cell
number n = Int (pos n)

-- the VALUE index with number 1 over type 1, on the field a
abbrev pub index : IndexDefinition
index = record { number = 1; name = 105 ∷ []; kind = Value; type_number = 1; columns = 1 ∷ []; summed = None; clear_when_zero = false }

abbrev pub prefix : List ℕ
prefix = 0x15 ∷ 0x01 ∷ []

abbrev first : Record
first = row 1 (number 1) (number 5) (number 0)

abbrev changed : Record
changed = row 1 (number 1) (number 6) (number 0)

abbrev second : Record
second = row 1 (number 2) Null (number 0)

-- a record of another type, which has no entry
abbrev other : Record
other = row 2 (number 1) (number 5) (number 0)

abbrev saved : List Record
saved = with_record other (with_record second (with_record changed (with_record first [])))

abbrev key_at_6 : List ℕ
key_at_6 = 0x15 ∷ 0x01 ∷ 0x15 ∷ 0x02 ∷ 0x15 ∷ 0x01 ∷ 0x15 ∷ 0x06 ∷ 0x15 ∷ 0x01 ∷ 0x15 ∷ 0x01 ∷ []

abbrev key_at_5 : List ℕ
key_at_5 = 0x15 ∷ 0x01 ∷ 0x15 ∷ 0x02 ∷ 0x15 ∷ 0x01 ∷ 0x15 ∷ 0x05 ∷ 0x15 ∷ 0x01 ∷ 0x15 ∷ 0x01 ∷ []

abbrev key_at_null : List ℕ
key_at_null = 0x15 ∷ 0x01 ∷ 0x15 ∷ 0x02 ∷ 0x15 ∷ 0x01 ∷ 0x00 ∷ 0x15 ∷ 0x01 ∷ 0x15 ∷ 0x02 ∷ []

-- the pairs of the entries, in the order of the records: that of their keys is another
example_pairs : entry_pairs prefix index saved ≡ (key_at_6, []) ∷ (key_at_null, []) ∷ []
unfolding byte_count int_spelling
example_pairs = refl

example_order : key_cmp key_at_null key_at_6 ≡ Less
example_order = refl

-- what is written where the record comes, gives way to the changed one, and goes
example_comes : value_changes prefix index None (Some first) ≡ Set key_at_5 [] ∷ []
unfolding byte_count int_spelling
example_comes = refl

abbrev point_at_5 : KeyRange
point_at_5 = record { begin = key_at_5; end = 0x15 ∷ 0x01 ∷ 0x15 ∷ 0x02 ∷ 0x15 ∷ 0x01 ∷ 0x15 ∷ 0x05 ∷ 0x15 ∷ 0x01 ∷ 0x15 ∷ 0x01 ∷ 0x00 ∷ [] }

example_changes : value_changes prefix index (Some first) (Some changed) ≡ ClearRange point_at_5 ∷ Set key_at_6 [] ∷ []
unfolding byte_count int_spelling
example_changes = refl

example_goes : value_changes prefix index (Some first) None ≡ ClearRange point_at_5 ∷ []
unfolding byte_count int_spelling
example_goes = refl

-- nothing is written where another field changes
example_stays : value_changes prefix index (Some first) (Some (row 1 (number 1) (number 5) (number 7))) ≡ []
unfolding byte_count int_spelling
example_stays = refl
