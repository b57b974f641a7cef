-- Worked examples of an index that is being built, computed.
use Rattle.std.proofs.Common.{◌≡◌, ℕ, true, false, List, [], ◌∷◌, None, Some, refl}
use Rattle.tuple_codec.specs.Spelling.{byte_count, int_spelling}
use Rattle.kv_core.specs.Bytes.{end_of_keys}
use Rattle.kv_core.specs.Range.{KeyRange}
use Rattle.metadata.specs.declared.index.IndexDefinition.{IndexDefinition}
use Rattle.metadata.specs.declared.index.IndexKind.TheVariants.{Count}
use Rattle.metadata.specs.declared.index.State.TheVariants.{WriteOnly}
use Rattle.metadata.specs.Record.{Record}
use Rattle.index_maint.specs.Built.{built_records, position}
use Rattle.index_maint.specs.Kept.{kept_writes, records_within}
use Rattle.index_maint.specs.Parts.{first_part}
use Rattle.index_maint.specs.Totals.{count_changes}
use Rattle.index_maint.proofs.Examples.{index, number, prefix, row}

abbrev from : List ℕ → List ℕ → KeyRange
from begin end = record { begin = begin; end = end }

abbrev whole : KeyRange
whole = from [] end_of_keys

abbrev one : Record
one = row 1 (number 1) (number 5) (number 0)

abbrev two : Record
two = row 1 (number 2) (number 5) (number 0)

-- a record of another type
abbrev other : Record
other = row 2 (number 1) (number 5) (number 0)

-- the position is the pack of the key cells alone
position_is : position one ≡ 0x15 ∷ 0x01 ∷ []
unfolding byte_count int_spelling
position_is = refl

-- a range has the records from its begin up to its end, which it hasn't
within_is : built_records (from (0x15 ∷ 0x01 ∷ []) (0x15 ∷ 0x02 ∷ []) ∷ []) (one ∷ two ∷ []) ≡ one ∷ []
unfolding byte_count int_spelling
within_is = refl

-- a step of one record ends behind its position, one of more than there are where the gap does
part_is : first_part 1 whole index (one ∷ two ∷ other ∷ []) ≡ from [] (0x15 ∷ 0x01 ∷ 0x00 ∷ [])
unfolding byte_count int_spelling
part_is = refl

all_is : first_part 3 whole index (one ∷ two ∷ other ∷ []) ≡ whole
unfolding byte_count int_spelling
all_is = refl

-- only records of the index's type are built
type_is : records_within whole index (one ∷ two ∷ other ∷ []) ≡ one ∷ two ∷ []
unfolding byte_count int_spelling
type_is = refl

-- a COUNT waits where the position isn't built
abbrev count : IndexDefinition
count = record index { kind = Count }

count_waits : kept_writes WriteOnly prefix count false None (Some one) ≡ []
count_waits = refl

count_follows : kept_writes WriteOnly prefix count true None (Some one) ≡ count_changes prefix count None (Some one)
count_follows = refl
