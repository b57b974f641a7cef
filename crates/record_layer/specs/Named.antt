-- What a cell has, where it is of a kind.
use Rattle.std.specs.Prelude.{ℕ, ℤ, List, Option, Some, None}
use Rattle.metadata.specs.declared.cells.Cell.{Cell}
use Rattle.metadata.specs.declared.cells.Cell.TheVariants.{Int, Text}

-- the whole number of a cell that is one
abbrev pub whole_number_in : Cell → Option ℤ
whole_number_in (Int number) = Some number
whole_number_in cell = None

-- the text of a cell that is one
abbrev pub text_in : Cell → Option (List ℕ)
text_in (Text text) = Some text
text_in cell = None
