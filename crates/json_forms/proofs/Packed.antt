-- The cells of a pack are written as they are read, one after another.
use Rattle.std.proofs.Common.{◌≡◌, ◌<◌, ℕ, List, [], ◌∷◌, ◌++◌, length, refl, sym, ◌∙◌, append-nil, arith}
use Rattle.json.specs.Token.{Token}
use Rattle.json.specs.Written.{Written}
use Rattle.metadata.specs.declared.cells.Cell.{Cell}
use Rattle.metadata.specs.Cell.{items_of}
use Rattle.metadata.specs.Stored.{AreStoredAs, BeginsWithCell}
use Rattle.metadata.proofs.Unpacks.{GoesOn, goes_on, stands}
use Rattle.tuple_codec.specs.Spelling.{spelling}
use Rattle.json_forms.specs.RowText.{AreTokensWritten, IsListBegun, cell_json, row_json}
use Rattle.json_forms.proofs.RowTexts.{begun_push, closed}

-- cells were read from bytes, and written, and these bytes are left
abbrev pub AreWritten : List ℕ → List ℕ → Written → Written → Type 0
AreWritten bytes rest old mid = (done : List Cell) × GoesOn bytes done rest × IsListBegun cell_json done old mid

-- one cell more
pub written_more : (bytes rest after : List ℕ) (cell : Cell) (old mid new : Written) → AreWritten bytes rest old mid →
    BeginsWithCell cell after rest → length after < length rest → AreTokensWritten (cell_json cell) mid new →
    AreWritten bytes after old new
written_more bytes rest after cell old mid new (done, on, begun) first shorter written = (
  done ++ cell ∷ [],
  goes_on bytes done rest on (λ none. omega (arith, shorter, none)) (done ++ cell ∷ []) cell after first refl,
  begun_push cell_json done cell old mid new begun written,
)

-- ALL: where no cell is left, those of the pack are written
pub all_written : (bytes rest : List ℕ) (old mid new : Written) → AreWritten bytes rest old mid →
    ((cell : Cell) (after : List ℕ) → BeginsWithCell cell after rest → ⊥) →
    new.tokens ≡ mid.tokens ++ Token.end_array ∷ [] → new.before ≡ mid.before →
    (cells : List Cell) → AreStoredAs bytes cells → AreTokensWritten (row_json cells) old new
all_written bytes rest old mid new (done, on, begun) none tokens before cells are =
    let it = on.only cells are in by it.others it.whole it.left
  where
    by : (others : List Cell) → cells ≡ done ++ others → AreStoredAs rest others → AreTokensWritten (row_json cells) old new
    by [] whole left = closed cell_json cells done old mid new (sym (whole ∙ append-nil done)) begun tokens before
    by (one ∷ others) whole left = absurd (none one (spelling (items_of others)) (stands one others rest left))
