-- Private: what is given as packs, and how the value of a record all of whose fields are stored is told by its bytes.
use Rattle.std.specs.Prelude.{◌≡◌, ℕ, Bool, false, List, [], ◌∷◌, ◌++◌, Option, Some, None}
use Rattle.std.specs.Option.{is_some}
use Rattle.std.specs.List.{list_any}
use Rattle.kv_core.specs.Map.{Map}
use Rattle.kv_core.specs.declared.change.CommitRequest.{CommitRequest}
use Rattle.metadata.specs.declared.cells.Cell.{Cell}
use Rattle.metadata.specs.declared.definition.TypeDefinition.{TypeDefinition}
use Rattle.metadata.specs.Cell.{cell_at, cells_at, is_null}
use Rattle.metadata.specs.Layout.{Pair}
use Rattle.metadata.specs.Record.{Record}
use Rattle.metadata.specs.Stored.{AreStoredAs}
use Rattle.planner.specs.Layout.{stored_record}
use Rattle.planner.specs.Pack.{pack, unpack}
use Rattle.plan_exec.specs.Course.{Course}
use Rattle.plan_exec.specs.Streams.{HasGiven}

-- these bytes are the pack of the cell at a place of those whose pack the value is, and it isn't null
abbrev pub IsPieceAt : List ℕ → ℕ → List ℕ → Type 0
IsPieceAt value place piece =
    (cells : List Cell) → unpack value ≡ Some cells → (is_null (cell_at cells place) ≡ false)
    × (piece ≡ pack (cell_at cells place ∷ []))

-- these bytes are the pack of the cells at places of those whose pack the value is, and none of them is null
abbrev pub ArePiecesAt : List ℕ → List ℕ → List ℕ → Type 0
ArePiecesAt value places pieces =
    (cells : List Cell) → unpack value ≡ Some cells → (list_any is_null (cells_at cells places) ≡ false)
    × (pieces ≡ pack (cells_at cells places))

-- a pair stands for a record of the type, and its value is the pack of all cells of the record
pub record StandsWhole (prefix : List ℕ) (t : TypeDefinition) (pair : Pair) : Type 0 where
  pub row : Record
  pub found : stored_record prefix t pair ≡ Some row
  pub whole : AreStoredAs pair.1 row.cells

-- the rows are those before, and the cells of what was found, if something was
abbrev pub rows_with : List (List Cell) → Option Record → List (List Cell)
rows_with rows None = rows
rows_with rows (Some row) = rows ++ row.cells ∷ []

-- a stream gave its next record, or ended, and the cells of the record were added to these rows
pub record HasPacked (maps : ℕ → Map) (before : List Pair → Course Record) (kept : List (List Cell)) (more : Bool)
    (given : List (List Cell)) (after : List Pair → Course Record) (old new : CommitRequest) : Type 0 where
  pub found : Option Record
  pub gave : HasGiven maps before found after old new
  pub tells : more ≡ is_some found
  pub rows : given ≡ rows_with kept found
