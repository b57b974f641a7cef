-- Private: why pairs stand for nothing, of what form the entries of an index are, and how they are told without being
-- unpacked.
use Rattle.std.specs.Prelude.{◌≡◌, ℕ, Bool, true, false, if◌then◌else◌, List, ◌++◌, length, take, drop}
use Rattle.std.specs.Prelude.{Option, Some, None, option_map, option_and_then, Result, Err}
use Rattle.metadata.specs.declared.cells.Cell.{Cell}
use Rattle.metadata.specs.declared.cells.Kind.{Kind}
use Rattle.metadata.specs.declared.definition.TypeDefinition.{TypeDefinition}
use Rattle.metadata.specs.declared.index.IndexDefinition.{IndexDefinition}
use Rattle.metadata.specs.Cell.{all_fit}
use Rattle.metadata.specs.Schema.{key_kinds}
use Rattle.metadata.specs.Layout.{entries_prefix}
use Rattle.planner.specs.Layout.{column_kinds, is_entry}
use Rattle.planner.specs.Pack.{unpack}
use Rattle.plan_exec.specs.declared.entry.EntryForm.{EntryForm}
use Rattle.plan_exec.specs.declared.error.ExecError.{ExecError}
use Rattle.plan_exec.specs.declared.error.ExecError.TheVariants.{Corrupt, Memory}

-- why something isn't made of pairs: memory runs out, or the first of which it isn't has this key
abbrev pub IsDamage : {A : Type 0} → Result A (List ℕ) → ExecError → Type 0
IsDamage found Memory = Unit {0}
IsDamage found (Corrupt key) = found ≡ Err key
IsDamage found error = ⊥

-- what the keys of an index's entries begin with, and the kinds of their columns and of the key fields after them
pub record IsFormOf (prefix : List ℕ) (t : TypeDefinition) (i : IndexDefinition) (form : EntryForm) : Type 0 where
  pub front : form.front.items ≡ entries_prefix prefix i.number
  pub columns : form.columns.items ≡ column_kinds t i
  pub key : form.key.items ≡ key_kinds t

-- the bytes are the pack of cells of which this is so
abbrev pub is_pack_of : (List Cell → Bool) → List ℕ → Bool
is_pack_of so bytes = elim (unpack bytes) [ Some cells ↦ so cells | None ↦ false ]

-- the bytes begin with the packs of cells of these kinds, null or not, and these are after them
pub record AreAfter (kinds : List Kind) (rest bytes : List ℕ) : Type 0 where
  pub cells : List Cell
  pub fit : all_fit kinds cells ≡ true
  pub before : List ℕ
  pub whole : bytes ≡ before ++ rest
  pub same : unpack bytes ≡ option_map (λ more. cells ++ more) (unpack rest)

-- the cells whose pack the bytes are don't begin with such cells
abbrev pub NoneAreAfter : List Kind → List ℕ → Type 0
NoneAreAfter kinds bytes =
    (cells : List Cell) → unpack bytes ≡ Some cells → all_fit kinds (take (length kinds) cells) ≡ false

-- the primary key in an entry, by what stands in its key after what the keys of the index's entries begin with
abbrev pub entry_key_in : TypeDefinition → IndexDefinition → List ℕ → Option (List Cell)
entry_key_in t i bytes =
    option_and_then (λ cells. if is_entry t i cells then Some (drop (length i.columns) cells) else None) (unpack bytes)

-- the bytes end with the pack of that primary key
pub record EndsWithKey (t : TypeDefinition) (i : IndexDefinition) (rest bytes : List ℕ) : Type 0 where
  pub before : List ℕ
  pub whole : bytes ≡ before ++ rest
  pub key : List Cell
  pub found : entry_key_in t i bytes ≡ Some key
  pub packed : unpack rest ≡ Some key
