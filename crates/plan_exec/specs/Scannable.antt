-- Which indexes of a store may be scanned for a type, and what is told of their states.
use Rattle.std.specs.Prelude.{◌≡◌, ℕ, List, Some, Contains}
use Rattle.metadata.specs.declared.definition.TypeDefinition.{TypeDefinition}
use Rattle.metadata.specs.declared.index.IndexDefinition.{IndexDefinition}
use Rattle.metadata.specs.declared.index.IndexKind.TheVariants.{Value}
use Rattle.metadata.specs.declared.index.State.{State}
use Rattle.metadata.specs.declared.index.State.TheVariants.{Readable}
use Rattle.metadata.specs.Index.{listed_state}
use Rattle.record_store.specs.Store.{Store, state_of}

-- the index is one of the store's VALUE indexes over the type, and is readable
pub record IsScannable (store : Store) (t : TypeDefinition) (i : IndexDefinition) : Type 0 where
  pub there : Contains store.schema.indexes i
  pub value : i.kind ≡ Value
  pub over : i.type_number ≡ t.number
  pub readable : state_of store i.number ≡ Readable

-- the states that are told are those of the store's indexes
abbrev pub AreStatesOf : Store → List (ℕ × State) → Type 0
AreStatesOf store states =
    (number : ℕ) (state : State) → listed_state states number ≡ Some state → state_of store number ≡ state
