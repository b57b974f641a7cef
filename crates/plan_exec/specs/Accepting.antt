-- Which plans a store accepts: it has their type, and may read their indexes.
use Rattle.std.specs.Prelude.{◌≡◌, ◌==◌, ◌&&◌, not, if◌then◌else◌, ℕ, Bool, true, false, Option, Some, None, Contains}
use Rattle.std.specs.List.{AllByRecursion, list_any, starts_with}
use Rattle.std.specs.Str.{bytes_eq}
use Rattle.metadata.specs.declared.definition.TypeDefinition.{TypeDefinition}
use Rattle.metadata.specs.declared.index.IndexDefinition.{IndexDefinition}
use Rattle.metadata.specs.declared.index.IndexKind.{IndexKind}
use Rattle.metadata.specs.declared.index.IndexKind.TheVariants.{Value, Count, Sum}
use Rattle.metadata.specs.declared.index.State.TheVariants.{Readable}
use Rattle.metadata.specs.Same.{equal_field}
use Rattle.metadata.specs.Schema.{find_type}
use Rattle.record_store.specs.Call.{Opened}
use Rattle.metadata.specs.Index.{is_readable}
use Rattle.record_store.specs.Store.{state_in}
use Rattle.planner.specs.Plan.{Plan}
use Rattle.planner.specs.Right.{Extends, indexes_of}
use Rattle.plan_exec.specs.declared.error.ExecError.{ExecError}
use Rattle.plan_exec.specs.declared.error.ExecError.TheVariants.{OtherSchema, IndexNotReadable}

-- the store's type of the plan's name is the plan's, perhaps with fields appended
pub record HasType (opened : Opened) (plan : Plan) (t : TypeDefinition) : Type 0 where
  pub named : find_type opened.schema plan.definition.name ≡ Some t
  pub extends : Extends plan.definition t

-- the store has the index with this definition, and it is readable
pub record IsReadableAt (opened : Opened) (i : IndexDefinition) : Type 0 where
  pub there : Contains opened.schema.indexes i
  pub readable : state_in opened.states i.number ≡ Readable

-- the store has the plan's type, which is t, and may read each of its indexes
pub record Accepts (opened : Opened) (plan : Plan) (t : TypeDefinition) : Type 0 where
  pub has_type : HasType opened plan t
  pub has_indexes : AllByRecursion (IsReadableAt opened) (indexes_of plan.root)

-- why a plan isn't accepted: the store lacks its type; or has it, and may not read one of its indexes
abbrev pub IsNotAccepted : Opened → Plan → ExecError → Type 0
IsNotAccepted opened plan OtherSchema = (t : TypeDefinition) → HasType opened plan t → ⊥
IsNotAccepted opened plan IndexNotReadable =
    ((t : TypeDefinition) × HasType opened plan t)
    × (AllByRecursion (IsReadableAt opened) (indexes_of plan.root) → ⊥)
IsNotAccepted opened plan error = ⊥

-- whether a type is the planned one, perhaps with fields appended, where both have one name
abbrev pub extends : TypeDefinition → TypeDefinition → Bool
extends planned t =
    t.number == planned.number && bytes_eq t.key planned.key && starts_with equal_field t.fields planned.fields

-- the same kind of index
abbrev pub equal_kind : IndexKind → IndexKind → Bool
equal_kind Value Value = true
equal_kind Count Count = true
equal_kind Sum Sum = true
equal_kind a b = false

-- the same place, or none
abbrev pub equal_place : Option ℕ → Option ℕ → Bool
equal_place None None = true
equal_place (Some place) (Some other) = place == other
equal_place a b = false

-- both are so, or neither is
abbrev pub equal_truth : Bool → Bool → Bool
equal_truth a b = if a then b else not b

-- the same number, name, kind, type and places, and both are cleared at zero or neither is
abbrev pub equal_index : IndexDefinition → IndexDefinition → Bool
equal_index a b =
    a.number == b.number && bytes_eq a.name b.name && equal_kind a.kind b.kind && a.type_number == b.type_number
    && bytes_eq a.columns b.columns && equal_place a.summed b.summed && equal_truth a.clear_when_zero b.clear_when_zero

-- whether the store has the index with this definition, and it is readable
abbrev pub may_read : Opened → IndexDefinition → Bool
may_read opened i =
    list_any (λ own. equal_index own i) opened.schema.indexes && is_readable (state_in opened.states i.number)
