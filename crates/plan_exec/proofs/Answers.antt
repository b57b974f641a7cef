-- What a plan that is right for a query gives over the map of a store, and which indexes it may scan there.
use Rattle.std.specs.Prelude.{◌≡◌, ℕ, true, false, List, [], Option, Some, None, All, Contains, refl}
use Rattle.std.specs.FinMap.{entries}
use Rattle.std.specs.Option.{option_map_or}
use Rattle.std.proofs.Common.{sym}
use Rattle.std.proofs.lemmas.List.{append-nil}
use Rattle.kv_core.specs.Map.{Map}
use Rattle.metadata.specs.declared.definition.TypeDefinition.{TypeDefinition}
use Rattle.metadata.specs.declared.index.IndexDefinition.{IndexDefinition}
use Rattle.metadata.specs.declared.index.State.{State}
use Rattle.metadata.specs.declared.index.State.TheVariants.{Readable, WriteOnly, Disabled}
use Rattle.metadata.specs.Index.{is_readable, listed_state}
use Rattle.metadata.specs.Record.{Record}
use Rattle.metadata.specs.Records.{of_type}
use Rattle.metadata.specs.Schema.{find_type}
use Rattle.metadata.specs.Stored.{IsTypeOf}
use Rattle.metadata.proofs.StoredApart.{named_typed}
use Rattle.record_store.specs.Holds.{Holds}
use Rattle.record_store.specs.Store.{Store}
use Rattle.query.specs.Query.{Query, Allows}
use Rattle.planner.specs.Meaning.{rows_of}
use Rattle.planner.specs.Plan.{Plan}
use Rattle.planner.specs.Right.{Extends, IsRightFor, indexes_of}
use Rattle.planner.specs.Rules.{MayBeUsed}
use Rattle.planner.proofs.Uses.{value_is}
use Rattle.planner.proofs.Lists.{all_each, member_contained}
use Rattle.planner.proofs.Residual.{each_member}
use Rattle.plan_exec.specs.Scannable.{AreStatesOf, IsScannable}
use Rattle.plan_exec.proofs.Exactly.{exactly}

pub readable_told : (o : Option State) → option_map_or is_readable o false ≡ true → o ≡ Some Readable
readable_told None h = cc
readable_told (Some Readable) h = refl
readable_told (Some WriteOnly) h = cc
readable_told (Some Disabled) h = cc

-- USABLE: an index that may be used is told to be readable
pub scannable : (store : Store) (states : List (ℕ × State)) (t : TypeDefinition) (i : IndexDefinition) → AreStatesOf store states → MayBeUsed store.schema states t i → IsScannable store t i
scannable store states t i told may = record {
  there = may.in_schema;
  value = value_is i.kind may.of_values;
  over = may.of_type;
  readable = told i.number Readable (readable_told (listed_state states i.number) may.readable);
}

-- ANSWERS: a plan that is right for a query is so over the map of a store
pub answers : (prefix : List ℕ) (m : Map) (store : Store) (query : Query) (plan : Plan) (t : TypeDefinition) →
    Holds prefix m (Some store) → IsRightFor query plan → IsTypeOf store.schema t → Extends plan.definition t →
    ((i : IndexDefinition) → Contains (indexes_of plan.root) i → IsScannable store t i) →
    (rows : List Record) × (rows_of prefix (entries m) t plan ≡ Some rows) × Allows query (of_type t.number store.records) rows
answers prefix m store query plan t holds right its extends scan =
    right prefix (entries m) t (of_type t.number store.records) extends (exactly prefix m store t (indexes_of plan.root) holds its scan)

-- a type is itself, with no fields appended
pub itself : (t : TypeDefinition) → Extends t t
itself t = record { more = []; same_number = refl; same_name = refl; same_key = refl; same_fields = sym (append-nil t.fields) }

-- PLANNED: so is a plan for a type of the store's schema that scans only indexes that may be used
pub planned_answer : (prefix : List ℕ) (m : Map) (store : Store) (states : List (ℕ × State)) (query : Query) (plan : Plan) →
    Holds prefix m (Some store) → AreStatesOf store states → IsRightFor query plan →
    find_type store.schema query.record_type ≡ Some plan.definition →
    All (MayBeUsed store.schema states plan.definition) (indexes_of plan.root) →
    (rows : List Record) × (rows_of prefix (entries m) plan.definition plan ≡ Some rows) × Allows query (of_type plan.definition.number store.records) rows
planned_answer prefix m store states query plan holds told right found usable =
    answers prefix m store query plan plan.definition holds right
    (named_typed store.schema query.record_type plan.definition holds.lawful.schema found)
    (itself plan.definition)
    (λ i c. scannable store states plan.definition i told
    (each_member (MayBeUsed store.schema states plan.definition) (all_each (MayBeUsed store.schema states plan.definition) (indexes_of plan.root) usable) (member_contained i (indexes_of plan.root) c)))
