-- What the reply to the plan of a query is. No key of a database occurs.
use Rattle.std.specs.Prelude.{◌≡◌, ℕ, All, List, Some}
use Rattle.metadata.specs.declared.index.State.{State}
use Rattle.metadata.specs.Schema.{Schema, find_type}
use Rattle.query.specs.Checked.{query_refusal}
use Rattle.query.specs.Query.{Query}
use Rattle.query.specs.View.{query_of}
use Rattle.planner.specs.Asked.{AskedPlan}
use Rattle.planner.specs.Planned.{planned}
use Rattle.planner.specs.Right.{indexes_of, is_served}
use Rattle.planner.specs.Rules.{MayBeUsed, usable}
use Rattle.planner.specs.View.{plan_of}
use Rattle.schedule.specs.declared.reply.Reply.{Reply}
use Rattle.schedule.specs.declared.reply.Reply.TheVariants.{Planned}
use Rattle.schedule.specs.Query.{Unrefused}

-- the reply is a plan for the query: of the type that it names, over indexes of this type that are readable
pub record IsSomePlan (schema : Schema) (states : List (ℕ × State)) (query : Query) (answer : Reply) : Type 0 where
  pub plan : AskedPlan
  pub shown : answer ≡ Planned plan
  pub asked : query_of plan.query ≡ query
  pub typed : find_type schema query.record_type ≡ Some plan.definition
  pub uses : All (MayBeUsed schema states plan.definition) (indexes_of (plan_of plan).root)

-- the reply is the plan that the planner gives to the query by a schema and the states of its indexes
pub record IsPlanned (schema : Schema) (states : List (ℕ × State)) (query : Query) (answer : Reply) : Type 0 where
  pub plan : AskedPlan
  pub shown : answer ≡ Planned plan
  pub asked : query_of plan.query ≡ query
  pub typed : find_type schema query.record_type ≡ Some plan.definition
  pub is : planned plan.definition (usable schema states plan.definition) query ≡ Some (plan_of plan).root

-- what a shown plan is, by the schema, the states of its indexes and the query
abbrev pub PlanRelation : Type 1
PlanRelation = Schema → List (ℕ × State) → Query → Reply → Type 0

-- PLAN: the reply is the query's refusal, or that no path serves its sort, or a plan that is as stated
abbrev pub IsPlanReplyWith : PlanRelation → Schema → List (ℕ × State) → Query → Reply → Type 0
IsPlanReplyWith IsShown schema states query answer =
    Unrefused (query_refusal schema query) (is_served schema states query) (IsShown schema states query) answer

-- Private: so with the planner's plan
abbrev pub IsPlanReply : Schema → List (ℕ × State) → Query → Reply → Type 0
IsPlanReply schema states query answer = IsPlanReplyWith IsPlanned schema states query answer
