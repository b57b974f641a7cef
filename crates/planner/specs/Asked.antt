-- A plan with the query that it is for, as the getters show it.
use Rattle.metadata.specs.declared.definition.TypeDefinition.{TypeDefinition}
use Rattle.query.specs.declared.filter.Query.{Query}
use Rattle.planner.specs.declared.plan.Node.{Node}

-- the type of the records, the step whose records are the query's, and the query
pub record AskedPlan : Type 0 where
  pub definition : TypeDefinition
  pub root : Node
  pub query : Query
